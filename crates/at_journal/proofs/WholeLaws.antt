-- The journal has each receipt once, and those of a process in the order of its calls.
use Rattle.std.proofs.Common.{◌≡◌, ℕ, ◌+◌, ◌*◌, ◌<◌, ◌==◌, cond, List, [], ◌∷◌, length, map, filter, get_or, sum, refl, sym, ap, ◌∙◌, arith}
use Rattle.std.specs.Prelude.{nat_lt}
use Rattle.at_journal.proofs.Prelude.{All, flat_map, range_with_len, IsNonDecreasingBy, eq-eqb, lt-ltb, ne_eqb, ext_get_or, get_or-map, length-map, get_or-map-range_with_len, get_or-range_with_len, length-map-range_with_len, length-range_with_len, BookTerms, Whole, lines_of, Call, Line, ClosingTerms, log_lengths, receipts_of, Coherent, journal_lines, line_key, line_of, process_lines_at, calls_of, receipt_at, Receipt, flat_map-buckets, All-flat_map, filter-first, flat_map-values, line_key-le, line_key-sorted, calls_in}
use Rattle.at_journal.proofs.JournalRuns.{length-journal_order}
use Rattle.at_journal.proofs.KeepLaws.{no_receipt}
use Rattle.at_journal.proofs.KeyRuns.{flat_map-only}
use Rattle.at_journal.proofs.LineRuns.{line}
use Rattle.at_journal.proofs.OrderedLaws.{filter-flat_map}

-- lines of a process are all its own
filter-own : (p : ℕ) (c : ClosingTerms) (ks : List ℕ) → lines_of p (map (line c p) ks) ≡ map (line c p) ks
filter-own p c [] = refl
filter-own p c (k ∷ ks) =
    ap (λ t. cond t (line c p k ∷ lines_of p (map (line c p) ks)) (lines_of p (map (line c p) ks))) (eq-eqb p p refl)
    ∙ ap (λ ys. line c p k ∷ ys) (filter-own p c ks)

filter-others : (p q : ℕ) (c : ClosingTerms) (ks : List ℕ) → (q ≡ p → ⊥) → lines_of p (map (line c q) ks) ≡ []
filter-others p q c [] apart = refl
filter-others p q c (k ∷ ks) apart =
    ap (λ t. cond t (line c q k ∷ lines_of p (map (line c q) ks)) (lines_of p (map (line c q) ks))) (ne_eqb q p apart) ∙ filter-others p q c ks apart

-- the lines of a process in the journal
pub lines_of-journal_lines : (b : BookTerms) (c : ClosingTerms) (p : ℕ) → Coherent b c → p < b.processes
    → lines_of p (journal_lines c) ≡ map (line c p) (range_with_len 0 (length (receipts_of c p)))
unfolding journal_lines
lines_of-journal_lines b c p coherent known =
    let n = length c.receipts in
    let count = length (receipts_of c p) in
    let limit = 2 * sum (log_lengths c) + 1 in
    let key : ℕ → ℕ = line_key c p in
    let numbers : ℕ → List ℕ = λ k. filter (λ i. key i == k) (range_with_len 0 count) in
    let sorted : IsNonDecreasingBy key (range_with_len 0 count) = λ i j d before within.
    let size = length-range_with_len 0 count in
    omega (
      arith,
      line_key-sorted b c p coherent known (get_or (range_with_len 0 count) i d) (get_or (range_with_len 0 count) j d)
          (omega (arith, get_or-range_with_len 0 count i d (omega (arith, size, before, within)), get_or-range_with_len 0 count j d (omega (arith, size, within)), before))
          (omega (arith, get_or-range_with_len 0 count j d (omega (arith, size, within)), size, within)),
    ) in
    let each : (k : ℕ) → lines_of p (flat_map (process_lines_at c k) (range_with_len 0 n)) ≡ map (line c p) (numbers k) =
    λ k. filter-flat_map (λ l. l.process == p) (process_lines_at c k) (range_with_len 0 n)
    ∙ (flat_map-only (λ q. lines_of p (process_lines_at c k q)) 0 n p (omega arith) (omega (arith, known, coherent.receipts))
    (λ q from to apart. filter-others p q c (filter (λ i. line_key c q i == k) (range_with_len 0 (length (receipts_of c q)))) apart)
    ∙ filter-own p c (numbers k)) in
    filter-flat_map (λ l. l.process == p) (λ k. flat_map (process_lines_at c k) (range_with_len 0 n)) (range_with_len 0 limit)
    ∙ (ap (λ g. flat_map g (range_with_len 0 limit)) (λ t k. each k t)
    ∙ (flat_map-values (line c p) numbers (range_with_len 0 limit)
    ∙ ap (map (line c p)) (flat_map-buckets key (range_with_len 0 count) limit sorted
    ∙ filter-first (λ i. nat_lt (key i) limit) 0 count count (omega arith)
    (λ i within. lt-ltb (key i) limit (omega (arith, line_key-le b c p i coherent known (omega (arith, within)), length-journal_order c)))
    (λ i beyond within. absurd (omega (arith, beyond, within))))))

-- what is read off the lines of a process is what is read off its receipts. The other value stands for that of a line that isn't there
pub map-lines_of : {X : Type 0} (of_line : Line → X) (of_receipt : Receipt → X) (e : X) (b : BookTerms) (c : ClosingTerms) (p : ℕ)
    → ((i : ℕ) (r : Receipt) → of_line (line_of p i r) ≡ of_receipt r) → Coherent b c → p < b.processes
    → map of_line (lines_of p (journal_lines c)) ≡ map of_receipt (receipts_of c p)
map-lines_of of_line of_receipt e b c p same coherent known =
    let receipts = receipts_of c p in
    let count = length receipts in
    let lines = map (line c p) (range_with_len 0 count) in
    ap (map of_line) (lines_of-journal_lines b c p coherent known)
    ∙ ext_get_or e (map of_line lines) (map of_receipt receipts)
    (length-map lines of_line ∙ (length-map-range_with_len (line c p) 0 count ∙ sym (length-map receipts of_receipt)))
    (λ i inside.
    let here : i < count = omega (arith, inside, length-map lines of_line, length-map-range_with_len (line c p) 0 count) in
    get_or-map of_line lines i (line c p 0) e (omega (arith, here, length-map-range_with_len (line c p) 0 count))
    ∙ (ap of_line (get_or-map-range_with_len (line c p) 0 count i i (line c p 0) here (omega arith))
    ∙ (same i (receipt_at receipts i) ∙ sym (get_or-map of_receipt receipts i no_receipt e here))))

-- each receipt is a line
pub Whole-journal_lines : (b : BookTerms) (c : ClosingTerms) → Coherent b c → Whole (calls_in c) (journal_lines c)
unfolding journal_lines
Whole-journal_lines b c coherent =
    let files = calls_in c in
    let size : length files ≡ b.processes = length-map c.receipts calls_of ∙ coherent.receipts in
    record {
      within =
          let n = length c.receipts in
          All-flat_map (λ (l : Line). l.process < length files) (λ k. flat_map (process_lines_at c k) (range_with_len 0 n)) (range_with_len 0 (2 * sum (log_lengths c) + 1)) (λ i d inside.
          let key = get_or (range_with_len 0 (2 * sum (log_lengths c) + 1)) i d in
          All-flat_map (λ (l : Line). l.process < length files) (process_lines_at c key) (range_with_len 0 n) (λ j e there.
          let q = get_or (range_with_len 0 n) j e in
          own_lines c q (length files) (filter (λ k. line_key c q k == key) (range_with_len 0 (length (receipts_of c q))))
          (omega (arith, size, coherent.receipts, get_or-range_with_len 0 n j e (omega (arith, there, length-range_with_len 0 n)), there, length-range_with_len 0 n))));
      calls = λ p within.
          let known : p < b.processes = omega (arith, within, size) in
          map-lines_of (λ (l : Line). l.call) (λ (r : Receipt). r.call) (Call.Read 0) b c p (λ i r. refl) coherent known
          ∙ sym (get_or-map calls_of c.receipts p [] [] (omega (arith, known, coherent.receipts)));
      numbers = λ p within.
          let known : p < b.processes = omega (arith, within, size) in
          let count = length (receipts_of c p) in
          let is = lines_of-journal_lines b c p coherent known in
          let long : length (lines_of p (journal_lines c)) ≡ count = ap length is ∙ length-map-range_with_len (line c p) 0 count in
          ap (map (λ l. l.number)) is
          ∙ (ext_get_or 0 (map (λ (l : Line). l.number) (map (line c p) (range_with_len 0 count))) (range_with_len 1 count)
          (length-map (map (line c p) (range_with_len 0 count)) (λ (l : Line). l.number) ∙ (length-map-range_with_len (line c p) 0 count ∙ sym (length-range_with_len 1 count)))
          (λ i inside.
          let here : i < count = omega (arith, inside, length-map (map (line c p) (range_with_len 0 count)) (λ (l : Line). l.number), length-map-range_with_len (line c p) 0 count) in
          let one : i + 1 ≡ 1 + i = omega arith in
          get_or-map (λ (l : Line). l.number) (map (line c p) (range_with_len 0 count)) i (line c p 0) 0 (omega (arith, here, length-map-range_with_len (line c p) 0 count))
          ∙ (ap (λ (l : Line). l.number) (get_or-map-range_with_len (line c p) 0 count i i (line c p 0) here (omega arith))
          ∙ (one ∙ sym (get_or-range_with_len 1 count i 0 here))))
          ∙ ap (range_with_len 1) (sym long));
    }
  where
    own_lines : (c : ClosingTerms) (q n : ℕ) (ks : List ℕ) → q < n → All (λ (l : Line). l.process < n) (map (line c q) ks)
    own_lines c q n ks known i d within =
        omega (arith, known, ap (λ (l : Line). l.process) (get_or-map (line c q) ks i 0 d (omega (arith, within, length-map ks (line c q)))))
