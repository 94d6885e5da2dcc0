-- The journal's order of publications: each log in its order, and each held cut a cut of it.
use Rattle.std.proofs.Common.{◌≡◌, ℕ, ◌+◌, ◌-◌, ◌<◌, ◌≤◌, ◌==◌, zero, suc, Bool, true, false, List, [], ◌∷◌, ◌++◌, length, get_or, map, filter, nat_lt, sum, take, cond, refl, sym, ap, subst, append-nil, append_assoc, ◌∙◌, arith, inl, inr}
use Rattle.at_log.proofs.Prelude.{cases_eq, lt-ltb, le-ltb, flat_map-append, ext_get_or, get_or-map, get_or-take, length-map, take_all, length-take-le, map-append, All-append, All-contains, All-filter, get_or-range_with_len, length-range_with_len, length-map-range_with_len, get_or-map-range_with_len, All, Contains, flat_map, range_with_len, IsNonDecreasingBy, BookTerms, get_or-counts, length-counts, publications_of-append, publications_of-nil, publications_of-other, publications_of-own, sum-counts, sum-Covers-le, take-IsPrefix, publication_at, IsCut, place, prefix_of, ArePublishedBy, IsPrefix, count_of, counts, no_publication, publications_of, Entry, Publication, ClosingTerms, log_lengths, log_of, log_published, published_by, AreChained, held_cuts, journal_order, numbers_at, publication_key, published_at, Record}
use Rattle.at_log.proofs.Laws.Buckets.{filter-none, flat_map-buckets, range_with_len-more}
use Rattle.at_log.proofs.Laws.PublicationKeys.{get_or-log_lengths, publication_key-above, publication_key-le, publication_key-le_all, publication_key-mono}

-- a record that no log has
pub no_record : Record
no_record = record { entry = Entry.Own 0 []; view = [] }

-- a process's own publications are all
publications_of-all : (process : ℕ) (xs : List Publication) → All (λ x. x.process ≡ process) xs → publications_of process xs ≡ xs
publications_of-all process [] own = publications_of-nil process
publications_of-all process (x ∷ xs) own =
    let here : x.process ≡ process = own zero x (omega arith) in
    let rest = publications_of-all process xs (λ i d within. own (suc i) d (omega arith)) in
    subst (λ p. publications_of p (x ∷ xs) ≡ x ∷ publications_of p xs) here (publications_of-own x xs) ∙ ap (λ ys. x ∷ ys) rest

-- another process has none of them
publications_of-others : (process other : ℕ) (xs : List Publication) → (other ≡ process → ⊥) → All (λ x. x.process ≡ other) xs
    → publications_of process xs ≡ []
publications_of-others process other [] apart own = publications_of-nil process
publications_of-others process other (x ∷ xs) apart own =
    let here : x.process ≡ other = own zero x (omega arith) in
    publications_of-other process x xs (λ e. apart (sym here ∙ e))
    ∙ publications_of-others process other xs apart (λ i d within. own (suc i) d (omega arith))

-- the publications of a process in lists one after another
publications_of-flat_map : {X : Type 0} (process : ℕ) (g : X → List Publication) (ks : List X)
    → publications_of process (flat_map g ks) ≡ flat_map (λ k. publications_of process (g k)) ks
publications_of-flat_map process g [] = publications_of-nil process
publications_of-flat_map process g (k ∷ ks) =
    publications_of-append process (g k) (flat_map g ks)
    ∙ ap (λ ys. publications_of process (g k) ++ ys) (publications_of-flat_map process g ks)

-- where each of the lists is of its own process, they are the process's list
publications_of-each : (process : ℕ) (g : ℕ → List Publication) (a n : ℕ)
    → ((q : ℕ) → All (λ x. x.process ≡ q) (g q)) → a ≤ process → process < a + n
    → publications_of process (flat_map g (range_with_len a n)) ≡ g process
publications_of-each process g a zero own above below = absurd (omega arith)
publications_of-each process g a (suc n) own above below =
    elim (cases_eq a process) as (λ _. publications_of process (g a ++ flat_map g (range_with_len (a + 1) n)) ≡ g process) [
      | inl here ↦
          publications_of-append process (g a) (flat_map g (range_with_len (a + 1) n))
          ∙ ((λ t. publications_of process (g (here t)) ++ publications_of process (flat_map g (range_with_len (a + 1) n)))
          ∙ ((λ t. publications_of-all process (g process) (own process) t ++ publications_of-none process g (a + 1) n own (omega (arith, here)) t)
          ∙ append-nil (g process)))
      | inr apart ↦
          publications_of-append process (g a) (flat_map g (range_with_len (a + 1) n))
          ∙ ((λ t. publications_of-others process a (g a) apart (own a) t ++ publications_of process (flat_map g (range_with_len (a + 1) n)))
          ∙ publications_of-each process g (a + 1) n own (omega (arith, above, apart)) (omega (arith, below)))
    ]
  where
    publications_of-none : (process : ℕ) (g : ℕ → List Publication) (a n : ℕ) → ((q : ℕ) → All (λ x. x.process ≡ q) (g q))
        → process < a → publications_of process (flat_map g (range_with_len a n)) ≡ []
    publications_of-none process g a zero own below = publications_of-nil process
    publications_of-none process g a (suc n) own below =
        publications_of-append process (g a) (flat_map g (range_with_len (a + 1) n))
        ∙ (λ t. publications_of-others process a (g a) (λ e. omega (arith, e)) (own a) t ++ publications_of-none process g (a + 1) n own (omega arith) t)

-- lists of a function's values one after another are the function's values
pub flat_map-values : {X Y Z : Type 0} (f : Y → Z) (g : X → List Y) (ks : List X) → flat_map (λ k. map f (g k)) ks ≡ map f (flat_map g ks)
flat_map-values f g [] = refl
flat_map-values f g (k ∷ ks) = ap (λ ys. map f (g k) ++ ys) (flat_map-values f g ks) ∙ sym (map-append f (g k) (flat_map g ks))

-- the numbers below a limit, where the test passes at just these
pub filter-first : (test : ℕ → Bool) (a n m : ℕ) → m ≤ n → ((i : ℕ) → i < a + m → test i ≡ true)
    → ((i : ℕ) → a + m ≤ i → i < a + n → test i ≡ false) → filter test (range_with_len a n) ≡ range_with_len a m
filter-first test a n zero few passes fails =
    filter-none test (range_with_len a n) (λ i d within.
    let is : get_or (range_with_len a n) i d ≡ a + i = get_or-range_with_len a n i d (omega (arith, within, length-range_with_len a n)) in
    ap test is ∙ fails (a + i) (omega arith) (omega (arith, within, length-range_with_len a n)))
filter-first test a zero (suc m) few passes fails = absurd (omega arith)
filter-first test a (suc n) (suc m) few passes fails =
    let rest = filter-first test (a + 1) n m (omega arith) (λ i below. passes i (omega arith)) (λ i above below. fails i (omega arith) (omega arith)) in
    ap (λ t. cond t (a ∷ filter test (range_with_len (a + 1) n)) (filter test (range_with_len (a + 1) n))) (passes a (omega arith))
    ∙ ap (λ ys. a ∷ ys) rest

-- a list by its positions
map-publication_at : (xs : List Publication) (m : ℕ) → m ≤ length xs → map (publication_at xs) (range_with_len 0 m) ≡ take m xs
map-publication_at xs m few =
    let size : length (map (publication_at xs) (range_with_len 0 m)) ≡ m = length-map-range_with_len (publication_at xs) 0 m in
    ext_get_or no_publication (map (publication_at xs) (range_with_len 0 m)) (take m xs) (size ∙ sym (length-take-le m xs few))
    (λ i within. get_or-map-range_with_len (publication_at xs) 0 m i i no_publication (omega (arith, size)) (omega arith)
    ∙ sym (get_or-take m xs i no_publication (omega (arith, size))))

-- the publications of keys below a limit
abbrev pub published_below : ClosingTerms → ℕ → List Publication
published_below c limit = flat_map (published_at c) (range_with_len 0 limit)

-- each publication in a process's log is its own
pub own_log : (c : ClosingTerms) (process : ℕ) (i : ℕ) → i < length (log_published c process)
    → (publication_at (log_published c process) i).process ≡ process
own_log c process i within =
    ap (λ (x : Publication). x.process) (get_or-map (published_by process) (log_of c process) i no_record no_publication (omega (arith, within, length-map (log_of c process) (published_by process))))

-- the numbers of a key are those of the log
numbers_at-within : (c : ClosingTerms) (key process : ℕ) → All (λ i. i < length (log_of c process)) (numbers_at c key process)
numbers_at-within c key process =
    All-filter (λ number. publication_key c process number == key) (λ i. i < length (log_of c process)) (range_with_len 0 (length (log_of c process)))
    (λ k d within.
    let size = length-range_with_len 0 (length (log_of c process)) in
    omega (arith, size, within, get_or-range_with_len 0 (length (log_of c process)) k d (omega (arith, size, within))))

-- the publications of a process that have a key
own_at : (c : ClosingTerms) (key process : ℕ) → All (λ x. x.process ≡ process) (map (publication_at (log_published c process)) (numbers_at c key process))
own_at c key process k d within =
    let numbers = numbers_at c key process in
    let inside : k < length numbers = omega (arith, within, length-map numbers (publication_at (log_published c process))) in
    ap (λ (x : Publication). x.process) (get_or-map (publication_at (log_published c process)) numbers k 0 d inside)
    ∙ own_log c process (get_or numbers k 0) (omega (arith, numbers_at-within c key process k 0 inside, length-map (log_of c process) (published_by process)))

-- the publications of a process of keys below a limit, where just its first ones have such keys
publications_of-below : (c : ClosingTerms) (process limit m : ℕ) → process < length c.logs → m ≤ length (log_of c process)
    → ((i : ℕ) → i < m → publication_key c process i < limit)
    → ((i : ℕ) → m ≤ i → i < length (log_of c process) → limit ≤ publication_key c process i)
    → publications_of process (published_below c limit) ≡ take m (log_published c process)
publications_of-below c process limit m known few below above =
    let log = log_published c process in
    let count = length (log_of c process) in
    let key : ℕ → ℕ = publication_key c process in
    let at : ℕ → List Publication = λ k. publications_of process (published_at c k) in
    let each : (k : ℕ) → publications_of process (published_at c k) ≡ map (publication_at log) (numbers_at c k process) =
    λ k. publications_of-each process (λ q. map (publication_at (log_published c q)) (numbers_at c k q)) 0 (length c.logs) (own_at c k) (omega arith) (omega (arith, known)) in
    let sorted : IsNonDecreasingBy key (range_with_len 0 count) = λ i j d before within.
    let size = length-range_with_len 0 count in
    omega (
      arith,
      publication_key-mono c process (get_or (range_with_len 0 count) i d) (get_or (range_with_len 0 count) j d)
          (omega (arith, get_or-range_with_len 0 count i d (omega (arith, size, before, within)), get_or-range_with_len 0 count j d (omega (arith, size, within)), before)),
    ) in
    publications_of-flat_map process (published_at c) (range_with_len 0 limit)
    ∙ (ap (λ g. flat_map g (range_with_len 0 limit)) (λ t k. each k t)
    ∙ (flat_map-values (publication_at log) (λ k. numbers_at c k process) (range_with_len 0 limit)
    ∙ (ap (map (publication_at log)) (flat_map-buckets key (range_with_len 0 count) limit sorted
    ∙ filter-first (λ i. nat_lt (key i) limit) 0 count m few
    (λ i first. lt-ltb (key i) limit (below i (omega (arith, first))))
    (λ i later within. le-ltb (key i) limit (above i (omega (arith, later)) (omega (arith, within)))))
    ∙ map-publication_at log m (omega (arith, few, length-map (log_of c process) (published_by process))))))

-- the order has the log of each process in its order
pub publications_of-journal_order : (c : ClosingTerms) (process : ℕ) → process < length c.logs
    → publications_of process (journal_order c) ≡ log_published c process
unfolding journal_order
publications_of-journal_order c process known =
    let log = log_published c process in
    let count = length (log_of c process) in
    publications_of-below c process (sum (log_lengths c) + 1) count known (omega arith)
    (λ i within. omega (arith, publication_key-le_all c process i)) (λ i beyond within. absurd (omega (arith, beyond, within)))
    ∙ (ap (λ m. take m log) (sym (length-map (log_of c process) (published_by process))) ∙ take_all (length log) log (omega arith))

-- all of lists one after another
pub All-flat_map : {X Y : Type 0} (P : Y → Type 0) (g : X → List Y) (ks : List X) → All (λ k. All P (g k)) ks → All P (flat_map g ks)
All-flat_map P g [] each = λ i d within. absurd (omega arith)
All-flat_map P g (k ∷ ks) each =
    All-append P (g k) (flat_map g ks) (each zero k (omega arith)) (All-flat_map P g ks (λ i d within. each (suc i) d (omega arith)))

-- each publication is of one of the closing's processes
pub ArePublishedBy-below : (c : ClosingTerms) (limit : ℕ) → ArePublishedBy (length c.logs) (published_below c limit)
ArePublishedBy-below c limit =
    let n = length c.logs in
    All-flat_map (λ (x : Publication). x.process < n) (published_at c) (range_with_len 0 limit) (λ k d within.
    let key = get_or (range_with_len 0 limit) k d in
    All-flat_map (λ (x : Publication). x.process < n) (λ p. map (publication_at (log_published c p)) (numbers_at c key p)) (range_with_len 0 n) (λ j e inside.
    let size = length-range_with_len 0 n in
    let p = get_or (range_with_len 0 n) j e in
    λ i f there. omega (arith, own_at c key p i f there, get_or-range_with_len 0 n j e (omega (arith, size, inside)), size, inside)))

pub ArePublishedBy-journal_order : (c : ClosingTerms) → ArePublishedBy (length c.logs) (journal_order c)
unfolding journal_order
ArePublishedBy-journal_order c = ArePublishedBy-below c (sum (log_lengths c) + 1)

-- the publications of smaller keys come first
published_below-more : (c : ClosingTerms) (limit more : ℕ) → IsPrefix (published_below c limit) (published_below c (limit + more))
published_below-more c limit zero = ([], ap (published_below c) (omega arith) ∙ sym (append-nil (published_below c limit)))
published_below-more c limit (suc more) =
    let rest = published_below-more c limit more in
    let next : limit + suc more ≡ limit + more + 1 = omega arith in (
      rest.0 ++ flat_map (published_at c) ((0 + (limit + more)) ∷ []),
      ap (published_below c) next
          ∙ (ap (flat_map (published_at c)) (range_with_len-more 0 (limit + more))
          ∙ (flat_map-append (published_at c) (range_with_len 0 (limit + more)) ((0 + (limit + more)) ∷ [])
          ∙ (ap (λ ys. ys ++ flat_map (published_at c) ((0 + (limit + more)) ∷ [])) rest.1
          ∙ append_assoc (published_below c limit) rest.0 (flat_map (published_at c) ((0 + (limit + more)) ∷ []))))),
    )

pub IsPrefix-below : (c : ClosingTerms) (limit : ℕ) → limit ≤ sum (log_lengths c) + 1 → IsPrefix (published_below c limit) (journal_order c)
unfolding journal_order
IsPrefix-below c limit small =
    let more = sum (log_lengths c) + 1 - limit in
    let is : limit + more ≡ sum (log_lengths c) + 1 = omega arith in
    subst (λ k. IsPrefix (published_below c limit) (published_below c k)) is (published_below-more c limit more)

-- a held cut counts as many of each process as have a key of at most its place
count_of-held : (b : BookTerms) (c : ClosingTerms) (view : List ℕ) (process : ℕ) → AreChained b c → length c.logs ≡ b.processes
    → Contains (held_cuts c) view → process < b.processes → count_of process (published_below c (place view + 1)) ≡ get_or view process 0
count_of-held b c view process chained sized held known =
    let m = get_or view process 0 in
    let log = log_published c process in
    let logs : length (log_lengths c) ≡ b.processes = length-map c.logs length ∙ sized in
    let few : m ≤ length (log_of c process) = omega (arith, chained.ends view held process (omega (arith, logs, known)), get_or-log_lengths c process (omega (arith, sized, known))) in
    ap length (publications_of-below c process (place view + 1) m (omega (arith, sized, known)) few
    (λ i within. omega (arith, publication_key-le c view process i held within))
    (λ i beyond within. omega (arith, publication_key-above b c view process i chained sized held known beyond within)))
    ∙ length-take-le m log (omega (arith, few, length-map (log_of c process) (published_by process)))

-- a held cut is a cut of the order
pub IsCut-held : (b : BookTerms) (c : ClosingTerms) (view : List ℕ) → AreChained b c → length c.logs ≡ b.processes
    → Contains (held_cuts c) view → IsCut b.processes view (journal_order c)
IsCut-held b c view chained sized held =
    let first = published_below c (place view + 1) in
    let long : length view ≡ b.processes = All-contains (λ u. length u ≡ b.processes) (held_cuts c) view chained.sized held in
    let same : counts b.processes first ≡ view =
    ext_get_or 0 (counts b.processes first) view (length-counts b.processes first ∙ sym long)
    (λ p within.
    let known : p < b.processes = omega (arith, within, length-counts b.processes first) in
    get_or-counts b.processes first p 0 known ∙ count_of-held b c view p chained sized held known) in
    let ours : ArePublishedBy b.processes first = subst (λ n. ArePublishedBy n first) sized (ArePublishedBy-below c (place view + 1)) in
    let size : length first ≡ place view = sym (sum-counts b.processes first ours) ∙ ap sum same in
    let logs : length (log_lengths c) ≡ b.processes = length-map c.logs length ∙ sized in
    let small : place view ≤ sum (log_lengths c) = sum-Covers-le (log_lengths c) view (logs ∙ sym long) (chained.ends view held) in
    let begins : prefix_of view (journal_order c) ≡ first =
    ap (λ k. take k (journal_order c)) (sym size) ∙ take-IsPrefix first (journal_order c) (IsPrefix-below c (place view + 1) (omega (arith, small))) in
    ap (counts b.processes) begins ∙ same
