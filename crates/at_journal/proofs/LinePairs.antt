-- Of two lines of a journal the first has the key of the second or a smaller one, and those of one process come by number.
use Rattle.std.proofs.Common.{◌≡◌, ℕ, ◌+◌, ◌*◌, ◌-◌, ◌<◌, ◌≤◌, ◌==◌, true, length, sum, refl, sym, ap, ◌∙◌, arith, inl, inr}
use Rattle.at_journal.proofs.Prelude.{flat_map, range_with_len, cases_lt, eqb-true, BookTerms, Line, ClosingTerms, log_lengths, receipts_of, Coherent, journal_lines, line_key, process_lines_at, line_key-sorted}
use Rattle.at_journal.proofs.LineRuns.{line}
use Rattle.at_journal.proofs.PairLists.{Each, Each-flat_map, Each-values, Each-weaker, Pairwise, Pairwise-flat_map, Pairwise-values}

-- the line is that of a receipt
pub record IsReceiptLine (c : ClosingTerms) (x : Line) : Type 0 where
  pub process_in : x.process < length c.receipts
  pub numbered : 1 ≤ x.number
  pub number_in : x.number - 1 < length (receipts_of c x.process)
  pub is : x ≡ line c x.process (x.number - 1)

-- its key
abbrev pub key_of_line : ClosingTerms → Line → ℕ
key_of_line c x = line_key c x.process (x.number - 1)

-- the first line may stand before the second in a journal
pub record MayPrecede (c : ClosingTerms) (x y : Line) : Type 0 where
  pub key : key_of_line c x ≤ key_of_line c y
  pub own : x.process ≡ y.process → x.number < y.number

-- the line is that of a receipt with this key, and one of this process
record HasKey (c : ClosingTerms) (k : ℕ) (x : Line) : Type 0 where
  of_receipt : IsReceiptLine c x
  key : key_of_line c x ≡ k

record HasKeyOf (c : ClosingTerms) (k p : ℕ) (x : Line) : Type 0 where
  has : HasKey c k x
  process : x.process ≡ p

HasKeyOf-line : (c : ClosingTerms) (key p i : ℕ) → p < length c.receipts → i < length (receipts_of c p) → (line_key c p i == key) ≡ true
    → HasKeyOf c key p (line c p i)
HasKeyOf-line c key p i known within passes =
    let back : i + 1 - 1 ≡ i = omega arith in
    record {
      has = record {
        of_receipt = record { process_in = known; numbered = omega arith; number_in = omega (arith, within); is = ap (line c p) (sym back) };
        key = ap (line_key c p) back ∙ eqb-true (line_key c p i) key passes;
      };
      process = refl;
    }

-- the lines of a process with one key
HasKeyOf-process : (c : ClosingTerms) (key p : ℕ) → p < length c.receipts → Each (HasKeyOf c key p) (process_lines_at c key p)
HasKeyOf-process c key p known =
    Each-values (HasKeyOf c key p) (line c p) (λ i. line_key c p i == key) 0 (length (receipts_of c p))
    (λ i from to passes. HasKeyOf-line c key p i known (omega (arith, to)) passes)

Pairwise-process : (c : ClosingTerms) (key p : ℕ) → p < length c.receipts → Pairwise (MayPrecede c) (process_lines_at c key p)
Pairwise-process c key p known =
    Pairwise-values (MayPrecede c) (line c p) (λ i. line_key c p i == key) 0 (length (receipts_of c p))
    (λ i j from less to one two.
    let first = (HasKeyOf-line c key p i known (omega (arith, less, to)) one).has in
    let second = (HasKeyOf-line c key p j known (omega (arith, to)) two).has in
    record { key = omega (arith, first.key, second.key); own = λ _. omega (arith, less) })

-- the lines with one key
HasKey-lines : (c : ClosingTerms) (key : ℕ) → Each (HasKey c key) (flat_map (process_lines_at c key) (range_with_len 0 (length c.receipts)))
HasKey-lines c key =
    Each-flat_map (HasKey c key) (process_lines_at c key) 0 (length c.receipts)
    (λ p from to. Each-weaker (HasKeyOf c key p) (HasKey c key) (process_lines_at c key p) (λ x is. is.has) (HasKeyOf-process c key p (omega (arith, to))))

Pairwise-lines : (c : ClosingTerms) (key : ℕ) → Pairwise (MayPrecede c) (flat_map (process_lines_at c key) (range_with_len 0 (length c.receipts)))
Pairwise-lines c key =
    Pairwise-flat_map (MayPrecede c) (HasKeyOf c key) (process_lines_at c key) 0 (length c.receipts)
    (λ p from to. HasKeyOf-process c key p (omega (arith, to)))
    (λ p from to. Pairwise-process c key p (omega (arith, to)))
    (λ p q less x y one two. record {
      key = omega (arith, one.has.key, two.has.key);
      own = λ same. absurd (omega (arith, same, one.process, two.process, less));
    })

-- all lines are those of receipts
pub AreReceiptLines-journal_lines : (c : ClosingTerms) → Each (IsReceiptLine c) (journal_lines c)
unfolding journal_lines
AreReceiptLines-journal_lines c =
    Each-flat_map (IsReceiptLine c) (λ key. flat_map (process_lines_at c key) (range_with_len 0 (length c.receipts))) 0 (2 * sum (log_lengths c) + 1)
    (λ key from to. Each-weaker (HasKey c key) (IsReceiptLine c) (flat_map (process_lines_at c key) (range_with_len 0 (length c.receipts)))
    (λ x is. is.of_receipt) (HasKey-lines c key))

-- of two lines of a process the one with the smaller key has the smaller number
number_of-key : (b : BookTerms) (c : ClosingTerms) (x y : Line) → Coherent b c → IsReceiptLine c x → IsReceiptLine c y → key_of_line c x < key_of_line c y
    → x.process ≡ y.process → x.number < y.number
number_of-key b c x y coherent one two less same =
    elim (cases_lt x.number y.number) as (λ _. x.number < y.number) [
      | inl before ↦ before
      | inr behind ↦
          let i = x.number - 1 in
          let j = y.number - 1 in
          let known : x.process < b.processes = omega (arith, one.process_in, coherent.receipts) in
          absurd (omega (
            arith,
            line_key-sorted b c x.process coherent known j i (omega (arith, behind)) one.number_in,
            ap (λ p. line_key c p j) same,
            less,
          ))
    ]

-- and of two lines in turn the first may stand before the second
pub Pairwise-journal_lines : (b : BookTerms) (c : ClosingTerms) → Coherent b c → Pairwise (MayPrecede c) (journal_lines c)
unfolding journal_lines
Pairwise-journal_lines b c coherent =
    Pairwise-flat_map (MayPrecede c) (HasKey c) (λ key. flat_map (process_lines_at c key) (range_with_len 0 (length c.receipts))) 0 (2 * sum (log_lengths c) + 1)
    (λ key from to. HasKey-lines c key) (λ key from to. Pairwise-lines c key)
    (λ k l less x y one two. record {
      key = omega (arith, one.key, two.key, less);
      own = number_of-key b c x y coherent one.of_receipt two.of_receipt (omega (arith, one.key, two.key, less));
    })
