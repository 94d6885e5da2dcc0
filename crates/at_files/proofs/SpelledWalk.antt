-- The walk over the records of a file of which each spells one thing.
use Rattle.std.proofs.Common.{◌≡◌, ℕ, ◌+◌, ◌<◌, Bool, true, false, ◌==◌, List, [], ◌∷◌, ◌++◌, Result, Ok, Err, if◌then◌else◌, refl, sym, ◌∙◌, ap, append_assoc, append-nil, arith}
use Rattle.at_files.proofs.Prelude.{nat_tests, Fields, bad_record, items_before, item_before, items_from, next_and_rest, with_item, BadRecord, ReadFault, Bad}

-- these items stand before the record of this line, and what comes later is that of the records from there on
pub record AreSpelled {T W : Type 0} (item : Fields → Result T W) (last : ℕ) (over : W) (first : ℕ) (all : List Fields) (items : List T) (line : ℕ) (records : List Fields) : Type 0 where
  pub walk : items_from item last over first all ≡ items_before items (items_from item last over line records)

items_before-none : {T W : Type 0} (later : Result (List T) (BadRecord W)) → items_before [] later ≡ later
items_before-none (Ok later) = refl
items_before-none (Err bad) = refl

items_before-push : {T W : Type 0} (items : List T) (item : T) (later : Result (List T) (BadRecord W))
    → items_before items (items_before (item ∷ []) later) ≡ items_before (items ++ item ∷ []) later
items_before-push items item (Ok later) = ap Ok (sym (append_assoc items (item ∷ []) later))
items_before-push items item (Err bad) = refl

not_last : (last line : ℕ) → line < last + 1 → (line == last + 1) ≡ false
not_last last line h = grind (arith, nat_tests)

pub items_from-more : {T W : Type 0} (item : Fields → Result T W) (last : ℕ) (over : W) (line : ℕ) (fields : Fields) (records : List Fields) → line < last + 1
    → items_from item last over line (fields ∷ records) ≡ item_before line (item fields) (items_from item last over (line + 1) records)
unfolding items_from
items_from-more item last over line fields records h = rw (not_last last line h) refl

pub AreSpelled-start : {T W : Type 0} (item : Fields → Result T W) (last : ℕ) (over : W) (first : ℕ) (all : List Fields) → AreSpelled item last over first all [] first all
AreSpelled-start item last over first all = record { walk = sym (items_before-none (items_from item last over first all)) }

-- the items with one more stand before what comes after its record
items_before-with_item : {T W : Type 0} (line : ℕ) (items : List T) (spelled : Result T W) (more : List T) (later : Result (List T) (BadRecord W)) → with_item line items spelled ≡ Ok more
    → items_before items (item_before line spelled later) ≡ items_before more later
items_before-with_item line items (Ok x) more later h = let same : items ++ x ∷ [] ≡ more = cc in items_before-push items x later ∙ rw same refl
items_before-with_item line items (Err why) more later h = absurd (cc)

-- what comes after a fault changes nothing
items_before-bad : {T W : Type 0} (line : ℕ) (items : List T) (spelled : Result T W) (bad : BadRecord W) (later : Result (List T) (BadRecord W)) → with_item line items spelled ≡ Err bad
    → items_before items (item_before line spelled later) ≡ Err bad
items_before-bad line items (Ok x) bad later h = absurd (cc)
items_before-bad line items (Err why) bad later h = h

pub AreSpelled-more : {T W : Type 0} (item : Fields → Result T W) (last : ℕ) (over : W) (first : ℕ) (all : List Fields) (items : List T) (line : ℕ) (found : Bool)
    (fields : Fields) (rest left : List Fields) (more : List T) → AreSpelled item last over first all items line (next_and_rest found fields rest) → found ≡ true
    → rest ≡ left → line < last + 1 → with_item line items (item fields) ≡ Ok more → AreSpelled item last over first all more (line + 1) left
AreSpelled-more item last over first all items line found fields rest left more are some next h is = record {
  walk =
      (rw some at are.walk)
      ∙ rw (items_from-more item last over line fields rest h, next)
      (items_before-with_item line items (item fields) more (items_from item last over (line + 1) left) is);
}

pub AreSpelled-end : {T W : Type 0} (item : Fields → Result T W) (last : ℕ) (over : W) (first : ℕ) (all : List Fields) (items : List T) (line : ℕ) (found : Bool)
    (fields : Fields) (rest : List Fields) → AreSpelled item last over first all items line (next_and_rest found fields rest) → found ≡ false
    → items_from item last over first all ≡ Ok items
unfolding items_from
AreSpelled-end item last over first all items line found fields rest are none = (rw none at are.walk) ∙ ap Ok (append-nil items)

pub AreSpelled-bad : {T W : Type 0} (item : Fields → Result T W) (last : ℕ) (over : W) (first : ℕ) (all : List Fields) (items : List T) (line : ℕ) (found : Bool)
    (fields : Fields) (rest : List Fields) (bad : BadRecord W) → AreSpelled item last over first all items line (next_and_rest found fields rest) → found ≡ true → line < last + 1
    → with_item line items (item fields) ≡ Err bad → items_from item last over first all ≡ Err bad
AreSpelled-bad item last over first all items line found fields rest bad are some h is =
    (rw some at are.walk)
    ∙ rw (items_from-more item last over line fields rest h) (items_before-bad line items (item fields) bad (items_from item last over (line + 1) rest) is)

pub AreSpelled-many : {T W : Type 0} (item : Fields → Result T W) (last : ℕ) (over : W) (first : ℕ) (all : List Fields) (items : List T) (line : ℕ) (found : Bool)
    (fields : Fields) (rest : List Fields) → AreSpelled item last over first all items line (next_and_rest found fields rest) → found ≡ true → line ≡ last + 1
    → items_from item last over first all ≡ bad_record (last + 1) over
unfolding items_from
AreSpelled-many item last over first all items line found fields rest are some end =
    let test : (last + 1 == last + 1) ≡ true = grind (arith, nat_tests) in
    (rw (some, end) at are.walk) ∙ rw test refl

-- the fault that an answer carries
pub Bad-same : {T W : Type 0} (x b : BadRecord W) → ◌≡◌ {A = Result T (ReadFault W)} (Err (Bad x)) (Err (Bad b)) → x ≡ b
Bad-same x b h = cc
