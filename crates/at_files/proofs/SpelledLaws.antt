-- Files that are items, written out one after another.
use Rattle.std.proofs.Common.{◌≡◌, ℕ, ◌+◌, ◌≤◌, Bool, true, false, ◌==◌, List, [], ◌∷◌, length, map, All, Vec, Result, Ok, Err, IfErr, IfOk, if◌then◌else◌, refl, sym, ◌∙◌, subst, arith}
use Rattle.at_files.proofs.Prelude.{Global, nat_tests, All-cons, All-head, All-tail, Fields, bad_record, item_before, items_from, items_of, BadRecord, ReadFault, Bad, NoMemory}
use Rattle.at_files.proofs.SpelledWalk.{items_from-more}

-- a record spells an item just where it is the item, written out, and a file may hold the item
pub record IsForm {T W : Type 0} (item : Fields → Result T W) (print : T → Fields) (P : T → Type 0) : Type 0 where
  pub reads : (fields : Fields) (x : T) → item fields ≡ Ok x → (fields ≡ print x) × P x
  pub writes : (x : T) → P x → item (print x) ≡ Ok x

-- the records from a line on are the items, written out
pub record AreWritten {T : Type 0} (print : T → Fields) (P : T → Type 0) (most line : ℕ) (records : List Fields) (items : List T) : Type 0 where
  pub spelled : records ≡ map print items
  pub each : All P items
  pub few : length items + line ≤ most + 1

AreWritten-cons : {T : Type 0} (print : T → Fields) (P : T → Type 0) (most line : ℕ) (fields : Fields) (records : List Fields) (x : T) (items : List T)
    → (fields ≡ print x) × P x → AreWritten print P most (line + 1) records items → AreWritten print P most line (fields ∷ records) (x ∷ items)
AreWritten-cons print P most line fields records x items first others = record {
  spelled = rw (first.0, others.spelled) refl;
  each = All-cons P x items first.1 others.each;
  few = let few : length items + (line + 1) ≤ most + 1 = others.few in omega arith;
}

item_before-written : {T W : Type 0} (print : T → Fields) (P : T → Type 0) (most line : ℕ) (fields : Fields) (records : List Fields) (items : List T)
    (first : Result T W) (later : Result (List T) (BadRecord W)) → ((x : T) → first ≡ Ok x → (fields ≡ print x) × P x)
    → ((more : List T) → later ≡ Ok more → AreWritten print P most (line + 1) records more)
    → item_before line first later ≡ Ok items → AreWritten print P most line (fields ∷ records) items
item_before-written print P most line fields records items (Err why) later one all h = absurd (cc)
item_before-written print P most line fields records items (Ok x) (Err bad) one all h = absurd (cc)
item_before-written print P most line fields records items (Ok x) (Ok more) one all h =
    let is : x ∷ more ≡ items = cc in
    let Q : List _ → Type 0 = AreWritten print P most line (fields ∷ records) in
    subst Q is (AreWritten-cons print P most line fields records x more (one x refl) (all more refl))

pub items_from-written : {T W : Type 0} (item : Fields → Result T W) (print : T → Fields) (P : T → Type 0) (most : ℕ) (over : W) (line : ℕ) (records : List Fields) (items : List T)
    → IsForm item print P → line ≤ most + 1 → items_from item most over line records ≡ Ok items → AreWritten print P most line records items
unfolding items_from
items_from-written {T} item print P most over line [] items form within h =
    let is : [] ≡ items = cc in
    let Q : List T → Type 0 = AreWritten print P most line [] in
    subst Q is (record { spelled = refl; each = λ k d h. absurd (omega arith); few = omega arith })
items_from-written {T} {W} item print P most over line (fields ∷ records) items form within h =
    by (line == most + 1) refl h (λ fits more. items_from-written item print P most over (line + 1) records more form fits)
  where
    by : (b : Bool) → (line == most + 1) ≡ b
        → (if b then bad_record line over else item_before line (item fields) (items_from item most over (line + 1) records)) ≡ Ok items
        → (line + 1 ≤ most + 1 → (more : List T) → items_from item most over (line + 1) records ≡ Ok more → AreWritten print P most (line + 1) records more)
        → AreWritten print P most line (fields ∷ records) items
    by true last is all = absurd (cc)
    by false other is all =
        let fits : line + 1 ≤ most + 1 = grind (arith, nat_tests) in
        item_before-written print P most line fields records items (item fields) (items_from item most over (line + 1) records)
        (λ x e. form.reads fields x e) (all fits) is

-- what the walk gives is what the file holds
pub items_of-written : {T W : Type 0} (item : Fields → Result T W) (print : T → Fields) (P : T → Type 0) (most : ℕ) (over : W) (records : List Fields) (items : List T)
    → IsForm item print P → items_of item most over records ≡ Ok items → AreWritten print P most 1 records items
items_of-written item print P most over records items form h = items_from-written item print P most over 1 records items form (omega arith) h

pub items_from-map : {T W : Type 0} (item : Fields → Result T W) (print : T → Fields) (P : T → Type 0) (most : ℕ) (over : W) (line : ℕ) (items : List T)
    → IsForm item print P → All P items → length items + line ≤ most + 1 → items_from item most over line (map print items) ≡ Ok items
unfolding items_from
items_from-map item print P most over line [] form each within = refl
items_from-map item print P most over line (x ∷ items) form each within =
    let here : item (print x) ≡ Ok x = form.writes x (All-head P x items each) in
    let later : items_from item most over (line + 1) (map print items) ≡ Ok items =
    items_from-map item print P most over (line + 1) items form (All-tail P x items each) (omega arith) in
    items_from-more item most over line (print x) (map print items) (omega arith) ∙ rw (here, later) refl

-- a file that is items, written out, gives them
pub items_of-map : {T W : Type 0} (item : Fields → Result T W) (print : T → Fields) (P : T → Type 0) (most : ℕ) (over : W) (records : List Fields) (items : List T)
    → IsForm item print P → records ≡ map print items → All P items → length items ≤ most → items_of item most over records ≡ Ok items
items_of-map item print P most over records items form spelled each few = rw spelled (items_from-map item print P most over 1 items form each (omega arith))

-- a file that is items, written out, isn't refused
pub not_bad : {T W : Type 0} (item : Fields → Result T W) (print : T → Fields) (P : T → Type 0) (most : ℕ) (over : W) (records : List Fields) (items : List T)
    (bad : BadRecord W) (fault : ReadFault W) → IsForm item print P → records ≡ map print items → All P items → length items ≤ most
    → items_of item most over records ≡ Err bad → fault ≡ NoMemory
not_bad item print P most over records items bad fault form spelled each few is =
    let right = items_of-map item print P most over records items form spelled each few in
    let wrong : Ok items ≡ Err bad = sym right ∙ is in
    cc

-- an answer that holds what the walk gives holds what the file does
pub read-written : {T W : Type 0} (item : Fields → Result T W) (print : T → Fields) (P : T → Type 0) (most : ℕ) (over : W) (records : List Fields) (r : Result (Vec T Global) (ReadFault W))
    → IsForm item print P → IfOk r (λ items. items_of item most over records ≡ Ok items.items) → IfOk r (λ items. AreWritten print P most 1 records items.items)
read-written item print P most over records (Ok items) form h = items_of-written item print P most over records items.items form h
read-written item print P most over records (Err fault) form h = tt

-- and it refuses no file that is items, written out
pub read-accepts : {T W : Type 0} (item : Fields → Result T W) (print : T → Fields) (P : T → Type 0) (most : ℕ) (over : W) (records : List Fields) (r : Result (Vec T Global) (ReadFault W))
    (items : List T) → IsForm item print P → ((b : BadRecord W) → r ≡ Err (Bad b) → items_of item most over records ≡ Err b)
    → records ≡ map print items → All P items → length items ≤ most → IfErr r (λ fault. fault ≡ NoMemory)
read-accepts item print P most over records (Ok read) items form bad spelled each few = tt
read-accepts item print P most over records (Err NoMemory) items form bad spelled each few = refl
read-accepts item print P most over records (Err (Bad b)) items form bad spelled each few =
    not_bad item print P most over records items b (Bad b) form spelled each few (bad b refl)
