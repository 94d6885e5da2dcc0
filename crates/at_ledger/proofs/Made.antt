-- How many calls each process has made.
use Rattle.std.proofs.Common.{◌≡◌, Some, ℕ, zero, suc, ◌+◌, ◌<◌, ◌≤◌, ◌==◌, Bool, true, false, ◌⊎◌, ⊎_elim, List, [], ◌∷◌, length, get_or, sum, sum_by, All, refl, sym, subst, ◌∙◌, arith}
use Rattle.std.specs.Prelude.{slice_get}
use Rattle.at_ledger.proofs.Prelude.{get_or-set_other, get_or-set_same, length-set, sum_by-cons, sum_by-set, Decides-eqb, get_or_from_slice_get, slice_get_within, IsPlayable, IsCallOn, Call, Line, LedgerState, AreWithinFiles, IsNextOfProcess, with_made}

-- the first file, and the others
AreWithinFiles-tail : (file : List Call) (files : List (List Call)) (n : ℕ) (made : List ℕ) → AreWithinFiles (file ∷ files) (n ∷ made) → AreWithinFiles files made
AreWithinFiles-tail file files n made are = record {
  each = let same = are.each in omega arith;
  within = λ p h. are.within (suc p) (omega arith);
}

sum-cons : (n : ℕ) (ns : List ℕ) → sum (n ∷ ns) ≡ n + sum ns
sum-cons n ns = sum_by-cons (λ (k : ℕ). k) n ns

sum_by-files-cons : (file : List Call) (files : List (List Call)) → sum_by (length {A = Call}) (file ∷ files) ≡ length file + sum_by (length {A = Call}) files
sum_by-files-cons file files = sum_by-cons (length {A = Call}) file files

-- no more calls are made than there are
pub sum-le : (files : List (List Call)) (made : List ℕ) → AreWithinFiles files made → sum made ≤ sum_by (length {A = Call}) files
sum-le [] [] are = omega arith
sum-le [] (n ∷ made) are = let same = are.each in absurd (omega arith)
sum-le (file ∷ files) [] are = let same = are.each in absurd (omega arith)
sum-le (file ∷ files) (n ∷ made) are =
    let first : n ≤ length file = are.within 0 (omega arith) in
    let rest = sum-le files made (AreWithinFiles-tail file files n made are) in
    let a = sum-cons n made in
    let b = sum_by-files-cons file files in
    omega arith

-- every call of every file is made
abbrev pub AreAllMade : List (List Call) → List ℕ → Type 0
AreAllMade files made = (p : ℕ) → p < length files → length (get_or files p []) ≤ get_or made p 0

-- where as many are made as there are, all are
pub all_made : (files : List (List Call)) (made : List ℕ) → AreWithinFiles files made → sum made ≡ sum_by (length {A = Call}) files → (p : ℕ) → p < length files
    → length (get_or files p []) ≤ get_or made p 0
all_made [] made are same p within = absurd (omega arith)
all_made (file ∷ files) [] are same p within = let each = are.each in absurd (omega arith)
all_made (file ∷ files) (n ∷ made) are same zero within =
    let rest = sum-le files made (AreWithinFiles-tail file files n made are) in
    let a = sum-cons n made in
    let b = sum_by-files-cons file files in
    omega arith
all_made (file ∷ files) (n ∷ made) are same (suc p) within =
    let tail = AreWithinFiles-tail file files n made are in
    let first : n ≤ length file = are.within 0 (omega arith) in
    let rest = sum-le files made tail in
    let a = sum-cons n made in
    let b = sum_by-files-cons file files in
    all_made files made tail (omega arith) p (omega arith)

-- where all are made, they are as many as there are
pub sum-all_made : (files : List (List Call)) (made : List ℕ) → AreWithinFiles files made → AreAllMade files made → sum made ≡ sum_by (length {A = Call}) files
sum-all_made [] [] are all = refl
sum-all_made [] (n ∷ made) are all = let each = are.each in absurd (omega arith)
sum-all_made (file ∷ files) [] are all = let each = are.each in absurd (omega arith)
sum-all_made (file ∷ files) (n ∷ made) are all =
    let first : n ≤ length file = are.within 0 (omega arith) in
    let last : length file ≤ n = all 0 (omega arith) in
    let rest = sum-all_made files made (AreWithinFiles-tail file files n made are) (λ p h. all (suc p) (omega arith)) in
    let a = sum-cons n made in
    let b = sum_by-files-cons file files in
    omega arith

-- a process that has a call left
pub record HasLeft (files : List (List Call)) (made : List ℕ) : Type 0 where
  pub process : ℕ
  pub is : process < length files
  pub left : get_or made process 0 < length (get_or files process [])

-- where fewer are made than there are, some process has a call left
pub some_left : (files : List (List Call)) (made : List ℕ) → AreWithinFiles files made → sum made < sum_by (length {A = Call}) files → HasLeft files made
some_left [] [] are fewer = absurd (omega arith)
some_left [] (n ∷ made) are fewer = let each = are.each in absurd (omega arith)
some_left (file ∷ files) [] are fewer = let each = are.each in absurd (omega arith)
some_left (file ∷ files) (n ∷ made) are fewer =
    let first : n ≤ length file = are.within 0 (omega arith) in
    let a = sum-cons n made in
    let b = sum_by-files-cons file files in
    let split : (n < length file) ⊎ (n ≡ length file) = grind arith in
    ⊎_elim
    (λ less. record { process = 0; is = omega arith; left = less })
    (λ same.
    let later = some_left files made (AreWithinFiles-tail file files n made are) (omega arith) in
    record { process = suc later.process; is = let h = later.is in omega arith; left = later.left })
    split

-- one more call of a process
pub get_or-with_made : (made : List ℕ) (q : ℕ) → q < length made → get_or (with_made made q) q 0 ≡ get_or made q 0 + 1
get_or-with_made made q within = get_or-set_same made q (get_or made q 0 + 1) 0 within

pub get_or-with_made_other : (made : List ℕ) (q p : ℕ) → (q ≡ p → ⊥) → get_or (with_made made q) p 0 ≡ get_or made p 0
get_or-with_made_other made q p differ = get_or-set_other made q p (get_or made q 0 + 1) 0 (λ same. differ (sym same))

pub sum-with_made : (made : List ℕ) (q : ℕ) → q < length made → sum (with_made made q) ≡ sum made + 1
sum-with_made made q within = let more = sum_by-set (λ (n : ℕ). n) made q (get_or made q 0 + 1) 0 within in omega arith

pub AreWithinFiles-next : (files : List (List Call)) (s : LedgerState) (made : List ℕ) (l : Line) → AreWithinFiles files made → IsNextOfProcess files s made l → AreWithinFiles files (with_made made l.process)
AreWithinFiles-next files s made l are next =
    let q : ℕ = l.process in
    let each = are.each in
    let within : q < length made = let h = next.process in omega arith in
    let left : get_or made q 0 < length (get_or files q []) = slice_get_within (get_or files q []) (get_or made q 0) l.call next.call in
    record {
      each = length-set made q (get_or made q 0 + 1) ∙ each;
      within = λ p h. by p h q within left (q == p) refl;
    }
  where
    by : (p : ℕ) → p < length files → (q : ℕ) → q < length made → get_or made q 0 < length (get_or files q []) → (t : Bool) → (q == p) ≡ t → get_or (with_made made q) p 0 ≤ length (get_or files p [])
    by p h q within left true is =
        let same : q ≡ p = (Decides-eqb q p).0 is in
        rw (← same) (let one = get_or-with_made made q within in omega arith)
    by p h q within left false is =
        let other = get_or-with_made_other made q p (λ same. let wrong = (Decides-eqb q p).1 same in cc) in
        let old = are.within p h in
        omega arith

-- the call of a next line names accounts that are there
pub call_known-at : (accounts : ℕ) (files : List (List Call)) (p i : ℕ) (call : Call) → All (IsPlayable accounts) files → p < length files
    → slice_get (get_or files p []) i ≡ Some call → IsCallOn accounts call
call_known-at accounts files p i call playable known is =
    let file = playable p [] known in
    subst (IsCallOn accounts) (get_or_from_slice_get (get_or files p []) i call call is) (file.known i call (slice_get_within (get_or files p []) i call is))

pub call_known : (accounts : ℕ) (files : List (List Call)) (s : LedgerState) (made : List ℕ) (l : Line) → All (IsPlayable accounts) files → IsNextOfProcess files s made l
    → IsCallOn accounts l.call
call_known accounts files s made l playable next =
    call_known-at accounts files l.process (get_or made l.process 0) l.call playable next.process next.call
