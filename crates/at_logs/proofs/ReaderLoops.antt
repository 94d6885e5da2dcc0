-- Reading items one after the other, as a loop does.
use Rattle.std.proofs.Common.{◌≡◌, ℕ, suc, ◌-◌, ◌+◌, ◌≤◌, ◌<◌, List, [], ◌∷◌, ◌++◌, Option, None, Some, refl, sym, ap, ◌∙◌, append_assoc, arith}
use Rattle.at_logs.proofs.Prelude.{append-nil, Reader, ◌>>=◌, read_items}

-- what was read before, and what is still read
abbrev pub with_front : {A : Type 0} → List A → Option (List A × List ℕ) → Option (List A × List ℕ)
with_front front read = read >>= λ x. Some (front ++ x.0, x.1)

pub starts : {A : Type 0} (one : Reader A) (count : ℕ) (bytes : List ℕ) → with_front [] (read_items one (count - 0) bytes) ≡ read_items one count bytes
starts one count bytes =
    let all : count - 0 ≡ count = omega arith in
    rw all (same (read_items one count bytes)) where
      same : {A : Type 0} (read : Option (List A × List ℕ)) → with_front [] read ≡ read
      same None = refl
      same (Some x) = refl

regroup : {A : Type 0} (front : List A) (n : A) (read : Option (List A × List ℕ)) → with_front front (read >>= λ x. Some (n ∷ x.0, x.1)) ≡ with_front (front ++ n ∷ []) read
regroup front n (Some x) = ap (λ (ns : List _). Some (ns, x.1)) (simp append_assoc)
regroup front n None = refl

pub goes_on : {A : Type 0} (one : Reader A) (front : List A) (count i : ℕ) (bytes : List ℕ) (n : A) (after : List ℕ) (total : Option (List A × List ℕ)) → i < count
    → Some (n, after) ≡ one bytes → with_front front (read_items one (count - i) bytes) ≡ total → with_front (front ++ n ∷ []) (read_items one (count - (i + 1)) after) ≡ total
unfolding read_items
goes_on one front count i bytes n after total lt h so_far =
    let k : count - i ≡ suc (count - (i + 1)) = omega arith in
    let step : with_front front (read_items one (count - i) bytes) ≡ with_front (front ++ n ∷ []) (read_items one (count - (i + 1)) after) =
    rw (k, ← h) (regroup front n (read_items one (count - (i + 1)) after)) in
    sym step ∙ so_far

pub ends : {A : Type 0} (one : Reader A) (front : List A) (count i : ℕ) (bytes : List ℕ) (total : Option (List A × List ℕ)) → i < count → None ≡ one bytes
    → with_front front (read_items one (count - i) bytes) ≡ total → None ≡ total
unfolding read_items
ends one front count i bytes total lt h so_far =
    let k : count - i ≡ suc (count - (i + 1)) = omega arith in
    let step : with_front front (read_items one (count - i) bytes) ≡ None = rw (k, ← h) refl in
    sym step ∙ so_far

pub is_done : {A : Type 0} (one : Reader A) (front : List A) (count i : ℕ) (bytes : List ℕ) (total : Option (List A × List ℕ)) → count ≤ i
    → with_front front (read_items one (count - i) bytes) ≡ total → Some (front, bytes) ≡ total
unfolding read_items
is_done one front count i bytes total le so_far =
    let k : count - i ≡ 0 = omega arith in
    let last : with_front front (read_items one (count - i) bytes) ≡ Some (front, bytes) = rw k (ap (λ (ns : List _). Some (ns, bytes)) (append-nil front)) in
    sym last ∙ so_far
