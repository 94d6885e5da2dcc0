-- Stages with counts of calls that differ.
use Rattle.std.proofs.Common.{◌≡◌, ℕ, zero, suc, ◌+◌, ◌-◌, ◌*◌, ◌<◌, ◌≤◌, ◌⊎◌, ⊎_elim, inl, inr, List, [], ◌∷◌, ◌++◌, length, map, get_or, replicate, All, Some, refl, sym, ap, subst, ◌∙◌, arith}
use Rattle.std.specs.Prelude.{slice_get}
use Rattle.at_orders.proofs.Prelude.{All-append, cases_eq, cases_lt, ext_get_or, get_or-append_seam, get_or-append-add, get_or-map, get_or_append_left, get_or-replicate, length-append, length-map, length-replicate, length-set, slice_get-get_or, get_or-with_made, get_or-with_made_other, BookTerms, Call, Line, Read, IsNextOfProcess, step, with_made, AreCountedApart, HasStagesApart, HasMoreStages, IsStage, StageTerms, GroundTerms, IsGround, first_stage, stage_after}
use Rattle.at_orders.proofs.Reaching.{stage-next}
use Rattle.at_orders.proofs.Seen.{first-is}

-- the next call of a process, where it has made so many
abbrev call_at : List (List Call) → ℕ → ℕ → Call
call_at files k j = get_or (get_or files k []) j (Read 0)

-- so many calls of the process were made at each of these, and none of the processes after it
record AreAt (b : BookTerms) (files : List (List Call)) (k j : ℕ) (stages : List StageTerms) : Type 0 where
  are : All (IsStage b files) stages
  apart : (x y : ℕ) (t : StageTerms) → x < y → y < length stages → (get_or stages x t).made ≡ (get_or stages y t).made → ⊥
  at : All (λ t. get_or t.made k 0 ≡ j) stages
  later : All (λ t. (q : ℕ) → k < q → get_or t.made q 0 ≡ 0) stages

-- one more call of the process counts the same way back
made-back : (n k : ℕ) (x y : List ℕ) → length x ≡ n → length y ≡ n → k < n → with_made x k ≡ with_made y k → x ≡ y
made-back n k x y size sized within same = ext_get_or 0 x y (size ∙ sym sized) (λ q inside. ⊎_elim
    (λ (e : q ≡ k).
    let a = get_or-with_made x k (omega arith) in
    let c = get_or-with_made y k (omega arith) in
    let both = ap (λ (m : List ℕ). get_or m k 0) same in
    let here : get_or x k 0 ≡ get_or y k 0 = omega arith in
    ap (λ (i : ℕ). get_or x i 0) e ∙ (here ∙ sym (ap (λ (i : ℕ). get_or y i 0) e)))
    (λ (other : q ≡ k → ⊥).
    sym (get_or-with_made_other x k q (λ e. other (sym e))) ∙ (ap (λ (m : List ℕ). get_or m q 0) same ∙ get_or-with_made_other y k q (λ e. other (sym e))))
    (cases_eq q k))

at-more : (b : BookTerms) (files : List (List Call)) (k j : ℕ) (stages : List StageTerms) → k < length files → j < length (get_or files k []) → AreAt b files k j stages
    → AreAt b files k (j + 1) (map (λ (t : StageTerms). stage_after t k (call_at files k j)) stages)
at-more b files k j stages known more at = record {
  are = λ i d within.
      let known_i = inside i within in
      let t : StageTerms = get_or stages i d in
      let l : Line = record { process = k; number = get_or t.made k 0 + 1; call = c; reply = (step t.ledger k c).reply } in
      let here : slice_get (get_or files k []) (get_or t.made k 0) ≡ Some c =
      subst (λ (n : ℕ). slice_get (get_or files k []) n ≡ Some c) (sym (at.at i d known_i)) (slice_get-get_or (get_or files k []) j (Read 0) more) in
      subst (IsStage b files) (sym (read i d within)) (stage-next b files t l (at.are i d known_i) (record { process = known; number = refl; call = here; reply = refl }));
  apart = λ x y d less within same.
      let y_in = inside y within in
      let x_in : x < length stages = omega arith in
      at.apart x y d less y_in
      (made-back (length files) k (get_or stages x d).made (get_or stages y d).made (at.are x d x_in).counts (at.are y d y_in).counts known
      (sym (ap (λ (t : StageTerms). t.made) (read x d (omega arith))) ∙ (same ∙ ap (λ (t : StageTerms). t.made) (read y d within))));
  at = λ i d within.
      let i_in = inside i within in
      let counts = (at.are i d i_in).counts in
      ap (λ (t : StageTerms). get_or t.made k 0) (read i d within) ∙ (get_or-with_made (get_or stages i d).made k (omega arith) ∙ ap (λ (n : ℕ). n + 1) (at.at i d i_in));
  later = λ i d within q after.
      ap (λ (t : StageTerms). get_or t.made q 0) (read i d within) ∙ (get_or-with_made_other (get_or stages i d).made k q (λ e. omega arith) ∙ at.later i d (inside i within) q after);
}
  where
    c : Call
    c = call_at files k j

    f : StageTerms → StageTerms
    f t = stage_after t k (call_at files k j)

    inside : (i : ℕ) → i < length (map (λ (t : StageTerms). stage_after t k (call_at files k j)) stages) → i < length stages
    inside i within = let size = length-map stages (λ (t : StageTerms). stage_after t k (call_at files k j)) in omega arith

    read : (i : ℕ) (d : StageTerms) → i < length (map (λ (t : StageTerms). stage_after t k (call_at files k j)) stages)
        → get_or (map (λ (t : StageTerms). stage_after t k (call_at files k j)) stages) i d ≡ stage_after (get_or stages i d) k (call_at files k j)
    read i d within = get_or-map (λ (t : StageTerms). stage_after t k (call_at files k j)) stages i d d (inside i within)

-- up to so many calls of the process were made at the first of these, and just so many at the last
record AreUpTo (b : BookTerms) (files : List (List Call)) (k j n : ℕ) : Type 0 where
  all : List StageTerms
  last : List StageTerms
  counted : AreCountedApart b files (k + 1) all
  up : All (λ (t : StageTerms). get_or t.made k 0 ≤ j) all
  at : AreAt b files k j last
  size : length all ≡ n * (j + 1)
  last_size : length last ≡ n

counted-append : (b : BookTerms) (files : List (List Call)) (k j : ℕ) (xs ys : List StageTerms) → AreCountedApart b files (k + 1) xs → All (λ (t : StageTerms). get_or t.made k 0 ≤ j) xs → AreAt b files k (j + 1) ys
    → AreCountedApart b files (k + 1) (xs ++ ys)
counted-append b files k j xs ys counted up at = record {
  are = All-append (IsStage b files) xs ys counted.are at.are;
  apart = λ x y d less within same. by x y d less within same (cases_lt x (length xs)) (cases_lt y (length xs));
  later = All-append (λ (t : StageTerms). (q : ℕ) → k + 1 ≤ q → get_or t.made q 0 ≡ 0) xs ys counted.later (λ i d within q after. at.later i d within q (omega arith));
}
  where
    size : length (xs ++ ys) ≡ length xs + length ys
    size = length-append xs ys

    right : (i : ℕ) (d : StageTerms) → length xs ≤ i → get_or (xs ++ ys) i d ≡ get_or ys (i - length xs) d
    right i d past = let back : length xs + (i - length xs) ≡ i = omega arith in ap (λ (n : ℕ). get_or (xs ++ ys) n d) (sym back) ∙ get_or-append-add xs ys (i - length xs) d

    made : (t u : StageTerms) → t ≡ u → t.made ≡ u.made
    made t u e = ap (λ (v : StageTerms). v.made) e

    by : (x y : ℕ) (d : StageTerms) → x < y → y < length (xs ++ ys) → (get_or (xs ++ ys) x d).made ≡ (get_or (xs ++ ys) y d).made → (x < length xs) ⊎ (length xs ≤ x) → (y < length xs) ⊎ (length xs ≤ y) → ⊥
    by x y d less within same (inl p) (inl q) =
        counted.apart x y d less q (sym (made _ _ (get_or_append_left xs ys d x p)) ∙ (same ∙ made _ _ (get_or_append_left xs ys d y q)))
    by x y d less within same (inl p) (inr q) =
        let low = up x d p in
        let high = at.at (y - length xs) d (omega (arith, size)) in
        let e : (get_or xs x d).made ≡ (get_or ys (y - length xs) d).made = sym (made _ _ (get_or_append_left xs ys d x p)) ∙ (same ∙ made _ _ (right y d q)) in
        let both = ap (λ (m : List ℕ). get_or m k 0) e in
        omega arith
    by x y d less within same (inr p) (inl q) = omega arith
    by x y d less within same (inr p) (inr q) =
        at.apart (x - length xs) (y - length xs) d (omega arith) (omega (arith, size)) (sym (made _ _ (right x d p)) ∙ (same ∙ made _ _ (right y d q)))

up-more : (b : BookTerms) (files : List (List Call)) (k j n : ℕ) → k < length files → j < length (get_or files k []) → AreUpTo b files k j n → AreUpTo b files k (j + 1) n
up-more b files k j n known more up =
    let next : List StageTerms = map (λ (t : StageTerms). stage_after t k (call_at files k j)) up.last in
    let at = at-more b files k j up.last known more up.at in
    let size = length-map up.last (λ (t : StageTerms). stage_after t k (call_at files k j)) in
    let both = length-append up.all next in
    let all_size = up.size in
    let last_size = up.last_size in
    record {
      all = up.all ++ next;
      last = next;
      counted = counted-append b files k j up.all next up.counted up.up at;
      up = All-append (λ (t : StageTerms). get_or t.made k 0 ≤ j + 1) up.all next (λ i d within. let low = up.up i d within in omega arith) (λ i d within. let here = at.at i d within in omega arith);
      at = at;
      size = omega arith;
      last_size = omega arith;
    }

up-begun : (b : BookTerms) (files : List (List Call)) (k n : ℕ) → HasStagesApart b files k n → AreUpTo b files k 0 n
up-begun b files k n counts = record {
  all = counts.stages;
  last = counts.stages;
  counted = record { are = counts.are.are; apart = counts.are.apart; later = λ i d within q after. counts.are.later i d within q (omega arith) };
  up = λ i d within. let none = counts.are.later i d within k (omega arith) in omega arith;
  at = record {
    are = counts.are.are;
    apart = counts.are.apart;
    at = λ i d within. counts.are.later i d within k (omega arith);
    later = λ i d within q after. counts.are.later i d within q (omega arith);
  };
  size = let size = counts.size in omega arith;
  last_size = counts.size;
}

up-all : (b : BookTerms) (files : List (List Call)) (k n : ℕ) → k < length files → HasStagesApart b files k n → (j : ℕ) → j ≤ length (get_or files k []) → AreUpTo b files k j n
up-all b files k n known counts zero within = up-begun b files k n counts
up-all b files k n known counts (suc j) within =
    subst (λ (i : ℕ). AreUpTo b files k i n) (let e : j + 1 ≡ suc j = omega arith in e) (up-more b files k j n known (omega arith) (up-all b files k n known counts j (omega arith)))

-- the counts of one more process
pub counts-more : (b : BookTerms) (files : List (List Call)) (k n : ℕ) → k < length files → HasStagesApart b files k n → HasStagesApart b files (k + 1) (n * (length (get_or files k []) + 1))
counts-more b files k n known counts =
    let up = up-all b files k n known counts (length (get_or files k [])) (omega arith) in
    record { stages = up.all; are = up.counted; size = up.size }

pub counts-step : (g : GroundTerms) (k n : ℕ) (file : List Call) → IsGround g → k < g.book.processes → file ≡ get_or g.files k [] → HasStagesApart g.book g.files k n → HasStagesApart g.book g.files (k + 1) (n * (length file + 1))
counts-step g k n file ground known is counts =
    let count = ground.processes in
    subst (λ (calls : List Call). HasStagesApart g.book g.files (k + 1) (n * (length calls + 1))) (sym is) (counts-more g.book g.files k n (omega arith) counts)

-- no process
pub counts-none : (g : GroundTerms) → IsGround g → HasStagesApart g.book g.files 0 1
counts-none g ground = record {
  stages = first_stage g.book ∷ [];
  are = record {
    are = λ i d within. subst (IsStage g.book g.files) (one i d within) (first-is g ground.processes);
    apart = λ i j d less within same. omega arith;
    later = λ i d within q after. subst (λ (t : StageTerms). get_or t.made q 0 ≡ 0) (one i d within) (zeros g.book.processes q);
  };
  size = omega arith;
}
  where
    one : (i : ℕ) (d : StageTerms) → i < length (first_stage g.book ∷ []) → first_stage g.book ≡ get_or (first_stage g.book ∷ []) i d
    one zero d within = refl
    one (suc i) d within = absurd (omega arith)

    zeros : (n q : ℕ) → (let none : List ℕ = replicate n 0 in get_or none q 0 ≡ 0)
    zeros zero q = refl
    zeros (suc n) zero = refl
    zeros (suc n) (suc q) = zeros n q

-- more than so many
pub counts-many : (b : BookTerms) (files : List (List Call)) (k n most : ℕ) → HasStagesApart b files k n → most < n → HasMoreStages b files most
counts-many b files k n most counts more = record {
  stages = counts.stages;
  are = counts.are.are;
  apart = λ i j d less within same. counts.are.apart i j d less within (ap (λ (t : StageTerms). t.made) same);
  more = let size = counts.size in omega arith;
}
