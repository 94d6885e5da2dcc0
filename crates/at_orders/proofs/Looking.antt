-- The next level, as its stages come one after another.
use Rattle.std.proofs.Common.{◌≡◌, ℕ, ◌+◌, ◌-◌, ◌<◌, ◌≤◌, ◌⊎◌, ⊎_elim, inl, inr, List, [], ◌∷◌, ◌++◌, length, drop, get_or, sum, All, refl, sym, ap, subst, ◌∙◌, arith}
use Rattle.at_orders.proofs.Prelude.{cases_lt, get_or_default, get_or-drop, length-drop, drop-append-le, All-append, All-nil, Contains-get_or, get_or-append_seam, get_or_append_left, length-append, append_assoc, append-nil, Call, GroundTerms, StageTerms, stage_after, Adds, AreApart, HasNext, HasStage, HasTwin, HaveSameNumbers, IsAt, IsGround, IsNextCall, IsSeen, IsTrail, IsNextStage, Looks, StandsFor, Stage, Trail}
use Rattle.at_orders.proofs.Seen.{sum-after, numbers-same}
use Rattle.at_orders.proofs.Trails.{led-seen, same-next, same-seen, same-stands, same-sym, same-told}
use Rattle.at_orders.proofs.Walking.{next-grows}

-- a stage with the same numbers is led on in the same way
pub led-from : (g : GroundTerms) (x y new : Stage) (p : ℕ) → HaveSameNumbers x y → IsNextStage g x p new → IsNextStage g y p new
led-from g x y new p e led = record {
  call = led.call;
  next = same-next g y x p led.call (same-sym x y e) led.next;
  stands = λ t stands. led.stands t (same-stands g y x t (same-sym x y e) stands);
  standing = led.standing;
}

-- stages that are told apart, and one more
apart-push : (g : GroundTerms) (xs : List Stage) (new : Stage) → IsGround g → AreApart g xs → All (IsSeen g) xs → IsSeen g new
    → ((j : ℕ) → j < length xs → HaveSameNumbers (get_or xs j new) new → ⊥) → AreApart g (xs ++ new ∷ [])
apart-push g xs new ground apart seen last other i j s t less within one two = by (cases_lt j (length xs))
  where
    size : length (xs ++ new ∷ []) ≡ length xs + 1
    size = length-append xs (new ∷ [])

    read : (k : ℕ) → k < length xs → get_or (xs ++ new ∷ []) k s ≡ get_or xs k s
    read k less = get_or_append_left xs (new ∷ []) s k less

    by : (j < length xs) ⊎ (length xs ≤ j) → ⊥
    by (inl before) =
        apart i j s t less before (subst (λ (x : Stage). StandsFor g x t) (read i (omega arith)) one) (subst (λ (x : Stage). StandsFor g x t) (read j before) two)
    by (inr past) =
        let at : length xs ≡ j = omega (arith, size) in
        let known : i < length xs = omega arith in
        let here : get_or (xs ++ new ∷ []) j s ≡ new = ap (λ (n : ℕ). get_or (xs ++ new ∷ []) n s) (sym at) ∙ get_or-append_seam xs new [] s in
        let there : get_or (xs ++ new ∷ []) i s ≡ get_or xs i new = get_or_append_left xs (new ∷ []) s i known ∙ get_or_default xs i s new known in
        other i known (same-told (get_or xs i new) new (numbers-same g ground.places (get_or xs i new) new t (seen i new known) last
        (subst (λ (x : Stage). StandsFor g x t) there one) (subst (λ (x : Stage). StandsFor g x t) here two)))

-- a stage of the next level
in-level : (g : GroundTerms) (stages : List Stage) (begun : ℕ) (s : Stage) (t : StageTerms) → HasTwin stages begun s → StandsFor g s t → HasStage g (drop begun stages) t
in-level g stages begun s t twin stands =
    let from = twin.from in
    let within = twin.is.within in
    let size = length-drop begun stages in
    let back : begun + (twin.one - begun) ≡ twin.one = omega arith in
    let read : get_or (drop begun stages) (twin.one - begun) s ≡ get_or stages twin.one s = get_or-drop begun stages (twin.one - begun) s ∙ ap (λ (n : ℕ). get_or stages n s) back in
    record {
      one = get_or (drop begun stages) (twin.one - begun) s;
      there = Contains-get_or (drop begun stages) (twin.one - begun) s (omega arith);
      stands = same-stands g s (get_or (drop begun stages) (twin.one - begun) s) t (same-sym (get_or (drop begun stages) (twin.one - begun) s) s (subst (λ (x : Stage). HaveSameNumbers x s) (sym read) (twin.is.same s))) stands;
    }

-- the stage after one next call comes
pub looks-one : (g : GroundTerms) (old new : Trail) (stages : List Stage) (s x after : Stage) (p : ℕ) → IsGround g → p < g.book.processes → IsTrail g old stages → IsSeen g s → HaveSameNumbers x s
    → IsNextStage g x p after → Adds g old new stages after → Looks g old new stages s (λ q. q ≡ p)
looks-one g old new stages s x after p ground within trail seen same led adds = record {
  more = adds.more;
  is = adds.is;
  counts = λ i d inside.
      let made = sum-after g x after p led.call known (same-seen g x s same seen) led.stands in
      ap (λ (z : Stage). sum z.made.items) (adds.only i d inside) ∙ (made ∙ ap (λ (m : List ℕ). sum m + 1) same.made);
  apart = λ apart. subst (AreApart g) (sym (drop-append-le old.begun stages adds.more trail.within)) (by adds.more adds.few adds.only adds.apart apart);
  next = λ q is t call stands next.
      let e : p ≡ q = sym is in
      subst (λ (n : ℕ). HasStage g (drop old.begun (stages ++ adds.more)) (stage_after t n call)) e
      (one_next t call stands (subst (λ (n : ℕ). IsNextCall g s n call) (sym e) next));
  begun = adds.begun;
  looked = adds.looked;
}
  where
    known : p < length g.files
    known = let count = ground.processes in omega arith

    one_next : (t : StageTerms) (call : Call) → StandsFor g s t → IsNextCall g s p call → HasStage g (drop old.begun (stages ++ adds.more)) (stage_after t p call)
    one_next t call stands next =
        let mine = same-next g x s p call same next in
        let theirs = led.next in
        let calls : led.call ≡ call = cc in
        in-level g (stages ++ adds.more) old.begun after (stage_after t p call) adds.has
        (subst (λ (c : Call). StandsFor g after (stage_after t p c)) calls (led.stands t (same-stands g s x t (same-sym x s same) stands)))

    by : (more : List Stage) → length more ≤ 1 → All (λ (z : Stage). z ≡ after) more → (HasTwin stages old.begun after → more ≡ []) → AreApart g (drop old.begun stages) → AreApart g (drop old.begun stages ++ more)
    by [] few only none apart = subst (AreApart g) (sym (append-nil (drop old.begun stages))) apart
    by (m ∷ []) few only none apart =
        let is : m ≡ after = only 0 after (omega arith) in
        subst (λ (z : Stage). AreApart g (drop old.begun stages ++ z ∷ [])) (sym is)
        (apart-push g (drop old.begun stages) after ground apart
        (λ i d inside. subst (IsSeen g) (sym (get_or-drop old.begun stages i d)) (trail.seen (old.begun + i) d (let size = length-drop old.begun stages in omega arith)))
        (led-seen g x after p known (same-seen g x s same seen) led)
        (λ j inside e.
        let size = length-drop old.begun stages in
        let at : old.begun + j < length stages = omega arith in
        let empty : m ∷ [] ≡ [] = none (record {
          one = old.begun + j;
          from = omega arith;
          is = record { within = at; same = λ d. subst (λ (z : Stage). HaveSameNumbers z after) (get_or-drop old.begun stages j after ∙ get_or_default stages (old.begun + j) after d at) e };
        }) in
        absurd (cc empty)))
    by (m ∷ n ∷ rest) few only none apart = absurd (omega arith)

-- or there is no next call
pub looks-none : (g : GroundTerms) (t : Trail) (stages : List Stage) (s : Stage) (Is : ℕ → Type 0) → IsTrail g t stages → ((q : ℕ) (call : Call) → Is q → IsNextCall g s q call → ⊥)
    → Looks g t t stages s Is
looks-none g t stages s Is trail none = record {
  more = [];
  is = subst (IsTrail g t) (sym (append-nil stages)) trail;
  counts = All-nil (λ (x : Stage). sum x.made.items ≡ sum s.made.items + 1);
  apart = λ apart. subst (λ (xs : List Stage). AreApart g (drop t.begun xs)) (sym (append-nil stages)) apart;
  next = λ q is u call stands next. absurd (none q call is next);
  begun = refl;
  looked = refl;
}

-- one process after others
pub looks-more : (g : GroundTerms) (old mid new : Trail) (stages : List Stage) (s : Stage) (p : ℕ) → IsTrail g old stages → (first : Looks g old mid stages s (λ q. q < p)) → Looks g mid new (stages ++ first.more) s (λ q. q ≡ p)
    → Looks g old new stages s (λ q. q < p + 1)
looks-more g old mid new stages s p trail first then = record {
  more = first.more ++ then.more;
  is = subst (IsTrail g new) (append_assoc stages first.more then.more) then.is;
  counts = All-append (λ (x : Stage). sum x.made.items ≡ sum s.made.items + 1) first.more then.more first.counts then.counts;
  apart = λ apart.
      subst (λ (xs : List Stage). AreApart g (drop old.begun xs)) (append_assoc stages first.more then.more)
      (subst (λ (n : ℕ). AreApart g (drop n ((stages ++ first.more) ++ then.more))) first.begun
      (then.apart (subst (λ (n : ℕ). AreApart g (drop n (stages ++ first.more))) (sym first.begun) (first.apart apart))));
  next = λ q less.
      let cases : (q < p) ⊎ (q ≡ p) = grind arith in
      subst (λ (xs : List Stage). HasNext g (drop old.begun xs) s q) (append_assoc stages first.more then.more)
      (⊎_elim
      (λ before. next-grows g (drop old.begun (stages ++ first.more)) (drop old.begun ((stages ++ first.more) ++ then.more)) s q
      (record { more = then.more; is = drop-append-le old.begun (stages ++ first.more) then.more (let w = trail.within in let size = length-append stages first.more in omega arith) })
      (first.next q before))
      (λ same. subst (λ (n : ℕ). HasNext g (drop n ((stages ++ first.more) ++ then.more)) s q) first.begun (then.next q same))
      cases);
  begun = then.begun ∙ first.begun;
  looked = then.looked ∙ first.looked;
}

pub at-append : (stages more : List Stage) (i : ℕ) (s : Stage) → IsAt stages i s → IsAt (stages ++ more) i s
at-append stages more i s at = record {
  within = let within = at.within in let size = length-append stages more in omega arith;
  same = λ d. subst (λ (x : Stage). HaveSameNumbers x s) (sym (get_or_append_left stages more d i at.within)) (at.same d);
}

pub looks-fewer : (g : GroundTerms) (old new : Trail) (stages : List Stage) (s : Stage) (Is Some_of : ℕ → Type 0) → ((q : ℕ) → Some_of q → Is q) → Looks g old new stages s Is → Looks g old new stages s Some_of
looks-fewer g old new stages s Is Some_of up looks = record {
  more = looks.more;
  is = looks.is;
  counts = looks.counts;
  apart = looks.apart;
  next = λ q is. looks.next q (up q is);
  begun = looks.begun;
  looked = looks.looked;
}
