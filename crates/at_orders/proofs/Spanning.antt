-- From where to where stages bring the balances that are kept.
use Rattle.std.proofs.Common.{◌≡◌, ℕ, ◌+◌, ◌<◌, ◌≤◌, ◌⊎◌, ⊎_elim, inl, inr, min, max, List, [], ◌∷◌, ◌++◌, length, get_or, set, None, Some, refl, sym, ap, subst, ◌∙◌, arith}
use Rattle.at_orders.proofs.Prelude.{get_or_default, get_or-set_same, get_or-set_other, length-set, Contains-append_left, Contains-push, Contains-push_cases, All-contains, GroundTerms, account_of, AreAllStages, IsGround, IsSeen, AreSpans, HoldsAt, IsKeptAt, IsSpan, range_at, range_with, Range, Stage}
use Rattle.at_orders.proofs.Covering.{opening-at}
use Rattle.at_orders.proofs.Moved.{at_or_off}
use Rattle.at_orders.proofs.Placing.{place-known}
use Rattle.at_orders.proofs.Splitting.{opening-is, opening_stage}

-- one number more
span-with : (H K : ℕ → Type 0) (range : Range) (v : ℕ) → ((w : ℕ) → H w → K w) → K v → ((w : ℕ) → K w → H w ⊎ (w ≡ v)) → IsSpan H range → IsSpan K (range_with range v)
span-with H K range v up here down span = record {
  least = least (min-cases range.least v);
  greatest = greatest (max-cases range.greatest v);
  low = λ w k. ⊎_elim (λ old. let x = span.low w old in omega arith) (λ new. omega arith) (down w k);
  high = λ w k. ⊎_elim (λ old. let x = span.high w old in omega arith) (λ new. omega arith) (down w k);
}
  where
    min-cases : (x y : ℕ) → (min x y ≡ x) ⊎ (min x y ≡ y)
    min-cases x y = grind arith

    max-cases : (x y : ℕ) → (max x y ≡ x) ⊎ (max x y ≡ y)
    max-cases x y = grind arith

    least : (min range.least v ≡ range.least) ⊎ (min range.least v ≡ v) → K (min range.least v)
    least (inl old) = subst K (sym old) (up range.least span.least)
    least (inr new) = subst K (sym new) here

    greatest : (max range.greatest v ≡ range.greatest) ⊎ (max range.greatest v ≡ v) → K (max range.greatest v)
    greatest (inl old) = subst K (sym old) (up range.greatest span.greatest)
    greatest (inr new) = subst K (sym new) here

pub span-same : (H K : ℕ → Type 0) (range : Range) → ((w : ℕ) → H w → K w) → ((w : ℕ) → K w → H w) → IsSpan H range → IsSpan K range
span-same H K range to from span = record { least = to range.least span.least; greatest = to range.greatest span.greatest; low = λ w k. span.low w (from w k); high = λ w k. span.high w (from w k) }

-- what an account opens with, or has at one of these stages
abbrev pub MayHave : GroundTerms → List Stage → ℕ → ℕ → Type 0
MayHave g stages place v = (v ≡ (account_of g.book (get_or g.named place 0)).opening) ⊎ IsKeptAt stages place v

pub spans-push : (g : GroundTerms) (stages : List Stage) (s : Stage) (old new : List Range) → length new ≡ length old
    → ((place : ℕ) (d : Range) → place < length old → get_or new place d ≡ range_with (get_or old place d) (get_or s.balances.items place 0)) → AreSpans g stages old → AreSpans g (stages ++ s ∷ []) new
spans-push g stages s old new size widened spans = record {
  size = size ∙ spans.size;
  each = λ place d within.
      let v : ℕ = get_or s.balances.items place 0 in
      let known : place < length old = let n = spans.size in omega arith in
      subst (IsSpan (MayHave g (stages ++ s ∷ []) place)) (sym (widened place d known))
      (span-with (MayHave g stages place) (MayHave g (stages ++ s ∷ []) place) (get_or old place d) v
      (λ w may. ⊎_elim (λ opens. inl opens) (λ kept. inr (record { one = kept.one; there = Contains-append_left stages (s ∷ []) kept.one kept.there; has = kept.has })) may)
      (inr (record { one = s; there = Contains-push stages s; has = refl }))
      (λ w may. ⊎_elim (λ opens. inl (inl opens))
      (λ kept. ⊎_elim
      (λ there. inl (inr (record { one = kept.one; there = there; has = kept.has })))
      (λ same. inr (sym (ap (λ (x : Stage). get_or x.balances.items place 0) same ∙ kept.has)))
      (Contains-push_cases stages s kept.one kept.there)) may)
      (spans.each place d within));
}

-- before the first stage
pub spans-begun : (g : GroundTerms) (spans : List Range) → length spans ≡ length g.named
    → ((place : ℕ) (d : Range) → place < length g.named → get_or spans place d ≡ range_at (account_of g.book (get_or g.named place 0)).opening) → AreSpans g [] spans
spans-begun g spans size opens = record {
  size = size;
  each = λ place d within. subst (IsSpan (MayHave g [] place)) (sym (opens place d within)) (record {
    least = inl refl;
    greatest = inl refl;
    low = λ w may. only place w may;
    high = λ w may. only_up place w may;
  });
}
  where
    only : (place w : ℕ) → MayHave g [] place w → (account_of g.book (get_or g.named place 0)).opening ≤ w
    only place w (inl opens) = omega arith
    only place w (inr kept) = let none = kept.there.1 in absurd (omega arith)

    only_up : (place w : ℕ) → MayHave g [] place w → w ≤ (account_of g.book (get_or g.named place 0)).opening
    only_up place w (inl opens) = omega arith
    only_up place w (inr kept) = let none = kept.there.1 in absurd (omega arith)

-- at all stages
pub spans-all : (g : GroundTerms) (stages : List Stage) (spans : List Range) → IsGround g → AreAllStages g stages → AreSpans g stages spans
    → (place : ℕ) (d : Range) → place < length g.named → IsSpan (HoldsAt g.book g.files (get_or g.named place 0)) (get_or spans place d)
spans-all g stages spans ground all are place d within =
    span-same (MayHave g stages place) (HoldsAt g.book g.files a) (get_or spans place d)
    (λ w may. ⊎_elim
    (λ opens. record { stage = opening_stage g.book g.files; is = opening-is g.book g.files; has = opening-at g.book a a_in ∙ sym opens })
    (λ kept.
    let seen : IsSeen g kept.one = All-contains (IsSeen g) stages kept.one all.are kept.there in
    record { stage = seen.stage; is = seen.is; has = seen.stands.ledger.kept.each a place at ∙ kept.has })
    may)
    (λ w holds.
    let has = all.all holds.stage holds.is in
    inr (record { one = has.one; there = has.there; has = sym (has.stands.ledger.kept.each a place at) ∙ holds.has }))
    (are.each place d within)
  where
    a : ℕ
    a = get_or g.named place 0

    at : get_or g.places a None ≡ Some place
    at = ground.places.back place within

    a_in : a < length g.book.accounts
    a_in = let known = place-known g.places a place at in let size = ground.places.size in omega arith

-- the first ranges have these balances in them
pub record AreWidened (kept : List ℕ) (old new : List Range) (count : ℕ) : Type 0 where
  pub size : length new ≡ length old
  pub first : (q : ℕ) (d : Range) → q < count → q < length old → get_or new q d ≡ range_with (get_or old q d) (get_or kept q 0)
  pub others : (q : ℕ) (d : Range) → count ≤ q → get_or new q d ≡ get_or old q d

pub widened-none : (kept : List ℕ) (old : List Range) → AreWidened kept old old 0
widened-none kept old = record { size = refl; first = λ q d less within. absurd (omega arith); others = λ q d more. refl }

pub widened-more : (kept : List ℕ) (old new : List Range) (i v : ℕ) (range r : Range) → i < length new → range ≡ get_or new i range → v ≡ get_or kept i 0 → r ≡ range_with range v → AreWidened kept old new i
    → AreWidened kept old (set new i r) (i + 1)
widened-more kept old new i v range r within here has is are = record {
  size = length-set new i r ∙ are.size;
  first = λ q d less known. at_or_off i q
      (λ same. subst (λ (n : ℕ). get_or (set new i r) n d ≡ range_with (get_or old n d) (get_or kept n 0)) same
      (get_or-set_same new i r d within ∙ (is ∙ (ap (range_with range) has ∙ ap (λ (x : Range). range_with x (get_or kept i 0)) (here ∙ (get_or_default new i range d within ∙ are.others i d (omega arith)))))))
      (λ other. get_or-set_other new i q r d (λ same. other (sym same)) ∙ are.first q d (omega (arith, other)) known);
  others = λ q d more. get_or-set_other new i q r d (λ same. omega arith) ∙ are.others q d (omega arith);
}
