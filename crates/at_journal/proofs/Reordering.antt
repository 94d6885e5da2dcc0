-- Lines in another order, which is reached where each line moves in front of lines that it may pass: it is as legal and as whole.
use Rattle.std.proofs.Common.{◌≡◌, ℕ, ◌<◌, ◌==◌, Bool, true, false, cond, List, [], ◌∷◌, ◌++◌, length, map, refl, sym, ap, subst, ◌∙◌}
use Rattle.at_journal.proofs.Prelude.{range_with_len, IsPermutation, eqb-true, All-permutation, IsPermutation-cons, IsPermutation-middle, IsPermutation-refl, IsPermutation-trans, BookTerms, Legal, Whole, lines_of, LedgerState, opening_state, Call, Line}
use Rattle.at_journal.proofs.Exchange.{AnsweredFrom, AnsweredFrom-exchange, AnsweredFrom-replies, MayPass, line_step, replies-AnsweredFrom}
use Rattle.at_journal.proofs.PairLists.{Each}

-- each line of the second list in turn stands in the first behind lines alone that it may pass, and is taken out there
unfoldable pub Reordered : List Line → List Line → Type 0
Reordered xs [] = xs ≡ []
Reordered xs (y ∷ ys) =
    (before : List Line) × (after : List Line) × (xs ≡ before ++ y ∷ after) × Each (λ x. MayPass x y) before × Reordered (before ++ after) ys

pub IsPermutation-Reordered : (xs ys : List Line) → Reordered xs ys → IsPermutation xs ys
unfolding Reordered
IsPermutation-Reordered xs [] moved = subst (λ zs. IsPermutation zs []) (sym moved) (IsPermutation-refl [])
IsPermutation-Reordered xs (y ∷ ys) moved =
    let before = moved.0 in
    let after = moved.1 in
    subst (λ zs. IsPermutation zs (y ∷ ys)) (sym moved.2)
    (IsPermutation-trans (before ++ y ∷ after) (y ∷ (before ++ after)) (y ∷ ys) (IsPermutation-middle before y after)
    (IsPermutation-cons y (before ++ after) ys (IsPermutation-Reordered (before ++ after) ys moved.4)))

-- a line moves in front of all lines that it may pass
AnsweredFrom-cut : (s : LedgerState) (before : List Line) (y : Line) (after : List Line) → Each (λ x. MayPass x y) before
    → AnsweredFrom s (before ++ y ∷ after) → AnsweredFrom s (y ∷ (before ++ after))
unfolding Each AnsweredFrom
AnsweredFrom-cut s [] y after pass answered = answered
AnsweredFrom-cut s (x ∷ before) y after pass answered =
    AnsweredFrom-exchange s x y (before ++ after) pass.0
    (answered.0, AnsweredFrom-cut (line_step s x).ledger before y after pass.1 answered.1)

AnsweredFrom-Reordered : (s : LedgerState) (xs ys : List Line) → Reordered xs ys → AnsweredFrom s xs → AnsweredFrom s ys
unfolding Reordered AnsweredFrom
AnsweredFrom-Reordered s xs [] moved answered = tt
AnsweredFrom-Reordered s xs (y ∷ ys) moved answered =
    let cut = AnsweredFrom-cut s moved.0 y moved.1 moved.3 (subst (AnsweredFrom s) moved.2 answered) in
    (cut.0, AnsweredFrom-Reordered (line_step s y).ledger (moved.0 ++ moved.1) ys moved.4 cut.1)

pub Legal-Reordered : (b : BookTerms) (xs ys : List Line) → Reordered xs ys → Legal b xs → Legal b ys
Legal-Reordered b xs ys moved legal =
    replies-AnsweredFrom (opening_state b) ys (AnsweredFrom-Reordered (opening_state b) xs ys moved (AnsweredFrom-replies (opening_state b) xs legal))

-- the lines of a process stay in their order
lines_of-cut : (p : ℕ) (before : List Line) (y : Line) (after : List Line) → Each (λ x. MayPass x y) before
    → lines_of p (before ++ y ∷ after) ≡ lines_of p (y ∷ (before ++ after))
unfolding Each
lines_of-cut p [] y after pass = refl
lines_of-cut p (x ∷ before) y after pass =
    let rest = lines_of p (before ++ after) in
    ap (λ ls. cond (x.process == p) (x ∷ ls) ls) (lines_of-cut p before y after pass.1)
    ∙ both rest (x.process == p) (y.process == p) (λ mine theirs. pass.0.apart (eqb-true x.process p mine ∙ sym (eqb-true y.process p theirs)))
  where
    both : (rest : List Line) (s t : Bool) → (s ≡ true → t ≡ true → ⊥)
        → cond s (x ∷ cond t (y ∷ rest) rest) (cond t (y ∷ rest) rest) ≡ cond t (y ∷ cond s (x ∷ rest) rest) (cond s (x ∷ rest) rest)
    both rest true true apart = absurd (apart refl refl)
    both rest true false apart = refl
    both rest false true apart = refl
    both rest false false apart = refl

lines_of-Reordered : (p : ℕ) (xs ys : List Line) → Reordered xs ys → lines_of p xs ≡ lines_of p ys
unfolding Reordered
lines_of-Reordered p xs [] moved = ap (lines_of p) moved
lines_of-Reordered p xs (y ∷ ys) moved =
    ap (lines_of p) moved.2
    ∙ (lines_of-cut p moved.0 y moved.1 moved.3
    ∙ ap (λ ls. cond (y.process == p) (y ∷ ls) ls) (lines_of-Reordered p (moved.0 ++ moved.1) ys moved.4))

pub Whole-Reordered : (files : List (List Call)) (xs ys : List Line) → Reordered xs ys → Whole files xs → Whole files ys
Whole-Reordered files xs ys moved whole = record {
  within = All-permutation (λ l. l.process < length files) xs ys (IsPermutation-Reordered xs ys moved) whole.within;
  calls = λ p within. ap (map (λ l. l.call)) (sym (lines_of-Reordered p xs ys moved)) ∙ whole.calls p within;
  numbers = λ p within.
      let same = lines_of-Reordered p xs ys moved in
      ap (map (λ l. l.number)) (sym same) ∙ (whole.numbers p within ∙ ap (λ ls. range_with_len 1 (length ls)) same);
}
