use Rattle.at_report.proofs.Prelude.{common_steps, Decides-eqb, append_cancel_left, strip_prefix_is, IsFirstWord}
use Rattle.std.proofs.Common.{◌≡◌, ℕ, ◌==◌, true, false, Some, None, List, ◌∷◌, [], ◌++◌, length, get_or, refl, sym, ap, ◌∙◌, arith}
use Rattle.at_report.proofs.first_word.begins_with.Goals as goal

-- what follows the word
record Follows (rest : List ℕ) : Type 0 where
  after : List ℕ
  is : rest ≡ 32 ∷ after

follows : (text word rest : List ℕ) → text ≡ word ++ rest → IsFirstWord word text → Follows rest
follows text word rest is (after, begins) = record { after = after; is = append_cancel_left word rest (32 ∷ after) (sym is ∙ begins) }

first_word : (text word rest : List ℕ) → text ≡ word ++ rest → length rest == 0 ≡ false → (get_or rest 0 0 == 32 ≡ true) → IsFirstWord word text
first_word text word [] is some space = absurd (cc)
first_word text word (byte ∷ after) is some space =
    let same : byte ≡ 32 = (Decides-eqb byte 32).0 space in
    (after, is ∙ ap (λ (b : ℕ). word ++ b ∷ after) same)

pub returns-in_default : goal.returns-in_default
returns-in_default c =
    let none = strip_prefix_is Decides-eqb c.args.text.now c.args.word.now None c.in_default.ensures.cases in
    ((λ wrong. absurd (cc)), (λ first. absurd (none (32 ∷ first.0) first.1)))

pub returns-then-not-is_empty : goal.returns-then-not-is_empty
returns-then-not-is_empty c =
    let is = strip_prefix_is Decides-eqb c.args.text.now c.args.word.now (Some c.in-Some.rest) c.in-Some.ensures.cases in
    let some : length c.in-Some.rest.now == 0 ≡ false = sym (c.if-not-is_empty.ensures) in (
      (λ space. first_word c.args.text.now c.args.word.now c.in-Some.rest.now is some space),
      (λ first. let found = follows c.args.text.now c.args.word.now c.in-Some.rest.now is first in rw found.is refl),
    )

pub returns-else-not-is_empty : goal.returns-else-not-is_empty
returns-else-not-is_empty c = grind (arith, common_steps)
