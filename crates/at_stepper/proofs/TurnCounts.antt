-- Counts of turns: those that a process's turns have answered.
use Rattle.std.proofs.Common.{◌≡◌, ℕ, ◌+◌, ◌<◌, ◌==◌, ◌&&◌, Bool, cond, List, [], ◌∷◌, ◌++◌, length, sym, ap, arith}
use Rattle.std.specs.Prelude.{is_some}
use Rattle.at_stepper.proofs.Prelude.{sum_by_push, answers_in, reply_in, answered_by, TurnMade, Turned, Answer, Step}

-- an element of a list that has one
pub some_of : {X : Type 0} (xs : List X) (p : ℕ) → p < length xs → X
some_of [] p within = absurd (omega (arith, within))
some_of (x ∷ xs) p within = x

-- how many calls a turn answers
pub answers-cond : (turned : Turned) (answered : Bool) → answered ≡ (answers_in turned == 1) → answers_in turned ≡ cond answered 1 0
answers-cond Step answered is = sym (ap {B = ℕ} (λ (t : Bool). cond t 1 0) is)
answers-cond (Answer r) answered is = sym (ap {B = ℕ} (λ (t : Bool). cond t 1 0) is)

-- a turn has a reply where it answers a call
pub is_some-reply : (turned : Turned) (t : TurnMade) → t.reply ≡ reply_in turned → is_some t.reply ≡ (answers_in turned == 1)
is_some-reply Step t is = ap is_some is
is_some-reply (Answer r) t is = ap is_some is

-- one more turn answers a call of its process where it answers, and none of another
pub answered_by-push : (q : ℕ) (turns : List TurnMade) (t : TurnMade)
    → answered_by q (turns ++ t ∷ []) ≡ answered_by q turns + cond ((t.process == q) && is_some t.reply) 1 0
answered_by-push q turns t = sum_by_push (λ (x : TurnMade). cond ((x.process == q) && is_some x.reply) 1 0) turns t
