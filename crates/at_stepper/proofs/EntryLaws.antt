-- Whose the turns of a schedule are: of processes that it names, and of all in turn.
use Rattle.std.proofs.Common.{ℕ, zero, suc, ◌<◌, ◌++◌, List, [], ◌∷◌, All, length, length-append, refl, subst, arith}
use Rattle.at_stepper.proofs.Prelude.{get_or_append_left, get_or_push, length_push, All-append, All-nil, All-push, get_or-range_with_len, length-range_with_len, range_with_len, Call, AreTurnsBy, AreTurnsOf, rounds_of_turns, none, idle, turn, TurnMade}

-- what holds of all elements of a list holds of the first ones, and of the last
All-begin : {X : Type 0} (P : X → Type 0) (xs ys : List X) → All P (xs ++ ys) → All P xs
All-begin P xs ys all k d within = subst P (get_or_append_left xs ys d k within) (all k d (omega (arith, within, length-append xs ys)))

All-last : {X : Type 0} (P : X → Type 0) (xs : List X) (x : X) → All P (xs ++ x ∷ []) → P x
All-last P xs x all = subst P (get_or_push xs x x (length xs) refl) (all (length xs) x (omega (arith, length_push xs x)))

known-rounds_of_turns : (n times : ℕ) → All (λ p. p < n) (rounds_of_turns n times)
unfolding rounds_of_turns
known-rounds_of_turns n zero = All-nil (λ p. p < n)
known-rounds_of_turns n (suc times) =
    All-append (λ p. p < n) (rounds_of_turns n times) (range_with_len 0 n) (known-rounds_of_turns n times)
    (λ k d within. omega (arith, within, length-range_with_len 0 n, get_or-range_with_len 0 n k d (omega (arith, within, length-range_with_len 0 n))))

known-AreTurnsBy : (files : List (List Call)) (n : ℕ) (entries : List ℕ) (turns : List TurnMade) → AreTurnsBy files entries turns
    → All (λ p. p < n) entries → All (λ (t : TurnMade). t.process < n) turns
known-AreTurnsBy files n _ _ none known = All-nil (λ (t : TurnMade). t.process < n)
known-AreTurnsBy files n _ _ (idle entries turns p were still) known =
    known-AreTurnsBy files n entries turns were (All-begin (λ p. p < n) entries (p ∷ []) known)
known-AreTurnsBy files n _ _ (turn entries turns t were busy) known =
    All-push (λ (t : TurnMade). t.process < n) turns t
    (known-AreTurnsBy files n entries turns were (All-begin (λ p. p < n) entries (t.process ∷ []) known))
    (All-last (λ p. p < n) entries t.process known)

-- each turn of a schedule is of a process that has a file
pub known-AreTurnsOf : (files : List (List Call)) (schedule : List ℕ) (turns : List TurnMade) → AreTurnsOf files schedule turns
    → All (λ p. p < length files) schedule → All (λ (t : TurnMade). t.process < length files) turns
known-AreTurnsOf files schedule turns are known =
    known-AreTurnsBy files (length files) _ turns are.made
    (All-append (λ p. p < length files) schedule (rounds_of_turns (length files) are.times) known (known-rounds_of_turns (length files) are.times))
