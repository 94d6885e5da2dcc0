-- Runs of the ledger, one after another.
use Rattle.std.proofs.Common.{◌≡◌, ℕ, ◌+◌, ◌<◌, List, [], ◌∷◌, ◌++◌, Bool, true, false, cond, length, get_or, take, refl, ap, ◌∙◌, rules}
use Rattle.at_ledger.proofs.Prelude.{take_more, TargetPair, BookTerms, LedgerState, Step, step, pay, Run, run_after, run_from, Call, Transfer, Read, Pay}

-- no call
pub run_from-nil : (s : LedgerState) → run_from s [] ≡ record { replies = []; last = s }
unfolding run_from
run_from-nil s = refl

-- the first call, and then the others from the state after it
pub run_from-cons : (s : LedgerState) (call : ℕ × Call) (calls : List (ℕ × Call))
    → run_from s (call ∷ calls)
    ≡ run_after (step s call.0 call.1).reply (run_from (step s call.0 call.1).ledger calls)
unfolding run_from
run_from-cons s call calls = refl

-- a run and then another from its last state
abbrev pub run_then : Run → List (ℕ × Call) → Run
run_then r calls = record { replies = r.replies ++ (run_from r.last calls).replies; last = (run_from r.last calls).last }

pub run_from-append : (s : LedgerState) (xs ys : List (ℕ × Call)) → run_from s (xs ++ ys) ≡ run_then (run_from s xs) ys
unfolding run_from
run_from-append s [] ys = refl
run_from-append s (x ∷ xs) ys = ap (run_after (step s x.0 x.1).reply) (run_from-append (step s x.0 x.1).ledger xs ys)

pub replies-append : (s : LedgerState) (xs ys : List (ℕ × Call))
    → (run_from s (xs ++ ys)).replies ≡ (run_from s xs).replies ++ (run_from (run_from s xs).last ys).replies
replies-append s xs ys = ap (λ r. r.replies) (run_from-append s xs ys)

pub last-append : (s : LedgerState) (xs ys : List (ℕ × Call))
    → (run_from s (xs ++ ys)).last ≡ (run_from (run_from s xs).last ys).last
last-append s xs ys = ap (λ r. r.last) (run_from-append s xs ys)

-- one more call after a run
pub replies-push : (s : LedgerState) (calls : List (ℕ × Call)) (call : ℕ × Call)
    → (run_from s (calls ++ call ∷ [])).replies
    ≡ (run_from s calls).replies ++ (step (run_from s calls).last call.0 call.1).reply ∷ []
unfolding run_from
replies-push s calls call = replies-append s calls (call ∷ [])

pub last-push : (s : LedgerState) (calls : List (ℕ × Call)) (call : ℕ × Call)
    → (run_from s (calls ++ call ∷ [])).last ≡ (step (run_from s calls).last call.0 call.1).ledger
unfolding run_from
last-push s calls call = last-append s calls (call ∷ [])

pub last-take_more : (s : LedgerState) (calls : List (ℕ × Call)) (i : ℕ) (d : ℕ × Call) → i < length calls
    → (run_from s (take (i + 1) calls)).last
    ≡ (step (run_from s (take i calls)).last (get_or calls i d).0 (get_or calls i d).1).ledger
last-take_more s calls i d within =
    ap (λ cs. (run_from s cs).last) (take_more calls i d within) ∙ last-push s (take i calls) (get_or calls i d)

-- whichever of two steps is taken, the book is this one
book-cond : (b : Bool) (x y : Step) (book : BookTerms) → x.ledger.book ≡ book → y.ledger.book ≡ book
    → (cond b x y).ledger.book ≡ book
book-cond true x y book first second = first
book-cond false x y book first second = second

book-counted : (b : Bool) (x y : LedgerState) (book : BookTerms) → x.book ≡ book → y.book ≡ book → (cond b x y).book ≡ book
book-counted true x y book first second = first
book-counted false x y book first second = second

book-pay : (s : LedgerState) (process source : ℕ) (targets : List TargetPair) → (pay s process source targets).ledger.book ≡ s.book
book-pay s process source targets = search (rules, book-cond, book-counted)

-- no call changes the book
pub book-step : (s : LedgerState) (process : ℕ) (call : Call) → (step s process call).ledger.book ≡ s.book
book-step s process (Transfer from to amount) = book-pay s process from ((to, amount) ∷ [])
book-step s process (Read account) = refl
book-step s process (Pay from targets) = book-pay s process from targets

pub book-run_from : (s : LedgerState) (calls : List (ℕ × Call)) → (run_from s calls).last.book ≡ s.book
unfolding run_from
book-run_from s [] = refl
book-run_from s (x ∷ xs) = book-run_from (step s x.0 x.1).ledger xs ∙ book-step s x.0 x.1
