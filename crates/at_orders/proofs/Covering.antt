-- What files ask of the accounts, and a file by itself.
use Rattle.std.proofs.Common.{◌≡◌, ℕ, ◌+◌, ◌*◌, ◌<◌, List, [], length, drop, get_or, map, take, Some, refl, ap, ◌∙◌, arith}
use Rattle.std.specs.Prelude.{slice_get}
use Rattle.at_orders.proofs.Prelude.{get_or-map, length-map, length-replicate, sum_by-drop_more, get_or_from_slice_get, slice_get_within, AccountTerms, no_account, BookTerms, account_of, LedgerState, opening_state, step, Run, run_from, Call, last-take_more, run_from-nil, asked_by_call, asked_in_file}
use Rattle.at_orders.proofs.Stepping.{IsFit}

-- the ledger after the first calls of the process, so many of them, and no call of another
pub alone_at : BookTerms → ℕ → List Call → ℕ → LedgerState
alone_at b process calls count = (run_from (opening_state b) (take count (map (λ call. (process, call)) calls))).last

abbrev pub opening_of : BookTerms → ℕ → ℕ
opening_of b a = (account_of b a).opening

pub alone-none : (b : BookTerms) (p : ℕ) (calls : List Call) → alone_at b p calls 0 ≡ opening_state b
unfolding alone_at
alone-none b p calls = ap (λ (r : Run). r.last) (run_from-nil (opening_state b))

pub alone-next : (b : BookTerms) (p : ℕ) (calls : List Call) (i : ℕ) (c : Call) → slice_get calls i ≡ Some c
    → alone_at b p calls (i + 1) ≡ (step (alone_at b p calls i) p c).ledger
unfolding alone_at
alone-next b p calls i c is =
    let pair : Call → ℕ × Call = λ (d : Call). (p, d) in
    let within = slice_get_within calls i c is in
    let size = length-map calls pair in
    let here : get_or (map pair calls) i (p, c) ≡ (p, c) = get_or-map pair calls i c (p, c) within ∙ ap pair (get_or_from_slice_get calls i c c is) in
    last-take_more (opening_state b) (map pair calls) i (p, c) (omega arith)
    ∙ ap (λ (x : ℕ × Call). (step (run_from (opening_state b) (take i (map pair calls))).last x.0 x.1).ledger) here

-- at the openings
pub opening-at : (b : BookTerms) (a : ℕ) → a < length b.accounts → get_or (opening_state b).balances a 0 ≡ opening_of b a
opening-at b a a_in = get_or-map (λ (t : AccountTerms). t.opening) b.accounts a no_account 0 a_in

pub fit-opening : (b : BookTerms) → IsFit b (opening_state b)
fit-opening b = record {
  book = refl;
  balances = length-map b.accounts (λ (t : AccountTerms). t.opening);
  sent = length-replicate b.processes 0;
  asked = length-replicate (b.processes * length b.accounts) 0;
}

pub asked-drop : (b : BookTerms) (p a : ℕ) (calls : List Call) (i : ℕ) (c : Call) → slice_get calls i ≡ Some c
    → asked_in_file b p a (drop i calls) ≡ asked_by_call b p a c + asked_in_file b p a (drop (i + 1) calls)
asked-drop b p a calls i c is =
    let within = slice_get_within calls i c is in
    let same : get_or calls i c ≡ c = get_or_from_slice_get calls i c c is in
    sum_by-drop_more (asked_by_call b p a) calls i c within ∙ ap (λ (d : Call). asked_by_call b p a d + asked_in_file b p a (drop (i + 1) calls)) same

-- what the files still ask of the account
abbrev pub asked_later : BookTerms → List (List Call) → List ℕ → ℕ → ℕ → ℕ
asked_later b files made a q = asked_in_file b q a (drop (get_or made q 0) (get_or files q []))
