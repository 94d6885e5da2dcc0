-- A record that may be published next has room in its log.
use Rattle.std.proofs.Common.{◌≡◌, ℕ, ◌<◌, List, sym, subst, arith, inl, inr}
use Rattle.at_board.proofs.Prelude.{All-contains, All-from_get_or, Decision, rounds_room, BookTerms, account_of, log_room_of, TargetPair, count_of-own_room, count_of-round_room, published, prefix_of, IsShownDecision, IsHistory, count_of, no_publication, HasView, IsSoundRound, Entry, Own, Round, Publication, DecisionInRange, SeesInRange, own_part, IsSeat, KnowsRound, MayEnter, Knowledge}

-- an account has room for a round that a seat knows
round-KnowsRound : (v : Knowledge) (a r : ℕ) (d : Decision) (targets : List TargetPair) → IsHistory v.book v.seen → SeesInRange v
    → KnowsRound v a r d targets → r < rounds_room v.book.request_room (account_of v.book a)
round-KnowsRound v a r d targets history sees (inl (decided, named)) =
    (All-contains (DecisionInRange v.book) v.decisions (record { account = a; round = r; decision = d }) sees.decisions decided).room
round-KnowsRound v a r d targets history sees (inr (x, seen, says)) =
    let P : Publication → Type 0 = λ y. IsShownDecision v.book v.seen y.entry in
    let law : IsShownDecision v.book v.seen (Round a r d targets) =
    subst (IsShownDecision v.book v.seen) says (All-contains P v.seen x (All-from_get_or P v.seen no_publication history.decisions) seen) in
    law.room

-- and for each record that may come next
count_of-MayEnter : (v : Knowledge) (p : ℕ) (view : List ℕ) (e : Entry) → IsHistory v.book v.seen → SeesInRange v → p ≡ v.first
    → HasView v.book v.seen (published p view e) → MayEnter v.book v (prefix_of view v.seen) e → count_of v.first v.seen < log_room_of v.book v.first
count_of-MayEnter v p view (Own from targets) history sees process has law = count_of-own_room v.book v.seen v.first history law.1
count_of-MayEnter v p view (Round a r d targets) history sees process has law =
    let b : BookTerms = v.book in
    let x : Publication = published p view (Round a r d targets) in
    let sound : IsSoundRound b p (prefix_of view v.seen) a r = subst (λ t. IsSoundRound b t (prefix_of view v.seen) a r) (sym process) law.0 in
    subst (λ t. count_of t v.seen < log_room_of b t) process
    (count_of-round_room b v.seen x a r history has sound (round-KnowsRound v a r d targets history sees law.1))

-- so the log of a seat's process has room for what the seat may publish
pub published-MayEnter : (v : Knowledge) (x : Publication) (process published : ℕ) → IsSeat v process published
    → x.process ≡ v.first → HasView v.book v.seen x → MayEnter v.book v (prefix_of x.view v.seen) x.entry
    → (own_part v).published < log_room_of v.book v.first
published-MayEnter v x process published seat is has law =
    omega (arith, seat.own, seat.published_is, count_of-MayEnter v x.process x.view x.entry seat.history seat.in_range is has law)
