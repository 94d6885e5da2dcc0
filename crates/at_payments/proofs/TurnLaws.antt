-- What a turn leaves of what its seat knows, by what it answers.
use Rattle.std.proofs.Common.{◌≡◌, ◌≢◌, ℕ, ◌+◌, ◌≤◌, List, [], None, refl, ap, ◌∙◌, arith, inl, inr}
use Rattle.at_payments.proofs.Prelude.{Decision, slots_of, BookTerms, account_of, Reply, prefix_of, IsPrefix, rounds, AgreesWithSeen, own_part, IsKept, Asking, Knowledge, Part, IsDecidedIn, IsPlaced, asks_in, At, Receipt, HasAccount, AnswersRound, DecidesNext, HelpAnswers, IsAnswerOf, OnSettled, OnSettledCalls, HelpingTerms, IsHelping, decides_on, heard_on, StandsAfter, StandsInRound, HelpTurn, Settled, More, HasLoaded, IsSnapshot}
use Rattle.at_payments.proofs.SharedLaws.After.{IsAfter, IsAfter-HasLoaded, own_part-HasLoaded}
use Rattle.at_payments.proofs.SharedLaws.Placing.{StandsInRound-IsAnswerOf}
use Rattle.at_payments.proofs.SharedLaws.Turned.{FindsSettled-turn, HelpsDecide-turn, IsHelping-turn, IsPlaced-turn-found, IsPlaced-turn-own, StandsAfter-turn-found, StandsAfter-turn-own, begins-turn, decides-turn, decides_elsewhere-turn, free-turn, heard-turn, overtaken-turn, process-turn, published-turn, rounds-turn}

-- a turn for a helping has answered so, with so many exchanges on its account and as many records published
pub record IsTurned (b : BookTerms) (v z : Knowledge) (h : HelpingTerms) (turn : HelpTurn) (n : ℕ) : Type 0 where
  pub answers : HelpAnswers b v z h turn
  pub in_round : OnSettled turn StandsInRound
  pub placed : OnSettledCalls h turn (λ r. (earlier : List Receipt) → asks_in h.account earlier ≡ h.own.number → IsPlaced b z.first z.seen earlier r)
  pub after_start : OnSettledCalls h turn (StandsAfter h.own.since z)
  pub helping : turn ≡ More → IsHelping b z h
  pub rounds_more : turn ≡ More → rounds h.account v.seen + 1 ≤ rounds h.account z.seen
  pub overtaken : turn ≡ More → rounds h.account v.seen + 2 ≤ heard_on v h.account + slots_of (account_of b h.account)
  pub heard : heard_on z h.account ≡ heard_on v h.account
  pub free : (own_part z).held ≡ None
  pub begins : IsPrefix v.seen z.seen
  pub process : z.first ≡ v.first
  pub decides : decides_on z h.account ≡ decides_on v h.account + n
  pub elsewhere : (a : ℕ) → a ≢ h.account → decides_on z a ≡ decides_on v a
  pub published : (own_part z).published ≡ (own_part v).published + n

module _ (b : BookTerms) (v w : Knowledge) (h : HelpingTerms) (cut : List ℕ) (has : HasAccount v h.account) (snapshot : IsSnapshot b v w cut)
    (loads : HasLoaded b v w) (is : IsHelping b v h) where
  -- the request was settled at the cut
  pub IsTurned-found : (r : ℕ) (d : Decision) (answer : Reply × At) → AgreesWithSeen w
      → IsDecidedIn (prefix_of cut w.seen) h.account h.own.slot h.own.number r d → IsAnswerOf r d answer → IsTurned b v w h (Settled answer) 0
  IsTurned-found r d answer agrees found so =
      let after : IsAfter v w h.account 0 [] = IsAfter-HasLoaded b v w h.account has.part loads in
      let own = own_part-HasLoaded b v w has.part loads in
      let published : (own_part w).published ≡ (own_part v).published = ap (λ (q : Part). q.published) own in
      record {
        answers = inl (FindsSettled-turn b v w h cut has snapshot loads is r d found);
        in_round = StandsInRound-IsAnswerOf r d answer so;
        placed = IsPlaced-turn-found b v w h cut has snapshot loads is r d answer agrees found so;
        after_start = StandsAfter-turn-found b v w h cut has snapshot loads is r d answer agrees found so;
        helping = λ more. absurd (cc more);
        rounds_more = λ more. absurd (cc more);
        overtaken = λ more. absurd (cc more);
        heard = ap (λ (t : Asking). t.heard) after.asking;
        free = ap (λ (q : Part). q.held) own ∙ is.free;
        begins = after.more;
        process = after.first;
        decides = ap (λ (t : Asking). t.decides) after.asking;
        elsewhere = λ a other. ap (λ (t : Asking). t.decides) (after.elsewhere a other);
        published = omega (arith, published);
      }

  -- a round was decided and published
  module _ (z : Knowledge) (d : Decision) (next : DecidesNext b w z h cut d) (kept : IsKept z) (book : z.book ≡ b) where
    abbrev round : ℕ
    round = rounds h.account (prefix_of cut w.seen)

    answers-decided : (turn : HelpTurn) → AnswersRound h round d turn → HelpAnswers b v z h turn
    answers-decided (Settled answer) (own, so) = inr (d, HelpsDecide-turn b v w h cut has snapshot loads is z d next, own)
    answers-decided More other = (d, HelpsDecide-turn b v w h cut has snapshot loads is z d next, other)

    in_round-decided : (turn : HelpTurn) → AnswersRound h round d turn → OnSettled turn StandsInRound
    in_round-decided (Settled answer) (own, so) = StandsInRound-IsAnswerOf round d answer so
    in_round-decided More other = tt

    placed-decided : (turn : HelpTurn) → AnswersRound h round d turn
        → OnSettledCalls h turn (λ r. (earlier : List Receipt) → asks_in h.account earlier ≡ h.own.number → IsPlaced b z.first z.seen earlier r)
    placed-decided (Settled answer) (own, so) = IsPlaced-turn-own b v w h cut has snapshot loads is z d next round answer kept.agrees refl own so
    placed-decided More other = tt

    after_start-decided : (turn : HelpTurn) → AnswersRound h round d turn → OnSettledCalls h turn (StandsAfter h.own.since z)
    after_start-decided (Settled answer) (own, so) = StandsAfter-turn-own b v w h cut has snapshot loads is z d next round answer kept.agrees refl own so
    after_start-decided More other = tt

    overtaken-decided : (turn : HelpTurn) → AnswersRound h round d turn → turn ≡ More
        → rounds h.account v.seen + 2 ≤ heard_on v h.account + slots_of (account_of b h.account)
    overtaken-decided (Settled answer) told more = absurd (cc more)
    overtaken-decided More other more = overtaken-turn b v w h cut has snapshot loads is z d next kept book other

    pub IsTurned-decided : (turn : HelpTurn) → AnswersRound h round d turn → IsTurned b v z h turn 1
    IsTurned-decided turn told = record {
      answers = answers-decided turn told;
      in_round = in_round-decided turn told;
      placed = placed-decided turn told;
      after_start = after_start-decided turn told;
      helping = λ more. IsHelping-turn b v w h cut has snapshot loads is z d next;
      rounds_more = λ more. rounds-turn b v w h cut has snapshot loads is z d next;
      overtaken = overtaken-decided turn told;
      heard = heard-turn b v w h cut has snapshot loads is z d next;
      free = free-turn b v w h cut has snapshot loads is z d next;
      begins = begins-turn b v w h cut has snapshot loads is z d next;
      process = process-turn b v w h cut has snapshot loads is z d next;
      decides = decides-turn b v w h cut has snapshot loads is z d next;
      elsewhere = decides_elsewhere-turn b v w h cut has snapshot loads is z d next;
      published = published-turn b v w h cut has snapshot loads is z d next;
    }
