-- A turn of its parts: a snapshot, and where the own request is unsettled at its cut one round.
use Rattle.std.proofs.Common.{◌≡◌, ◌≢◌, ℕ, ◌+◌, ◌≤◌, List, [], ◌++◌, None, sym, ap, subst, ◌∙◌, arith}
use Rattle.at_payments.proofs.Prelude.{Decision, slots_of, BookTerms, account_of, Reply, rounds-IsPrefix, place, prefix_of, IsPrefix, rounds, AgreesWithSeen, own_part, IsKept, Asking, Knowledge, LoadedWord, Part, IsDecidedIn, IsPlaced, asks_in, At, Receipt, HasAccount, loaded_words, seen_of, DecidesNext, FindsSettled, HelpsDecide, IsAnswerOf, NamesOwn, HelpingTerms, IsHelping, IsHelpingAt, decides_on, heard_on, OnReceipts, StandsAfter, HasLoaded, IsSnapshot}
use Rattle.at_payments.proofs.SharedLaws.After.{HasAccount-IsAfter, IsAfter, IsAfter-HasLoaded, IsAfter-trans, own_part-HasLoaded}
use Rattle.at_payments.proofs.SharedLaws.Kept.{IsHelpingAt-IsAfter}
use Rattle.at_payments.proofs.SharedLaws.Placing.{IsPlaced-IsSettledBy, IsSettledBy, IsSettledBy-IsDecidedIn, StandsAfter-IsSettledBy, is_settled-IsDecidedIn}
use Rattle.at_payments.proofs.SharedLaws.Started.{place-IsSnapshot-le}
use Rattle.at_payments.proofs.SharedLaws.Turning.{IsAfter-DecidesNext, IsHelping-DecidesNext, IsSettledBy-DecidesNext, free-DecidesNext, overtaken-DecidesNext, published-DecidesNext, rounds-DecidesNext}

module _ (b : BookTerms) (v w : Knowledge) (h : HelpingTerms) (cut : List ℕ) (has : HasAccount v h.account) (snapshot : IsSnapshot b v w cut)
    (loads : HasLoaded b v w) (is : IsHelping b v h) where
  after_look : IsAfter v w h.account 0 []
  after_look = IsAfter-HasLoaded b v w h.account has.part loads

  pub HasAccount-turn : HasAccount w h.account
  HasAccount-turn = HasAccount-IsAfter v w h.account 0 [] after_look has

  -- the helping waits at the cut
  pub IsHelpingAt-turn : IsHelpingAt b w (prefix_of cut w.seen) h
  IsHelpingAt-turn =
      IsHelpingAt-IsAfter b v w v.seen (prefix_of cut w.seen) h 0 [] after_look
      (ap (λ (q : Part). q.held) (own_part-HasLoaded b v w has.part loads) ∙ is.free) snapshot.begins (λ l there. absurd (omega (arith, there.1))) is

  -- where its request is decided in the cut's records, the turn has found it settled
  pub FindsSettled-turn : (r : ℕ) (d : Decision) → IsDecidedIn (prefix_of cut w.seen) h.account h.own.slot h.own.number r d → FindsSettled b v w h
  FindsSettled-turn r d found = record {
    cut = cut;
    snapshot = snapshot;
    loads = loads;
    settled = is_settled-IsDecidedIn (prefix_of cut w.seen) h.account h.own.slot h.own.number r d found;
  }

  -- and that round's receipts are right, and stand at or after the request's `since`
  module _ (r : ℕ) (d : Decision) (answer : Reply × At) (agrees : AgreesWithSeen w)
      (found : IsDecidedIn (prefix_of cut w.seen) h.account h.own.slot h.own.number r d) (so : IsAnswerOf r d answer) where
    pub IsPlaced-turn-found : OnReceipts h.account h.own.targets answer
        (λ receipt. (earlier : List Receipt) → asks_in h.account earlier ≡ h.own.number → IsPlaced b w.first w.seen earlier receipt)
    IsPlaced-turn-found =
        IsPlaced-IsSettledBy b w (prefix_of cut w.seen) h r d loads.history agrees IsHelpingAt-turn
        (IsSettledBy-IsDecidedIn w h r (place cut) d found) answer so

    pub StandsAfter-turn-found : OnReceipts h.account h.own.targets answer (StandsAfter h.own.since w)
    StandsAfter-turn-found =
        StandsAfter-IsSettledBy b w (prefix_of cut w.seen) h r d loads.history agrees IsHelpingAt-turn
        (IsSettledBy-IsDecidedIn w h r (place cut) d found) answer so

  -- else it decides and publishes one round
  module _ (z : Knowledge) (d : Decision) (next : DecidesNext b w z h cut d) where
    pub HelpsDecide-turn : HelpsDecide b v z h d
    HelpsDecide-turn = record { cut = cut; looked = w; snapshot = snapshot; loads = loads; next = next }

    abbrev words_loaded : List LoadedWord
    words_loaded = loaded_words (seen_of h.account next.publishes.request) ++ []

    after_turn : IsAfter v z h.account 1 words_loaded
    after_turn = IsAfter-trans v w z h.account 0 1 [] words_loaded after_look (IsAfter-DecidesNext b w z h cut d next HasAccount-turn)

    -- the request is waited for still
    pub IsHelping-turn : IsHelping b z h
    IsHelping-turn = IsHelping-DecidesNext b w z h cut d next HasAccount-turn IsHelpingAt-turn

    pub free-turn : (own_part z).held ≡ None
    free-turn = free-DecidesNext b w z h cut d next HasAccount-turn

    pub begins-turn : IsPrefix v.seen z.seen
    begins-turn = after_turn.more

    pub process-turn : z.first ≡ v.first
    process-turn = after_turn.first

    pub decides-turn : decides_on z h.account ≡ decides_on v h.account + 1
    decides-turn = ap (λ (t : Asking). t.decides) after_turn.asking

    pub decides_elsewhere-turn : (a : ℕ) → a ≢ h.account → decides_on z a ≡ decides_on v a
    decides_elsewhere-turn a other = ap (λ (t : Asking). t.decides) (after_turn.elsewhere a other)

    pub heard-turn : heard_on z h.account ≡ heard_on v h.account
    heard-turn = ap (λ (t : Asking). t.heard) after_turn.asking

    pub published-turn : (own_part z).published ≡ (own_part v).published + 1
    published-turn =
        published-DecidesNext b w z h cut d next HasAccount-turn
        ∙ ap (λ (q : Part). q.published + 1) (own_part-HasLoaded b v w has.part loads)

    -- one round more
    pub rounds-turn : rounds h.account v.seen + 1 ≤ rounds h.account z.seen
    rounds-turn =
        omega (
          arith,
          rounds-IsPrefix h.account v.seen (prefix_of cut w.seen) snapshot.begins,
          rounds-DecidesNext b w z h cut d next HasAccount-turn,
        )

    -- and where another request was decided, one is left at least of those that may be decided before it
    pub overtaken-turn : IsKept z → z.book ≡ b → ¬ NamesOwn h d
        → rounds h.account v.seen + 2 ≤ heard_on v h.account + slots_of (account_of b h.account)
    overtaken-turn kept book other =
        omega (
          arith,
          rounds-IsPrefix h.account v.seen (prefix_of cut w.seen) snapshot.begins,
          overtaken-DecidesNext b w z h cut d next HasAccount-turn (place-IsSnapshot-le b v w cut snapshot loads) kept book IsHelpingAt-turn other,
          heard-turn,
        )

    -- where the own request was, the receipts of that round are right, and stand at or after the request's `since`
    module _ (r : ℕ) (answer : Reply × At) (agrees : AgreesWithSeen z) (round : r ≡ rounds h.account (prefix_of cut w.seen)) (own : NamesOwn h d)
        (so : IsAnswerOf r d answer) where
      settled_by : IsSettledBy z h r d
      settled_by = subst (λ k. IsSettledBy z h k d) (sym round) (IsSettledBy-DecidesNext b w z h cut d next HasAccount-turn own)

      pub IsPlaced-turn-own : OnReceipts h.account h.own.targets answer
          (λ receipt. (earlier : List Receipt) → asks_in h.account earlier ≡ h.own.number → IsPlaced b z.first z.seen earlier receipt)
      IsPlaced-turn-own = IsPlaced-IsSettledBy b z z.seen h r d next.publishes.published.history agrees IsHelping-turn settled_by answer so

      pub StandsAfter-turn-own : OnReceipts h.account h.own.targets answer (StandsAfter h.own.since z)
      StandsAfter-turn-own = StandsAfter-IsSettledBy b z z.seen h r d next.publishes.published.history agrees IsHelping-turn settled_by answer so
