-- What a seat has seen is so on the board, and agrees, since one sound state has it all.
use Rattle.std.proofs.Common.{List, subst, ◌≡◌, ℕ, ◌<◌, ◌≤◌, length, sym, ap, ◌∙◌}
use Rattle.at_board.proofs.Prelude.{All-contains, All, Contains, Decision, BookTerms, same_round, each_record, BoardState, decision_at, publication_at, request_at, prefix_of, IsSoundDecision, IsSoundEntry, Sound, Entry, Own, Round, Publication, Request, AgreesOnDecision, AgreesOnEntry, AgreesWithSeen, IsAnnounced, IsDecided, Knows, SeesDecision, SeesRequest, SeenDecision, SeenRequest, Knowledge}

-- what a seat has seen is so on the board
pub seen_decision : (s : BoardState) (ds : List SeenDecision) (x : SeenDecision) → All (IsDecided s) ds → Contains ds x → IsDecided s x
seen_decision s ds x all (k, within, same) = subst (IsDecided s) same (all k x within)

pub seen_request : (s : BoardState) (rs : List SeenRequest) (x : SeenRequest) → All (IsAnnounced s) rs → Contains rs x → IsAnnounced s x
seen_request s rs x all (k, within, same) = subst (IsAnnounced s) same (all k x within)

-- a request that was seen is the board's
request-seen : (b : BookTerms) (words : List ℕ) (s : BoardState) (v : Knowledge) (a slot number : ℕ) (r : Request) → Knows b words s v
    → SeesRequest v a slot number r → request_at (s.rows a slot) number ≡ r
request-seen b words s v a slot number r knows sees =
    (All-contains (IsAnnounced s) v.requests (record { account = a; slot = slot; number = number; request = r }) knows.requests sees).1

-- a decision that was seen is the board's
decision-seen : (b : BookTerms) (words : List ℕ) (s : BoardState) (v : Knowledge) (a round : ℕ) (d : Decision) → Knows b words s v
    → SeesDecision v a round d → (round < length (s.cells a)) × (decision_at (s.cells a) round ≡ d)
decision-seen b words s v a round d knows sees =
    All-contains (IsDecided s) v.decisions (record { account = a; round = round; decision = d }) knows.decisions sees

AgreesOnDecision-Knows : (b : BookTerms) (words : List ℕ) (s : BoardState) (v : Knowledge) (a round : ℕ) (d : Decision) → Sound b s → Knows b words s v
    → round < length (s.cells a) → decision_at (s.cells a) round ≡ d → AgreesOnDecision v a round d
AgreesOnDecision-Knows b words s v a round d sound knows within decided =
    let law : IsSoundDecision b s a round d = subst (IsSoundDecision b s a round) decided (sound.decisions a round within) in
    record {
      same = λ e sees. sym (decision-seen b words s v a round e knows sees).1 ∙ decided;
      once = λ other e sees slot number.
          let is = decision-seen b words s v a other e knows sees in
          same_round b s a other round sound is.0 within
          (ap (λ (t : Decision). t.slot) is.1 ∙ (slot ∙ sym (ap (λ (t : Decision). t.slot) decided)))
          (ap (λ (t : Decision). t.number) is.1 ∙ (number ∙ sym (ap (λ (t : Decision). t.number) decided)));
      since = λ r sees. subst (λ (q : Request). q.since ≤ d.place) (request-seen b words s v a d.slot d.number r knows sees) law.since;
    }

AgreesOnEntry-Knows : (b : BookTerms) (words : List ℕ) (s : BoardState) (v : Knowledge) (p : ℕ) (prefix : List Publication) (e : Entry) → Sound b s
    → Knows b words s v → IsSoundEntry b s p prefix e → AgreesOnEntry v e
AgreesOnEntry-Knows b words s v p prefix (Own from targets) sound knows law = tt
AgreesOnEntry-Knows b words s v p prefix (Round a round d targets) sound knows law = (
  AgreesOnDecision-Knows b words s v a round d sound knows law.1.decided law.1.decision,
  λ r sees. sym (ap (λ (q : Request). q.targets) (request-seen b words s v a d.slot d.number r knows sees)) ∙ law.1.same_targets,
)

pub AgreesWithSeen-Knows : (b : BookTerms) (words : List ℕ) (s : BoardState) (v : Knowledge) → Sound b s → Knows b words s v → AgreesWithSeen v
AgreesWithSeen-Knows b words s v sound knows = record {
  requests = λ a slot number r q one other.
      sym (request-seen b words s v a slot number r knows one) ∙ request-seen b words s v a slot number q knows other;
  decisions = λ a round d sees.
      let is = decision-seen b words s v a round d knows sees in
      AgreesOnDecision-Knows b words s v a round d sound knows is.0 is.1;
  records =
      each_record (λ x. AgreesOnEntry v x.entry) v.seen s.published knows.seen
      (λ m inside.
      let x : Publication = publication_at s.published m in
      AgreesOnEntry-Knows b words s v x.process (prefix_of x.view s.published) x.entry sound knows (sound.entries m inside));
}
