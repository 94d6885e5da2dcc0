-- What a turn of helping does, and when it answers what.
use Rattle.std.specs.Prelude.{◌≡◌, ℕ, ◌⊎◌, true, false, List, if◌then◌else◌}
use Rattle.at_payments.specs.Prelude.{Decision, BookTerms, TargetPair, Reply, Done, Short, place, prefix_of, is_settled, rounds, Entry, Publication, Request, MayPropose, Publishes, Knowledge, At, Receipt, DecidesAs, LoadsRequest, OpenRequest, HasLoaded, IsSnapshot}
use Rattle.at_payments.specs.HelpingTerms.{HelpingTerms}
use Rattle.at_payments.specs.Settling.{OnReceipts}
use Rattle.at_payments.specs.declared.helping.HelpTurn.{HelpTurn}
use Rattle.at_payments.specs.declared.helping.HelpTurn.TheVariants.{Settled, More}

-- the record of a round by a process, with this view
abbrev pub round_record : ℕ → List ℕ → ℕ → ℕ → Decision → List TargetPair → Publication
round_record process view a round d targets = record { process = process; view = view; entry = Entry.Round a round d targets }

-- the request that a decision names was loaded, and the round's record published with this view
pub record PublishesRound (b : BookTerms) (before after : Knowledge) (a round : ℕ) (d : Decision) (view : List ℕ) : Type 0 where
  pub loaded : Knowledge
  pub request : OpenRequest
  pub loads : LoadsRequest b before loaded a d.slot d.number request
  pub published : Publishes b loaded after (round_record loaded.first view a round d request.targets)

-- one round was decided and published: where the own request was unsettled at the cut, an exchange was made on the cell of the
-- next round there, with a proposal for that cut that the seat may make, and the round was published with that cut as its
-- view
pub record DecidesNext (b : BookTerms) (looked after : Knowledge) (h : HelpingTerms) (cut : List ℕ) (d : Decision) : Type 0 where
  pub unsettled : is_settled h.account h.own.slot h.own.number (prefix_of cut looked.seen) ≡ false
  pub proposal : Decision
  pub at_cut : proposal.place ≡ place cut
  pub may : (r : Request) × MayPropose b looked h.account (rounds h.account (prefix_of cut looked.seen)) proposal r
  pub decided : Knowledge
  pub decides : DecidesAs b looked decided h.account (rounds h.account (prefix_of cut looked.seen)) proposal d
  pub publishes : PublishesRound b decided after h.account (rounds h.account (prefix_of cut looked.seen)) d cut

-- a turn has looked, and decided and published one round
pub record HelpsDecide (b : BookTerms) (before after : Knowledge) (h : HelpingTerms) (d : Decision) : Type 0 where
  pub cut : List ℕ
  pub looked : Knowledge
  pub snapshot : IsSnapshot b before looked cut
  pub loads : HasLoaded b before looked
  pub next : DecidesNext b looked after h cut d

-- a turn has found its own request settled at its cut, and has done nothing but look
pub record FindsSettled (b : BookTerms) (before after : Knowledge) (h : HelpingTerms) : Type 0 where
  pub cut : List ℕ
  pub snapshot : IsSnapshot b before after cut
  pub loads : HasLoaded b before after
  pub settled : is_settled h.account h.own.slot h.own.number (prefix_of cut after.seen) ≡ true

-- the decision names the own request
abbrev pub NamesOwn : HelpingTerms → Decision → Type 0
NamesOwn h d = (d.slot ≡ h.own.slot) × (d.number ≡ h.own.number)

-- the reply and the place where a round has decided the request so
pub record IsAnswerOf (round : ℕ) (d : Decision) (answer : Reply × At) : Type 0 where
  pub reply : answer.0 ≡ (if d.ok then Done else Short)
  pub at : answer.1 ≡ At.Round round d.place

-- what is answered by a round: settled where that has decided the own request, and else more
abbrev pub AnswersRound : HelpingTerms → ℕ → Decision → HelpTurn → Type 0
AnswersRound h round d (Settled answer) = NamesOwn h d × IsAnswerOf round d answer
AnswersRound h round d More = ¬ NamesOwn h d

-- the request is settled at the turn's cut, or the turn's own round decides it
abbrev pub SettlesOwn : BookTerms → Knowledge → Knowledge → HelpingTerms → Type 0
SettlesOwn b before after h =
    FindsSettled b before after h ⊎ ((d : Decision) × HelpsDecide b before after h d × NamesOwn h d)

-- settled exactly there; and else more
abbrev pub HelpAnswers : BookTerms → Knowledge → Knowledge → HelpingTerms → HelpTurn → Type 0
HelpAnswers b before after h (Settled answer) = SettlesOwn b before after h
HelpAnswers b before after h More =
    (d : Decision) × HelpsDecide b before after h d × ¬ NamesOwn h d

-- what holds of the reply and the place of an answer
abbrev pub OnSettled : HelpTurn → (Reply × At → Type 0) → Type 0
OnSettled (Settled answer) holds = holds answer
OnSettled More holds = Unit {0}

-- what holds of the receipt of each call that asks for what the helping does
abbrev pub OnSettledCalls : HelpingTerms → HelpTurn → (Receipt → Type 0) → Type 0
OnSettledCalls h turn holds = OnSettled turn (λ answer. OnReceipts h.account h.own.targets answer holds)
