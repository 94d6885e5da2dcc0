-- Publishing the seat's next record.
use Rattle.std.specs.Prelude.{◌≡◌, ℕ, ◌<◌, ◌⊎◌, List, Contains, ◌+◌, ◌++◌, [], ◌∷◌, replicate}
use Rattle.at_board.specs.Prelude.{Decision, BookTerms, log_room_of, TargetPair, prefix_of, held_after, IsHistory, count_of, owns_of, HasView, IsSoundOwn, IsSoundRound, Entry, Own, Round, Publication, Request}
use Rattle.at_board.specs.Knowledge.Agreement.{AgreesWithSeen}
use Rattle.at_board.specs.Knowledge.Knows.{SeesAll}
use Rattle.at_board.specs.Knowledge.Parts.{SeesDecision, SeesRequest, own_part, with_part}
use Rattle.at_board.specs.Words.Addresses.{record_width}
use Rattle.at_board.specs.Words.Packed.{IsForm, record_words}
use Rattle.at_board.specs.declared.knowledge.Part.{Part}
use Rattle.at_board.specs.declared.knowledge.Knowledge.{Knowledge}

-- the seat knows what a round decided, and for which targets: it has seen the decision and the request that this names, or
-- a record that says so
abbrev pub KnowsRound : Knowledge → ℕ → ℕ → Decision → List TargetPair → Type 0
KnowsRound v account round decision targets =
    (SeesDecision v account round decision
    × ((r : Request) × SeesRequest v account decision.slot decision.number r × (r.targets ≡ targets)))
    ⊎ ((x : Publication) × Contains v.seen x × (x.entry ≡ Round account round decision targets))

-- the entry may come next: an own record has room and is covered, and a round's says what the seat knows of the round
abbrev pub MayEnter : BookTerms → Knowledge → List Publication → Entry → Type 0
MayEnter b v prefix (Own from targets) = IsSoundOwn b v.first prefix from targets × (owns_of v.first v.seen < b.own_room)
MayEnter b v prefix (Round account round decision targets) =
    IsSoundRound b v.first prefix account round × KnowsRound v account round decision targets

-- whatever record the seat may publish next, its process's log has room for it, and its numbers fit their words
abbrev pub FitsNext : Knowledge → Type 0
FitsNext v = (view : List ℕ) (e : Entry) → HasView v.book v.seen (record { process = v.first; view = view; entry = e }) →
    MayEnter v.book v (prefix_of view v.seen) e → ((own_part v).published < log_room_of v.book v.first) × IsForm e

-- the seat may publish this record: its words are stored, and it keeps the laws after all that the seat has seen
pub record MayPublish (b : BookTerms) (v : Knowledge) (x : Publication) : Type 0 where
  pub process : x.process ≡ v.first
  pub stored : (own_part v).stored ≡ record_words x
  pub view : HasView b v.seen x
  pub entry : MayEnter b v (prefix_of x.view v.seen) x.entry

-- one more record is published, and nothing of the next is stored
abbrev pub with_record : BookTerms → Part → Publication → Part
with_record b q x =
    record q { published = q.published + 1; stored = replicate (record_width b) 0; held = held_after x q.held }

-- a publishing step: some sound state has published just what the seat has then seen, its own record at the end
pub record Publishes (b : BookTerms) (before after : Knowledge) (x : Publication) : Type 0 where
  pub between : List Publication
  pub seen : after.seen ≡ (before.seen ++ between) ++ x ∷ []
  pub all : SeesAll b after
  pub own : count_of before.first after.seen ≡ (own_part before).published + 1
  pub history : IsHistory b after.seen
  pub agrees : AgreesWithSeen after
  pub same : after ≡ with_part (record before { seen = after.seen }) (with_record b (own_part before) x)
