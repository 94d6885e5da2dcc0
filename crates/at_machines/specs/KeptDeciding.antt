-- What the type of a round in the making keeps of its fields, which no caller sees.
use Rattle.std.specs.Prelude.{◌≡◌, ℕ, ◌<◌, ◌≤◌, false, List, slice_index}
use Rattle.at_machines.specs.Prelude.{Decision, place, prefix_of, is_settled, rounds, Entry, Request, SeesDecision, own_part, IsKept, MayPropose, record_width, Knowledge, REQUEST_WORDS, CountsCut, HasCounted, TotalSums, Record, DecidesAs, LoadsRequest, OpenRequest, HelpingTerms, IsHelpingAt}
use Rattle.at_machines.specs.declared.round_stage.RoundStage.{RoundStage}
use Rattle.at_machines.specs.declared.round_stage.RoundStage.TheVariants.{Proposing, Loading, Publishing, Ended}

-- the seat may make this proposal, which is one for the cut
pub record IsProposalAt (start : Knowledge) (h : HelpingTerms) (cut : List ℕ) (proposal : Decision) : Type 0 where
  pub at_cut : proposal.place ≡ place cut
  pub may : (r : Request) × MayPropose start.book start h.account (rounds h.account (prefix_of cut start.seen)) proposal r

-- the round was decided so, by one exchange with such a proposal
pub record HasDecided (start decided : Knowledge) (h : HelpingTerms) (cut : List ℕ) (d : Decision) : Type 0 where
  pub proposal : Decision
  pub proposes : IsProposalAt start h cut proposal
  pub decides : DecidesAs start.book start decided h.account (rounds h.account (prefix_of cut start.seen)) proposal d
  pub sees : SeesDecision decided h.account (rounds h.account (prefix_of cut start.seen)) d

-- then the request that it names was loaded, and this is the record of the round
pub record HasLoadedDecided (start loaded : Knowledge) (h : HelpingTerms) (cut : List ℕ) (d : Decision) (rec : Record) : Type 0 where
  pub decided : Knowledge
  pub decides : HasDecided start decided h cut d
  pub request : OpenRequest
  pub loads : LoadsRequest start.book decided loaded h.account d.slot d.number request
  pub record_is : rec ≡ record { entry = Entry.Round h.account (rounds h.account (prefix_of cut start.seen)) d request.targets; view = cut }

-- of a stage
abbrev pub IsRoundStageSo : Knowledge → Knowledge → HelpingTerms → List ℕ → RoundStage → Type 0
IsRoundStageSo start mark h cut (Proposing p) = (mark ≡ start) × IsProposalAt start h cut p
IsRoundStageSo start mark h cut (Loading d l) = (l.mark ≡ mark) × (l.loaded < REQUEST_WORDS) × (l.account ≡ h.account) × (l.slot ≡ d.slot) × (l.number ≡ d.number)
    × HasDecided start l.start h cut d
IsRoundStageSo start mark h cut (Publishing d a) = (a.mark ≡ mark) × (a.stored ≤ record_width start.book) × HasLoadedDecided start a.start h cut d a.rec
IsRoundStageSo start mark h cut Ended = Unit {0}

-- what a round's type keeps: at the start the totals had counted the records of the cut alone, where the request was unsettled
pub record IsDecidingSo (start mark : Knowledge) (totals : TotalSums) (h : HelpingTerms) (cut : List ℕ) (account round : ℕ) (stage : RoundStage) : Type 0 where
  pub seat : IsKept start
  pub book : mark.book ≡ start.book
  pub account_is : account ≡ h.account
  pub round_is : round ≡ rounds h.account (prefix_of cut start.seen)
  pub counted : HasCounted totals start.book start.seen
  pub at_cut : CountsCut totals start.book start.seen
  pub upto : totals.upto ≡ cut
  pub own : slice_index cut start.first ≡ (own_part start).published
  pub helping : IsHelpingAt start.book start (prefix_of cut start.seen) h
  pub unsettled : is_settled h.account h.own.slot h.own.number (prefix_of cut start.seen) ≡ false
  pub stage_so : IsRoundStageSo start mark h cut stage
