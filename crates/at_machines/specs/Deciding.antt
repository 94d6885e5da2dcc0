-- Rounds of shared payments that are decided and published one step a turn.
use Rattle.std.specs.Prelude.{◌≡◌, ℕ, ◌+◌, ◌-◌, ◌<◌, ◌≤◌, List, Option, None, Some}
use Rattle.at_machines.specs.Prelude.{Decision, BookTerms, prefix_of, rounds, Publication, LoadsRequestWord, Publishes, StoresWord, record_width, Knowledge, BoardStep, BoardWord, RECORD_WORDS, REQUEST_WORDS, TotalSums, DecidesAs, HelpingTerms, round_steps}
use Rattle.at_machines.specs.Appending.{published_after, store_step}
use Rattle.at_machines.specs.declared.round_stage.RoundStage.{RoundStage}
use Rattle.at_machines.specs.declared.round_stage.RoundStage.TheVariants.{Proposing, Loading, Publishing, Ended}

-- the next step of a round: the exchange on its cell; the load of this word of the request that was so decided; the store of this
-- word of the record, or, after the last one, the store that publishes it; or nothing
pub data NextOfRound : Type 0 where
  exchange : NextOfRound
  request_word : (decision : Decision) (word : ℕ) → NextOfRound
  record_word : (decision : Decision) (word : ℕ) → NextOfRound
  nothing : NextOfRound

-- a round by what its seat knew at the start and after the last turn, by the totals and the helping at the start, by the cut, by
-- what comes next, and by how many turns are left
pub record DecidingTerms : Type 0 where
  pub start : Knowledge
  pub mark : Knowledge
  pub totals : TotalSums
  pub helping : HelpingTerms
  pub cut : List ℕ
  pub next : NextOfRound
  pub left : ℕ

-- what comes next in a stage
abbrev pub next_of_round : RoundStage → NextOfRound
next_of_round (Proposing p) = exchange
next_of_round (Loading d l) = request_word d l.loaded
next_of_round (Publishing d a) = record_word d a.stored
next_of_round Ended = nothing

-- the turns that are left before that, of n processes
abbrev pub left_of_round : ℕ → NextOfRound → ℕ
left_of_round n exchange = round_steps n
left_of_round n (request_word d word) = (REQUEST_WORDS - word) + (RECORD_WORDS + n + 1)
left_of_round n (record_word d word) = (RECORD_WORDS + n + 1) - word
left_of_round n nothing = 0

abbrev pub starting_deciding : Knowledge → TotalSums → HelpingTerms → List ℕ → DecidingTerms
starting_deciding v t h cut =
    record { start = v; mark = v; totals = t; helping = h; cut = cut; next = exchange; left = round_steps v.book.processes }

-- the round after one more turn, where this comes next
abbrev pub deciding_after : DecidingTerms → Knowledge → NextOfRound → DecidingTerms
deciding_after c v next = record {
  start = c.start;
  mark = v;
  totals = c.totals;
  helping = c.helping;
  cut = c.cut;
  next = next;
  left = left_of_round c.start.book.processes next;
}

-- one exchange is made in that step, and in no other
abbrev pub exchanges_in : NextOfRound → ℕ
exchanges_in exchange = 1
exchanges_in (request_word d word) = 0
exchanges_in (record_word d word) = 0
exchanges_in nothing = 0

-- and one record is published in the last step, and in no other
abbrev pub publishes_in : BookTerms → NextOfRound → ℕ
publishes_in b exchange = 0
publishes_in b (request_word d word) = 0
publishes_in b (record_word d word) = published_after (record_width b) word
publishes_in b nothing = 0

-- the round that is decided: the next one of the account at the cut
abbrev pub round_in : DecidingTerms → ℕ
round_in c = rounds c.helping.account (prefix_of c.cut c.start.seen)

-- the next step
abbrev pub step_in_round : BookTerms → DecidingTerms → NextOfRound → Option BoardStep
step_in_round b c exchange = Some (BoardStep.Exchange (BoardWord.Cell c.helping.account (round_in c)))
step_in_round b c (request_word d word) = Some (BoardStep.Load (BoardWord.Request c.helping.account d.slot d.number word))
step_in_round b c (record_word d word) = Some (store_step b c.mark word)
step_in_round b c nothing = None

-- just this step was made, and then that comes
abbrev pub MakesStep : BookTerms → DecidingTerms → Knowledge → NextOfRound → NextOfRound → Type 0
MakesStep b c v exchange next =
    (d proposal : Decision) × DecidesAs b c.mark v c.helping.account (round_in c) proposal d × (next ≡ request_word d 0)
MakesStep b c v (request_word d word) next = ((n : ℕ) × LoadsRequestWord b c.mark v c.helping.account d.slot d.number word n)
    × (word + 1 < REQUEST_WORDS → next ≡ request_word d (word + 1)) × (word + 1 ≡ REQUEST_WORDS → next ≡ record_word d 0)
MakesStep b c v (record_word d word) next = (word ≤ record_width b)
    × (word < record_width b → ((n : ℕ) × StoresWord c.mark v word n) × (next ≡ record_word d (word + 1)))
    × (word ≡ record_width b → ((x : Publication) × Publishes b c.mark v x) × (next ≡ nothing))
MakesStep b c v nothing next = ⊥

-- just the next step of the round was made, and then this comes
abbrev pub MakesRoundStep : BookTerms → DecidingTerms → Knowledge → NextOfRound → Type 0
MakesRoundStep b c v next = MakesStep b c v c.next next
