-- What an agreement leaves, and what its threads leave on the way there.
use Rattle.std.specs.Prelude.{◌≡◌, ℕ, ◌^◌, ◌<◌, List, length, map, slice_index, slice_index_or, All, Contains}
use Rattle.at_agree.specs.Prelude.{BoardTerms, receipts_of, Coherent, ClosedTerms, Stands, past_receipts}
use Rattle.at_agree.specs.Council.{council_book, size_of}
use Rattle.at_agree.specs.Plan.{HasVoted}
use Rattle.at_agree.specs.Voices.{HasNotProposed, IsVoiceOf, process_of}
use Rattle.at_agree.specs.declared.votes.Vote.{Vote}

-- the closed ledger is that of a council of as many processes as there are values. Each process has made its four calls with its
-- value, the answer of each is this one value, and it is one of the values
pub record IsAgreement (values : List ℕ) (closed : ClosedTerms) (value : ℕ) : Type 0 where
  pub book_is : closed.book ≡ council_book (length values)
  pub coherent : Coherent closed.book closed.closing
  pub votes : (p : ℕ) → p < length values → HasVoted (length values) p (slice_index values p) value (receipts_of closed.closing p)
  pub proposed : Contains values value

-- the voice of a vote can propose its value to the council
pub record MayVote (council : BoardTerms) (x : Vote) : Type 0 where
  pub of_council : IsVoiceOf x.voice council
  pub unproposed : HasNotProposed x.voice
  pub small : x.value < 2 ^ 32

-- it has proposed it, and kept the answer
pub record IsCast (council : BoardTerms) (before after : Vote) : Type 0 where
  pub process_is : process_of after.voice ≡ process_of before.voice
  pub value_is : after.value ≡ before.value
  pub of_council : IsVoiceOf after.voice council
  pub voted : HasVoted (size_of council) (process_of before.voice) before.value after.answer after.voice.receipts

-- the values of votes
abbrev pub values_of : List Vote → List ℕ
values_of votes = map (λ x. x.value) votes

-- one vote of each process with its value, in order, and none is made yet
pub record AllMayVote (council : BoardTerms) (values : List ℕ) (votes : List Vote) : Type 0 where
  pub ready : All (MayVote council) votes
  pub count : length votes ≡ size_of council
  pub values_are : values_of votes ≡ values
  pub processes : (p : ℕ) (d : Vote) → p < size_of council → process_of (slice_index_or votes p d).voice ≡ p

-- process p has proposed
pub record IsCastBy (council : BoardTerms) (p : ℕ) (x : Vote) : Type 0 where
  pub process_is : process_of x.voice ≡ p
  pub of_council : IsVoiceOf x.voice council
  pub voted : HasVoted (size_of council) p x.value x.answer x.voice.receipts

-- all processes have, each with its value
pub record AreCast (council : BoardTerms) (votes : List Vote) : Type 0 where
  pub count : length votes ≡ size_of council
  pub small : All (λ x. x.value < 2 ^ 32) votes
  pub each : (p : ℕ) (d : Vote) → p < size_of council → IsCastBy council p (slice_index_or votes p d)

-- the receipts of a vote's voice account for its pass
pub record StandsByItself (x : Vote) : Type 0 where
  pub stands : Stands x.voice.pass x.voice.receipts
  pub past : past_receipts x.voice.pass ≡ x.voice.receipts
