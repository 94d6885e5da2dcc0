-- Voices as callers see them, and what their type keeps.
use Rattle.std.specs.Prelude.{◌≡◌, ℕ, ◌+◌, ◌*◌, ◌<◌, ◌≤◌, ◌++◌, List, [], ◌∷◌, length, slice_index_or, refl}
use Rattle.at_agree.specs.Prelude.{BoardTerms, IsPrefix, Publication, Call, Read, Balance, Receipt, IsNewPass, IsPassOf, PassTerms, Stands, others_counted, past_receipts, snapshot_steps}
use Rattle.at_agree.specs.Council.{size_of}

-- a voice by its pass, and the receipts of the calls that were made with it
pub record VoiceTerms : Type 0 where
  pub pass : PassTerms
  pub receipts : List Receipt

-- the process of a voice, and the publications that it has seen
abbrev pub process_of : VoiceTerms → ℕ
process_of voice = voice.pass.knows.first

abbrev pub seen_by : VoiceTerms → List Publication
seen_by voice = voice.pass.knows.seen

-- the receipts stand with the pass, are those of its calls, and are at most four
pub record IsVoice (voice : VoiceTerms) : Type 0 where
  pub stands : Stands voice.pass voice.receipts
  pub past : past_receipts voice.pass ≡ voice.receipts
  pub known : process_of voice < voice.pass.knows.book.processes
  pub few : length voice.receipts ≤ 4

-- the voice is one of the council's
abbrev pub IsVoiceOf : VoiceTerms → BoardTerms → Type 0
IsVoiceOf voice council = IsPassOf voice.pass council

-- it has made no call yet
abbrev pub HasNotProposed : VoiceTerms → Type 0
HasNotProposed voice = voice.receipts ≡ []

-- it can propose to the council
pub record MayProposeValue (council : BoardTerms) (voice : VoiceTerms) : Type 0 where
  pub of_council : IsVoiceOf voice council
  pub unproposed : HasNotProposed voice

-- the voice of a process of a new council
pub record IsNewVoice (council : BoardTerms) (process : ℕ) (voice : VoiceTerms) : Type 0 where
  pub pass : IsNewPass council process voice.pass
  pub unproposed : HasNotProposed voice

-- one for each process, in order
pub record AreNewVoices (council : BoardTerms) (voices : List VoiceTerms) : Type 0 where
  pub count : length voices ≡ size_of council
  pub each : (p : ℕ) (d : VoiceTerms) → p < size_of council → IsNewVoice council p (slice_index_or voices p d)

-- one more call was made with the voice, and its receipt was kept
pub record HasMadeOneMore (council : BoardTerms) (before after : VoiceTerms) (call : Call) : Type 0 where
  pub process_is : process_of after ≡ process_of before
  pub of_council : IsVoiceOf after council
  pub begins : IsPrefix (seen_by before) (seen_by after)
  pub counted : others_counted before.pass ≤ others_counted after.pass
  pub receipt : Receipt
  pub receipts : after.receipts ≡ before.receipts ++ receipt ∷ []
  pub call_is : receipt.call ≡ call

-- that call was a read of the account, which found this balance
pub record HasRead (council : BoardTerms) (before after : VoiceTerms) (account balance : ℕ) : Type 0 where
  pub made : HasMadeOneMore council before after (Read account)
  pub found : made.receipt.reply ≡ Balance balance

-- the most steps of the four calls of a process among k, beside the loads of records that its totals count
abbrev pub propose_steps : ℕ → ℕ
propose_steps k = 4 * snapshot_steps k + 8 * k + 9 + k * (snapshot_steps k + k + 15)

-- of three, as a number: whoever changes the bound changes this too
pub propose_steps-3 : propose_steps 3 ≡ 192
propose_steps-3 = refl
