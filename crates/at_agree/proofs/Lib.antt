pub mod Prelude
-- a council's book: that it is one, and its accounts
pub mod CouncilDraft
pub mod CouncilBook
-- what a list of a council shows by itself: one that a voice has seen (HistoryShown), and a closing's order (OrderShown)
pub mod Shown
pub mod HistoryShown
pub mod OrderShown
-- balances where all keep to the plan: of the shared account, and of the accounts that take the values
pub mod SharedBalance
pub mod ValueBalance
-- the receipts of a process's four calls, and what the last one answers
pub mod PlacedCalls
pub mod VotedReceipts
pub mod Answered
-- that all keep to the plan, where all have made their calls, and so have one answer
pub mod KeptPlan
pub mod OneAnswer
-- the voices of a new council, and one more call with a voice
pub mod NewVoices
pub mod VoiceCalls
pub mod FourCalls
-- the votes of all voices
pub mod AllVotes
-- what crosses threads
pub mod Sharing
