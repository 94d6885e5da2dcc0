-- The laws that crates above at_log cite, by what they are about.
-- a receipt: where what it names stands (Positions), what the ledger answers (Replies), its key (Keys, KeyBounds)
pub mod Positions
pub mod Replies
pub mod Keys
pub mod KeyBounds
-- the journal's order of publications: their keys (PublicationKeys), each log and each held cut in it (Order), each record's view
-- (Views)
pub mod PublicationKeys
pub mod Order
pub mod Views
-- its rounds, of closings that need not be known to be coherent (OrderPremises, OrderRounds, OrderState), and of coherent ones
-- (OrderHasRuns)
pub mod OrderPremises
pub mod OrderRounds
pub mod OrderState
pub mod OrderHasRuns
-- lists alone
pub mod Buckets
pub mod FirstRecords
pub mod Picks
-- a record whose words are stored one by one (StoredWords), the last record of a process (LastRecord), records that a seat has seen
-- (SeenRecords), and records of a closed board (EndedRecords)
pub mod StoredWords
pub mod LastRecord
pub mod SeenRecords
pub mod EndedRecords
