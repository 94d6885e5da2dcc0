pub mod Prelude
pub mod CutLists
pub mod OrderedLaws
pub mod KeyBuckets
pub mod OrderSteps
pub mod LogViews
pub mod LineKeys
pub mod KeepLaws
pub mod StillLaws
pub mod MoveLaws
pub mod CountingLaws
pub mod SameMove
pub mod Movers
pub mod LineRuns
pub mod BucketRuns
pub mod KeyRuns
pub mod JournalRuns
pub mod WholeLaws
pub mod NamedLaws
pub mod LineOrder
pub mod LinePositions
pub mod OwnPositions
pub mod RoundPositions
pub mod StepCases
pub mod Exchange
pub mod PairLists
pub mod Reordering
pub mod LinePairs
pub mod PlacedKeys
pub mod Choosing
pub mod TimedOrder
-- the calls of each process with their keys, made one by one
mod KeyedByThreads
-- cuts by their places and calls
mod NamedCuts
