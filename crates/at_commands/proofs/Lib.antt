pub mod Prelude
pub mod Laws
mod ValueLaws
mod CountLaws
pub mod JobsMade
pub mod JobsAsked
pub mod JobsRun
pub mod JobsNoting
pub mod NodesGiven
pub mod GeneratorLaws
pub mod GeneratedBook
pub mod LineSums
pub mod SettledSteps
pub mod SettledRuns
pub mod DrawnCalls
pub mod GeneratedRuns
pub mod Deliveries
pub mod PlayedCosts
pub mod PieceLaws
