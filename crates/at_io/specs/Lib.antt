pub mod Prelude
pub mod Faults
pub mod HeldFiles
pub mod Limits
pub mod MemoryShelf
pub mod MemorySink
pub mod Shelf
pub mod Sink
