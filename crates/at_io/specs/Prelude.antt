-- What this crate's contracts and definitions name of other crates, in one place.
pub use Rattle.std.specs.Global.{Global}
pub use Rattle.std.specs.List.{list_any}
