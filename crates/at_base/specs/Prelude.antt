-- What this crate's contracts and definitions name of other crates, in one place.
pub use Rattle.std.specs.Char.{digit_value, is_ascii_digit}
pub use Rattle.std.specs.List.{list_all}
pub use Rattle.std.specs.Str.Parse.{digits_value}
