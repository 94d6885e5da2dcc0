-- What this crate's proofs name of other crates and of its definitions, in one place.
pub use Rattle.std.proofs.lemmas.Bool.Decides.{nat_tests}
pub use Rattle.std.proofs.lemmas.Fmt.{decimal-digits_value, decimal_digit, digits_decimal, digits_value-decimal, first_decimal}
pub use Rattle.std.proofs.lemmas.Grind.{common_steps}
pub use Rattle.std.proofs.lemmas.Int.Digits.{digits_value_more}
pub use Rattle.std.proofs.lemmas.List.Folds.{list_all_at, list_all_more}
pub use Rattle.std.proofs.lemmas.Str.Parse.{IsDigitsTest, IsNumeralModel, digits_value-take-le, numerals_by_value}
pub use Rattle.std.specs.Char.{digit_value, is_ascii_digit}
pub use Rattle.std.specs.List.{list_all}
pub use Rattle.std.specs.Str.Parse.{digits_value}
pub use borrow.Author.Tests.{ltb-true}
pub use Rattle.at_base.specs.Decision.{InRange, word_of}
pub use Rattle.at_base.specs.Numbers.{begins_canonical, is_canonical}
unfoldable pub use Rattle.at_base.specs.Numbers.{number_of}
pub use Rattle.at_base.specs.declared.decision.Decision.{Decision}
