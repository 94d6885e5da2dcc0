-- What this crate's proofs name of other crates and of its definitions, in one place.
pub use Rattle.at_commands.proofs.Laws.Formless.{Leaves-formless}
pub use Rattle.at_commands.specs.Words.{wanted_of, words_of}
