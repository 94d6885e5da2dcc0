-- What this crate's proofs name of other crates and of its definitions, in one place.
pub use Rattle.std.proofs.Math.Seq.{take-add}
pub use Rattle.std.proofs.lemmas.Bool.{le-ltb, lt-ltb}
pub use Rattle.std.proofs.lemmas.Grind.{common_steps}
pub use Rattle.std.proofs.lemmas.List.{take_rest}
pub use Rattle.std.proofs.lemmas.List.Folds.{find_at}
pub use Rattle.std.proofs.lemmas.Option.{slice_get_cases}
pub use Rattle.std.specs.List.{find, position_or_len, slice_get, slice_range}
pub use Rattle.std.specs.Option.{option_map}
pub use Rattle.at_io.specs.HeldFiles.{KeptFile, NamedFile, file_of, named_file, unread}
pub use Rattle.at_io.specs.Limits.{most_file_bytes}
pub use Rattle.at_io.specs.Shelf.{SameFiles}
