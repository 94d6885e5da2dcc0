-- Words that go on in a field.
use Rattle.std.specs.Prelude.{ℕ, Bool, true, false, List}
use Rattle.at_tables.specs.Prelude.{join_with_byte, Words, spaced}

-- the words with a space between each two, and one before them where a word stands there
abbrev pub parted : Bool → Words → List ℕ
parted true words = spaced words
parted false words = join_with_byte 32 words
