-- What a shelf holds and tells.
use Rattle.std.specs.Prelude.{◌≡◌, ℕ, ◌+◌, ◌<◌, Bool, true, List, ◌++◌, length, Option, Some, None}

-- a shelf holds the files that it held, and tells them exactly where it told them
pub record SameFiles (told tells : Bool) (before after : List ℕ → Option (List ℕ)) : Type 0 where
  pub as_told : tells ≡ told
  pub files : after ≡ before

-- the shelf tells its files, and this is none of them
abbrev pub LacksFile : Bool → Option (List ℕ) → Type 0
LacksFile tells file = (tells ≡ true) × (file ≡ None)

-- the file has more bytes than the limit
abbrev pub IsLonger : ℕ → Option (List ℕ) → Type 0
IsLonger limit file = (bytes : List ℕ) × ((file ≡ Some bytes) × (limit < length bytes))

-- of the file, one byte more than the limit was read, and the rest was not
abbrev pub IsReadPast : ℕ → Option (List ℕ) → List ℕ → Type 0
IsReadPast limit file rest =
    (prefix : List ℕ) × ((file ≡ Some (prefix ++ rest)) × (length prefix ≡ limit + 1))
