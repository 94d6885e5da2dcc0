-- What holds of names that are told apart.
use Rattle.std.specs.Prelude.{ℕ, ◌≤◌, List, length, All, bytes_eq}
use Rattle.at_files.specs.Prelude.{IsDistinct}
use Rattle.at_files.specs.Limits.{most_name_bytes}

-- no two are the same, and none is longer than a name may be
pub record IsNameSet (names : List (List ℕ)) : Type 0 where
  pub distinct : IsDistinct bytes_eq names
  pub short : All (λ name. length name ≤ most_name_bytes) names
