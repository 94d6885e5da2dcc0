-- Files by name, of which one is read.
use Rattle.std.specs.Prelude.{ℕ, List, [], Option, Some, None, find, bytes_eq, drop, slice_get, option_map, unwrap_or, String, string_bytes, Vec}
use Rattle.at_io.specs.Prelude.{Global}

-- a file: its name, and then its bytes
abbrev pub NamedFile : Type 0
NamedFile = List ℕ × List ℕ

-- a file as it is kept
abbrev pub KeptFile : Type 0
KeptFile = String Global × Vec ℕ Global

-- the name and the bytes of a file that is kept
abbrev pub named_file : KeptFile → NamedFile
named_file file = (string_bytes file.0, file.1.items)

-- the files, and what is unread of the chosen one
pub record Held : Type 0 where
  pub files : List NamedFile
  pub rest : List ℕ

-- the bytes of the first file of a name
abbrev pub file_of : List NamedFile → List ℕ → Option (List ℕ)
file_of files name =
    option_map (λ (file : NamedFile). file.1)
    (find (λ (file : NamedFile). bytes_eq file.0 name) files)

-- the bytes of the file at a position, from an offset on
abbrev pub unread : List KeptFile → Option ℕ → ℕ → List ℕ
unread files None at = []
unread files (Some position) at =
    unwrap_or (option_map (λ (file : KeptFile). drop at file.1.items) (slice_get files position)) []
