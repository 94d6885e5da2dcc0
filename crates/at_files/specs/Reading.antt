-- What a reader of records has left of a file.
use Rattle.std.specs.Prelude.{◌≡◌, ◌≢◌, ◌+◌, ℕ, List, [], length, map, All, false, Some, unwrap_or, IsSome}
use Rattle.at_files.specs.Prelude.{Bor, ends_at_end, default_config, records_from, source_of, Ready, reader_config, reader_state, reader_trim, State, Reader}
use Rattle.csv.specs.declared.parser.State.TheVariants as state
use Rattle.csv.specs.declared.reader.Trim.TheVariants as trim
use Rattle.at_files.specs.Records.{Fields}

-- the records of bytes that are read on from a state
abbrev pub records_read_from : State → List ℕ → List Fields
records_read_from state bytes = records_from default_config (length bytes + 1) state bytes

-- the records of bytes that begin with a record
abbrev pub line_records : List ℕ → List Fields
line_records bytes = records_read_from state.StartRecord bytes

-- neither a quote nor a carriage return
abbrev pub IsPlainByte : ℕ → Type 0
IsPlainByte byte = (byte ≢ 34) × (byte ≢ 13)

-- no record of such bytes is more than a line
abbrev pub IsPlain : List ℕ → Type 0
IsPlain bytes = All IsPlainByte bytes

-- the bytes of slices of a file
abbrev pub texts_of : List (Bor (List ℕ)) → Fields
texts_of slices = map (λ slice. slice.now) slices

-- the bytes that a reader has left
abbrev pub bytes_left : Reader (Bor (List ℕ)) → List ℕ
bytes_left reader = unwrap_or (source_of (λ bytes. Some bytes.now) reader) []

-- the records that a reader has left
abbrev pub records_left : Reader (Bor (List ℕ)) → List Fields
records_left reader = records_read_from (reader_state reader) (bytes_left reader)

-- a reader with the crate's defaults and no header row, which stands between two records
pub record IsBetweenRecords (reader : Reader (Bor (List ℕ))) : Type 0 where
  pub trim : reader_trim reader ≡ trim.None
  pub ready : Ready reader
  pub config : reader_config reader ≡ default_config
  pub known : IsSome (source_of (λ bytes. Some bytes.now) reader)
  pub between : ends_at_end (reader_state reader) ≡ false
