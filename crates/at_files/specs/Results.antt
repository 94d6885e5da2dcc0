-- Steps one after another, each of which may be refused.
use Rattle.std.specs.Prelude.{Result, Ok, Err}

-- what a value leads to, unless it was refused
abbrev pub and_then : {A B E : Type 0} → Result A E → (A → Result B E) → Result B E
and_then (Ok x) more = more x
and_then (Err refusal) more = Err refusal
