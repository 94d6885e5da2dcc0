-- The fields of a call in a CSV record, beside its process and number.
use Rattle.std.specs.Prelude.{ℕ, [], ◌∷◌, codes}
use Rattle.at_tables.specs.Prelude.{BookTerms, first_account, Call, Transfer, Read, Pay, NameList, account_name, Word, Words}
use Rattle.at_tables.specs.Kinds.{kind_of}
use Rattle.at_tables.specs.declared.kind.Kind.{Kind}
use Rattle.at_tables.specs.declared.kind.Kind.TheVariants as kinds

-- what is called
abbrev pub call_word : Call → Word
call_word (Transfer from to amount) = codes "transfer"
call_word (Read account) = codes "read"
call_word (Pay from targets) = codes "pay"

-- the word of a kind
abbrev pub kind_word : Kind → Word
kind_word kinds.Read = codes "read"
kind_word kinds.Refused = codes "refused"
kind_word kinds.Alone = codes "alone"
kind_word kinds.Agreed = codes "agreed"

-- what the process calls, the account that it names first, and of what kind the call is
abbrev pub call_fields : BookTerms → NameList → ℕ → Call → Words
call_fields b names process call =
    call_word call ∷ account_name names (first_account call) ∷ kind_word (kind_of b process call) ∷ []
