-- A sentence about the payments of the files.
use Rattle.std.specs.Prelude.{ℕ, List, [], ◌∷◌, ◌++◌, codes, decimal, flat_map}
use Rattle.at_tables.specs.Prelude.{BookTerms, Call, NameList, spaced}
use Rattle.at_tables.specs.Groups.{GroupTerms, groups_of}
use Rattle.at_tables.specs.Kinds.{count_in, has_kind, is_agreed_kind, is_alone_kind, is_payment_kind, is_refused_kind}
use Rattle.at_tables.specs.KindsText.{owner_words}

-- so many payments there are, and so many of each kind
abbrev pub counted_text : ℕ → ℕ → ℕ → ℕ → List ℕ
counted_text payments alone refused agreed =
    decimal payments ++ codes " payments: " ++ decimal alone ++ codes " made without agreement, "
    ++ decimal refused ++ codes " refused because the process does not own the source, " ++ decimal agreed ++ codes " agreed on"

-- the same of the files
abbrev pub payments_text : BookTerms → List (List Call) → List ℕ
payments_text b files =
    counted_text (count_in (has_kind is_payment_kind b) files) (count_in (has_kind is_alone_kind b) files)
    (count_in (has_kind is_refused_kind b) files) (count_in (has_kind is_agreed_kind b) files)

-- how many payments a set of owners has to agree on, and who they are
abbrev pub agreement_text : NameList → GroupTerms → List ℕ
agreement_text names g = codes "; " ++ decimal g.payments ++ codes " by the owners" ++ spaced (owner_words names g.owners)

-- the whole sentence. How many payments there are, how many of each kind, and how many each group has to agree on
abbrev pub sentence_text : BookTerms → NameList → List (List Call) → List ℕ
sentence_text b names files = payments_text b files ++ flat_map (agreement_text names) (groups_of b files) ++ codes "."
