-- The words of records, requests and decisions.
use Rattle.std.specs.Prelude.{◌^◌, ◌<◌, ℕ, List, [], ◌∷◌, ◌++◌, length, nat_lt, if◌then◌else◌}
use Rattle.at_board.specs.Prelude.{InRange, word_of, head_word, Decision, TargetPair, target_at, decision_at, targets_of, Entry, Own, Round, Publication, Request}
use Rattle.at_board.specs.Words.Targets.{ArePacked, accounts_of, targets_word}

-- the numbers of an entry fit its words
abbrev pub IsForm : Entry → Type 0
IsForm (Own from targets) = (from < 2 ^ 16) × ArePacked (accounts_of targets)
IsForm (Round account round decision targets) =
    (account < 2 ^ 16) × (round < 2 ^ 31) × InRange decision × ArePacked (accounts_of targets)

-- kind 0 is an own record, kind 1 a round's
abbrev pub head_of : Entry → ℕ
head_of (Own from targets) = head_word (record { kind = 0; from = from; to = 0; round = 0 })
head_of (Round account round decision targets) = head_word (record { kind = 1; from = account; to = 0; round = round })

-- the decision's word, and 0 in an own record
abbrev pub decision_word : Entry → ℕ
decision_word (Own from targets) = 0
decision_word (Round account round decision targets) = word_of decision

-- four amounts, 0 past the last target
abbrev pub amount_words : List TargetPair → List ℕ
amount_words targets =
    (target_at targets 0).1 ∷ (target_at targets 1).1 ∷ (target_at targets 2).1 ∷ (target_at targets 3).1 ∷ []

-- the words of an entry, which are RECORD_WORDS: its head, its targets word, its decision and its amounts
abbrev pub entry_words : Entry → List ℕ
entry_words e = head_of e ∷ targets_word (accounts_of (targets_of e)) ∷ decision_word e ∷ amount_words (targets_of e)

-- those of a record: its entry's, and then its view
abbrev pub record_words : Publication → List ℕ
record_words x = entry_words x.entry ++ x.view

-- the words of a request
abbrev pub request_words : Request → List ℕ
request_words r = targets_word (accounts_of r.targets) ∷ amount_words r.targets ++ r.since ∷ []

-- the word of a round's cell, where these rounds are decided
abbrev pub cell_word : List Decision → ℕ → ℕ
cell_word decisions round =
    if nat_lt round (length decisions) then word_of (decision_at decisions round) else 0
