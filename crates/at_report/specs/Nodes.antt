-- The output of nodes that messages were delivered to.
use Rattle.std.specs.Prelude.{ℕ, ◌+◌, List, [], ◌∷◌, ◌++◌, length, map, codes, decimal, slice_index, sum}
use Rattle.at_report.specs.Prelude.{range_with_len, NodeState}
use Rattle.at_report.specs.Lines.{Word, Words, lines_text}

-- how many messages of a log are validated
abbrev pub validated_word : NodeState → ℕ → Word
validated_word s p = decimal (slice_index s.validated p)

-- the same of each log, in order
abbrev pub validated_words : NodeState → Words
validated_words s = codes "validated" ∷ map (validated_word s) (range_with_len 0 s.book.logs)

-- the number and the balance of an account
abbrev pub node_balance_words : NodeState → ℕ → Words
node_balance_words s account = decimal account ∷ decimal (slice_index s.balances account) ∷ []

-- the same of each account, in order
abbrev pub node_balances : NodeState → List Words
node_balances s = map (node_balance_words s) (range_with_len 0 (length s.book.accounts))

-- the lines of a node: its number, what is validated, the balance of each account, and their total
abbrev pub node_lines : ℕ → NodeState → List Words
node_lines number s =
    (codes "node" ∷ decimal number ∷ []) ∷ validated_words s ∷ (node_balances s ++ (codes "total" ∷ decimal (sum s.balances) ∷ []) ∷ [])

-- the lines of nodes that are numbered from this number on
unfoldable pub nodes_from : ℕ → List NodeState → List Words
nodes_from number [] = []
nodes_from number (s ∷ nodes) = node_lines number s ++ nodes_from (number + 1) nodes

-- the output of nodes, which are numbered from 0
abbrev pub nodes_text : List NodeState → List ℕ
nodes_text nodes = lines_text (nodes_from 0 nodes)
