-- The lines of nodes, one after another.
use Rattle.std.proofs.Common.{◌≡◌, ℕ, ◌+◌, ◌<◌, List, [], ◌∷◌, ◌++◌, map, length, take, get_or, refl, ap, ◌∙◌, sym, append_assoc, append-nil, arith}
use Rattle.at_report.proofs.Prelude.{range_with_len, flat_map-append, length-take-le, take_more, map-range_with_len_more, NodeState, Word, Words, spaced, line_text, lines_text, node_lines, nodes_from}
use Rattle.at_report.proofs.LineLaws.{line_text-spaced}

-- one more of the words that a function gives
pub spaced-map_more : (f : ℕ → Word) (out : List ℕ) (n : ℕ)
    → (out ++ spaced (map f (range_with_len 0 n))) ++ spaced (f n ∷ []) ≡ out ++ spaced (map f (range_with_len 0 (n + 1)))
spaced-map_more f out n =
    let more : map f (range_with_len 0 (n + 1)) ≡ map f (range_with_len 0 n) ++ f n ∷ [] = map-range_with_len_more f 0 n n (omega arith) in
    rw (more, flat_map-append (λ (word : Word). 32 ∷ word) (map f (range_with_len 0 n)) (f n ∷ [])) (append_assoc out (spaced (map f (range_with_len 0 n))) (spaced (f n ∷ [])))

pub lines_text-append : (lines more : List Words) → lines_text (lines ++ more) ≡ lines_text lines ++ lines_text more
lines_text-append lines more = flat_map-append line_text lines more

-- one more node
pub nodes_from-push : (number : ℕ) (nodes : List NodeState) (s : NodeState) → nodes_from number (nodes ++ s ∷ []) ≡ nodes_from number nodes ++ node_lines (number + length nodes) s
unfolding nodes_from
nodes_from-push number [] s = let same : number + 0 ≡ number = omega arith in append-nil (node_lines number s) ∙ rw same refl
nodes_from-push number (t ∷ nodes) s =
    let same : number + 1 + length nodes ≡ number + length (t ∷ nodes) = omega arith in
    rw (nodes_from-push (number + 1) nodes s, same) (sym (append_assoc (node_lines number t) (nodes_from (number + 1) nodes) (node_lines (number + length (t ∷ nodes)) s)))

pub nodes_from-take_more : (out : List ℕ) (nodes : List NodeState) (i : ℕ) (s : NodeState) → i < length nodes → s ≡ get_or nodes i s
    → (out ++ lines_text (nodes_from 0 (take i nodes))) ++ lines_text (node_lines i s) ≡ out ++ lines_text (nodes_from 0 (take (i + 1) nodes))
nodes_from-take_more out nodes i s within is =
    let more : take (i + 1) nodes ≡ take i nodes ++ s ∷ [] = take_more nodes i s within ∙ ap (λ y. take i nodes ++ y ∷ []) (sym is) in
    let count : 0 + length (take i nodes) ≡ i = omega (arith, length-take-le i nodes (omega arith)) in
    rw (more, nodes_from-push 0 (take i nodes) s, count, lines_text-append (nodes_from 0 (take i nodes)) (node_lines i s))
    (append_assoc out (lines_text (nodes_from 0 (take i nodes))) (lines_text (node_lines i s)))

-- a line is its first word and the others, one after another
pub line_text-words : (out : List ℕ) (word : Word) (words : Words) → ((out ++ word) ++ spaced words) ++ 10 ∷ [] ≡ out ++ line_text (word ∷ words)
line_text-words out word words = rw (line_text-spaced word words) (simp append_assoc)

-- no node has no line
pub nodes_from-none : lines_text (nodes_from 0 []) ≡ []
unfolding nodes_from
nodes_from-none = refl
