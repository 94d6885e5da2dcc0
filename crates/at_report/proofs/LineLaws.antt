-- Lines and their words.
use Rattle.std.proofs.Common.{Result, Ok, Err, OnErr, ◌≡◌, ℕ, ◌+◌, List, [], ◌∷◌, ◌++◌, map, length, take, get_or, ◌<◌, ◌≤◌, ap, ◌∙◌, sym, append_assoc, append-nil, arith}
use Rattle.at_report.proofs.Prelude.{StartsWith, join_with_byte, range_with_len, flat_map-append, length-append, take-take, take_more, map-append, map-range_with_len_more, take-append_seam, Words, spaced, line_text, lines_text}

-- a line is its first word, and then the others, each after a space
pub join_with_byte-spaced : (word : List ℕ) (words : Words) → join_with_byte 32 (word ∷ words) ≡ word ++ spaced words
join_with_byte-spaced word [] = sym (append-nil word)
join_with_byte-spaced word (next ∷ words) = ap (λ (text : List ℕ). word ++ 32 ∷ text) (join_with_byte-spaced next words)

pub line_text-spaced : (word : List ℕ) (words : Words) → line_text (word ∷ words) ≡ word ++ spaced words ++ 10 ∷ []
line_text-spaced word words = ap (λ (text : List ℕ). text ++ 10 ∷ []) (join_with_byte-spaced word words)

spaced-append : (words more : Words) → spaced (words ++ more) ≡ spaced words ++ spaced more
spaced-append words more = flat_map-append (λ word. 32 ∷ word) words more

-- a line is the parts that are written of it, one after another
pub line_text-parts : (out process number reply : List ℕ) (call : Words)
    → ((((out ++ process) ++ spaced (number ∷ [])) ++ spaced call) ++ spaced (reply ∷ [])) ++ 10 ∷ []
    ≡ out ++ line_text (process ∷ number ∷ (call ++ reply ∷ []))
line_text-parts out process number reply call =
    let words : line_text (process ∷ number ∷ (call ++ reply ∷ [])) ≡ process ++ spaced (number ∷ (call ++ reply ∷ [])) ++ 10 ∷ [] =
    line_text-spaced process (number ∷ (call ++ reply ∷ [])) in
    let rest : spaced (call ++ reply ∷ []) ≡ spaced call ++ spaced (reply ∷ []) = spaced-append call (reply ∷ []) in
    rw words (rw rest (simp append_assoc))

-- the lines of a list, and then of one more
lines_text-push : (lines : List Words) (words : Words) → lines_text (lines ++ words ∷ []) ≡ lines_text lines ++ line_text words
lines_text-push lines words = flat_map-append line_text lines (words ∷ []) ∙ ap (λ (text : List ℕ). lines_text lines ++ text) (append-nil (line_text words))

-- one more of the lines that a function gives
pub lines_text-map_more : (f : ℕ → Words) (out : List ℕ) (n : ℕ)
    → out ++ lines_text (map f (range_with_len 0 n)) ++ line_text (f n) ≡ out ++ lines_text (map f (range_with_len 0 (n + 1)))
lines_text-map_more f out n =
    let more : map f (range_with_len 0 (n + 1)) ≡ map f (range_with_len 0 n) ++ f n ∷ [] = map-range_with_len_more f 0 n n (omega arith) in
    rw (more, lines_text-push) (simp append_assoc)

-- the lines that a function gives of a list, and then of one more element
pub lines_text-take_more : {X : Type 0} (f : X → Words) (out : List ℕ) (xs : List X) (i : ℕ) (x : X) → i < length xs → x ≡ get_or xs i x
    → out ++ lines_text (map f (take i xs)) ++ line_text (f x) ≡ out ++ lines_text (map f (take (i + 1) xs))
lines_text-take_more f out xs i x within is =
    let more : take (i + 1) xs ≡ take i xs ++ x ∷ [] = take_more xs i x within ∙ ap (λ y. take i xs ++ y ∷ []) (sym is) in
    rw (more, map-append, lines_text-push) (simp append_assoc)

-- four texts after another
pub append-four : (out a b c d : List ℕ) → (((out ++ a) ++ b) ++ c) ++ d ≡ out ++ (((a ++ b) ++ c) ++ d)
append-four out a b c d = simp append_assoc

-- what starts with a text that was added to starts with what stood there before
starts_before : (now mid was more : List ℕ) → mid ≡ was ++ more → StartsWith now mid → StartsWith now was
starts_before now mid was more added starts =
    let long : length was ≤ length mid = rw (added, length-append) (omega arith) in
    sym (take-take (length was) (length mid) now long) ∙ ap (λ (text : List ℕ). take (length was) text) (starts ∙ added) ∙ take-append_seam was more

-- so it is where memory was refused
pub OnErr-starts_before : {T E : Type 0} (r : Result T E) (now mid was more : List ℕ) → mid ≡ was ++ more → StartsWith now mid → OnErr r (StartsWith now was)
OnErr-starts_before (Ok x) now mid was more added starts = tt
OnErr-starts_before (Err e) now mid was more added starts = starts_before now mid was more added starts
