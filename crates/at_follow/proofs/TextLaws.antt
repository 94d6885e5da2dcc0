-- The lines of what was followed.
use Rattle.std.proofs.Common.{◌≡◌, ℕ, ◌+◌, ◌<◌, Bool, true, false, cond, List, [], ◌∷◌, ◌++◌, length, map, take, get_or, refl, ap, sym, ◌∙◌, arith, append_assoc, decimal, Vec}
use Rattle.at_follow.proofs.Prelude.{AccountTerms, BookTerms, Global, NameList, Word, Words, account_of, contents_of, filter, filter-append, get_or-contents_of, is_shared, length-append, length-map, line_text, line_text-spaced, lines_text, map-append, map-range_with_len_more, map-id, no_account, range_with_len, section, shared_among, shared_below, shared_word, spaced, sum_by_more}

-- a line is what is pushed of it, word by word
pub line-three : (out one two three : List ℕ) → (((out ++ one) ++ spaced (two ∷ [])) ++ spaced (three ∷ [])) ++ 10 ∷ [] ≡ out ++ line_text (one ∷ two ∷ three ∷ [])
line-three out one two three = rw (line_text-spaced one (two ∷ three ∷ [])) (simp append_assoc)

-- a heading, and then the lines of a list
pub section-map : {X : Type 0} (word out : List ℕ) (f : X → Words) (xs : List X) (n : ℕ) → n ≡ length xs
    → (out ++ line_text (word ∷ decimal n ∷ [])) ++ lines_text (map f xs) ≡ out ++ lines_text (section word (map f xs))
section-map word out f xs n many =
    let count : length (map f xs) ≡ n = length-map xs f ∙ sym many in
    rw count (append_assoc out (line_text (word ∷ decimal n ∷ [])) (lines_text (map f xs)))

-- one more account
pub shared_below-more : (b : BookTerms) (n : ℕ) → shared_below b (n + 1) ≡ shared_below b n ++ cond (is_shared (account_of b n)) (n ∷ []) []
shared_below-more b n =
    let more : range_with_len 0 (n + 1) ≡ range_with_len 0 n ++ n ∷ [] =
    sym (map-id (range_with_len 0 (n + 1))) ∙ (map-range_with_len_more (λ (i : ℕ). i) 0 n n (omega arith) ∙ ap (λ (l : List ℕ). l ++ n ∷ []) (map-id (range_with_len 0 n))) in
    ap (filter (λ account. is_shared (account_of b account))) more ∙ filter-append (λ account. is_shared (account_of b account)) (range_with_len 0 n) (n ∷ [])

map-cond : (f : ℕ → Word) (t : Bool) (n : ℕ) → map f (cond t (n ∷ []) []) ≡ cond t (f n ∷ []) []
map-cond f true n = refl
map-cond f false n = refl

pub shared-words-more : (b : BookTerms) (names : NameList) (n : ℕ)
    → (names.processes ++ map (shared_word names) (shared_below b n)) ++ cond (is_shared (account_of b n)) (shared_word names n ∷ []) []
    ≡ names.processes ++ map (shared_word names) (shared_below b (n + 1))
shared-words-more b names n =
    rw (shared_below-more b n, map-append (shared_word names) (shared_below b n) (cond (is_shared (account_of b n)) (n ∷ []) []), map-cond (shared_word names) (is_shared (account_of b n)) n)
    (append_assoc names.processes (map (shared_word names) (shared_below b n)) (cond (is_shared (account_of b n)) (shared_word names n ∷ []) []))

length-cond : (t : Bool) (word : Word) → length (cond t (word ∷ []) []) ≡ cond t 1 0
length-cond true word = refl
length-cond false word = refl

-- and one log more where it is shared
pub length-words-more : (b : BookTerms) (words more : Words) (word : Word) (n : ℕ) → n < length b.accounts → more ≡ words ++ cond (is_shared (account_of b n)) (word ∷ []) []
    → length words ≡ b.processes + shared_among (take n b.accounts) → length more ≡ b.processes + shared_among (take (n + 1) b.accounts)
length-words-more b words more word n within is so = omega (
  arith,
  ap (λ (l : Words). length l) is,
  length-append words (cond (is_shared (account_of b n)) (word ∷ []) []),
  length-cond (is_shared (account_of b n)) word,
  so,
  sum_by_more (λ (t : AccountTerms). cond (is_shared t) 1 0) b.accounts n no_account within,
)

-- the word of a log, where the program holds it
pub word-at : (words : List (Vec ℕ Global)) (all : Words) (log : ℕ) (v : Vec ℕ Global) → contents_of words ≡ all → log < length words → v ≡ get_or words log v → v.items ≡ get_or all log []
word-at words all log v are within is = sym (get_or-contents_of words log v within is) ∙ ap (λ (l : Words). get_or l log []) are
