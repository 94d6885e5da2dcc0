-- Texts, one after another.
use Rattle.std.proofs.Common.{◌≡◌, ℕ, ◌+◌, ◌<◌, ◌∙◌, List, [], ◌∷◌, ◌++◌, map, flat_map, length, take, get_or, sym, ap, append_assoc, append-nil, arith, codes}
use Rattle.at_tables.proofs.Prelude.{range_with_len, BookTerms, NameList, Line, LedgerState, flat_map-append, map-append, map-id, take_more, map-range_with_len_more, TakesRest, JournalEntry, Enters, entry_of, first_transaction, last_transaction, opening_credits, assertions, declaration_text, declarations_text, entry_text, posting_text, postings_text}

-- six texts after another
pub append-six : (out a b c d e f : List ℕ) → (((((out ++ a) ++ b) ++ c) ++ d) ++ e) ++ f ≡ out ++ (a ++ b ++ c ++ d ++ e ++ f)
append-six out a b c d e f = simp append_assoc

-- three texts after another
pub append-three : (out a b c : List ℕ) → ((out ++ a) ++ b) ++ c ≡ out ++ (a ++ b ++ c)
append-three out a b c = simp append_assoc

-- the same, grouped to the right
append-right : (out a b c : List ℕ) → ((out ++ a) ++ b) ++ c ≡ out ++ (a ++ (b ++ c))
append-right out a b c = simp append_assoc

-- what a function gives of a list and one more element
flat_map-push : {X : Type 0} (f : X → List ℕ) (xs : List X) (x : X) → flat_map f (xs ++ x ∷ []) ≡ flat_map f xs ++ f x
flat_map-push f xs x = flat_map-append f xs (x ∷ []) ∙ ap (λ (text : List ℕ). flat_map f xs ++ text) (append-nil (f x))

-- the texts of some, and that of one more
flat_map-one_more : {X : Type 0} (f : X → List ℕ) (out : List ℕ) (xs more : List X) (x : X) → more ≡ xs ++ x ∷ []
    → (out ++ flat_map f xs) ++ f x ≡ out ++ flat_map f more
flat_map-one_more f out xs more x is = rw (is, flat_map-push f xs x) (append_assoc out (flat_map f xs) (f x))

-- the texts of what a list's first elements give, and that of the next one
pub flat_map-map_take_more : {X Y : Type 0} (f : Y → List ℕ) (g : X → Y) (out : List ℕ) (xs : List X) (i : ℕ) (d : X) → i < length xs
    → (out ++ flat_map f (map g (take i xs))) ++ f (g (get_or xs i d)) ≡ out ++ flat_map f (map g (take (i + 1) xs))
flat_map-map_take_more f g out xs i d within =
    flat_map-one_more f out (map g (take i xs)) (map g (take (i + 1) xs)) (g (get_or xs i d))
    (ap (map g) (take_more xs i d within) ∙ map-append g (take i xs) (get_or xs i d ∷ []))

-- the same of an element that is the next one
pub flat_map-map_item_more : {X Y : Type 0} (f : Y → List ℕ) (g : X → Y) (out : List ℕ) (xs : List X) (i : ℕ) (x : X) → i < length xs
    → x ≡ get_or xs i x → (out ++ flat_map f (map g (take i xs))) ++ f (g x) ≡ out ++ flat_map f (map g (take (i + 1) xs))
flat_map-map_item_more f g out xs i x within is =
    ap (λ y. (out ++ flat_map f (map g (take i xs))) ++ f (g y)) is ∙ flat_map-map_take_more f g out xs i x within

-- the texts of what the first numbers give, and that of the next one
pub flat_map-map_range_more : {Y : Type 0} (f : Y → List ℕ) (g : ℕ → Y) (out : List ℕ) (n : ℕ)
    → (out ++ flat_map f (map g (range_with_len 0 n))) ++ f (g n) ≡ out ++ flat_map f (map g (range_with_len 0 (n + 1)))
flat_map-map_range_more f g out n =
    flat_map-one_more f out (map g (range_with_len 0 n)) (map g (range_with_len 0 (n + 1))) (g n) (map-range_with_len_more g 0 n n (omega arith))

-- the texts of the first numbers, and that of the next one
pub flat_map-range_more : (f : ℕ → List ℕ) (out : List ℕ) (n : ℕ)
    → (out ++ flat_map f (range_with_len 0 n)) ++ f n ≡ out ++ flat_map f (range_with_len 0 (n + 1))
flat_map-range_more f out n =
    let same : (k : ℕ) → map (λ (i : ℕ). i) (range_with_len 0 k) ≡ range_with_len 0 k = λ k. map-id (range_with_len 0 k) in
    rw (same n, same (n + 1)) at (flat_map-map_range_more f (λ i. i) out n)

-- the declarations, one after another
pub declarations_text-parts : (out accounts whole : List ℕ) (b : BookTerms) (names : NameList)
    → accounts ≡ out ++ flat_map (declaration_text names) (range_with_len 0 (length b.accounts)) → whole ≡ accounts ++ codes "account equity:openings\n"
    → whole ≡ out ++ declarations_text b names
declarations_text-parts out accounts whole b names first last =
    last ∙ ap (λ (text : List ℕ). text ++ codes "account equity:openings\n") first
    ∙ append_assoc out (flat_map (declaration_text names) (range_with_len 0 (length b.accounts))) (codes "account equity:openings\n")

-- the parts of the first transaction, one after another
pub openings-parts : (out title credits whole : List ℕ) (b : BookTerms) (names : NameList)
    → title ≡ out ++ codes "\n1970-01-01 openings\n" → credits ≡ title ++ postings_text names (opening_credits b)
    → whole ≡ credits ++ codes "    equity:openings\n" → whole ≡ out ++ entry_text names (Enters (first_transaction b))
openings-parts out title credits whole b names first middle last =
    last
    ∙ ap (λ (text : List ℕ). text ++ codes "    equity:openings\n") (middle ∙ ap (λ (text : List ℕ). text ++ postings_text names (opening_credits b)) first)
    ∙ append-right out (codes "\n1970-01-01 openings\n") (postings_text names (opening_credits b)) (codes "    equity:openings\n")
    ∙ ap (λ (text : List ℕ). out ++ (codes "\n1970-01-01 openings\n" ++ text)) (sym (flat_map-push (posting_text names) (opening_credits b) TakesRest))

-- the parts of the last transaction, one after another
pub balances-parts : (out title whole : List ℕ) (s : LedgerState) (names : NameList)
    → title ≡ out ++ codes "\n1970-01-01 balances\n" → whole ≡ title ++ postings_text names (assertions s)
    → whole ≡ out ++ entry_text names (Enters (last_transaction s))
balances-parts out title whole s names first last =
    last ∙ ap (λ (text : List ℕ). text ++ postings_text names (assertions s)) first
    ∙ append_assoc out (codes "\n1970-01-01 balances\n") (postings_text names (assertions s))

-- the parts of the whole text, one after another
pub ledger_text-parts : (names : NameList) (declared : List ℕ) (first last : JournalEntry) (lines : List Line)
    → ((declared ++ entry_text names first) ++ flat_map (entry_text names) (map entry_of lines)) ++ entry_text names last
    ≡ declared ++ flat_map (entry_text names) (first ∷ (map entry_of lines ++ last ∷ []))
ledger_text-parts names declared first last lines =
    let entered : List JournalEntry = map entry_of lines in
    let text : JournalEntry → List ℕ = entry_text names in
    append-right declared (text first) (flat_map text entered) (text last)
    ∙ ap (λ (t : List ℕ). declared ++ (text first ++ t)) (sym (flat_map-push text entered last))

-- an empty line, a title and two postings' texts
pub append-four : (out title first others : List ℕ) → (((out ++ codes "\n") ++ title) ++ first) ++ others ≡ out ++ (10 ∷ (title ++ (first ++ others)))
append-four out title first others =
    simp append_assoc

-- an empty line, a title and the text of one posting
pub append-balance : (out title posting : List ℕ) → ((out ++ codes "\n") ++ title) ++ posting ≡ out ++ (10 ∷ (title ++ (posting ++ [])))
append-balance out title posting = simp (append_assoc, append-nil)
