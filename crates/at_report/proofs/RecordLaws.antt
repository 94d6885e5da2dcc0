-- Records of CSV texts and their fields.
use Rattle.std.proofs.Common.{◌≡◌, ℕ, ◌+◌, List, [], ◌∷◌, ◌++◌, flat_map, map, ap, ◌∙◌, sym, append_assoc, append-nil, arith}
use Rattle.at_report.proofs.Prelude.{join_with_byte, range_with_len, flat_map-append, map-id, map-range_with_len_more, Words, comma_led, record_text, records_text}

-- a record is its first field, and then the others, each after a comma
pub join_with_byte-comma_led : (field : List ℕ) (fields : Words) → join_with_byte 44 (field ∷ fields) ≡ field ++ comma_led fields
join_with_byte-comma_led field [] = sym (append-nil field)
join_with_byte-comma_led field (next ∷ fields) = ap (λ (text : List ℕ). field ++ 44 ∷ text) (join_with_byte-comma_led next fields)

pub record_text-comma_led : (field : List ℕ) (fields : Words) → record_text (field ∷ fields) ≡ field ++ comma_led fields ++ 10 ∷ []
record_text-comma_led field fields = ap (λ (text : List ℕ). text ++ 10 ∷ []) (join_with_byte-comma_led field fields)

pub comma_led-append : (fields more : Words) → comma_led (fields ++ more) ≡ comma_led fields ++ comma_led more
comma_led-append fields more = flat_map-append (λ field. 44 ∷ field) fields more

-- what stands there, and a record's parts after it, are the record after it
pub record_text-parts : (out field : List ℕ) (fields : Words) → ((out ++ field) ++ comma_led fields) ++ 10 ∷ [] ≡ out ++ record_text (field ∷ fields)
record_text-parts out field fields = rw (record_text-comma_led field fields) (simp append_assoc)

-- one more of the records that a function gives
pub records_text-map_more : (f : ℕ → Words) (out : List ℕ) (n : ℕ)
    → (out ++ records_text (map f (range_with_len 0 n))) ++ record_text (f n) ≡ out ++ records_text (map f (range_with_len 0 (n + 1)))
records_text-map_more f out n =
    let more : map f (range_with_len 0 (n + 1)) ≡ map f (range_with_len 0 n) ++ f n ∷ [] = map-range_with_len_more f 0 n n (omega arith) in
    let last : records_text (map f (range_with_len 0 n) ++ f n ∷ []) ≡ records_text (map f (range_with_len 0 n)) ++ record_text (f n) =
    flat_map-append record_text (map f (range_with_len 0 n)) (f n ∷ [])
    ∙ ap (λ (text : List ℕ). records_text (map f (range_with_len 0 n)) ++ text) (append-nil (record_text (f n))) in
    rw (more, last) (simp append_assoc)

-- a record in three parts after its first field
pub record_text-three : (out field : List ℕ) (a b c : Words)
    → ((((out ++ field) ++ comma_led a) ++ comma_led b) ++ comma_led c) ++ 10 ∷ [] ≡ out ++ record_text (field ∷ (a ++ (b ++ c)))
record_text-three out field a b c =
    rw (record_text-comma_led field (a ++ (b ++ c)), comma_led-append a (b ++ c), comma_led-append b c) (simp append_assoc)

-- the records of one more process
pub records_text-flat_map_more : (f : ℕ → List Words) (out : List ℕ) (n : ℕ)
    → (out ++ records_text (flat_map f (range_with_len 0 n))) ++ records_text (f n) ≡ out ++ records_text (flat_map f (range_with_len 0 (n + 1)))
records_text-flat_map_more f out n =
    let one_more : range_with_len 0 (n + 1) ≡ range_with_len 0 n ++ n ∷ [] =
    sym (map-id (range_with_len 0 (n + 1))) ∙ (map-range_with_len_more (λ (i : ℕ). i) 0 n n (omega arith)
    ∙ ap (λ (xs : List ℕ). xs ++ n ∷ []) (map-id (range_with_len 0 n))) in
    let more : flat_map f (range_with_len 0 (n + 1)) ≡ flat_map f (range_with_len 0 n) ++ f n =
    ap (flat_map f) one_more ∙ (flat_map-append f (range_with_len 0 n) (n ∷ [])
    ∙ ap (λ (xs : List Words). flat_map f (range_with_len 0 n) ++ xs) (append-nil (f n))) in
    rw (more, flat_map-append record_text (flat_map f (range_with_len 0 n)) (f n)) (simp append_assoc)
