-- The field of replies, word by word, and the record that ends with it.
use Rattle.std.proofs.Common.{◌≡◌, ℕ, Bool, true, false, ◌||◌, List, [], ◌∷◌, ◌++◌, ap, refl, sym, append_assoc, append-nil, ◌∙◌}
use Rattle.at_tables.proofs.Prelude.{join_with_byte, Word, Words, spaced, comma_led, record_text, join_with_byte-spaced, record_text-three, word_if, parted}

-- a word that may come, and the words after it
parted-word_if : (before comes : Bool) (word : Word) (words : Words) → parted before (word_if comes word ++ words) ≡ parted before (word_if comes word) ++ parted (before || comes) words
parted-word_if true true word words = ap (λ (text : List ℕ). 32 ∷ (text ++ spaced words)) (sym (append-nil word))
parted-word_if true false word words = refl
parted-word_if false true word words = join_with_byte-spaced word words
parted-word_if false false word words = refl

-- four words that may come
four-word_if : (a b c d : Bool) (s t u v : Word)
    → join_with_byte 32 (word_if a s ++ word_if b t ++ word_if c u ++ word_if d v)
    ≡ parted false (word_if a s) ++ (parted a (word_if b t) ++ (parted (a || b) (word_if c u) ++ parted ((a || b) || c) (word_if d v)))
four-word_if a b c d s t u v =
    let nested : word_if a s ++ word_if b t ++ word_if c u ++ word_if d v ≡ word_if a s ++ (word_if b t ++ (word_if c u ++ word_if d v)) = simp append_assoc in
    rw (nested, parted-word_if false a s (word_if b t ++ (word_if c u ++ word_if d v)), parted-word_if a b t (word_if c u ++ word_if d v), parted-word_if (a || b) c u (word_if d v)) refl

-- the same, each after the one before it
pub four_parted : (out one two three four : List ℕ) (a b c d x y z : Bool) (s t u v : Word)
    → one ≡ out ++ parted false (word_if a s) → x ≡ a → two ≡ one ++ parted x (word_if b t) → y ≡ x || b
    → three ≡ two ++ parted y (word_if c u) → z ≡ y || c → four ≡ three ++ parted z (word_if d v)
    → four ≡ out ++ join_with_byte 32 (word_if a s ++ word_if b t ++ word_if c u ++ word_if d v)
four_parted out one two three four a b c d x y z s t u v first is_x second is_y third is_z fourth =
    rw (fourth, third, second, first, is_z, is_y, is_x, four-word_if) (simp append_assoc)

-- a record whose last field comes after a comma that was added by itself
pub record_text-last : (out field : List ℕ) (a b : Words) (last : Word)
    → (((((out ++ field) ++ comma_led a) ++ comma_led b) ++ 44 ∷ []) ++ last) ++ 10 ∷ [] ≡ out ++ record_text (field ∷ (a ++ (b ++ last ∷ [])))
record_text-last out field a b last =
    rw (← record_text-three out field a b (last ∷ [])) (simp (append_assoc, append-nil))
