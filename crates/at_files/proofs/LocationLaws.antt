-- The line of a record, a byte at a time.
use Rattle.std.proofs.Common.{◌≡◌, ◌≢◌, ◌+◌, ◌-◌, ◌<◌, ◌≤◌, ◌==◌, ℕ, true, false, List, [], ◌∷◌, drop, get_or, length, if◌then◌else◌, refl, arith}
use Rattle.at_files.proofs.Prelude.{begins_line, drop_all, drop_more, ends_line, eq-eqb, is_line_end, line_from, nat_tests, strip_bom}

-- the line of a record that begins here
pub line_from-here : (records line last i : ℕ) (bytes : List ℕ) → i < length bytes → begins_line last (get_or bytes i 0) ≡ true → records ≡ 0
    → line ≡ line_from records line last (drop i bytes)
unfolding line_from
line_from-here records line last i bytes inside begins none = rw (drop_more bytes i 0 inside) (rw (begins, eq-eqb records 0 none) refl)

-- a byte more: at the beginning of a record before it, at the end of a line, and elsewhere
pub line_from-begins : (records line last i : ℕ) (bytes : List ℕ) → i < length bytes → begins_line last (get_or bytes i 0) ≡ true → records ≢ 0
    → line_from (records - 1) line (get_or bytes i 0) (drop (i + 1) bytes) ≡ line_from records line last (drop i bytes)
unfolding line_from
line_from-begins records line last i bytes inside begins some =
    let more : (records == 0) ≡ false = grind (arith, nat_tests) in
    rw (drop_more bytes i 0 inside) (rw (begins, more) refl)

pub line_from-ends : (records line last i : ℕ) (bytes : List ℕ) → i < length bytes → begins_line last (get_or bytes i 0) ≡ false → ends_line last (get_or bytes i 0) ≡ true
    → line_from records (line + 1) (get_or bytes i 0) (drop (i + 1) bytes) ≡ line_from records line last (drop i bytes)
unfolding line_from
line_from-ends records line last i bytes inside within ends = rw (drop_more bytes i 0 inside) (rw (within, ends) refl)

pub line_from-within : (records line last i : ℕ) (bytes : List ℕ) → i < length bytes → begins_line last (get_or bytes i 0) ≡ false → ends_line last (get_or bytes i 0) ≡ false
    → line_from records line (get_or bytes i 0) (drop (i + 1) bytes) ≡ line_from records line last (drop i bytes)
unfolding line_from
line_from-within records line last i bytes inside within goes = rw (drop_more bytes i 0 inside) (rw (within, goes) refl)

-- behind the last byte
pub line_from-end : (records line last i : ℕ) (bytes : List ℕ) → length bytes ≤ i → line_from records line last (drop i bytes) ≡ (if is_line_end last then line else line + 1)
unfolding line_from
line_from-end records line last i bytes past = rw (drop_all i bytes past) refl

-- bytes behind a mark of order, and bytes without one
pub strip_bom-marked : (bytes rest : List ℕ) → bytes ≡ 239 ∷ 187 ∷ 191 ∷ rest → rest ≡ strip_bom bytes
unfolding strip_bom
strip_bom-marked bytes rest is = rw is refl

pub strip_bom-without : (bytes : List ℕ) → ((rest : List ℕ) → bytes ≢ 239 ∷ 187 ∷ 191 ∷ rest) → bytes ≡ strip_bom bytes
unfolding strip_bom
strip_bom-without [] other = refl
strip_bom-without (a ∷ []) other = refl
strip_bom-without (a ∷ b ∷ []) other = refl
strip_bom-without (a ∷ b ∷ c ∷ rest) other = grind (arith, other rest)
