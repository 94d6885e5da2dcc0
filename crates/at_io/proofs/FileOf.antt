-- The first file of a name, and its position.
use Rattle.std.proofs.Common.{◌≡◌, ℕ, Bool, true, false, List, [], ◌∷◌, map, length, Option, Some, None, refl, sym, ◌∙◌, ap, inl, inr, cond, is_some, unwrap_or, position, bytes_eq, nat_lt, string_bytes}
use Rattle.at_io.proofs.Prelude.{position_or_len, slice_get, find, option_map, lt-ltb, le-ltb, find_at, slice_get_cases, KeptFile, NamedFile, named_file, file_of, unread}

-- the first element that passes of mapped elements is that of the elements, mapped
pub find-map : {X Y : Type 0} (p : Y → Bool) (f : X → Y) → (xs : List X) →
    find p (map f xs) ≡ option_map f (find (λ x. p (f x)) xs)
find-map p f [] = refl
find-map p f (x ∷ xs) = by (p (f x)) (find-map p f xs)
  where
    by : (b : Bool) →
        find p (map f xs) ≡ option_map f (find (λ y. p (f y)) xs) →
        cond b (Some (f x)) (find p (map f xs))
        ≡ option_map f (cond b (Some x) (find (λ y. p (f y)) xs))
    by true later = refl
    by false later = later

-- a file of this name
abbrev pub is_named : List ℕ → KeptFile → Bool
is_named name file = bytes_eq (string_bytes file.0) name

-- the bytes of a file
abbrev bytes_of : KeptFile → List ℕ
bytes_of file = file.1.items

-- the first file of a name stands at the first position of that name
pub file_of-named_file : (files : List KeptFile) (name : List ℕ) →
    file_of (map named_file files) name
    ≡ option_map bytes_of (slice_get files (position_or_len (is_named name) files))
file_of-named_file files name =
    ap
    (option_map (λ (file : NamedFile). file.1))
    (find-map (λ (file : NamedFile). bytes_eq file.0 name) named_file files)
    ∙ (fused (find (is_named name) files)
    ∙ ap (option_map bytes_of) (find_at (is_named name) files))
  where
    fused : (found : Option KeptFile) →
        option_map (λ (file : NamedFile). file.1) (option_map named_file found)
        ≡ option_map bytes_of found
    fused None = refl
    fused (Some file) = refl

-- a position within the list, or none
abbrev position_within : ℕ → List KeptFile → Option ℕ
position_within n files = cond (nat_lt n (length files)) (Some n) None

-- from its start, the file at a position is its bytes
unread-position_within : (files : List KeptFile) (n : ℕ) →
    unread files (position_within n files) 0 ≡ unwrap_or (option_map bytes_of (slice_get files n)) []
unread-position_within files n =
    elim (slice_get_cases files n).1 [
      | inl h ↦ rw (lt-ltb n (length files) h.1, h.2) refl
      | inr h ↦ rw (le-ltb n (length files) h.0, h.1) refl
    ]

is_some-position_within : (files : List KeptFile) (n : ℕ) →
    is_some (position_within n files) ≡ is_some (option_map bytes_of (slice_get files n))
is_some-position_within files n =
    elim (slice_get_cases files n).1 [
      | inl h ↦ rw (lt-ltb n (length files) h.1, h.2) refl
      | inr h ↦ rw (le-ltb n (length files) h.0, h.1) refl
    ]

-- from its start, the file at the first position of a name is the file of that name
pub unread-position : (files : List KeptFile) (name : List ℕ) →
    unread files (position (is_named name) files) 0 ≡ unwrap_or (file_of (map named_file files) name) []
unread-position files name =
    unread-position_within files (position_or_len (is_named name) files)
    ∙ sym (ap (λ found. unwrap_or found []) (file_of-named_file files name))

-- a name has a position exactly where it has a file
pub is_some-position : (files : List KeptFile) (name : List ℕ) →
    is_some (position (is_named name) files) ≡ is_some (file_of (map named_file files) name)
is_some-position files name =
    is_some-position_within files (position_or_len (is_named name) files)
    ∙ sym (ap is_some (file_of-named_file files name))
