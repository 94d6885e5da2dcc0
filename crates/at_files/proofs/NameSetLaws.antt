-- Names that are told apart.
use Rattle.std.proofs.Common.{◌≡◌, ℕ, ◌<◌, ◌≤◌, Bool, true, false, List, [], ◌∷◌, ◌++◌, length, map, Option, Some, None, get_or, position, bytes_eq, if◌then◌else◌, refl, ap, arith}
use Rattle.at_files.proofs.Prelude.{IsDistinct, list_any, position_or_len, nat_list_eq_equiv, length-map, map-append, All-push, position-Some, IsDistinct-push, bytes_eq-Decides, insert_key, has_name, position_of, IsNameSet, most_name_bytes}

module _ {N : Type 0} (f : N → List ℕ) where
  pub has_name-map : (keys : List N) (name : List ℕ) → has_name (map f keys) name ≡ list_any (λ key. bytes_eq name (f key)) keys
  has_name-map [] name = refl
  has_name-map (key ∷ keys) name = rw (has_name-map keys name) refl

  position_or_len-map : (keys : List N) (name : List ℕ) → position_or_len (bytes_eq name) (map f keys) ≡ position_or_len (λ key. bytes_eq name (f key)) keys
  position_or_len-map [] name = refl
  position_or_len-map (key ∷ keys) name = rw (position_or_len-map keys name) refl

  -- a name is found among keys that show their names
  pub position_of-map : (keys : List N) (name : List ℕ) → position_of (map f keys) name ≡ position (λ key. bytes_eq name (f key)) keys
  position_of-map keys name = rw (position_or_len-map keys name, length-map) refl

  -- a key that is inserted shows its name after the others, unless it is there
  pub insert_key-map : (keys : List N) (key : N) (name : List ℕ) → f key ≡ name
      → map f (insert_key (λ x y. bytes_eq (f x) (f y)) keys key) ≡ (if has_name (map f keys) name then map f keys else map f keys ++ name ∷ [])
  insert_key-map keys key name is = rw (has_name-map keys name, ← is) (by (list_any (λ other. bytes_eq (f key) (f other)) keys))
    where
      by : (b : Bool) → map f (if b then keys else keys ++ key ∷ []) ≡ (if b then map f keys else map f keys ++ f key ∷ [])
      by true = refl
      by false = map-append f keys (key ∷ [])

-- names that are held, with one more
pub IsNameSet-add : (names : List (List ℕ)) (name : List ℕ) → IsNameSet names → length name ≤ most_name_bytes
    → IsNameSet (if has_name names name then names else names ++ name ∷ [])
IsNameSet-add names name held short = by (has_name names name) refl
  where
    by : (b : Bool) → has_name names name ≡ b → IsNameSet (if b then names else names ++ name ∷ [])
    by true there = held
    by false absent = record {
      distinct = IsDistinct-push nat_list_eq_equiv names name held.distinct absent;
      short = All-push (λ other. length other ≤ most_name_bytes) names name held.short short;
    }

pub IsNameSet-none : IsNameSet []
unfolding IsDistinct
IsNameSet-none = record { distinct = tt; short = λ k d within. absurd (omega arith) }

-- a text that is longer than a name is none of them
pub position_of-long : (names : List (List ℕ)) (text : List ℕ) → IsNameSet names → most_name_bytes < length text → position_of names text ≡ None
position_of-long names text held long = by (position_of names text) refl
  where
    by : (position : Option ℕ) → position_of names text ≡ position → position ≡ None
    by None is = refl
    by (Some n) is =
        let at = position-Some (bytes_eq text) names n [] is in
        let same : text ≡ get_or names n [] = (bytes_eq-Decides text (get_or names n [])).0 at.1 in
        let short : length (get_or names n []) ≤ most_name_bytes = held.short n [] at.0 in
        absurd (let same_length = ap length same in omega arith)
