-- The targets of a pay-out, one after another.
use Rattle.std.proofs.Common.{◌≡◌, ℕ, ◌+◌, ◌*◌, ◌<◌, ◌≤◌, true, false, ◌&&◌, List, [], ◌∷◌, ◌++◌, length, drop, is_some, Bool, Option, Some, None, refl, sym, ◌∙◌, ap, append_assoc, append-nil, arith}
use Rattle.at_files.proofs.Prelude.{drop_all, length_push, TargetPair, position_of, Fields, before, field_of, number_at, has_amounts, target_of, targets_spelled}
use Rattle.at_files.proofs.FieldLaws.{drop-field_of}

-- the fields of the target at a position, and those after it
drop-target : (fields : Fields) (i : ℕ) → 2 * i + 3 < length fields
    → drop (2 * i + 2) fields ≡ field_of fields (2 * i + 2) ∷ field_of fields (2 * i + 3) ∷ drop (2 * (i + 1) + 2) fields
drop-target fields i within =
    let next : 2 * i + 2 + 1 ≡ 2 * i + 3 = omega arith in
    let last : 2 * i + 3 + 1 ≡ 2 * (i + 1) + 2 = omega arith in
    drop-field_of fields (2 * i + 2) (omega arith)
    ∙ rw next (ap (λ rest. field_of fields (2 * i + 2) ∷ rest) (drop-field_of fields (2 * i + 3) within ∙ rw last refl))

has_amounts-drop : (fields : Fields) (i : ℕ) → 2 * i + 3 < length fields
    → has_amounts (drop (2 * i + 2) fields) ≡ (is_some (number_at fields (2 * i + 3)) && has_amounts (drop (2 * (i + 1) + 2) fields))
unfolding has_amounts
has_amounts-drop fields i within = rw (drop-target fields i within) refl

pub has_amounts-more : (fields : Fields) (whole : Bool) (i count : ℕ) → length fields ≡ 2 * count + 2 → i < count → is_some (number_at fields (2 * i + 3)) ≡ true
    → whole ≡ has_amounts (drop (2 * i + 2) fields) → whole ≡ has_amounts (drop (2 * (i + 1) + 2) fields)
has_amounts-more fields whole i count long below some here =
    here ∙ has_amounts-drop fields i (omega arith) ∙ rw some refl

pub has_amounts-bad : (fields : Fields) (whole : Bool) (i count : ℕ) → length fields ≡ 2 * count + 2 → i < count → is_some (number_at fields (2 * i + 3)) ≡ false
    → whole ≡ has_amounts (drop (2 * i + 2) fields) → whole ≡ false
has_amounts-bad fields whole i count long below none here =
    here ∙ has_amounts-drop fields i (omega arith) ∙ rw none refl

pub has_amounts-end : (fields : Fields) (whole : Bool) (i count : ℕ) → length fields ≡ 2 * count + 2 → count ≤ i → whole ≡ has_amounts (drop (2 * i + 2) fields) → whole ≡ true
unfolding has_amounts
has_amounts-end fields whole i count long all here = here ∙ rw (drop_all (2 * i + 2) fields (omega arith)) refl

-- targets before those that come later, if these are there
abbrev pub targets_before : List TargetPair → Option (List TargetPair) → Option (List TargetPair)
targets_before targets (Some later) = Some (targets ++ later)
targets_before targets None = None

targets_before-push : (targets : List TargetPair) (target : TargetPair) (later : Option (List TargetPair))
    → targets_before targets (before (Some target) later) ≡ targets_before (targets ++ target ∷ []) later
targets_before-push targets target (Some later) = ap Some (sym (append_assoc targets (target ∷ []) later))
targets_before-push targets target None = refl

targets_before-none : (targets : List TargetPair) (later : Option (List TargetPair)) → targets_before targets (before None later) ≡ None
targets_before-none targets (Some later) = refl
targets_before-none targets None = refl

targets_spelled-drop : (names : List (List ℕ)) (fields : Fields) (i : ℕ) → 2 * i + 3 < length fields
    → targets_spelled names (drop (2 * i + 2) fields)
    ≡ before (target_of (position_of names (field_of fields (2 * i + 2))) (number_at fields (2 * i + 3))) (targets_spelled names (drop (2 * (i + 1) + 2) fields))
unfolding targets_spelled
targets_spelled-drop names fields i within = rw (drop-target fields i within) refl

-- these are the first targets, and what comes later is that of the fields from there on
pub record AreTaken (names : List (List ℕ)) (fields : Fields) (targets : List TargetPair) (i : ℕ) : Type 0 where
  pub taken : targets_spelled names (drop 2 fields) ≡ targets_before targets (targets_spelled names (drop (2 * i + 2) fields))
  pub count : length targets ≡ i

-- the target of a record at a position
abbrev target_in : List (List ℕ) → Fields → ℕ → Option TargetPair
target_in names fields i = target_of (position_of names (field_of fields (2 * i + 2))) (number_at fields (2 * i + 3))

pub AreTaken-first : (names : List (List ℕ)) (fields : Fields) (count : ℕ) (target : TargetPair) → length fields ≡ 2 * count + 2 → 1 ≤ count
    → target_in names fields 0 ≡ Some target → AreTaken names fields (target ∷ []) 1
AreTaken-first names fields count target long some is = record {
  taken = targets_spelled-drop names fields 0 (omega arith) ∙ rw is (by (targets_spelled names (drop 4 fields)));
  count = refl;
}
  where
    by : (later : Option (List TargetPair)) → before (Some target) later ≡ targets_before (target ∷ []) later
    by None = refl
    by (Some later) = refl

pub AreTaken-more : (names : List (List ℕ)) (fields : Fields) (targets : List TargetPair) (i count : ℕ) (target : TargetPair) → AreTaken names fields targets i
    → length fields ≡ 2 * count + 2 → i < count → target_in names fields i ≡ Some target → AreTaken names fields (targets ++ target ∷ []) (i + 1)
AreTaken-more names fields targets i count target are long below is = record {
  taken =
      are.taken
      ∙ rw (targets_spelled-drop names fields i (omega arith), is) (targets_before-push targets target (targets_spelled names (drop (2 * (i + 1) + 2) fields)));
  count = let same = are.count in omega (arith, length_push targets target);
}

-- no target is there that is missing at its position
pub targets_spelled-missing : (names : List (List ℕ)) (fields : Fields) (targets : List TargetPair) (i count : ℕ) → AreTaken names fields targets i
    → length fields ≡ 2 * count + 2 → i < count → target_in names fields i ≡ None → targets_spelled names (drop 2 fields) ≡ None
targets_spelled-missing names fields targets i count are long below is =
    are.taken ∙ rw (targets_spelled-drop names fields i (omega arith), is) (targets_before-none targets (targets_spelled names (drop (2 * (i + 1) + 2) fields)))

pub targets_spelled-first_missing : (names : List (List ℕ)) (fields : Fields) (count : ℕ) → length fields ≡ 2 * count + 2 → 1 ≤ count
    → target_in names fields 0 ≡ None → targets_spelled names (drop 2 fields) ≡ None
targets_spelled-first_missing names fields count long some is =
    targets_spelled-drop names fields 0 (omega arith) ∙ rw is (by (targets_spelled names (drop 4 fields)))
  where
    by : (later : Option (List TargetPair)) → before None later ≡ None
    by None = refl
    by (Some later) = refl

pub targets_spelled-taken : (names : List (List ℕ)) (fields : Fields) (targets : List TargetPair) (i count : ℕ) → AreTaken names fields targets i
    → length fields ≡ 2 * count + 2 → count ≤ i → targets_spelled names (drop 2 fields) ≡ Some targets
unfolding targets_spelled
targets_spelled-taken names fields targets i count are long all =
    are.taken ∙ rw (drop_all (2 * i + 2) fields (omega arith)) (ap Some (append-nil targets))
