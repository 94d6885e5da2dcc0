-- The records of bytes, one after another.
use Rattle.std.proofs.Common.{◌≡◌, ◌+◌, ◌<◌, ◌≤◌, ℕ, zero, suc, Bool, true, false, List, [], ◌∷◌, length, Option, Some, None, unwrap_or, IsSome, if◌then◌else◌, not, refl, ◌∙◌, ap, inl, add-one, arith}
use Rattle.at_files.proofs.Prelude.{Bor, State, Read, next_record, step, is_end, fields_after, field_after, ends_at_end, default_config, records_from, records_next, source_of, pending_of, NextIs, ReadsNext, ReadRecord, took_first, Reader, Fields, records_read_from, records_left, IsBetweenRecords}

-- a byte that ends a record leaves the reader between two records
ends-step : (s : State) (c : ℕ) → is_end (step default_config s c).1 ≡ true → ends_at_end (step default_config s c).0 ≡ false
ends-step s c h = grind arith

-- what is read at a byte, which ends a record or doesn't: where nothing was left to be read, nothing came of it
none-read : (q : Read) → ◌≡◌ {A = Option Read} None (Some q) → ⊥
none-read q is = cc

read-same : (r q : Read) → Some r ≡ Some q → r ≡ q
read-same r q is = cc

next-le : (ends : Bool) (ended : List (List ℕ)) (s : State) (xs : List ℕ) (more : Option Read) (q : Read) → (if ends then Some (ended, s, xs) else more) ≡ Some q
    → (more ≡ Some q → length q.2 ≤ length xs) → length q.2 ≤ length xs
next-le true ended s xs more q is later = rw (← read-same (ended, s, xs) q is) (omega arith)
next-le false ended s xs more q is later = later is

next-ends : (ends : Bool) (ended : List (List ℕ)) (s : State) (xs : List ℕ) (more : Option Read) (q : Read) → (if ends then Some (ended, s, xs) else more) ≡ Some q
    → (ends ≡ true → ends_at_end s ≡ false) → (more ≡ Some q → ends_at_end q.1 ≡ false) → ends_at_end q.1 ≡ false
next-ends true ended s xs more q is here later = rw (← read-same (ended, s, xs) q is) (here refl)
next-ends false ended s xs more q is here later = later is

-- a record that was read leaves no more bytes than there were
rest-le : (s : State) (f : List (List ℕ)) (p xs : List ℕ) (q : Read) → next_record default_config s f p xs ≡ Some q → length q.2 ≤ length xs
unfolding next_record
rest-le s f p [] q h = next-le (ends_at_end s) _ _ [] None q h (λ none. absurd (none-read q none))
rest-le s f p (c ∷ xs) q h =
    let less : length q.2 ≤ length xs =
    next-le (is_end (step default_config s c).1) _ _ xs _ q h
    (rest-le (step default_config s c).0 (fields_after (step default_config s c).1 f p) (field_after (step default_config s c).1 c p) xs q) in
    omega arith

-- a read from between two records takes a byte, and ends between two records
next-between : (s : State) (f : List (List ℕ)) (p xs : List ℕ) (q : Read) → next_record default_config s f p xs ≡ Some q → ends_at_end q.1 ≡ false
unfolding next_record
next-between s f p [] q h = next-ends (ends_at_end s) _ _ [] None q h (λ is. refl) (λ none. absurd (none-read q none))
next-between s f p (c ∷ xs) q h =
    next-ends (is_end (step default_config s c).1) _ _ xs _ q h (ends-step s c)
    (next-between (step default_config s c).0 (fields_after (step default_config s c).1 f p) (field_after (step default_config s c).1 c p) xs q)

next-shrinks : (s : State) (xs : List ℕ) (q : Read) → ends_at_end s ≡ false → next_record default_config s [] [] xs ≡ Some q → length q.2 < length xs
unfolding next_record
next-shrinks s [] q h e = grind arith
next-shrinks s (c ∷ xs) q h e =
    let less : length q.2 ≤ length xs =
    next-le (is_end (step default_config s c).1) _ _ xs _ q e
    (rest-le (step default_config s c).0 (fields_after (step default_config s c).1 [] []) (field_after (step default_config s c).1 c []) xs q) in
    omega arith

-- two ways to read on that agree after the next record give the same records
records_next-same : (f g : State → List ℕ → List Fields) (o : Option Read) → ((q : Read) → o ≡ Some q → f q.1 q.2 ≡ g q.1 q.2) → records_next f o ≡ records_next g o
records_next-same f g None same = refl
records_next-same f g (Some q) same = ap (λ records. q.0 ∷ records) (same q refl)

-- any bound above the number of bytes gives the same records
records_from-enough : (n m : ℕ) (s : State) (xs : List ℕ) → ends_at_end s ≡ false → length xs < n → length xs < m → records_from default_config n s xs ≡ records_from default_config m s xs
unfolding records_from
records_from-enough zero m s xs e h k = absurd (omega arith)
records_from-enough (suc n) zero s xs e h k = absurd (omega arith)
records_from-enough (suc n) (suc m) s xs e h k =
    records_next-same (records_from default_config n) (records_from default_config m) (next_record default_config s [] [] xs)
    (λ q is. records_from-enough n m q.1 q.2 (next-between s [] [] xs q is) (omega (arith, next-shrinks s xs q e is)) (omega (arith, next-shrinks s xs q e is)))

pub records_read_from-next : (s : State) (xs : List ℕ) → ends_at_end s ≡ false → records_read_from s xs ≡ records_next records_read_from (next_record default_config s [] [] xs)
unfolding records_from
records_read_from-next s xs e =
    rw add-one
    (records_next-same (records_from default_config (length xs)) records_read_from (next_record default_config s [] [] xs)
    (λ q is. records_from-enough (length xs) (length q.2 + 1) q.1 q.2 (next-between s [] [] xs q is) (next-shrinks s xs q e is) (omega arith)))

-- a read of known bytes gives the first of the records, and those after it are left
reads-records : (s : State) (a b : Option (List ℕ)) (found : Bool) (fields : Fields) (s2 : State) → IsSome a → ends_at_end s ≡ false
    → ReadsNext default_config s a b found fields s2 → records_read_from s (unwrap_or a []) ≡ (if found then fields ∷ records_read_from s2 (unwrap_or b []) else [])
reads-records s None b found fields s2 known e reads = absurd (cc)
reads-records s (Some xs) None found fields s2 known e reads = absurd reads
reads-records s (Some xs) (Some ys) found fields s2 known e reads =
    records_read_from-next s xs e ∙ by (next_record default_config s [] [] xs) reads
  where
    by : (o : Option Read) → NextIs o found fields s2 ys → records_next records_read_from o ≡ (if found then fields ∷ records_read_from s2 ys else [])
    by None is = rw is refl
    by (Some q) is = rw (is.0, is.1, is.2, is.3) refl

-- after a record the bytes are still known, and the reader stands between two records
reads-between : (s : State) (a b : Option (List ℕ)) (fields : Fields) (s2 : State) → IsSome a → ends_at_end s ≡ false
    → ReadsNext default_config s a b true fields s2 → IsSome b × (ends_at_end s2 ≡ false)
reads-between s None b fields s2 known e reads = absurd (cc)
reads-between s (Some xs) None fields s2 known e reads = absurd reads
reads-between s (Some xs) (Some ys) fields s2 known e reads =
    (refl, by (next_record default_config s [] [] xs) refl reads)
  where
    by : (o : Option Read) → next_record default_config s [] [] xs ≡ o → NextIs o true fields s2 ys → ends_at_end s2 ≡ false
    by None is next = absurd (let wrong : true ≡ false = next in cc)
    by (Some q) is next = rw next.2 (next-between s [] [] xs q is)

-- a reader that has looked for a byte order mark has left what it has in hand
source-pending : (reader : Reader (Bor (List ℕ))) → reader.bom_checked ≡ true → source_of (λ b. Some b.now) reader ≡ pending_of (Some reader.rdr.now) reader
source-pending reader checked = rw checked refl

-- a read gives the first of the records that a reader has left
pub records_left-read : (all : List Fields) (old new : Reader (Bor (List ℕ))) (ended found : Bool) (fields : Fields) → ended ≡ false
    → all ≡ (if ended then [] else records_left old) → IsBetweenRecords old → ReadRecord (λ b. Some b.now) old new found fields
    → all ≡ (if found then fields ∷ (if not found then [] else records_left new) else [])
records_left-read all old new ended found fields going is_all is read =
    is_all ∙ rw going
    (reads-records old.state (source_of (λ b. Some b.now) old) (pending_of (Some new.rdr.now) new) found fields new.state is.known is.between
    (rw is.config at read.0) ∙ by found)
  where
    by : (b : Bool) → (if b then fields ∷ records_read_from new.state (unwrap_or (pending_of (Some new.rdr.now) new) []) else [])
        ≡ (if b then fields ∷ (if not b then [] else records_left new) else [])
    by true = rw (source-pending new read.1) refl
    by false = refl

-- after a record the reader still stands between two records
pub IsBetweenRecords-read : (old new : Reader (Bor (List ℕ))) (found : Bool) (fields : Fields) → IsBetweenRecords old
    → ReadRecord (λ b. Some b.now) old new found fields → took_first new ≡ true → not found ≡ false → IsBetweenRecords new
IsBetweenRecords-read old new false fields is read first more = absurd (cc)
IsBetweenRecords-read old new true fields is read first more =
    let both = reads-between old.state (source_of (λ b. Some b.now) old) (pending_of (Some new.rdr.now) new) fields new.state is.known is.between (rw is.config at read.0) in
    record {
      trim = read.3 ∙ is.trim;
      ready = inl first;
      config = read.2 ∙ is.config;
      known = rw (source-pending new read.1) both.0;
      between = both.1;
    }
