-- A reader reads what is spelled, and nothing else: laws of the readers, whatever is read.
use Rattle.std.proofs.Common.{◌≡◌, ◌↔◌, ℕ, zero, suc, ◌+◌, ◌^◌, ◌<◌, ◌≤◌, Bool, true, false, cond, eqb, ltb, List, [], ◌∷◌, ◌++◌, length, get_or, take, drop, Option, Some, None, refl, sym, ap, subst, ◌∙◌, append_assoc, arith, inl, inr}
use Rattle.std.specs.Int.{Width, w32, w64, byte_len, from_be_bytes, to_be_bytes}
use Rattle.at_logs.specs.Snapshot.{many_bytes}
use Rattle.at_logs.proofs.Prelude.{All, AllByRecursion, AreBytes, append-nil, be_bytes_4, be_bytes_8, cases_lt, cond_some, drop_at, eq-eqb, eqb-false, eqb-true, eqb_tells, flat_map, from_be_bytes-to_be_bytes_4, from_be_bytes-to_be_bytes_8, get_or-drop, get_or-take, get_or_default, get_or_past, le-ltb, length-append, length-take, lt-ltb, ltb-false, ltb-true, nil_from_length, same_Some, take-append-drop, take_at, Reader, ◌>>=◌, listed_bytes, read_after, read_below, read_items, read_listed, read_made, read_many, read_number, read_pair, read_raw, read_whole}

abbrev pub IsBytes : List ℕ → Type 0
IsBytes bytes = (i : ℕ) → get_or bytes i 0 < 256

IsBytes-drop : (n : ℕ) (bytes : List ℕ) → IsBytes bytes → IsBytes (drop n bytes)
IsBytes-drop n bytes h i = rw get_or-drop (h (n + i))

IsBytes-take : (n : ℕ) (bytes : List ℕ) → IsBytes bytes → IsBytes (take n bytes)
IsBytes-take n bytes h i =
    elim (cases_lt i n) [
      | inl lt ↦ rw (get_or-take n bytes i 0 lt) (h i)
      | inr le ↦ rw (get_or_past (take n bytes) i 0 (omega (arith, length-take n bytes))) (omega arith)
    ]

each_byte : (bytes : List ℕ) → IsBytes bytes → All (λ b. b < 256) bytes
each_byte bytes fits i d within = rw (get_or_default bytes i d 0 within) (fits i)

-- the value of a step that gave one
bind_some : {A B : Type 0} (o : Option A) (f : A → Option B) (y : B) → (o >>= f) ≡ Some y → (x : A) × (o ≡ Some x) × (f x ≡ Some y)
bind_some (Some x) f y e = (x, refl, e)
bind_some None f y e = absurd cc

-- a test that lets nothing pass
guard_some : {A : Type 0} (b : Bool) (o : Option A) (y : A) → cond b None o ≡ Some y → (b ≡ false) × (o ≡ Some y)
guard_some true o y e = absurd cc
guard_some false o y e = (refl, e)

-- and one that lets something pass
passed_some : {A : Type 0} (b : Bool) (o : Option A) (y : A) → cond b o None ≡ Some y → (b ≡ true) × (o ≡ Some y)
passed_some true o y e = (refl, e)
passed_some false o y e = absurd cc

-- what a reader took from the front
pub record Takes (bytes text rest : List ℕ) : Type 0 where
  pub parts : bytes ≡ text ++ rest
  pub rest_fits : IsBytes rest

Takes-then : (a x b y c : List ℕ) → Takes a x b → Takes b y c → Takes a (x ++ y) c
Takes-then a x b y c p q = record { parts = p.parts ∙ ap (λ (t : List ℕ). x ++ t) q.parts ∙ sym (append_assoc x y c); rest_fits = q.rest_fits }

-- it gives these values alone, by their one spelling each
pub record Reads {A : Type 0} (P : A → Type 0) (spell : A → List ℕ) (one : Reader A) : Type 0 where
  pub takes : (bytes : List ℕ) (x : A × List ℕ) → IsBytes bytes → one bytes ≡ Some x → Takes bytes (spell x.0) x.1 × P x.0
  pub again : (x : A) (rest : List ℕ) → P x → one (spell x ++ rest) ≡ Some (x, rest)

-- ---- numbers and bytes

record IsWide (w : Width) (limit : ℕ) : Type 0 where
  pub len : (n : ℕ) → length (to_be_bytes w n) ≡ byte_len w
  pub back : (bytes : List ℕ) → length bytes ≡ byte_len w → IsBytes bytes → to_be_bytes w (from_be_bytes w bytes) ≡ bytes
  pub again : (n : ℕ) → n < limit → from_be_bytes w (to_be_bytes w n) ≡ n
  pub below : (bytes : List ℕ) → IsBytes bytes → from_be_bytes w bytes < limit

wide32 : IsWide w32 (2 ^ 32)
wide32 = record {
  len = λ n. refl;
  back = λ bytes len fits. be_bytes_4 bytes _ len fits refl;
  again = λ n lt. from_be_bytes-to_be_bytes_4 n lt;
  below = λ bytes fits. omega (arith, fits 0, fits 1, fits 2, fits 3);
}

wide64 : IsWide w64 (2 ^ 64)
wide64 = record {
  len = λ n. refl;
  back = λ bytes len fits. be_bytes_8 bytes _ len fits refl;
  again = λ n lt. from_be_bytes-to_be_bytes_8 n lt;
  below = λ bytes fits. omega (arith, fits 0, fits 1, fits 2, fits 3, fits 4, fits 5, fits 6, fits 7);
}

Reads-number : (w : Width) (limit : ℕ) → IsWide w limit → Reads (λ n. n < limit) (to_be_bytes w) (read_number w)
Reads-number w limit wide = record { takes = takes; again = again } where
  takes : (bytes : List ℕ) (x : ℕ × List ℕ) → IsBytes bytes → read_number w bytes ≡ Some x → Takes bytes (to_be_bytes w x.0) x.1 × (x.0 < limit)
  takes bytes x fits e =
      let len : ℕ = byte_len w in
      let g = guard_some (ltb (length bytes) len) (Some (from_be_bytes w (take len bytes), drop len bytes)) x e in
      let long : len ≤ length bytes = ltb-false _ _ g.0 in
      let front_fits : IsBytes (take len bytes) = IsBytes-take len bytes fits in
      let front : to_be_bytes w (from_be_bytes w (take len bytes)) ≡ take len bytes = wide.back (take len bytes) (omega (arith, length-take len bytes)) front_fits in
      subst (λ (y : ℕ × List ℕ). Takes bytes (to_be_bytes w y.0) y.1 × (y.0 < limit)) (same_Some _ _ g.1)
      (record { parts = rw front (sym (take-append-drop len bytes)); rest_fits = IsBytes-drop len bytes fits }, wide.below (take len bytes) front_fits)

  again : (n : ℕ) (rest : List ℕ) → n < limit → read_number w (to_be_bytes w n ++ rest) ≡ Some (n, rest)
  again n rest lt =
      let len = wide.len n in
      let long : ltb (length (to_be_bytes w n ++ rest)) (byte_len w) ≡ false = le-ltb _ _ (omega (arith, length-append (to_be_bytes w n) rest)) in
      rw (long, take_at (to_be_bytes w n) rest (byte_len w) len, drop_at (to_be_bytes w n) rest (byte_len w) len, wide.again n lt) refl

pub Reads-u32 : Reads (λ n. n < 2 ^ 32) (to_be_bytes w32) (read_number w32)
Reads-u32 = Reads-number w32 (2 ^ 32) wide32

pub Reads-u64 : Reads (λ n. n < 2 ^ 64) (to_be_bytes w64) (read_number w64)
Reads-u64 = Reads-number w64 (2 ^ 64) wide64

pub Reads-below : (limit : ℕ) → limit ≤ 2 ^ 32 → Reads (λ n. n < limit) (to_be_bytes w32) (read_below limit)
Reads-below limit small = record { takes = takes; again = again } where
  takes : (bytes : List ℕ) (x : ℕ × List ℕ) → IsBytes bytes → read_below limit bytes ≡ Some x → Takes bytes (to_be_bytes w32 x.0) x.1 × (x.0 < limit)
  takes bytes x fits e =
      let n = bind_some (read_number w32 bytes) (λ n. cond (ltb n.0 limit) (Some n) None) x e in
      let g = cond_some (ltb n.0.0 limit) n.0 x n.2 in
      let t = Reads-u32.takes bytes n.0 fits n.1 in
      subst (λ (y : ℕ × List ℕ). Takes bytes (to_be_bytes w32 y.0) y.1 × (y.0 < limit)) g.1 (t.0, ltb-true _ _ g.0)

  again : (n : ℕ) (rest : List ℕ) → n < limit → read_below limit (to_be_bytes w32 n ++ rest) ≡ Some (n, rest)
  again n rest lt = rw (Reads-u32.again n rest (omega arith), lt-ltb n limit lt) refl

pub Reads-raw : (n : ℕ) → Reads (AreBytes n) (λ bytes. bytes) (read_raw n)
Reads-raw n = record { takes = takes; again = again } where
  takes : (bytes : List ℕ) (x : List ℕ × List ℕ) → IsBytes bytes → read_raw n bytes ≡ Some x → Takes bytes x.0 x.1 × AreBytes n x.0
  takes bytes x fits e =
      let g = guard_some (ltb (length bytes) n) (Some (take n bytes, drop n bytes)) x e in
      let long : n ≤ length bytes = ltb-false _ _ g.0 in
      subst (λ (y : List ℕ × List ℕ). Takes bytes y.0 y.1 × AreBytes n y.0) (same_Some _ _ g.1) (
        record { parts = sym (take-append-drop n bytes); rest_fits = IsBytes-drop n bytes fits },
        record { long = omega (arith, length-take n bytes); each = each_byte (take n bytes) (IsBytes-take n bytes fits) },
      )

  again : (text rest : List ℕ) → AreBytes n text → read_raw n (text ++ rest) ≡ Some (text, rest)
  again text rest is =
      let long : ltb (length (text ++ rest)) n ≡ false = le-ltb _ _ (omega (arith, is.long, length-append text rest)) in
      rw (long, take_at text rest n is.long, drop_at text rest n is.long) refl

IsBytes-rest : (b : ℕ) (bytes : List ℕ) → IsBytes (b ∷ bytes) → IsBytes bytes
IsBytes-rest b bytes h i = h (suc i)

-- ---- readers of readers

pub Reads-pair : {A B : Type 0} {P : A → Type 0} {Q : B → Type 0} {s : A → List ℕ} {t : B → List ℕ} {first : Reader A} {second : Reader B} → Reads P s first → Reads Q t second
    → Reads (λ x. P x.0 × Q x.1) (λ x. s x.0 ++ t x.1) (read_pair first second)
Reads-pair {A} {B} {P} {Q} {s} {t} {first} {second} p q = record { takes = takes; again = again } where
  takes : (bytes : List ℕ) (x : (A × B) × List ℕ) → IsBytes bytes → read_pair first second bytes ≡ Some x → Takes bytes (s x.0.0 ++ t x.0.1) x.1 × (P x.0.0 × Q x.0.1)
  takes bytes x fits e =
      let a = bind_some (first bytes) (λ a. second a.1 >>= λ b. Some ((a.0, b.0), b.1)) x e in
      let b = bind_some (second a.0.1) (λ b. Some ((a.0.0, b.0), b.1)) x a.2 in
      let u = p.takes bytes a.0 fits a.1 in
      let v = q.takes a.0.1 b.0 u.0.rest_fits b.1 in
      subst (λ (y : (A × B) × List ℕ). Takes bytes (s y.0.0 ++ t y.0.1) y.1 × (P y.0.0 × Q y.0.1)) (same_Some _ _ b.2)
      (Takes-then bytes (s a.0.0) a.0.1 (t b.0.0) b.0.1 u.0 v.0, (u.1, v.1))

  again : (x : A × B) (rest : List ℕ) → P x.0 × Q x.1 → read_pair first second ((s x.0 ++ t x.1) ++ rest) ≡ Some (x, rest)
  again x rest is = rw (append_assoc (s x.0) (t x.1) rest, p.again x.0 (t x.1 ++ rest) is.0, q.again x.1 rest is.1) refl

-- what is made of a value is one to one, for the values that are so
pub Reads-made_on : {A B : Type 0} {P : A → Type 0} {Q : B → Type 0} {s : A → List ℕ} {t : B → List ℕ} {one : Reader A} (make : A → B) (back : B → A)
    → ((x : B) → Q x → make (back x) ≡ x) → ((x : A) → t (make x) ≡ s x) → ((x : A) → P x → Q (make x)) → ((x : B) → Q x → P (back x)) → Reads P s one
    → Reads Q t (read_made make one)
Reads-made_on {A} {B} {P} {Q} {s} {t} {one} make back same spelled is_made is_back p = record { takes = takes; again = again } where
  takes : (bytes : List ℕ) (x : B × List ℕ) → IsBytes bytes → read_made make one bytes ≡ Some x → Takes bytes (t x.0) x.1 × Q x.0
  takes bytes x fits e =
      let a = bind_some (one bytes) (λ a. Some (make a.0, a.1)) x e in
      let u = p.takes bytes a.0 fits a.1 in
      subst (λ (y : B × List ℕ). Takes bytes (t y.0) y.1 × Q y.0) (same_Some _ _ a.2)
      (subst (λ (text : List ℕ). Takes bytes text a.0.1) (sym (spelled a.0.0)) u.0, is_made a.0.0 u.1)

  again : (x : B) (rest : List ℕ) → Q x → read_made make one (t x ++ rest) ≡ Some (x, rest)
  again x rest is =
      let text : t x ≡ s (back x) = ap t (sym (same x is)) ∙ spelled (back x) in
      rw (text, p.again (back x) rest (is_back x is)) (ap (λ (y : B). Some (y, rest)) (same x is))

-- and for all values
pub Reads-made : {A B : Type 0} {P : A → Type 0} {Q : B → Type 0} {s : A → List ℕ} {t : B → List ℕ} {one : Reader A} (make : A → B) (back : B → A) → ((x : B) → make (back x) ≡ x)
    → ((x : A) → t (make x) ≡ s x) → ((x : A) → P x → Q (make x)) → ((x : B) → Q x → P (back x)) → Reads P s one → Reads Q t (read_made make one)
Reads-made make back same spelled is_made is_back p = Reads-made_on make back (λ x _. same x) spelled is_made is_back p

-- so many values, each of them so
pub record AreSoMany {A : Type 0} (P : A → Type 0) (n : ℕ) (xs : List A) : Type 0 where
  pub long : length xs ≡ n
  pub each : AllByRecursion P xs

Reads-none : {A : Type 0} (P : A → Type 0) (s : A → List ℕ) (one : Reader A) → Reads (AreSoMany P zero) (flat_map s) (read_items one zero)
unfolding read_items
Reads-none {A} P s one = record { takes = takes; again = again } where
  takes : (bytes : List ℕ) (x : List A × List ℕ) → IsBytes bytes → read_items one zero bytes ≡ Some x → Takes bytes (flat_map s x.0) x.1 × AreSoMany P zero x.0
  takes bytes x fits e = subst (λ (y : List A × List ℕ). Takes bytes (flat_map s y.0) y.1 × AreSoMany P zero y.0) (same_Some _ _ e)
      (record { parts = refl; rest_fits = fits }, record { long = refl; each = tt })

  again : (xs : List A) (rest : List ℕ) → AreSoMany P zero xs → read_items one zero (flat_map s xs ++ rest) ≡ Some (xs, rest)
  again [] rest is = refl
  again (x ∷ xs) rest is = absurd (omega (arith, is.long))

Reads-more : {A : Type 0} {P : A → Type 0} {s : A → List ℕ} {one : Reader A} (n : ℕ) → Reads P s one → Reads (AreSoMany P n) (flat_map s) (read_items one n)
    → Reads (AreSoMany P (suc n)) (flat_map s) (read_items one (suc n))
unfolding read_items
Reads-more {A} {P} {s} {one} n p others = record { takes = takes; again = again } where
  takes : (bytes : List ℕ) (x : List A × List ℕ) → IsBytes bytes → read_items one (suc n) bytes ≡ Some x → Takes bytes (flat_map s x.0) x.1 × AreSoMany P (suc n) x.0
  takes bytes x fits e =
      let a = bind_some (one bytes) (λ a. read_items one n a.1 >>= λ b. Some (a.0 ∷ b.0, b.1)) x e in
      let b = bind_some (read_items one n a.0.1) (λ b. Some (a.0.0 ∷ b.0, b.1)) x a.2 in
      let u = p.takes bytes a.0 fits a.1 in
      let v = others.takes a.0.1 b.0 u.0.rest_fits b.1 in
      subst (λ (y : List A × List ℕ). Takes bytes (flat_map s y.0) y.1 × AreSoMany P (suc n) y.0) (same_Some _ _ b.2)
      (Takes-then bytes (s a.0.0) a.0.1 (flat_map s b.0.0) b.0.1 u.0 v.0, record { long = ap suc v.1.long; each = (u.1, v.1.each) })

  again : (xs : List A) (rest : List ℕ) → AreSoMany P (suc n) xs → read_items one (suc n) (flat_map s xs ++ rest) ≡ Some (xs, rest)
  again [] rest is = absurd (omega (arith, is.long))
  again (x ∷ xs) rest is =
      rw (append_assoc (s x) (flat_map s xs) rest, p.again x (flat_map s xs ++ rest) is.each.0, others.again xs rest (record { long = omega (arith, is.long); each = is.each.1 })) refl

pub Reads-items : {A : Type 0} {P : A → Type 0} {s : A → List ℕ} {one : Reader A} → Reads P s one → (n : ℕ) → Reads (AreSoMany P n) (flat_map s) (read_items one n)
Reads-items {A} {P} {s} {one} p zero = Reads-none P s one
Reads-items p (suc n) = Reads-more n p (Reads-items p n)

-- one to so many values, each of them so
pub record AreListed {A : Type 0} (P : A → Type 0) (most : ℕ) (xs : List A) : Type 0 where
  pub some : 1 ≤ length xs
  pub few : length xs ≤ most
  pub each : AllByRecursion P xs

pub Reads-listed : {A : Type 0} {P : A → Type 0} {s : A → List ℕ} {one : Reader A} (most : ℕ) → Reads P s one → Reads (AreListed P most) (listed_bytes s) (read_listed most one)
Reads-listed {A} {P} {s} {one} most p = record { takes = takes; again = again } where
  takes : (bytes : List ℕ) (x : List A × List ℕ) → IsBytes bytes → read_listed most one bytes ≡ Some x → Takes bytes (listed_bytes s x.0) x.1 × AreListed P most x.0
  takes [] x fits e = absurd cc
  takes (n ∷ bytes) x fits e =
      let g = guard_some (eqb n 0) (cond (ltb most n) None (read_items one n bytes)) x e in
      let h = guard_some (ltb most n) (read_items one n bytes) x g.1 in
      let u = (Reads-items p n).takes bytes x (IsBytes-rest n bytes fits) h.1 in
      let long : length x.0 ≡ n = u.1.long in (
        record { parts = rw long (ap (λ (l : List ℕ). n ∷ l) u.0.parts); rest_fits = u.0.rest_fits },
        record { some = omega (arith, eqb-false _ _ g.0); few = omega (arith, ltb-false _ _ h.0); each = u.1.each },
      )

  again : (xs : List A) (rest : List ℕ) → AreListed P most xs → read_listed most one (listed_bytes s xs ++ rest) ≡ Some (xs, rest)
  again xs rest is =
      let none : eqb (length xs) 0 ≡ false = elim (eqb_tells (length xs) 0) [ inl t ↦ absurd (omega (arith, is.some, t.1)) | inr t ↦ t.0 ] in
      rw (none, le-ltb _ _ is.few) ((Reads-items p (length xs)).again xs rest (record { long = refl; each = is.each }))

-- as many values as eight bytes can say, each of them so
pub record AreMany {A : Type 0} (P : A → Type 0) (xs : List A) : Type 0 where
  pub few : length xs < 2 ^ 64
  pub each : AllByRecursion P xs

pub Reads-many : {A : Type 0} {P : A → Type 0} {s : A → List ℕ} {one : Reader A} → Reads P s one → Reads (AreMany P) (many_bytes s) (read_many one)
Reads-many {A} {P} {s} {one} p = record { takes = takes; again = again } where
  takes : (bytes : List ℕ) (x : List A × List ℕ) → IsBytes bytes → read_many one bytes ≡ Some x → Takes bytes (many_bytes s x.0) x.1 × AreMany P x.0
  takes bytes x fits e =
      let n = bind_some (read_number w64 bytes) (λ n. read_items one n.0 n.1) x e in
      let u = Reads-u64.takes bytes n.0 fits n.1 in
      let v = (Reads-items p n.0.0).takes n.0.1 x u.0.rest_fits n.2 in
      let long : n.0.0 ≡ length x.0 = sym v.1.long in (
        Takes-then bytes (to_be_bytes w64 (length x.0)) n.0.1 (flat_map s x.0) x.1 (subst (λ k. Takes bytes (to_be_bytes w64 k) n.0.1) long u.0) v.0,
        record { few = subst (λ k. k < 2 ^ 64) long u.1; each = v.1.each },
      )

  again : (xs : List A) (rest : List ℕ) → AreMany P xs → read_many one (many_bytes s xs ++ rest) ≡ Some (xs, rest)
  again xs rest is =
      rw (append_assoc (to_be_bytes w64 (length xs)) (flat_map s xs) rest, Reads-u64.again (length xs) (flat_map s xs ++ rest) is.few)
      ((Reads-items p (length xs)).again xs rest (record { long = refl; each = is.each }))

-- behind a byte
pub Reads-after : {A : Type 0} {P : A → Type 0} {s : A → List ℕ} {one : Reader A} (byte : ℕ) → Reads P s one → Reads P (λ x. byte ∷ s x) (read_after byte one)
Reads-after {A} {P} {s} {one} byte p = record { takes = takes; again = again } where
  takes : (bytes : List ℕ) (x : A × List ℕ) → IsBytes bytes → read_after byte one bytes ≡ Some x → Takes bytes (byte ∷ s x.0) x.1 × P x.0
  takes [] x fits e = absurd cc
  takes (b ∷ bytes) x fits e =
      let g = passed_some (eqb b byte) (one bytes) x e in
      let u = p.takes bytes x (IsBytes-rest b bytes fits) g.1 in
      (record { parts = rw (eqb-true b byte g.0) (ap (λ (l : List ℕ). byte ∷ l) u.0.parts); rest_fits = u.0.rest_fits }, u.1)

  again : (x : A) (rest : List ℕ) → P x → read_after byte one ((byte ∷ s x) ++ rest) ≡ Some (x, rest)
  again x rest is = rw (eq-eqb byte byte refl) (p.again x rest is)

-- all of the bytes
pub reads_whole : {A : Type 0} {P : A → Type 0} {s : A → List ℕ} {one : Reader A} → Reads P s one → (bytes : List ℕ) (x : A) → IsBytes bytes
    → (read_whole one bytes ≡ Some x) ↔ (P x × (bytes ≡ s x))
reads_whole {A} {P} {s} {one} p bytes x fits = (takes, again) where
  takes : read_whole one bytes ≡ Some x → P x × (bytes ≡ s x)
  takes e =
      let a = bind_some (one bytes) (λ a. cond (eqb (length a.1) 0) (Some a.0) None) x e in
      let g = cond_some (eqb (length a.0.1) 0) a.0.0 x a.2 in
      let u = p.takes bytes a.0 fits a.1 in
      let none : a.0.1 ≡ [] = nil_from_length a.0.1 (eqb-true _ _ g.0) in
      subst (λ (y : A). P y × (bytes ≡ s y)) g.1 (u.1, u.0.parts ∙ ap (λ (l : List ℕ). s a.0.0 ++ l) none ∙ append-nil (s a.0.0))

  again : P x × (bytes ≡ s x) → read_whole one bytes ≡ Some x
  again is =
      let text : bytes ≡ s x ++ [] = is.1 ∙ sym (append-nil (s x)) in
      rw (text, p.again x [] is.0) refl
