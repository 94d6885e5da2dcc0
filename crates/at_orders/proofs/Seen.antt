-- One more stage is seen.
use Rattle.std.proofs.Common.{◌≡◌, ℕ, ◌+◌, ◌<◌, Bool, true, ◌≤◌, ◌&&◌, ◌⊎◌, ⊎_elim, Some, get_or, List, [], length, replicate, sum, All, Contains, refl, sym, ap, subst, ◌∙◌, arith}
use Rattle.std.specs.Prelude.{nat_eq, slice_get}
use Rattle.at_orders.proofs.Prelude.{pointwise, same_text, and_from, and_parts, nat_list_eq_equiv, sum_by-replicate, All-contains, All-nil, Contains-get_or, get_or_from_slice_get, slice_get-get_or, slice_get_within, LedgerState, opening_state, step, IsCallOn, Call, Line, AreWithinFiles, IsNextOfProcess, with_made, AreWithinFiles-next, sum-with_made, AreWithinFiles-none, none_made, GroundTerms, IsStage, StageTerms, first_stage, stage_after, AreLevel, ArePlaces, HasAllNext, HasFirstPlace, HasStage, IsGround, IsNextCall, IsSeen, IsStanding, IsWalkedTo, StandsFor, Stage}
use Rattle.at_orders.proofs.Keeping.{kept-same}
use Rattle.at_orders.proofs.Reaching.{leads-start, reached-stage, stage-next}
use Rattle.at_orders.proofs.Requests.{numbers-moved}

-- what holds of each of these and of this one
all-with : (P : Stage → Type 0) (old new : List Stage) (s : Stage) → ((x : Stage) → Contains new x → Contains old x ⊎ (x ≡ s)) → All P old → P s → All P new
all-with P old new s only all is k d within =
    ⊎_elim (λ there. All-contains P old (get_or new k d) all there) (λ same. subst P (sym same) is) (only (get_or new k d) (Contains-get_or new k d within))

pub level-with : (g : GroundTerms) (made : ℕ) (old new : List Stage) (s : Stage) → ((x : Stage) → Contains new x → Contains old x ⊎ (x ≡ s))
    → AreLevel g made old → IsSeen g s → sum s.made.items ≡ made → AreLevel g made new
level-with g made old new s only level seen count = record {
  are = all-with (IsSeen g) old new s only level.are seen;
  counts = all-with (λ (t : Stage). sum t.made.items ≡ made) old new s only level.counts count;
}

-- one more call is made there
pub sum-after : (g : GroundTerms) (s new : Stage) (p : ℕ) (call : Call) → p < length g.files → IsSeen g s
    → ((t : StageTerms) → StandsFor g s t → StandsFor g new (stage_after t p call)) → sum new.made.items ≡ sum s.made.items + 1
sum-after g s new p call known seen stands =
    let after = stands seen.stage seen.stands in
    let made : new.made.items ≡ with_made s.made.items p = after.made ∙ ap (λ (m : List ℕ). with_made m p) (sym seen.stands.made) in
    let each = seen.within.each in
    ap sum made ∙ sum-with_made s.made.items p (omega arith)

pub next-call : (g : GroundTerms) (s : Stage) (p : ℕ) (file : List Call) (i : ℕ) (call : Call) → file ≡ get_or g.files p [] → i ≡ get_or s.made.items p 0 → i < length file
    → call ≡ get_or file i call → IsNextCall g s p call
next-call g s p file i call calls at within is =
    let here : slice_get file i ≡ Some call = slice_get-get_or file i call within ∙ ap Some (sym is) in
    subst (λ (n : ℕ). slice_get (get_or g.files p []) n ≡ Some call) at (subst (λ (xs : List Call). slice_get xs i ≡ Some call) calls here)

-- and no other is, where none stands there
pub next-none : (g : GroundTerms) (s : Stage) (p : ℕ) (file : List Call) (i : ℕ) (call : Call) → file ≡ get_or g.files p [] → i ≡ get_or s.made.items p 0 → length file ≤ i
    → IsNextCall g s p call → ⊥
next-none g s p file i call calls at past next =
    let within = slice_get_within (get_or g.files p []) (get_or s.made.items p 0) call next in
    let size = ap (length {A = Call}) calls in
    omega arith

-- the account that the next call of a process names first has a place
pub call-placed : (g : GroundTerms) (s : Stage) (p : ℕ) (call : Call) → IsGround g → p < g.book.processes → IsNextCall g s p call → HasFirstPlace g.places call
call-placed g s p call ground known next =
    let file : List Call = get_or g.files p [] in
    let i : ℕ = get_or s.made.items p 0 in
    let count = ground.processes in
    subst (HasFirstPlace g.places) (get_or_from_slice_get file i call call next) (ground.named p [] (omega arith) i call (slice_get_within file i call next))

-- the next call of a file names accounts that are there
pub call-known : (accounts : ℕ) (file : List Call) (i : ℕ) (call : Call) → All (IsCallOn accounts) file → slice_get file i ≡ Some call → IsCallOn accounts call
call-known accounts file i call all is = subst (IsCallOn accounts) (get_or_from_slice_get file i call call is) (all i call (slice_get_within file i call is))

-- what stands for the stage after the next call stands for one of an order
pub next-seen : (g : GroundTerms) (s new : Stage) (p : ℕ) (call : Call) → p < length g.files → IsSeen g s
    → slice_get (get_or g.files p []) (get_or s.made.items p 0) ≡ Some call → ((t : StageTerms) → StandsFor g s t → StandsFor g new (stage_after t p call))
    → IsStanding g new → IsSeen g new
next-seen g s new p call known seen next stands standing =
    let t : StageTerms = seen.stage in
    let after = stands t seen.stands in
    let l : Line = record { process = p; number = get_or t.made p 0 + 1; call = call; reply = (step t.ledger p call).reply } in
    let here = subst (λ (m : List ℕ). slice_get (get_or g.files p []) (get_or m p 0) ≡ Some call) seen.stands.made next in
    let line : IsNextOfProcess g.files t.ledger t.made l = record { process = known; number = refl; call = here; reply = refl } in
    let within = subst (AreWithinFiles g.files) seen.stands.made seen.within in
    record {
      standing = standing;
      within = subst (AreWithinFiles g.files) (sym after.made) (AreWithinFiles-next g.files t.ledger t.made l within line);
      stage = stage_after t p call;
      stands = after;
      is = stage-next g.book g.files t l seen.is line;
    }

-- the first stage
pub first-is : (g : GroundTerms) → length g.files ≡ g.book.processes → IsStage g.book g.files (first_stage g.book)
first-is g count =
    let first : IsStage g.book g.files (record { made = none_made g.files; ledger = opening_state g.book }) =
    reached-stage g.book g.files (record { made = none_made g.files; ledger = opening_state g.book }) (record { lines = []; leads = leads-start g.files (opening_state g.book) (none_made g.files) }) in
    subst (λ (n : ℕ). IsStage g.book g.files (record { made = replicate n 0; ledger = opening_state g.book })) count first

pub first-seen : (g : GroundTerms) (s : Stage) → length g.files ≡ g.book.processes → StandsFor g s (first_stage g.book) → IsStanding g s → IsSeen g s
first-seen g s count stands standing =
    let none : s.made.items ≡ none_made g.files = stands.made ∙ ap (λ (n : ℕ). replicate n 0) (sym count) in
    record {
      standing = standing;
      within = subst (AreWithinFiles g.files) (sym none) (AreWithinFiles-none g.files);
      stage = first_stage g.book;
      stands = stands;
      is = first-is g count;
    }

pub walked-first : (g : GroundTerms) (seen : List Stage) (s : Stage) → length g.files ≡ g.book.processes → StandsFor g s (first_stage g.book)
    → IsStanding g s → ((x : Stage) → Contains seen x → Contains [] x ⊎ (x ≡ s)) → length seen ≤ 1 → HasStage g seen (first_stage g.book) → IsWalkedTo g [] seen 0
walked-first g seen s count stands standing only few has = record {
  stages = level-with g 0 [] seen s only (record { are = All-nil (IsSeen g); counts = All-nil (λ (t : Stage). sum t.made.items ≡ 0) })
      (first-seen g s count stands standing) none;
  are = All-nil (IsSeen g);
  before = All-nil (λ (t : Stage). sum t.made.items < 0);
  apart = λ i j d t less within one other. absurd (omega arith);
  begun = has;
  looked = All-nil (HasAllNext g seen);
}
  where
    none : sum s.made.items ≡ 0
    none =
        let first : sum s.made.items ≡ sum (replicate g.book.processes 0) = ap sum stands.made in
        let zeros = sum_by-replicate (λ (n : ℕ). n) g.book.processes 0 in
        omega arith

-- the test of stages that their fields give
abbrev pub has_same_numbers : Stage → Stage → Bool
has_same_numbers x y =
    pointwise nat_eq x.made.items y.made.items && (pointwise nat_eq x.balances.items y.balances.items && pointwise nat_eq x.sent.items y.sent.items)

pub same-numbers : (g : GroundTerms) (t : StageTerms) (x y : Stage) → has_same_numbers x y ≡ true → StandsFor g x t → StandsFor g y t
same-numbers g t x y is stands =
    let first = and_parts _ _ is in
    let second = and_parts _ _ first.1 in
    let made = same_text x.made.items y.made.items (sym first.0) in
    let kept = same_text x.balances.items y.balances.items (sym second.0) in
    let sent = same_text x.sent.items y.sent.items (sym second.1) in
    record { made = sym made ∙ stands.made; ledger = numbers-moved g x y t.ledger (sym made) (sym kept) (sym sent) stands.ledger }

pub numbers-same : (g : GroundTerms) → ArePlaces (length g.book.accounts) g.named g.places → (x y : Stage) (t : StageTerms) → IsSeen g x → IsSeen g y
    → StandsFor g x t → StandsFor g y t → has_same_numbers x y ≡ true
numbers-same g law x y t one other first second =
    and_from _ _ (told (first.made ∙ sym second.made))
    (and_from _ _ (told (kept-same g x.balances.items y.balances.items t.ledger.balances law one.standing.balances other.standing.balances first.ledger.kept second.ledger.kept))
    (told (ap (λ (l : LedgerState). l.sent) (first.ledger.is ∙ sym second.ledger.is))))
  where
    told : {xs ys : List ℕ} → xs ≡ ys → pointwise nat_eq xs ys ≡ true
    told {xs} {ys} same = sym (ap (pointwise nat_eq xs) same) ∙ nat_list_eq_equiv.refl xs
