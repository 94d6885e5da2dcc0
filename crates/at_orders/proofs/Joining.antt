-- The parts of processes, as they are joined.
use Rattle.std.proofs.Common.{◌≡◌, ℕ, ◌+◌, ◌<◌, ◌≤◌, ◌⊎◌, ⊎_elim, inl, inr, true, false, true≢false, drop, take, take-append-drop, Option, None, Some, List, [], ◌∷◌, ◌++◌, length, get_or, replicate, set, refl, sym, ap, subst, ◌∙◌, arith, eq-eqb}
use Rattle.std.specs.Prelude.{is_some}
use Rattle.at_orders.proofs.Prelude.{ne_eqb, cases_lt, Contains-append_left, Contains-push, Contains-push_cases, get_or_default, get_or-set_same, get_or-set_other, get_or-replicate, length-set, length-replicate, get_or-eq_default, BookTerms, is_owner, TargetPair, payout_of, Call, OpeningCovers, TellCovered, AreJoined, AreJoining, AreParts, AreTouched, HangTogether, HasUser, IsTarget, PaysAt, PaysIn, Touch, Touches, renamed, user_of, Parts}
use Rattle.at_orders.proofs.Moved.{at_or_off}
use Rattle.at_orders.proofs.Playing.{names-from, names-pays}

renamed-at : (from to x : ℕ) → x ≡ from → renamed from to x ≡ to
renamed-at from to x same = rw (eq-eqb x from same) refl

renamed-off : (from to x : ℕ) → (x ≡ from → ⊥) → renamed from to x ≡ x
renamed-off from to x off = rw (ne_eqb x from off) refl

-- each process by itself
pub joined-none : (b : BookTerms) (files : List (List Call)) (p : Parts) → length p.of.items ≡ length files → ((q : ℕ) → q < length files → get_or p.of.items q 0 ≡ q)
    → p.users.items ≡ replicate (length b.accounts) None → AreJoined b files p
joined-none b files p size each none = record {
  processes = size;
  accounts = ap (length {A = Option ℕ}) none ∙ length-replicate (length b.accounts) None;
  known = λ q q_in. let here = each q q_in in omega arith;
  together = λ x y x_in y_in same label of. ap label (sym (each x x_in) ∙ (same ∙ each y y_in));
  user = λ a q is. absurd (never a q is);
  uncovered = λ a q is covered. never a q is;
  touches = λ a q is. absurd (never a q is);
}
  where
    none-at : (a : ℕ) → user_of p a ≡ None
    none-at a = ap (λ (us : List (Option ℕ)). get_or us a None) none ∙ ⊎_elim
        (λ within. get_or-replicate (length b.accounts) a None None within)
        (λ past. get_or-eq_default (replicate (length b.accounts) None) None (let size = length-replicate {A = Option ℕ} (length b.accounts) None in omega arith))
        (cases_lt a (length b.accounts))

    never : (a q : ℕ) → user_of p a ≡ Some q → ⊥
    never a q is = let one = sym (none-at a) ∙ is in cc

-- the process is of one part with the account's user
pub touched-some : (b : BookTerms) (files : List (List Call)) (left : List (Option ℕ)) (process a user : ℕ) (old new : Parts) → AreJoining b files left process old → Touches b files process a → a < length b.accounts
    → user_of old a ≡ Some user → new.users.items ≡ old.users.items → length new.of.items ≡ length old.of.items
    → ((q : ℕ) → q < length old.of.items → get_or new.of.items q 0 ≡ renamed (get_or old.of.items process 0) (get_or old.of.items user 0) (get_or old.of.items q 0))
    → AreTouched b files process (λ x. a ≡ x) old new
touched-some b files left process a user old new joining touches a_in used users size names = record {
  joined = record {
    processes = size ∙ before.processes;
    accounts = ap (length {A = Option ℕ}) users ∙ before.accounts;
    known = λ q q_in. by-name (λ (n : ℕ). n < length files) q q_in (λ same. before.known user (before.user a user used)) (λ off. before.known q q_in);
    together = together;
    user = λ x q is. before.user x q (same-user x q is);
    uncovered = λ x q is. before.uncovered x q (same-user x q is);
    touches = λ x q is. before.touches x q (same-user x q is);
  };
  keeps = keeps;
  found = λ x x_in is uncovered. record {
    user = user;
    is = ap (λ (us : List (Option ℕ)). get_or us x None) users ∙ (ap (user_of old) (sym is) ∙ used);
    same = user-name ∙ sym (own-name process joining.within refl);
  };
}
  where
    before : AreJoined b files old
    before = joining.joined

    to : ℕ
    to = get_or old.of.items user 0

    from : ℕ
    from = get_or old.of.items process 0

    same-user : (x q : ℕ) → user_of new x ≡ Some q → user_of old x ≡ Some q
    same-user x q is = ap (λ (us : List (Option ℕ)). get_or us x None) (sym users) ∙ is

    inside : (q : ℕ) → q < length files → q < length old.of.items
    inside q q_in = let n = before.processes in omega arith

    own-name : (q : ℕ) → q < length files → get_or old.of.items q 0 ≡ from → get_or new.of.items q 0 ≡ to
    own-name q q_in same = names q (inside q q_in) ∙ renamed-at from to (get_or old.of.items q 0) same

    other-name : (q : ℕ) → q < length files → (get_or old.of.items q 0 ≡ from → ⊥) → get_or new.of.items q 0 ≡ get_or old.of.items q 0
    other-name q q_in off = names q (inside q q_in) ∙ renamed-off from to (get_or old.of.items q 0) off

    user-name : get_or new.of.items user 0 ≡ to
    user-name = at_or_off to from
        (λ same. own-name user (before.user a user used) same)
        (λ off. other-name user (before.user a user used) off)

    by-name : (P : ℕ → Type 0) (q : ℕ) → q < length files → (get_or old.of.items q 0 ≡ from → P to) → ((get_or old.of.items q 0 ≡ from → ⊥) → P (get_or old.of.items q 0)) → P (get_or new.of.items q 0)
    by-name P q q_in on off = at_or_off (get_or old.of.items q 0) from
        (λ same. subst P (sym (own-name q q_in same)) (on same))
        (λ other. subst P (sym (other-name q q_in other)) (off other))

    keeps : (other x : ℕ) → other < length files → HasUser old other x → HasUser new other x
    keeps other x other_in has =
        let of_user : get_or new.of.items has.user 0 ≡ renamed from to (get_or old.of.items has.user 0) = names has.user (inside has.user (before.user x has.user has.is)) in
        let of_other : get_or new.of.items other 0 ≡ renamed from to (get_or old.of.items other 0) = names other (inside other other_in) in
        record {
          user = has.user;
          is = ap (λ (us : List (Option ℕ)). get_or us x None) users ∙ has.is;
          same = of_user ∙ (ap (renamed from to) has.same ∙ sym of_other);
        }

    -- the user and the process meet at the account
    meet : HangTogether b files user process
    meet label of = of user process (before.user a user used) joining.within
        (record { account = a; within = a_in; uncovered = before.uncovered a user used; first = before.touches a user used; second = touches })

    -- what is of the user's part hangs together with what is of the process's
    across : (x y : ℕ) → x < length files → y < length files → get_or old.of.items x 0 ≡ to → get_or old.of.items y 0 ≡ from → HangTogether b files x y
    across x y x_in y_in here there label of =
        before.together x user x_in (before.user a user used) here label of
        ∙ (meet label of ∙ before.together process y joining.within y_in (sym there) label of)

    together : (x y : ℕ) → x < length files → y < length files → get_or new.of.items x 0 ≡ get_or new.of.items y 0 → HangTogether b files x y
    together x y x_in y_in same = at_or_off (get_or old.of.items x 0) from
        (λ at_x. at_or_off (get_or old.of.items y 0) from
        (λ at_y. before.together x y x_in y_in (at_x ∙ sym at_y))
        (λ off_y label of. sym (across y x y_in x_in (sym (other-name y y_in off_y) ∙ (sym same ∙ own-name x x_in at_x)) at_x label of)))
        (λ off_x. at_or_off (get_or old.of.items y 0) from
        (λ at_y. across x y x_in y_in (sym (other-name x x_in off_x) ∙ (same ∙ own-name y y_in at_y)) at_y)
        (λ off_y. before.together x y x_in y_in (sym (other-name x x_in off_x) ∙ (same ∙ other-name y y_in off_y))))

-- the account gets its first user
pub touched-none : (b : BookTerms) (files : List (List Call)) (left : List (Option ℕ)) (process a : ℕ) (old new : Parts) → AreJoining b files left process old → Touches b files process a → a < length b.accounts
    → get_or left a None ≡ None → user_of old a ≡ None → new.users.items ≡ set old.users.items a (Some process) → new.of.items ≡ old.of.items → AreTouched b files process (λ x. a ≡ x) old new
touched-none b files left process a old new joining touches a_in nothing unused users same = record {
  joined = record {
    processes = ap (length {A = ℕ}) same ∙ before.processes;
    accounts = ap (length {A = Option ℕ}) users ∙ (length-set old.users.items a (Some process) ∙ before.accounts);
    known = λ q q_in. subst (λ (ps : List ℕ). get_or ps q 0 < length files) (sym same) (before.known q q_in);
    together = λ x y x_in y_in is. before.together x y x_in y_in (ap (λ (ps : List ℕ). get_or ps x 0) (sym same) ∙ (is ∙ ap (λ (ps : List ℕ). get_or ps y 0) same));
    user = λ x q is. by x q is (λ at is_process. subst (λ (n : ℕ). n < length files) is_process joining.within) (λ old_is. before.user x q old_is);
    uncovered = λ x q is. by x q is (λ at is_process. subst (λ (n : ℕ). OpeningCovers b files n → ⊥) at (joining.tells.uncovered a a_in nothing)) (λ old_is. before.uncovered x q old_is);
    touches = λ x q is. by x q is (λ at is_process. subst (λ (n : ℕ). Touches b files q n) at (subst (λ (n : ℕ). Touches b files n a) is_process touches)) (λ old_is. before.touches x q old_is);
  };
  keeps = λ other x other_in has.
      let off : a ≡ x → ⊥ = λ at. let none = sym unused ∙ (ap (user_of old) at ∙ has.is) in cc in
      record {
        user = has.user;
        is = ap (λ (us : List (Option ℕ)). get_or us x None) users ∙ (get_or-set_other old.users.items a x (Some process) None (λ at. off (sym at)) ∙ has.is);
        same = ap (λ (ps : List ℕ). get_or ps has.user 0) same ∙ (has.same ∙ ap (λ (ps : List ℕ). get_or ps other 0) (sym same));
      };
  found = λ x x_in is uncovered. record { user = process; is = subst (λ (n : ℕ). user_of new n ≡ Some process) is here; same = refl };
}
  where
    before : AreJoined b files old
    before = joining.joined

    here : user_of new a ≡ Some process
    here = ap (λ (us : List (Option ℕ)). get_or us a None) users ∙ get_or-set_same old.users.items a (Some process) None (let n = before.accounts in omega arith)

    by : {P : Type 0} (x q : ℕ) → user_of new x ≡ Some q → (a ≡ x → process ≡ q → P) → (user_of old x ≡ Some q → P) → P
    by x q is on off = at_or_off a x
        (λ at. on at (let one : Some process ≡ Some q = sym here ∙ (ap (user_of new) at ∙ is) in cc))
        (λ other. off (sym (ap (λ (us : List (Option ℕ)). get_or us x None) users ∙ get_or-set_other old.users.items a x (Some process) None (λ at. other (sym at))) ∙ is))

-- a covered account joins nothing
pub touched-covered : (b : BookTerms) (files : List (List Call)) (left : List (Option ℕ)) (process a has : ℕ) (old : Parts) → AreJoining b files left process old → a < length b.accounts → get_or left a None ≡ Some has
    → AreTouched b files process (λ x. a ≡ x) old old
touched-covered b files left process a has old joining a_in is = record {
  joined = joining.joined;
  keeps = λ other x other_in user. user;
  found = λ x x_in at uncovered. absurd (uncovered (subst (OpeningCovers b files) at (joining.tells.covered a has a_in is)));
}

-- no account, and more
pub touched-empty : (b : BookTerms) (files : List (List Call)) (left : List (Option ℕ)) (process : ℕ) (Is : ℕ → Type 0) (old : Parts) → AreJoining b files left process old → ((a : ℕ) → Is a → ⊥)
    → AreTouched b files process Is old old
touched-empty b files left process Is old joining never = record { joined = joining.joined; keeps = λ other x other_in user. user; found = λ x x_in is uncovered. absurd (never x is) }

pub joining-on : (b : BookTerms) (files : List (List Call)) (left : List (Option ℕ)) (process : ℕ) (Is : ℕ → Type 0) (old new : Parts) → AreJoining b files left process old → AreTouched b files process Is old new
    → AreJoining b files left process new
joining-on b files left process Is old new joining touched = record { joined = touched.joined; tells = joining.tells; within = joining.within }

pub touched-then : (b : BookTerms) (files : List (List Call)) (left : List (Option ℕ)) (process : ℕ) (Is Also All : ℕ → Type 0) (old mid new : Parts) → AreJoining b files left process old
    → AreTouched b files process Is old mid → AreTouched b files process Also mid new → ((a : ℕ) → All a → Is a ⊎ Also a) → AreTouched b files process All old new
touched-then b files left process Is Also All old mid new joining first next both = record {
  joined = next.joined;
  keeps = λ other x other_in user. next.keeps other x other_in (first.keeps other x other_in user);
  found = λ x x_in is uncovered. ⊎_elim (λ here. next.keeps process x joining.within (first.found x x_in here uncovered)) (λ here. next.found x x_in here uncovered) (both x is);
}

-- the parts of the first processes' calls
pub record AreFilesJoined (b : BookTerms) (files : List (List Call)) (count : ℕ) (p : Parts) : Type 0 where
  pub joined : AreJoined b files p
  pub found : (process a : ℕ) → process < count → process < length files → a < length b.accounts → Touches b files process a → (OpeningCovers b files a → ⊥) → HasUser p process a

pub files-joined-none : (b : BookTerms) (files : List (List Call)) (p : Parts) → AreJoined b files p → AreFilesJoined b files 0 p
files-joined-none b files p joined = record { joined = joined; found = λ process a less within a_in touches uncovered. absurd (omega arith) }

pub files-joined-more : (b : BookTerms) (files : List (List Call)) (process : ℕ) (old new : Parts) → AreFilesJoined b files process old → AreTouched b files process (Touches b files process) old new
    → AreFilesJoined b files (process + 1) new
files-joined-more b files process old new before touched = record {
  joined = touched.joined;
  found = λ q a less within a_in touches uncovered. at_or_off process q
      (λ same. subst (λ (n : ℕ). HasUser new n a) same (touched.found a a_in (subst (λ (n : ℕ). Touches b files n a) (sym same) touches) uncovered))
      (λ other. touched.keeps q a within (before.found q a (omega (arith, other)) within a_in touches uncovered));
}

pub parts-are : (b : BookTerms) (files : List (List Call)) (count : ℕ) (p : Parts) → length files ≤ count → AreFilesJoined b files count p → AreParts b files p.of.items
parts-are b files count p all are = record {
  processes = are.joined.processes;
  known = are.joined.known;
  meeting = λ x y x_in y_in meet.
      let first = are.found x meet.account (omega arith) x_in meet.within meet.first meet.uncovered in
      let second = are.found y meet.account (omega arith) y_in meet.within meet.second meet.uncovered in
      let users : Some first.user ≡ Some second.user = sym first.is ∙ second.is in
      let user : first.user ≡ second.user = cc in
      sym first.same ∙ (ap (λ (n : ℕ). get_or p.of.items n 0) user ∙ second.same);
  together = are.joined.together;
}

-- the account is that of one of the first targets
pub record IsTargetBefore (targets : List TargetPair) (i account : ℕ) : Type 0 where
  pub at : ℕ
  pub before : at < i
  pub within : at < length targets
  pub is : (get_or targets at (0, 0)).0 ≡ account

-- what is made of calls in two lists
pub paid-split : (b : BookTerms) (process : ℕ) (calls : List Call) (c : Call) (a : ℕ) → PaysIn b process (calls ++ c ∷ []) a → PaysIn b process calls a ⊎ PaysAt b process a c
paid-split b process calls c a pays = ⊎_elim
    (λ old. inl (record { call = pays.call; stands = old; pays = pays.pays }))
    (λ same. inr (subst (PaysAt b process a) (sym same) pays.pays))
    (Contains-push_cases calls c pays.call pays.stands)

-- an owner's payment names its source and its targets
pub paid-names : (b : BookTerms) (process : ℕ) (c : Call) (f : ℕ) (ts : List TargetPair) (a : ℕ) → payout_of c ≡ Some (f, ts) → PaysAt b process a c → (f ≡ a) ⊎ IsTarget ts a
paid-names b process c f ts a is pays = names-pays c f ts a is pays.names

-- the names of the first processes' parts are given up
pub record AreRenamed (from to : ℕ) (old new : List ℕ) (count : ℕ) : Type 0 where
  pub size : length new ≡ length old
  pub first : (q : ℕ) → q < count → q < length old → get_or new q 0 ≡ renamed from to (get_or old q 0)
  pub others : (q : ℕ) → count ≤ q → get_or new q 0 ≡ get_or old q 0

pub renamed-none : (from to : ℕ) (old : List ℕ) → AreRenamed from to old old 0
renamed-none from to old = record { size = refl; first = λ q less within. absurd (omega arith); others = λ q more. refl }

pub renamed-more : (from to : ℕ) (old new : List ℕ) (i v w : ℕ) → i < length new → w ≡ get_or new i w → v ≡ renamed from to w → AreRenamed from to old new i → AreRenamed from to old (set new i v) (i + 1)
renamed-more from to old new i v w within here is are =
    let size = are.size in
    record {
      size = length-set new i v ∙ are.size;
      first = λ q less known. at_or_off i q
          (λ same. subst (λ (n : ℕ). get_or (set new i v) n 0 ≡ renamed from to (get_or old n 0)) same
          (get_or-set_same new i v 0 within ∙ (is ∙ ap (renamed from to) (here ∙ (get_or_default new i w 0 within ∙ are.others i (omega arith))))))
          (λ other. get_or-set_other new i q v 0 (λ same. other (sym same)) ∙ are.first q (omega (arith, other)) known);
      others = λ q more. get_or-set_other new i q v 0 (λ same. omega arith) ∙ are.others q (omega arith);
    }

pub paid-of : (b : BookTerms) (process : ℕ) (c : Call) (f : ℕ) (ts : List TargetPair) (a : ℕ) → payout_of c ≡ Some (f, ts) → is_owner b process f ≡ true → (f ≡ a) ⊎ IsTarget ts a → PaysAt b process a c
paid-of b process c f ts a is owns names = record { source = f; targets = ts; pays = is; owns = owns; names = names-from c f ts a is names }

-- what is made of some calls is made of more
pub paid-more : (b : BookTerms) (process : ℕ) (calls more : List Call) (a : ℕ) → PaysIn b process calls a → PaysIn b process (calls ++ more) a
paid-more b process calls more a pays = record { call = pays.call; stands = Contains-append_left calls more pays.call pays.stands; pays = pays.pays }

pub paid-take : (b : BookTerms) (process : ℕ) (file : List Call) (i a : ℕ) → PaysIn b process (take i file) a → PaysIn b process file a
paid-take b process file i a pays = subst (λ (calls : List Call). PaysIn b process calls a) (take-append-drop i file) (paid-more b process (take i file) (drop i file) a pays)

pub paid-last : (b : BookTerms) (process : ℕ) (calls : List Call) (c : Call) (a : ℕ) → PaysAt b process a c → PaysIn b process (calls ++ c ∷ []) a
paid-last b process calls c a pays = record { call = c; stands = Contains-push calls c; pays = pays }

-- one more call of the file
pub file-more : (b : BookTerms) (files : List (List Call)) (left : List (Option ℕ)) (process : ℕ) (calls : List Call) (c : Call) (old mid new : Parts) → Touch b left process (PaysIn b process calls) old mid
    → Touch b left process (λ a. PaysAt b process a c) mid new → AreJoining b files left process old → ((a : ℕ) → PaysIn b process (calls ++ c ∷ []) a → Touches b files process a)
    → AreTouched b files process (PaysIn b process (calls ++ c ∷ [])) old new
file-more b files left process calls c old mid new first next joining touches =
    let one = first files joining (λ a pays. touches a (paid-more b process calls (c ∷ []) a pays)) in
    let two = next files (joining-on b files left process (PaysIn b process calls) old mid joining one) (λ a pays. touches a (paid-last b process calls c a pays)) in
    touched-then b files left process (PaysIn b process calls) (λ (a : ℕ). PaysAt b process a c) (PaysIn b process (calls ++ c ∷ [])) old mid new joining one two (paid-split b process calls c)

-- one more target
pub target-before : (targets : List TargetPair) (i a : ℕ) → IsTargetBefore targets (i + 1) a → IsTargetBefore targets i a ⊎ ((get_or targets i (0, 0)).0 ≡ a)
target-before targets i a target = at_or_off target.at i
    (λ same. inr (subst (λ (n : ℕ). (get_or targets n (0, 0)).0 ≡ a) same target.is))
    (λ other. inl (record { at = target.at; before = let h = target.before in omega (arith, other); within = target.within; is = target.is }))

pub target-more : (targets : List TargetPair) (i a : ℕ) → IsTargetBefore targets i a → IsTargetBefore targets (i + 1) a
target-more targets i a target = record { at = target.at; before = let h = target.before in omega arith; within = target.within; is = target.is }

pub target-last : (targets : List TargetPair) (i a : ℕ) → i < length targets → (get_or targets i (0, 0)).0 ≡ a → IsTargetBefore targets (i + 1) a
target-last targets i a within is = record { at = i; before = omega arith; within = within; is = is }

pub target-is : (targets : List TargetPair) (i a : ℕ) → IsTargetBefore targets i a → IsTarget targets a
target-is targets i a target = record { at = target.at; within = target.within; is = target.is }

pub target-all : (targets : List TargetPair) (i a : ℕ) → length targets ≤ i → IsTarget targets a → IsTargetBefore targets i a
target-all targets i a past target = record { at = target.at; before = let h = target.within in omega arith; within = target.within; is = target.is }

pub targets-more : (b : BookTerms) (files : List (List Call)) (left : List (Option ℕ)) (process : ℕ) (targets : List TargetPair) (i : ℕ) (old mid new : Parts) → i < length targets
    → Touch b left process (IsTargetBefore targets i) old mid → Touch b left process (λ a. (get_or targets i (0, 0)).0 ≡ a) mid new → AreJoining b files left process old
    → ((a : ℕ) → IsTargetBefore targets (i + 1) a → Touches b files process a) → AreTouched b files process (IsTargetBefore targets (i + 1)) old new
targets-more b files left process targets i old mid new within first next joining touches =
    let one = first files joining (λ a target. touches a (target-more targets i a target)) in
    let two = next files (joining-on b files left process (IsTargetBefore targets i) old mid joining one) (λ a same. touches a (target-last targets i a within same)) in
    touched-then b files left process (IsTargetBefore targets i) (λ (a : ℕ). (get_or targets i (0, 0)).0 ≡ a) (IsTargetBefore targets (i + 1)) old mid new joining one two (target-before targets i)

-- the user of an account
pub user-is : (b : BookTerms) (files : List (List Call)) (p : Parts) (a : ℕ) (d o : Option ℕ) → AreJoined b files p → a < length b.accounts → d ≡ get_or p.users.items a d → d ≡ o → user_of p a ≡ o
user-is b files p a d o joined a_in here is = sym (here ∙ get_or_default p.users.items a d None (let n = joined.accounts in omega arith)) ∙ is

none-of : (o : Option ℕ) → is_some o ≡ false → o ≡ None
none-of None is = refl
none-of (Some n) is = absurd (true≢false is)

pub nothing-left : (b : BookTerms) (files : List (List Call)) (left : List (Option ℕ)) (a : ℕ) (d : Option ℕ) → TellCovered b files left → a < length b.accounts → is_some (get_or left a d) ≡ false → get_or left a None ≡ None
nothing-left b files left a d tells a_in is = get_or_default left a None d (let n = tells.accounts in omega arith) ∙ none-of (get_or left a d) is
