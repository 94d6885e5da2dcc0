-- Publishing keeps a state sound: the state with one more publication.
use Rattle.std.proofs.Common.{◌≡◌, ◌↔◌, ℕ, ◌<◌, ◌≤◌, ◌==◌, ◌&&◌, ◌||◌, Bool, true, false, cond, List, [], ◌∷◌, ◌++◌, length, take, Option, Some, None, refl, sym, ap, subst, ◌∙◌, arith, inl, inr, ◌⊎◌}
use Rattle.at_history.proofs.Prelude.{and_from, and_parts, cases_Bool, cases_eq, cases_lt, eq-eqb, eqb-true, ne_eqb, or_left, or_right, get_or_append_left, get_or_push, length_push, take-append-le, take_at, list_any-append, sum_by_push, list_any, Decision, BookTerms, amount_of, IsCovered, BoardState, decision_at, publication_at, request_at, is_own, is_round, place, prefix_of, gives_up, held_after, no_publication, is_settled, owns_of, rounds, HasView, IsHeld, IsPublished, IsSoundDecision, IsSoundEntry, IsSoundRequest, Sound, Cell, Entry, Own, Round, Publication, Request}
use Rattle.at_history.proofs.Laws.RoundsDecided.{ArePublishedBy-HasRuns, place-view-le}
use Rattle.at_history.proofs.Laws.Cuts.{place-IsCut-le}
use Rattle.at_history.proofs.Laws.Rounds.{one_if}
use Rattle.at_history.proofs.Laws.HasRuns.{HasRuns-Sound}

-- the state with one more publication of a process
abbrev pub pushed : BoardState → ℕ → Publication → BoardState
pushed s p x = record s {
  published = s.published ++ x ∷ [];
  held = λ k. cond (k == p) (held_after x (s.held k)) (s.held k);
}

-- a law of each publication after those before it, for one more
push_all : (F : List Publication → Publication → Type 0) (xs : List Publication) (x : Publication)
    → ((m : ℕ) → m < length xs → F (take m xs) (publication_at xs m)) → F xs x
    → (m : ℕ) → m < length (xs ++ x ∷ []) → F (take m (xs ++ x ∷ [])) (publication_at (xs ++ x ∷ []) m)
push_all F xs x old new m within =
    elim (cases_lt m (length xs)) as (λ _. F (take m (xs ++ x ∷ [])) (publication_at (xs ++ x ∷ []) m)) [
      | inl below ↦
          subst (λ y. F (take m (xs ++ x ∷ [])) y) (sym (get_or_append_left xs (x ∷ []) no_publication m below))
          (subst (λ t. F t (publication_at xs m)) (sym (take-append-le m xs (x ∷ []) (omega arith))) (old m below))
      | inr above ↦
          let at : length xs ≡ m = omega (arith, length_push xs x) in
          subst (λ y. F (take m (xs ++ x ∷ [])) y) (sym (get_or_push xs x no_publication m at))
          (subst (λ t. F t x) (sym (take_at xs (x ∷ []) m at)) new)
    ]

-- the laws of entries read the cells and rows alone
IsSoundEntry-pushed : (b : BookTerms) (s : BoardState) (k : ℕ) (x : Publication) (p : ℕ) (prefix : List Publication) (e : Entry)
    → IsSoundEntry b s p prefix e → IsSoundEntry b (pushed s k x) p prefix e
IsSoundEntry-pushed b s k x p prefix (Own from targets) law = law
IsSoundEntry-pushed b s k x p prefix (Round a r d targets) law =
    (law.0, record { decided = law.1.decided; decision = law.1.decision; same_targets = law.1.same_targets })

-- a prefix of what stood before
pub take-pushed : (xs : List Publication) (x : Publication) (m : ℕ) → m ≤ length xs → take m (xs ++ x ∷ []) ≡ take m xs
take-pushed xs x m within = take-append-le m xs (x ∷ []) within

IsSoundDecision-pushed : (b : BookTerms) (s : BoardState) (k : ℕ) (x : Publication) (a r : ℕ) (d : Decision)
    → IsSoundDecision b s a r d → IsSoundDecision b (pushed s k x) a r d
IsSoundDecision-pushed b s k x a r d law =
    let same = sym (take-pushed s.published x d.place law.place) in
    record {
      range = law.range;
      room = law.room;
      slot_in = law.slot_in;
      place = omega (arith, law.place, length_push s.published x);
      next = subst (λ t. rounds a t ≡ r) same law.next;
      announced = law.announced;
      since = law.since;
      ok = subst (λ t. (d.ok ≡ true) ↔ IsCovered b t a (amount_of (request_at (s.rows a d.slot) d.number).targets)) same law.ok;
    }

IsSoundRequest-pushed : (b : BookTerms) (s : BoardState) (k : ℕ) (x : Publication) (a slot number : ℕ) (r : Request)
    → IsSoundRequest b s a slot number r → IsSoundRequest b (pushed s k x) a slot number r
IsSoundRequest-pushed b s k x a slot number r law =
    let same = sym (take-pushed s.published x r.since law.since) in
    record {
      slot_in = law.slot_in;
      targets = law.targets;
      since = omega (arith, law.since, length_push s.published x);
      follows = λ before e. subst (λ t. is_settled a slot before t ≡ true) same (law.follows before e);
      rounds = subst (λ t. rounds a t ≤ length (s.cells a)) same law.rounds;
    }

-- no more than the room of own records
own_room-pushed : (b : BookTerms) (xs : List Publication) (p k : ℕ) (view : List ℕ) (e : Entry)
    → (is_own e ≡ true → owns_of p xs < b.own_room) → owns_of k xs ≤ b.own_room
    → owns_of k (xs ++ record { process = p; view = view; entry = e } ∷ []) ≤ b.own_room
own_room-pushed b xs p k view (Own from targets) room old =
    let x : Publication = record { process = p; view = view; entry = Own from targets } in
    let more = sum_by_push (λ y. one_if ((y.process == k) && is_own y.entry)) xs x in
    elim (cases_eq p k) as (λ _. owns_of k (xs ++ x ∷ []) ≤ b.own_room) [
      | inl mine ↦
          let here = ap (λ t. owns_of t xs) (sym mine) in
          let one : one_if ((p == k) && true) ≡ one_if true = ap (λ t. one_if (t && true)) (eq-eqb p k mine) in
          omega (arith, more, one, here, room refl)
      | inr other ↦
          let none : one_if ((p == k) && true) ≡ one_if false = ap (λ t. one_if (t && true)) (ne_eqb p k other) in
          omega (arith, more, none, old)
    ]
own_room-pushed b xs p k view (Round a r d targets) room old =
    let x : Publication = record { process = p; view = view; entry = Round a r d targets } in
    let more = sum_by_push (λ y. one_if ((y.process == k) && is_own y.entry)) xs x in
    omega (arith, more, none (p == k), old)
  where
    none : (t : Bool) → one_if (t && false) ≡ 0
    none true = refl
    none false = refl

-- a cell that is held after was held before
held_before : (x : Publication) (o : Option Cell) (c : Cell) → held_after x o ≡ Some c → o ≡ Some c
held_before x None c held = held
held_before x (Some o) c held =
    elim (cases_Bool (gives_up x o)) as (λ _. Some o ≡ Some c) [
      | inl given ↦ cc (sym (ap (λ (t : Bool). cond t None (Some o)) given) ∙ held)
      | inr kept ↦ sym (ap (λ (t : Bool). cond t None (Some o)) kept) ∙ held
    ]

held_before-pushed : (s : BoardState) (p k : ℕ) (x : Publication) (c : Cell) → (pushed s p x).held k ≡ Some c → s.held k ≡ Some c
held_before-pushed s p k x c held =
    elim (cases_Bool (k == p)) as (λ _. s.held k ≡ Some c) [
      | inl own ↦ held_before x (s.held k) c (sym (ap (λ (t : Bool). cond t (held_after x (s.held k)) (s.held k)) own) ∙ held)
      | inr other ↦ sym (ap (λ (t : Bool). cond t (held_after x (s.held k)) (s.held k)) other) ∙ held
    ]

-- a record that gives a cell up is of its round, with the view of its decision
published-gives_up : (b : BookTerms) (s : BoardState) (p a r : ℕ) (v : List ℕ) (prefix : List Publication) (e : Entry) → IsSoundEntry b s p prefix e
    → gives_up (record { process = p; view = v; entry = e }) (record { account = a; round = r }) ≡ true
    → (is_round a r e && (place v == (decision_at (s.cells a) r).place)) ≡ true
published-gives_up b s p a r v prefix (Own from targets) law given = cc given
published-gives_up b s p a r v prefix (Round account round d targets) law given =
    let one = and_parts (account == a) ((round == r) && (place v == d.place)) given in
    let two = and_parts (round == r) (place v == d.place) one.1 in
    let here : decision_at (s.cells a) r ≡ d =
    subst (λ t. decision_at (s.cells t) r ≡ d) (eqb-true account a one.0)
    (subst (λ t. decision_at (s.cells account) t ≡ d) (eqb-true round r two.0) law.1.decision) in
    and_from (is_round a r (Round account round d targets)) (place v == (decision_at (s.cells a) r).place)
    (and_from (account == a) (round == r) one.0 two.0)
    (eq-eqb (place v) (decision_at (s.cells a) r).place (eqb-true (place v) d.place two.1 ∙ sym (ap (λ (t : Decision). t.place) here)))

-- a decision stays published or held
published-pushed : (b : BookTerms) (s : BoardState) (p a r : ℕ) (x : Publication) (prefix : List Publication)
    → IsSoundEntry b s x.process prefix x.entry
    → IsPublished a r (decision_at (s.cells a) r).place s.published ⊎ IsHeld b s (record { account = a; round = r })
    → IsPublished a r (decision_at (s.cells a) r).place (pushed s p x).published ⊎ IsHeld b (pushed s p x) (record { account = a; round = r })
published-pushed b s p a r x prefix law (inl there) =
    let test : Publication → Bool = λ y. is_round a r y.entry && (place y.view == (decision_at (s.cells a) r).place) in
    inl (list_any-append test s.published (x ∷ []) ∙ or_left (list_any test s.published) (list_any test (x ∷ [])) there)
published-pushed b s p a r x prefix law (inr (k, known, held)) =
    let test : Publication → Bool = λ y. is_round a r y.entry && (place y.view == (decision_at (s.cells a) r).place) in
    let c : Cell = record { account = a; round = r } in
    elim (cases_Bool (k == p)) as (λ _. IsPublished a r (decision_at (s.cells a) r).place (pushed s p x).published ⊎ IsHeld b (pushed s p x) c) [
      | inl own ↦
          elim (cases_Bool (gives_up x c)) as (λ _. IsPublished a r (decision_at (s.cells a) r).place (pushed s p x).published ⊎ IsHeld b (pushed s p x) c) [
            | inl given ↦
                let now : test x ≡ true = published-gives_up b s x.process a r x.view prefix x.entry law given in
                inl (list_any-append test s.published (x ∷ []) ∙ or_right (list_any test s.published) (list_any test (x ∷ []))
                (ap (λ t. t || false) now))
            | inr kept ↦
                let still : (pushed s p x).held k ≡ Some c =
                ap (λ (t : Bool). cond t (held_after x (s.held k)) (s.held k)) own
                ∙ (ap (held_after x) held ∙ ap (λ (t : Bool). cond t None (Some c)) kept) in
                inr (k, known, still)
          ]
      | inr other ↦ inr (k, known, ap (λ (t : Bool). cond t (held_after x (s.held k)) (s.held k)) other ∙ held)
    ]

-- what is asked of a publication that comes next: its view is a cut of all that stands, its entry keeps the laws there, and
-- its process has room for one more own record
pub record IsNextPublication (b : BookTerms) (s : BoardState) (x : Publication) : Type 0 where
  pub view : HasView b s.published x
  pub entry : IsSoundEntry b s x.process (prefix_of x.view s.published) x.entry
  pub room : is_own x.entry ≡ true → owns_of x.process s.published < b.own_room

-- publishing keeps a state sound
pub Sound-pushed : (b : BookTerms) (s : BoardState) (p : ℕ) (x : Publication) → Sound b s → IsNextPublication b s x → Sound b (pushed s p x)
Sound-pushed b s p x sound next =
    let xs = s.published in
    let all = ArePublishedBy-HasRuns b s (HasRuns-Sound b s sound) in
    let same : prefix_of x.view (xs ++ x ∷ []) ≡ prefix_of x.view xs =
    take-pushed xs x (place x.view) (place-IsCut-le b.processes x.view xs next.view.cut all) in
    record {
      views = push_all (HasView b) xs x sound.views next.view;
      entries = push_entries (λ (y : Publication) (prefix : List Publication). IsSoundEntry b (pushed s p x) y.process prefix y.entry) xs x
          (λ m within. place-view-le b s m (HasRuns-Sound b s sound) within)
          (λ m within. IsSoundEntry-pushed b s p x (publication_at xs m).process (prefix_of (publication_at xs m).view xs) (publication_at xs m).entry (sound.entries m within))
          (IsSoundEntry-pushed b s p x x.process (prefix_of x.view (xs ++ x ∷ [])) x.entry
          (subst (λ t. IsSoundEntry b s x.process t x.entry) (sym same) next.entry));
      own_room = λ k. own_room-pushed b xs x.process k x.view x.entry next.room (sound.own_room k);
      decisions = λ a r within. IsSoundDecision-pushed b s p x a r (decision_at (s.cells a) r) (sound.decisions a r within);
      numbers = sound.numbers;
      row_room = sound.row_room;
      requests = λ a slot i within. IsSoundRequest-pushed b s p x a slot i (request_at (s.rows a slot) i) (sound.requests a slot i within);
      published = λ a r within. published-pushed b s p a r x (prefix_of x.view xs) next.entry (sound.published a r within);
      one_holder = λ k l c one other. sound.one_holder k l c (held_before-pushed s p k x c one) (held_before-pushed s p l x c other);
      held_decided = λ k c held. sound.held_decided k c (held_before-pushed s p k x c held);
    }
  where
    push_entries : (F : Publication → List Publication → Type 0) (xs : List Publication) (x : Publication)
        → ((m : ℕ) → m < length xs → place (publication_at xs m).view ≤ m)
        → ((m : ℕ) → m < length xs → F (publication_at xs m) (prefix_of (publication_at xs m).view xs)) → F x (prefix_of x.view (xs ++ x ∷ []))
        → (m : ℕ) → m < length (xs ++ x ∷ []) → F (publication_at (xs ++ x ∷ []) m) (prefix_of (publication_at (xs ++ x ∷ []) m).view (xs ++ x ∷ []))
    push_entries F xs x views old new m within =
        elim (cases_lt m (length xs)) as (λ _. F (publication_at (xs ++ x ∷ []) m) (prefix_of (publication_at (xs ++ x ∷ []) m).view (xs ++ x ∷ []))) [
          | inl below ↦
              subst (λ y. F y (prefix_of y.view (xs ++ x ∷ []))) (sym (get_or_append_left xs (x ∷ []) no_publication m below))
              (subst (F (publication_at xs m)) (sym (take-append-le (place (publication_at xs m).view) xs (x ∷ []) (omega (arith, views m below)))) (old m below))
          | inr above ↦
              subst (λ y. F y (prefix_of y.view (xs ++ x ∷ []))) (sym (get_or_push xs x no_publication m (omega (arith, length_push xs x)))) new
        ]
