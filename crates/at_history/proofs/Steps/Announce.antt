-- Announcing a request keeps a state sound: the state with one more request in a row.
use Rattle.std.proofs.Common.{◌≡◌, ℕ, ◌+◌, ◌<◌, ◌≤◌, List, [], ◌++◌, length, sym, ap, ◌∙◌, arith, ◌↔◌, ◌==◌, ◌&&◌, true, cond, ◌∷◌, take, refl, subst, inl, inr, ◌⊎◌}
use Rattle.at_history.proofs.Prelude.{cases_eq, cases_lt, eq-eqb, ne_eqb, append-nil, get_or_append_left, length-append, get_or_push, length_push, Decision, slots_of, BookTerms, account_of, amount_of, IsCovered, BoardState, request_at, decision_at, publication_at, prefix_of, is_settled, rounds, AreTargets, IsSoundDecision, IsSoundEntry, IsSoundRequest, Sound, Entry, Own, Round, Publication, Request, SeenRow}
use Rattle.at_history.proofs.Laws.RoundsDecided.{AreDecided-take}
use Rattle.at_history.proofs.Laws.HasRuns.{HasRuns-Sound}

-- what a state has of requests, by account and slot: the rows, and of the last request of each what was heard when it was
-- announced and the announced words that its owner has loaded since then
pub record Asked : Type 0 where
  pub rows : ℕ → ℕ → List Request
  pub heard : ℕ → ℕ → ℕ
  pub seen_rows : ℕ → ℕ → List SeenRow

abbrev pub asked_of : BoardState → Asked
asked_of s = record { rows = s.rows; heard = s.heard; seen_rows = s.seen_rows }

-- the state with other requests
abbrev pub with_asked : BoardState → Asked → BoardState
with_asked s t = record s { rows = t.rows; heard = t.heard; seen_rows = t.seen_rows }

abbrev pub Rows : Type 0
Rows = ℕ → ℕ → List Request

-- rows that have only gained requests
abbrev pub Grows : Rows → Rows → Type 0
Grows rows longer = (a slot : ℕ) → (more : List Request) × (longer a slot ≡ rows a slot ++ more)

pub Grows-refl : (rows : Rows) → Grows rows rows
Grows-refl rows a slot = ([], sym (append-nil (rows a slot)))

pub length-Grows : (rows longer : Rows) (a slot : ℕ) → Grows rows longer → length (rows a slot) ≤ length (longer a slot)
length-Grows rows longer a slot grows = omega (arith, ap length (grows a slot).1, length-append (rows a slot) (grows a slot).0)

pub request_at-Grows : (rows longer : Rows) (a slot i : ℕ) → Grows rows longer → i < length (rows a slot)
    → request_at (longer a slot) i ≡ request_at (rows a slot) i
request_at-Grows rows longer a slot i grows within =
    ap (λ row. request_at row i) (grows a slot).1
    ∙ get_or_append_left (rows a slot) (grows a slot).0 (record { targets = []; since = 0 }) i within

-- what is had by account and slot, with something else for one slot
abbrev pub at_slot : {X : Type 0} → (ℕ → ℕ → X) → ℕ → ℕ → X → ℕ → ℕ → X
at_slot f a slot x = λ c other. cond ((c == a) && (other == slot)) x (f c other)

-- a slot has the same requests, has heard the same, and has loaded the same
pub record SameAsked (t u : Asked) (a slot : ℕ) : Type 0 where
  pub row : u.rows a slot ≡ t.rows a slot
  pub heard : u.heard a slot ≡ t.heard a slot
  pub seen_rows : u.seen_rows a slot ≡ t.seen_rows a slot

pub SameAsked-refl : (t : Asked) (a slot : ℕ) → SameAsked t t a slot
SameAsked-refl t a slot = record { row = refl; heard = refl; seen_rows = refl }

-- the rows with one more request of a slot
abbrev pub announced_rows : Rows → ℕ → ℕ → Request → Rows
announced_rows rows a slot r = at_slot rows a slot (rows a slot ++ r ∷ [])

-- the requests with one more of a slot: its owner has heard all rounds that stand, and has loaded nothing since
abbrev pub announced : BoardState → ℕ → ℕ → Request → Asked
announced s a slot r = record {
  rows = announced_rows s.rows a slot r;
  heard = at_slot s.heard a slot (rounds a s.published);
  seen_rows = at_slot s.seen_rows a slot [];
}

-- an owner has loaded the announced word of a slot
abbrev pub row_loaded : BoardState → ℕ → ℕ → ℕ → ℕ → Asked
row_loaded s a mine slot n = record (asked_of s) {
  seen_rows = at_slot s.seen_rows a mine (s.seen_rows a mine ++ record { slot = slot; count = n } ∷ []);
}

-- the slot is this one or another
pub slot_cases : (a slot c other : ℕ) → ((c ≡ a) × (other ≡ slot)) ⊎ ((c ≡ a) × (other ≡ slot) → ⊥)
slot_cases a slot c other =
    elim (cases_eq c a) as (λ _. ((c ≡ a) × (other ≡ slot)) ⊎ ((c ≡ a) × (other ≡ slot) → ⊥)) [
      | inl account ↦
          elim (cases_eq other slot) as (λ _. ((c ≡ a) × (other ≡ slot)) ⊎ ((c ≡ a) × (other ≡ slot) → ⊥)) [
            | inl same ↦ inl (account, same)
            | inr apart ↦ inr (λ both. apart both.1)
          ]
      | inr apart ↦ inr (λ both. apart both.0)
    ]

pub at_slot-here : {X : Type 0} (f : ℕ → ℕ → X) (a slot : ℕ) (x : X) → at_slot f a slot x a slot ≡ x
at_slot-here f a slot x = rw (eq-eqb a a refl) (rw (eq-eqb slot slot refl) refl)

pub at_slot-same : {X : Type 0} (f : ℕ → ℕ → X) (a slot c other : ℕ) (x : X) → (c ≡ a) × (other ≡ slot) → at_slot f a slot x c other ≡ x
at_slot-same f a slot c other x same = rw (eq-eqb c a same.0) (rw (eq-eqb other slot same.1) refl)

pub at_slot-other : {X : Type 0} (f : ℕ → ℕ → X) (a slot c other : ℕ) (x : X) → ((c ≡ a) × (other ≡ slot) → ⊥)
    → at_slot f a slot x c other ≡ f c other
at_slot-other f a slot c other x apart =
    elim (cases_eq c a) as (λ _. at_slot f a slot x c other ≡ f c other) [
      | inl account ↦
          let off = ne_eqb other slot (λ e. apart (account, e)) in
          rw (eq-eqb c a account) (rw off refl)
      | inr off ↦ rw (ne_eqb c a off) refl
    ]

pub announced_rows-here : (rows : Rows) (a slot : ℕ) (r : Request) → announced_rows rows a slot r a slot ≡ rows a slot ++ r ∷ []
announced_rows-here rows a slot r = at_slot-here rows a slot (rows a slot ++ r ∷ [])

pub announced_rows-other : (rows : Rows) (a slot c other : ℕ) (r : Request) → ((c ≡ a) × (other ≡ slot) → ⊥)
    → announced_rows rows a slot r c other ≡ rows c other
announced_rows-other rows a slot c other r apart = at_slot-other rows a slot c other (rows a slot ++ r ∷ []) apart

-- what other slots have asked, heard and loaded
pub SameAsked-announced : (s : BoardState) (a slot c other : ℕ) (r : Request) → ((c ≡ a) × (other ≡ slot) → ⊥) → SameAsked (asked_of s) (announced s a slot r) c other
SameAsked-announced s a slot c other r apart = record {
  row = announced_rows-other s.rows a slot c other r apart;
  heard = at_slot-other s.heard a slot c other (rounds a s.published) apart;
  seen_rows = at_slot-other s.seen_rows a slot c other [] apart;
}

pub Grows-announced : (rows : Rows) (a slot : ℕ) (r : Request) → Grows rows (announced_rows rows a slot r)
Grows-announced rows a slot r = λ c other.
    elim (slot_cases a slot c other) as (λ _. (more : List Request) × (announced_rows rows a slot r c other ≡ rows c other ++ more)) [
      | inl same ↦
          let here : announced_rows rows a slot r c other ≡ rows c other ++ r ∷ [] =
          subst (λ t. announced_rows rows a slot r t other ≡ rows t other ++ r ∷ []) (sym same.0)
          (subst (λ t. announced_rows rows a slot r a t ≡ rows a t ++ r ∷ []) (sym same.1) (announced_rows-here rows a slot r)) in
          (r ∷ [], here)
      | inr apart ↦ ([], announced_rows-other rows a slot c other r apart ∙ sym (append-nil (rows c other)))
    ]

IsSoundEntry-Grows : (b : BookTerms) (s : BoardState) (t : Asked) (p : ℕ) (prefix : List Publication) (e : Entry) → Sound b s → Grows s.rows t.rows
    → IsSoundEntry b s p prefix e → IsSoundEntry b (with_asked s t) p prefix e
IsSoundEntry-Grows b s t p prefix (Own from targets) sound grows law = law
IsSoundEntry-Grows b s t p prefix (Round a r d targets) sound grows law =
    let decision : IsSoundDecision b s a r d = subst (IsSoundDecision b s a r) law.1.decision (sound.decisions a r law.1.decided) in (
      law.0,
      record {
        decided = law.1.decided;
        decision = law.1.decision;
        same_targets = ap (λ (q : Request). q.targets) (request_at-Grows s.rows t.rows a d.slot d.number grows decision.announced) ∙ law.1.same_targets;
      },
    )

IsSoundDecision-Grows : (b : BookTerms) (s : BoardState) (t : Asked) (a r : ℕ) (d : Decision) → Grows s.rows t.rows
    → IsSoundDecision b s a r d → IsSoundDecision b (with_asked s t) a r d
IsSoundDecision-Grows b s t a r d grows law =
    let same = sym (request_at-Grows s.rows t.rows a d.slot d.number grows law.announced) in
    record {
      range = law.range;
      room = law.room;
      slot_in = law.slot_in;
      place = law.place;
      next = law.next;
      announced = omega (arith, law.announced, length-Grows s.rows t.rows a d.slot grows);
      since = subst (λ (q : Request). q.since ≤ d.place) same law.since;
      ok = subst (λ (q : Request). (d.ok ≡ true) ↔ IsCovered b (take d.place s.published) a (amount_of q.targets)) same law.ok;
    }

-- the laws of a request read no rows
IsSoundRequest-Grows : (b : BookTerms) (s : BoardState) (t : Asked) (a slot number : ℕ) (r : Request)
    → IsSoundRequest b s a slot number r → IsSoundRequest b (with_asked s t) a slot number r
IsSoundRequest-Grows b s t a slot number r law = record {
  slot_in = law.slot_in;
  targets = law.targets;
  since = law.since;
  follows = law.follows;
  rounds = law.rounds;
}

-- what is asked of a request that is announced next
pub record IsNextRequest (b : BookTerms) (s : BoardState) (a slot : ℕ) (r : Request) : Type 0 where
  pub slot_in : slot < slots_of (account_of b a)
  pub room : length (s.rows a slot) < b.request_room
  pub targets : AreTargets b r.targets
  pub since : r.since ≤ length s.published
  pub follows : (before : ℕ) → before + 1 ≡ length (s.rows a slot) → is_settled a slot before (take r.since s.published) ≡ true

IsSoundRequest-next : (b : BookTerms) (s : BoardState) (t : Asked) (a slot : ℕ) (r : Request) → Sound b s → IsNextRequest b s a slot r
    → IsSoundRequest b (with_asked s t) a slot (length (s.rows a slot)) r
IsSoundRequest-next b s t a slot r sound next = record {
  slot_in = next.slot_in;
  targets = next.targets;
  since = next.since;
  follows = next.follows;
  rounds = (AreDecided-take b s r.since (HasRuns-Sound b s sound) next.since a).rounds_within;
}

-- a law of each request of the rows, for one more
each_announced : (F : ℕ → ℕ → ℕ → Request → Type 0) (rows : Rows) (a slot : ℕ) (r : Request)
    → ((c other i : ℕ) → i < length (rows c other) → F c other i (request_at (rows c other) i)) → F a slot (length (rows a slot)) r
    → (c other i : ℕ) → i < length (announced_rows rows a slot r c other) → F c other i (request_at (announced_rows rows a slot r c other) i)
each_announced F rows a slot r old new c other i within =
    elim (slot_cases a slot c other) as (λ _. F c other i (request_at (announced_rows rows a slot r c other) i)) [
      | inl same ↦
          let inside : i < length (announced_rows rows a slot r a slot) =
          subst (λ t. i < length (announced_rows rows a slot r a t)) same.1 (subst (λ t. i < length (announced_rows rows a slot r t other)) same.0 within) in
          subst (λ t. F t other i (request_at (announced_rows rows a slot r t other) i)) (sym same.0)
          (subst (λ t. F a t i (request_at (announced_rows rows a slot r a t) i)) (sym same.1) (here inside))
      | inr apart ↦
          let e = announced_rows-other rows a slot c other r apart in
          subst (λ row. F c other i (request_at row i)) (sym e) (old c other i (subst (λ row. i < length row) e within))
    ]
  where
    here : i < length (announced_rows rows a slot r a slot) → F a slot i (request_at (announced_rows rows a slot r a slot) i)
    here inside =
        let e = announced_rows-here rows a slot r in
        let row = rows a slot in
        let none : Request = record { targets = []; since = 0 } in
        subst (λ t. F a slot i (request_at t i)) (sym e)
        (elim (cases_lt i (length row)) as (λ _. F a slot i (request_at (row ++ r ∷ []) i)) [
          | inl below ↦ subst (F a slot i) (sym (get_or_append_left row (r ∷ []) none i below)) (old a slot i below)
          | inr above ↦
              let at : length row ≡ i = omega (arith, inside, ap length e, length_push row r) in
              subst (F a slot i) (sym (get_or_push row r none i at)) (subst (λ k. F a slot k r) at new)
        ])

-- where the rows have only gained sound requests, and there is room for them, the state stays sound
Sound-Grows : (b : BookTerms) (s : BoardState) (t : Asked) → Sound b s → Grows s.rows t.rows
    → ((a slot : ℕ) → length (t.rows a slot) ≤ b.request_room)
    → ((a slot i : ℕ) → i < length (t.rows a slot) → IsSoundRequest b (with_asked s t) a slot i (request_at (t.rows a slot) i))
    → Sound b (with_asked s t)
Sound-Grows b s t sound grows room requests = record {
  views = sound.views;
  entries = λ m within.
      let x : Publication = publication_at s.published m in
      IsSoundEntry-Grows b s t x.process (prefix_of x.view s.published) x.entry sound grows (sound.entries m within);
  own_room = sound.own_room;
  decisions = λ c k within. IsSoundDecision-Grows b s t c k (decision_at (s.cells c) k) grows (sound.decisions c k within);
  numbers = sound.numbers;
  row_room = room;
  requests = requests;
  published = sound.published;
  one_holder = sound.one_holder;
  held_decided = sound.held_decided;
}

pub Sound-announced : (b : BookTerms) (s : BoardState) (a slot : ℕ) (r : Request) → Sound b s → IsNextRequest b s a slot r
    → Sound b (with_asked s (announced s a slot r))
Sound-announced b s a slot r sound next =
    let t : Asked = announced s a slot r in
    Sound-Grows b s t sound (Grows-announced s.rows a slot r)
    (λ c other. elim (slot_cases a slot c other) as (λ _. length (t.rows c other) ≤ b.request_room) [
      | inl same ↦
          let here : length (t.rows a slot) ≤ b.request_room = omega (arith, ap length (announced_rows-here s.rows a slot r), length_push (s.rows a slot) r, next.room) in
          subst (λ k. length (t.rows k other) ≤ b.request_room) (sym same.0) (subst (λ k. length (t.rows a k) ≤ b.request_room) (sym same.1) here)
      | inr apart ↦ omega (arith, ap length (announced_rows-other s.rows a slot c other r apart), sound.row_room c other)
    ])
    (each_announced (IsSoundRequest b (with_asked s t)) s.rows a slot r
    (λ c other i within. IsSoundRequest-Grows b s t c other i (request_at (s.rows c other) i) (sound.requests c other i within))
    (IsSoundRequest-next b s t a slot r sound next))

-- the laws of a sound state read no loads of announced words
pub Sound-row_loaded : (b : BookTerms) (s : BoardState) (a mine slot n : ℕ) → Sound b s → Sound b (with_asked s (row_loaded s a mine slot n))
Sound-row_loaded b s a mine slot n sound =
    let t : Asked = row_loaded s a mine slot n in
    Sound-Grows b s t sound (Grows-refl s.rows) sound.row_room
    (λ c other i within. IsSoundRequest-Grows b s t c other i (request_at (s.rows c other) i) (sound.requests c other i within))
