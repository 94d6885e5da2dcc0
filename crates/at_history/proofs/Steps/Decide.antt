-- Deciding a round keeps a state sound: the state with one more decision, whose cell a process holds.
use Rattle.std.proofs.Common.{◌≡◌, ◌≢◌, ℕ, ◌<◌, ◌≤◌, ◌==◌, Bool, cond, List, [], ◌∷◌, ◌++◌, length, take, Some, refl, sym, ap, subst, ◌∙◌, arith, inl, inr, false, None, ◌⊎◌}
use Rattle.at_history.proofs.Prelude.{cases_eq, cases_lt, eq-eqb, ne_eqb, get_or_append_left, get_or_push, length_push, take-append-le, take_all, count_by, Decision, BookTerms, BoardState, decision_at, publication_at, request_at, prefix_of, is_settled, IsHeld, IsPublished, IsSoundDecision, IsSoundEntry, IsSoundRequest, Sound, Cell, Entry, Own, Round, Publication, Request}
use Rattle.at_history.proofs.Laws.DecisionNumbers.{no_decision, number_is_next}

-- the cell of a round
abbrev pub cell : ℕ → ℕ → Cell
cell a round = record { account = a; round = round }

-- the state with one more decision of an account, whose cell the process holds
abbrev pub decided : BoardState → ℕ → ℕ → Decision → BoardState
decided s p a d = record s {
  cells = λ k. cond (k == a) (s.cells k ++ d ∷ []) (s.cells k);
  held = λ k. cond (k == p) (Some (cell a (length (s.cells a)))) (s.held k);
}

pub cells-own : (s : BoardState) (p a : ℕ) (d : Decision) → (decided s p a d).cells a ≡ s.cells a ++ d ∷ []
cells-own s p a d = ap (λ (t : Bool). cond t (s.cells a ++ d ∷ []) (s.cells a)) (eq-eqb a a refl)

pub cells-other : (s : BoardState) (p a k : ℕ) (d : Decision) → k ≢ a → (decided s p a d).cells k ≡ s.cells k
cells-other s p a k d apart = ap (λ (t : Bool). cond t (s.cells k ++ d ∷ []) (s.cells k)) (ne_eqb k a apart)

pub held-own : (s : BoardState) (p a : ℕ) (d : Decision) → (decided s p a d).held p ≡ Some (cell a (length (s.cells a)))
held-own s p a d = ap (λ (t : Bool). cond t (Some (cell a (length (s.cells a)))) (s.held p)) (eq-eqb p p refl)

pub held-other : (s : BoardState) (p a k : ℕ) (d : Decision) → k ≢ p → (decided s p a d).held k ≡ s.held k
held-other s p a k d apart = ap (λ (t : Bool). cond t (Some (cell a (length (s.cells a)))) (s.held k)) (ne_eqb k p apart)

-- the decisions before are the same
pub record KeptCells (xs ys : List Decision) : Type 0 where
  pub longer : length xs ≤ length ys
  pub kept : (r : ℕ) → r < length xs → decision_at ys r ≡ decision_at xs r
  pub first : (r : ℕ) → r ≤ length xs → take r ys ≡ take r xs

pub KeptCells-push : (xs ys : List Decision) (d : Decision) → ys ≡ xs ++ d ∷ [] → KeptCells xs ys
KeptCells-push xs ys d all = record {
  longer = omega (arith, ap length all, length_push xs d);
  kept = λ r within. ap (λ t. decision_at t r) all ∙ get_or_append_left xs (d ∷ []) no_decision r within;
  first = λ r within. ap (take r) all ∙ take-append-le r xs (d ∷ []) within;
}

KeptCells-same : (xs ys : List Decision) → ys ≡ xs → KeptCells xs ys
KeptCells-same xs ys same = record {
  longer = omega (arith, ap length same);
  kept = λ r within. ap (λ t. decision_at t r) same;
  first = λ r within. ap (take r) same;
}

pub KeptCells-decided : (s : BoardState) (p a k : ℕ) (d : Decision) → KeptCells (s.cells k) ((decided s p a d).cells k)
KeptCells-decided s p a k d =
    elim (cases_eq k a) as (λ _. KeptCells (s.cells k) ((decided s p a d).cells k)) [
      | inl own ↦
          subst (λ t. KeptCells (s.cells t) ((decided s p a d).cells t)) (sym own)
          (KeptCells-push (s.cells a) ((decided s p a d).cells a) d (cells-own s p a d))
      | inr other ↦ KeptCells-same (s.cells k) ((decided s p a d).cells k) (cells-other s p a k d other)
    ]

-- a law of each decision, for one more
pub cells_all : (s : BoardState) (p a : ℕ) (d : Decision) (P : ℕ → ℕ → Decision → Type 0)
    → ((k r : ℕ) → r < length (s.cells k) → P k r (decision_at (s.cells k) r)) → P a (length (s.cells a)) d
    → (k r : ℕ) → r < length ((decided s p a d).cells k) → P k r (decision_at ((decided s p a d).cells k) r)
cells_all s p a d P old new k r within =
    let s' : BoardState = decided s p a d in
    elim (cases_lt r (length (s.cells k))) as (λ _. P k r (decision_at (s'.cells k) r)) [
      | inl below ↦ subst (P k r) (sym ((KeptCells-decided s p a k d).kept r below)) (old k r below)
      | inr above ↦ elim (cases_eq k a) as (λ _. P k r (decision_at (s'.cells k) r)) [
        | inl own ↦
            let at : length (s.cells a) ≡ r =
            omega (arith, within, above, ap (λ t. length (s.cells t)) own, ap (λ t. length (s'.cells t)) own, ap length (cells-own s p a d), length_push (s.cells a) d) in
            let last : decision_at (s'.cells a) r ≡ d = ap (λ t. decision_at t r) (cells-own s p a d) ∙ get_or_push (s.cells a) d no_decision r at in
            subst (λ t. P t r (decision_at (s'.cells t) r)) (sym own) (subst (P a r) (sym last) (subst (λ t. P a t d) at new))
        | inr other ↦ absurd (omega (arith, within, above, ap length (cells-other s p a k d other)))
      ]
    ]

-- the proposal, by what the board has
pub record IsNextDecision (b : BookTerms) (s : BoardState) (a round : ℕ) (d : Decision) : Type 0 where
  pub law : IsSoundDecision b s a round d
  pub within : round ≤ length (s.cells a)
  pub unsettled : is_settled a d.slot d.number (take d.place s.published) ≡ false

-- the laws of entries with one more decision
IsSoundEntry-decided : (b : BookTerms) (s : BoardState) (q a : ℕ) (d : Decision) (p : ℕ) (prefix : List Publication) (e : Entry)
    → IsSoundEntry b s p prefix e → IsSoundEntry b (decided s q a d) p prefix e
IsSoundEntry-decided b s q a d p prefix (Own from targets) law = law
IsSoundEntry-decided b s q a d p prefix (Round account round e targets) law =
    let kept = KeptCells-decided s q a account d in (
      law.0,
      record {
        decided = omega (arith, law.1.decided, kept.longer);
        decision = kept.kept round law.1.decided ∙ law.1.decision;
        same_targets = law.1.same_targets;
      },
    )

-- a decision's law reads the publications and the rows alone
IsSoundDecision-decided : (b : BookTerms) (s : BoardState) (q a : ℕ) (d : Decision) (k r : ℕ) (e : Decision)
    → IsSoundDecision b s k r e → IsSoundDecision b (decided s q a d) k r e
IsSoundDecision-decided b s q a d k r e law = record {
  range = law.range;
  room = law.room;
  slot_in = law.slot_in;
  place = law.place;
  next = law.next;
  announced = law.announced;
  since = law.since;
  ok = law.ok;
}

IsSoundRequest-decided : (b : BookTerms) (s : BoardState) (q a : ℕ) (d : Decision) (k slot number : ℕ) (r : Request)
    → IsSoundRequest b s k slot number r → IsSoundRequest b (decided s q a d) k slot number r
IsSoundRequest-decided b s q a d k slot number r law = record {
  slot_in = law.slot_in;
  targets = law.targets;
  since = law.since;
  follows = law.follows;
  rounds = omega (arith, law.rounds, (KeptCells-decided s q a k d).longer);
}

-- who holds a cell after the exchange
held_cases : (s : BoardState) (p a k : ℕ) (d : Decision) (c : Cell) → (decided s p a d).held k ≡ Some c
    → ((k ≡ p) × (c ≡ cell a (length (s.cells a)))) ⊎ ((k ≢ p) × (s.held k ≡ Some c))
held_cases s p a k d c held =
    elim (cases_eq k p) as (λ _. ((k ≡ p) × (c ≡ cell a (length (s.cells a)))) ⊎ ((k ≢ p) × (s.held k ≡ Some c))) [
      | inl own ↦
          let both : Some c ≡ Some (cell a (length (s.cells a))) = sym held ∙ (ap (decided s p a d).held own ∙ held-own s p a d) in
          inl (own, cc both)
      | inr other ↦ inr (other, sym (held-other s p a k d other) ∙ held)
    ]

-- the new cell is nobody's
new_cell-held : (b : BookTerms) (s : BoardState) (a k : ℕ) → Sound b s → s.held k ≡ Some (cell a (length (s.cells a))) → ⊥
new_cell-held b s a k sound held = omega (arith, sound.held_decided k (cell a (length (s.cells a))) held)

IsHeld-decided : (b : BookTerms) (s : BoardState) (p a : ℕ) (d : Decision) (c : Cell) → s.held p ≡ None → IsHeld b s c → IsHeld b (decided s p a d) c
IsHeld-decided b s p a d c free (k, known, held) =
    elim (cases_eq k p) as (λ _. IsHeld b (decided s p a d) c) [
      | inl own ↦ let none : None ≡ Some c = sym free ∙ (ap s.held (sym own) ∙ held) in absurd (cc none)
      | inr other ↦ (k, known, held-other s p a k d other ∙ held)
    ]

pub Sound-decided : (b : BookTerms) (s : BoardState) (p a round : ℕ) (d : Decision) → Sound b s → IsNextDecision b s a round d
    → length (s.cells a) ≡ round → p < b.processes → s.held p ≡ None → Sound b (decided s p a d)
Sound-decided b s p a round d sound proposed full known free =
    let s' : BoardState = decided s p a d in
    let n = length (s.cells a) in
    let law : IsSoundDecision b s a n d = subst (λ t. IsSoundDecision b s a t d) (sym full) proposed.law in
    record {
      views = sound.views;
      entries = λ m within.
          let x : Publication = publication_at s.published m in
          IsSoundEntry-decided b s p a d x.process (prefix_of x.view s.published) x.entry (sound.entries m within);
      own_room = sound.own_room;
      decisions = cells_all s p a d (IsSoundDecision b s')
          (λ k r within. IsSoundDecision-decided b s p a d k r (decision_at (s.cells k) r) (sound.decisions k r within))
          (IsSoundDecision-decided b s p a d a n d law);
      numbers = cells_all s p a d (λ k r e. count_by (λ (f : Decision). f.slot == e.slot) (take r (s'.cells k)) ≡ e.number)
          (λ k r within.
          ap (count_by (λ (f : Decision). f.slot == (decision_at (s.cells k) r).slot)) ((KeptCells-decided s p a k d).first r (omega arith))
          ∙ sound.numbers k r within)
          (ap (count_by (λ (f : Decision). f.slot == d.slot)) ((KeptCells-decided s p a a d).first n (omega arith) ∙ take_all n (s.cells a) (omega arith))
          ∙ number_is_next b s d.place a d.slot d.number sound law.place law.next law.announced proposed.unsettled);
      row_room = sound.row_room;
      requests = λ k slot i within. IsSoundRequest-decided b s p a d k slot i (request_at (s.rows k slot) i) (sound.requests k slot i within);
      published = cells_all s p a d (λ k r e. IsPublished k r e.place s.published ⊎ IsHeld b s' (cell k r))
          (λ k r within. elim (sound.published k r within) as (λ _. IsPublished k r (decision_at (s.cells k) r).place s.published ⊎ IsHeld b s' (cell k r)) [
            | inl there ↦ inl there
            | inr held ↦ inr (IsHeld-decided b s p a d (cell k r) free held)
          ])
          (inr (p, known, held-own s p a d));
      one_holder = λ k l c one other.
          elim (held_cases s p a k d c one) as (λ _. k ≡ l) [
            | inl mine ↦ elim (held_cases s p a l d c other) as (λ _. k ≡ l) [
              | inl same ↦ mine.0 ∙ sym same.0
              | inr theirs ↦ absurd (new_cell-held b s a l sound (theirs.1 ∙ ap Some mine.1))
            ]
            | inr theirs ↦ elim (held_cases s p a l d c other) as (λ _. k ≡ l) [
              | inl mine ↦ absurd (new_cell-held b s a k sound (theirs.1 ∙ ap Some mine.1))
              | inr both ↦ sound.one_holder k l c theirs.1 both.1
            ]
          ];
      held_decided = λ k c held.
          elim (held_cases s p a k d c held) as (λ _. c.round < length (s'.cells c.account)) [
            | inl mine ↦
                subst (λ (t : Cell). t.round < length (s'.cells t.account)) (sym mine.1)
                (omega (arith, ap length (cells-own s p a d), length_push (s.cells a) d))
            | inr theirs ↦ omega (arith, sound.held_decided k c theirs.1, (KeptCells-decided s p a c.account d).longer)
          ];
    }
