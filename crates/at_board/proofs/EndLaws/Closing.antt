-- Gathering all seats into one keeps the rule.
use Rattle.std.proofs.Common.{◌≡◌, ◌≢◌, ℕ, ◌+◌, ◌-◌, ◌<◌, ◌==◌, Bool, cond, List, ◌++◌, length, get_or, set, refl, sym, ap, subst, ◌∙◌, arith, inl, inr, ◌⊎◌}
use Rattle.at_board.proofs.Prelude.{get_elem?, some, some-injective, cases_eq, cases_lt, eq-eqb, ne_eqb, get_or_append_left, get_or-append_right, length-append, All-append, Contains-append_left, Contains-append_right, at_set, set_else, set_here, Joins, BookTerms, IsLonger-longer, BoardState, gathered, HasPart, IsAnnounced, IsDecided, Knows, no_part, part_at, AreSeated, Holds, Ruled, spent_knowledge, Knowledge}
use Rattle.at_board.proofs.KnowledgeLaws.Asking.{HasPart-more, HasRequests}
use Rattle.at_board.proofs.KnowledgeLaws.Seats.{knows_after, within_found}
use Rattle.at_board.proofs.StepLaws.Learn.{Knows-spent_knowledge}

Knows-gathered : (b : BookTerms) (words : List ℕ) (s : BoardState) (v w : Knowledge) → w.first ≡ v.first + length v.parts
    → Knows b words s v → Knows b words s w → Knows b words s (gathered v w)
Knows-gathered b words s v w next mine theirs =
    let u : Knowledge = gathered v w in
    let long = IsLonger-longer v.seen w.seen s.published mine.seen theirs.seen in
    let left : HasRequests u.requests v.requests = λ x there. Contains-append_left v.requests w.requests x there in
    let right : HasRequests u.requests w.requests = λ x there. Contains-append_right v.requests w.requests x there in
    record {
      seen = long.before;
      requests = All-append (IsAnnounced s) v.requests w.requests mine.requests theirs.requests;
      decisions = All-append (IsDecided s) v.decisions w.decisions mine.decisions theirs.decisions;
      parts = λ k within. elim (cases_lt k (length v.parts)) as (λ _. HasPart b words s u (v.first + k) (get_or (v.parts ++ w.parts) k no_part)) [
        | inl below ↦
            subst (HasPart b words s u (v.first + k)) (sym (get_or_append_left v.parts w.parts no_part k below))
            (HasPart-more b words s v u (v.first + k) (part_at v k) long.first long.before left (mine.parts k below))
        | inr above ↦
            let n = k - length v.parts in
            let inside : n < length w.parts = omega (arith, within, above, length-append v.parts w.parts) in
            let at : w.first + n ≡ v.first + k = omega (arith, next, above) in
            subst (HasPart b words s u (v.first + k)) (sym (get_or-append_right v.parts w.parts (length v.parts) k no_part refl above))
            (subst (λ p. HasPart b words s u p (part_at w n)) at
            (HasPart-more b words s w u (w.first + n) (part_at w n) long.second long.before right (theirs.parts n inside)))
      ];
    }

-- for which processes both stand together
Holds-gathered : (v w : Knowledge) (p : ℕ) → w.first ≡ v.first + length v.parts → Holds (gathered v w) p → Holds v p ⊎ Holds w p
Holds-gathered v w p next holds =
    elim (cases_lt p (v.first + length v.parts)) as (λ _. Holds v p ⊎ Holds w p) [
      | inl below ↦ inl (holds.0, below)
      | inr above ↦ inr (omega (arith, next, above), omega (arith, next, holds.1, length-append v.parts w.parts))
    ]

gathered-first : (v w : Knowledge) (p : ℕ) → Holds v p → Holds (gathered v w) p
gathered-first v w p holds = (holds.0, omega (arith, holds.1, length-append v.parts w.parts))

gathered-second : (v w : Knowledge) (p : ℕ) → w.first ≡ v.first + length v.parts → Holds w p → Holds (gathered v w) p
gathered-second v w p next holds = (omega (arith, next, holds.0), omega (arith, next, holds.1, length-append v.parts w.parts))

-- the processes of the second seat have the first one
abbrev pub seat_joined : (ℕ → ℕ) → ℕ → ℕ → ℕ → ℕ
seat_joined seat id other p = cond (seat p == other) id (seat p)

seat_joined-second : (seat : ℕ → ℕ) (id other p : ℕ) → seat p ≡ other → seat_joined seat id other p ≡ id
seat_joined-second seat id other p own = ap (λ (t : Bool). cond t id (seat p)) (eq-eqb (seat p) other own)

seat_joined-else : (seat : ℕ → ℕ) (id other p : ℕ) → seat p ≢ other → seat_joined seat id other p ≡ seat p
seat_joined-else seat id other p apart = ap (λ (t : Bool). cond t id (seat p)) (ne_eqb (seat p) other apart)

AreSeated-gathered : (b : BookTerms) (seat : ℕ → ℕ) (knowledge : List Knowledge) (id other : ℕ) (v w : Knowledge) → AreSeated b seat knowledge
    → get_elem? knowledge id ≡ some v → other ≢ id → get_elem? knowledge other ≡ some w → w.first ≡ v.first + length v.parts
    → AreSeated b (seat_joined seat id other) (set (set knowledge id (gathered v w)) other spent_knowledge)
AreSeated-gathered b seat knowledge id other v w seated found apart there next =
    let u : Knowledge = gathered v w in
    let after = set (set knowledge id u) other spent_knowledge in
    record {
      only = λ j p t at holds. elim (at_set (set knowledge id u) other j spent_knowledge t at) as (λ _. seat_joined seat id other p ≡ j) [
        | inl here ↦
            let none : Holds spent_knowledge p = subst (λ x. Holds x p) (sym here.1) holds in
            absurd (omega (arith, none.0, none.1))
        | inr off ↦ elim (at_set knowledge id j u t off.1) as (λ _. seat_joined seat id other p ≡ j) [
          | inl here ↦ elim (Holds-gathered v w p next (subst (λ x. Holds x p) (sym here.1) holds)) as (λ _. seat_joined seat id other p ≡ j) [
            | inl mine ↦
                let own = seated.only id p v found mine in
                seat_joined-else seat id other p (λ e. apart (sym e ∙ own)) ∙ (own ∙ sym here.0)
            | inr theirs ↦ seat_joined-second seat id other p (seated.only other p w there theirs) ∙ sym here.0
          ]
          | inr old ↦
              let own = seated.only j p t old.1 holds in
              seat_joined-else seat id other p (λ e. off.0 (sym own ∙ e)) ∙ own
        ]
      ];
      some_seat = λ p within.
          let before = seated.some_seat p within in
          let here : get_elem? after id ≡ some u =
          set_else (set knowledge id u) other id spent_knowledge (λ e. apart (sym e)) ∙ set_here knowledge id u (within_found knowledge id v found) in
          elim (cases_eq (seat p) other) as (λ _. (t : Knowledge) × (get_elem? after (seat_joined seat id other p) ≡ some t) × Holds t p) [
            | inl theirs ↦
                let same : before.0 ≡ w = some-injective before.0 w (sym before.1 ∙ (ap (get_elem? knowledge) theirs ∙ there)) in
                (u, ap (get_elem? after) (seat_joined-second seat id other p theirs) ∙ here, gathered-second v w p next (subst (λ t. Holds t p) same before.2))
            | inr beside ↦
                let stays = seat_joined-else seat id other p beside in
                elim (cases_eq (seat p) id) as (λ _. (t : Knowledge) × (get_elem? after (seat_joined seat id other p) ≡ some t) × Holds t p) [
                  | inl mine ↦
                      let same : before.0 ≡ v = some-injective before.0 v (sym before.1 ∙ (ap (get_elem? knowledge) mine ∙ found)) in
                      (u, ap (get_elem? after) (stays ∙ mine) ∙ here, gathered-first v w p (subst (λ t. Holds t p) same before.2))
                  | inr off ↦ (
                    before.0,
                    ap (get_elem? after) stays
                        ∙ (set_else (set knowledge id u) other (seat p) spent_knowledge beside ∙ (set_else knowledge id (seat p) u off ∙ before.1)),
                    before.2,
                  )
                ]
          ];
    }

Ruled-gathered : (b : BookTerms) (words : List ℕ) (knowledge : List Knowledge) (id other : ℕ) (v w : Knowledge) → Ruled b words knowledge
    → get_elem? knowledge id ≡ some v → other ≢ id → get_elem? knowledge other ≡ some w → w.first ≡ v.first + length v.parts
    → Ruled b words (set (set knowledge id (gathered v w)) other spent_knowledge)
Ruled-gathered b words knowledge id other v w ruled found apart there next =
    let s : BoardState = ruled.state in
    let u : Knowledge = gathered v w in
    let knows = knows_after b words s knowledge id u (Knows-gathered b words s v w next (ruled.knows id v found) (ruled.knows other w there))
    (λ j t off at. ruled.knows j t at) in
    record {
      state = s;
      seat = seat_joined ruled.seat id other;
      shown = ruled.shown;
      sound = ruled.sound;
      overtaking = ruled.overtaking;
      knows = knows_after b words s (set knowledge id u) other spent_knowledge (Knows-spent_knowledge b words s) (λ j t off at. knows j t at);
      seated = AreSeated-gathered b ruled.seat knowledge id other v w ruled.seated found apart there next;
    }

module _ {S : Type 0} where
  -- the seats of the next processes may be joined to a seat
  pub gathers : (key : BookTerms) (id other : ℕ) (v w : Knowledge) → w.first ≡ v.first + length v.parts
      → Joins {S = S} (λ s. Ruled key s.words s.views) id v other w (gathered v w) spent_knowledge
  gathers key id other v w next s holds found apart there =
      Ruled-gathered key s.words s.views id other v w holds found apart
      (sym (set_else s.views id other (gathered v w) apart) ∙ there) next
