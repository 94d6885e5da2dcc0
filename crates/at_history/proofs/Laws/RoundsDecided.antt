-- The rounds of the prefixes of a list with such laws: they are decided one after another.
use Rattle.std.proofs.Common.{◌≡◌, ℕ, ◌+◌, ◌<◌, ◌≤◌, ◌==◌, ◌&&◌, zero, suc, true, false, List, [], ◌∷◌, ◌++◌, length, take, refl, sym, ap, subst, ◌∙◌, arith, inl, inr}
use Rattle.at_history.proofs.Prelude.{cases_Bool, cases_eq, eq-eqb, ne_eqb, le-ltb, ltb-false, length-take, All-from_get_or, sum_by_more, sum_by, Decision, BookTerms, TargetPair, BoardState, decision_at, publication_at, is_round_on, names, prefix_of, place, ArePublishedBy, no_publication, firsts, named, repeats, rounds, HasView, IsDecidedSo, IsSoundEntry, Entry, Own, Round, Publication}
use Rattle.at_history.proofs.Laws.Cuts.{place-IsCut-le}
use Rattle.at_history.proofs.Laws.HasRuns.{HasRuns}
use Rattle.at_history.proofs.Laws.Prefixes.{ArePublishedBy-take, take-publication_at}
use Rattle.at_history.proofs.Laws.Rounds.{IsInitial, IsInitial-nil, IsInitial-push, IsNextAtMost, one_if, published, repeats-own, repeats-round, rounds-push_next, sum_by-firsts_new, sum_by-firsts_repeat, rounds-take_mono}

-- each publication is of a process of the book
ArePublishedBy-HasView : (b : BookTerms) (xs : List Publication) → ((i : ℕ) → i < length xs → HasView b (take i xs) (publication_at xs i))
    → ArePublishedBy b.processes xs
ArePublishedBy-HasView b xs views =
    All-from_get_or (λ x. x.process < b.processes) xs no_publication (λ i within. (views i within).process)

pub ArePublishedBy-HasRuns : (b : BookTerms) (s : BoardState) → HasRuns b s → ArePublishedBy b.processes s.published
ArePublishedBy-HasRuns b s sound = ArePublishedBy-HasView b s.published sound.views

-- a view is of publications before it
pub place-HasView-le : (b : BookTerms) (xs : List Publication) (m : ℕ) → ((i : ℕ) → i < length xs → HasView b (take i xs) (publication_at xs i))
    → m < length xs → place (publication_at xs m).view ≤ m
place-HasView-le b xs m views within =
    let known = ArePublishedBy-take b.processes m xs (ArePublishedBy-HasView b xs views) in
    omega (
      arith,
      place-IsCut-le b.processes (publication_at xs m).view (take m xs) (views m within).cut known,
      length-take m xs,
    )

pub place-view-le : (b : BookTerms) (s : BoardState) (m : ℕ) → HasRuns b s → m < length s.published
    → place (publication_at s.published m).view ≤ m
place-view-le b s m sound within = place-HasView-le b s.published m sound.views within

-- a round's record is of a round that is at most the next
IsNextAtMost-entry : (b : BookTerms) (s : BoardState) (p : ℕ) (prefix xs : List Publication) (e : Entry)
    → IsSoundEntry b s p prefix e → ((a : ℕ) → rounds a prefix ≤ rounds a xs) → IsNextAtMost xs e
IsNextAtMost-entry b s p prefix xs (Own from targets) law more = tt
IsNextAtMost-entry b s p prefix xs (Round a r d targets) law more = omega (arith, more a, law.0.next)

pub IsNextAtMost-HasRuns : (b : BookTerms) (s : BoardState) (m : ℕ) → HasRuns b s → m < length s.published
    → IsNextAtMost (take m s.published) (publication_at s.published m).entry
IsNextAtMost-HasRuns b s m sound within =
    let x : Publication = publication_at s.published m in
    IsNextAtMost-entry b s x.process (prefix_of x.view s.published) (take m s.published) x.entry (sound.entries m within)
    (λ a. rounds-take_mono a (place x.view) m s.published (place-view-le b s m sound within))

-- the rounds of a prefix are all numbers below their count, where each record's round is at most the next
pub IsInitial-IsNextAtMost : (xs : List Publication) (m : ℕ)
    → ((i : ℕ) → i < length xs → IsNextAtMost (take i xs) (publication_at xs i).entry) → m ≤ length xs
    → (a : ℕ) → IsInitial a (take m xs)
IsInitial-IsNextAtMost xs zero next within a = IsInitial-nil a
IsInitial-IsNextAtMost xs (suc m) next within a =
    let x : Publication = publication_at xs m in
    let more = IsInitial-push a (take m xs) x.process x.view x.entry (IsInitial-IsNextAtMost xs m next (omega arith)) (next m (omega arith)) in
    let e : m + 1 ≡ suc m = omega arith in
    subst (IsInitial a) (sym (take-publication_at xs m (omega arith)) ∙ ap (λ k. take k xs) e) more

pub IsInitial-take : (b : BookTerms) (s : BoardState) (m : ℕ) → HasRuns b s → m ≤ length s.published
    → (a : ℕ) → IsInitial a (take m s.published)
IsInitial-take b s m sound within =
    IsInitial-IsNextAtMost s.published m (λ i inside. IsNextAtMost-HasRuns b s i sound inside) within

-- how many of the first decisions name a slot
abbrev pub decided_for : ℕ → ℕ → List Decision → ℕ
decided_for slot n decisions = sum_by (λ e. one_if (e.slot == slot)) (take n decisions)

-- the rounds of an account in a list are the first ones that are decided
pub record AreDecided (s : BoardState) (a : ℕ) (xs : List Publication) : Type 0 where
  pub rounds_within : rounds a xs ≤ length (s.cells a)
  pub named_so : (slot : ℕ) → named a slot xs ≡ decided_for slot (rounds a xs) (s.cells a)

AreDecided-nil : (s : BoardState) (a : ℕ) → AreDecided s a []
unfolding firsts
AreDecided-nil s a = record { rounds_within = omega arith; named_so = λ slot. refl }

-- the same rounds with the same names
AreDecided-same : (s : BoardState) (a : ℕ) (xs ys : List Publication) → AreDecided s a xs → rounds a ys ≡ rounds a xs
    → ((slot : ℕ) → named a slot ys ≡ named a slot xs) → AreDecided s a ys
AreDecided-same s a xs ys decided same names_same = record {
  rounds_within = omega (arith, decided.rounds_within, same);
  named_so = λ slot. names_same slot ∙ (decided.named_so slot ∙ ap (λ n. decided_for slot n (s.cells a)) (sym same));
}

-- one more round: it is the next decision
AreDecided-next : (s : BoardState) (a r : ℕ) (p : ℕ) (v : List ℕ) (d : Decision) (targets : List TargetPair) (xs : List Publication)
    → IsInitial a xs → AreDecided s a xs → rounds a xs ≡ r → IsDecidedSo s a r d targets
    → AreDecided s a (xs ++ published p v (Round a r d targets) ∷ [])
AreDecided-next s a r p v d targets xs initial decided next so =
    let x = published p v (Round a r d targets) in
    let new : repeats x (firsts xs) ≡ false = repeats-round p v a r d targets xs initial ∙ le-ltb r (rounds a xs) (omega arith) in
    let more = rounds-push_next p v a r d targets xs initial next in
    record {
      rounds_within = omega (arith, more, next, so.decided);
      named_so = λ slot.
          let own : one_if ((a == a) && (d.slot == slot)) ≡ one_if (d.slot == slot) = ap (λ t. one_if (t && (d.slot == slot))) (eq-eqb a a refl) in
          let grown = sum_by-firsts_new (λ y. one_if (names a slot y.entry)) xs x new in
          let taken = sum_by_more (λ (e : Decision). one_if (e.slot == slot)) (s.cells a) r (record { ok = false; slot = 0; number = 0; place = 0 }) so.decided in
          let here : one_if ((decision_at (s.cells a) r).slot == slot) ≡ one_if (d.slot == slot) = ap (λ (e : Decision). one_if (e.slot == slot)) so.decision in
          let at : rounds a (xs ++ x ∷ []) ≡ r + 1 = omega (arith, more, next) in
          let before = ap (λ n. decided_for slot n (s.cells a)) next in
          let after = ap (λ n. decided_for slot n (s.cells a)) at in
          omega (arith, grown, own, taken, here, before, after, decided.named_so slot);
    }

AreDecided-repeat : (s : BoardState) (c : ℕ) (xs : List Publication) (x : Publication) → AreDecided s c xs → repeats x (firsts xs) ≡ true
    → AreDecided s c (xs ++ x ∷ [])
AreDecided-repeat s c xs x decided again =
    AreDecided-same s c xs (xs ++ x ∷ []) decided (sum_by-firsts_repeat (λ y. one_if (is_round_on c y.entry)) xs x again)
    (λ slot. sum_by-firsts_repeat (λ y. one_if (names c slot y.entry)) xs x again)

AreDecided-other : (s : BoardState) (c : ℕ) (xs : List Publication) (x : Publication) → AreDecided s c xs → repeats x (firsts xs) ≡ false
    → is_round_on c x.entry ≡ false → ((slot : ℕ) → names c slot x.entry ≡ false) → AreDecided s c (xs ++ x ∷ [])
AreDecided-other s c xs x decided new off others =
    AreDecided-same s c xs (xs ++ x ∷ []) decided
    (omega (arith, sum_by-firsts_new (λ y. one_if (is_round_on c y.entry)) xs x new, ap one_if off))
    (λ slot. omega (arith, sum_by-firsts_new (λ y. one_if (names c slot y.entry)) xs x new, ap one_if (others slot)))

AreDecided-push : (b : BookTerms) (s : BoardState) (c : ℕ) (prefix xs : List Publication) (p : ℕ) (v : List ℕ) (e : Entry)
    → ((a : ℕ) → IsInitial a xs) → ((a : ℕ) → AreDecided s a xs) → IsSoundEntry b s p prefix e → IsNextAtMost xs e
    → AreDecided s c (xs ++ published p v e ∷ [])
AreDecided-push b s c prefix xs p v (Own from targets) initial decided law next =
    AreDecided-other s c xs (published p v (Own from targets)) (decided c) (repeats-own p v from targets (firsts xs)) refl (λ slot. refl)
AreDecided-push b s c prefix xs p v (Round a r d targets) initial decided law next =
    let x = published p v (Round a r d targets) in
    elim (cases_Bool (repeats x (firsts xs))) as (λ _. AreDecided s c (xs ++ x ∷ [])) [
      | inl again ↦ AreDecided-repeat s c xs x (decided c) again
      | inr new ↦
          elim (cases_eq a c) as (λ _. AreDecided s c (xs ++ x ∷ [])) [
            | inl same ↦
                let at : rounds a xs ≡ r = omega (arith, next, ltb-false r (rounds a xs) (sym (repeats-round p v a r d targets xs (initial a)) ∙ new)) in
                subst (λ t. AreDecided s t (xs ++ x ∷ [])) same (AreDecided-next s a r p v d targets xs (initial a) (decided a) at law.1)
            | inr apart ↦ AreDecided-other s c xs x (decided c) new (ne_eqb a c apart) (λ slot. ap (λ t. t && (d.slot == slot)) (ne_eqb a c apart))
          ]
    ]

-- the rounds of a prefix are the first ones that are decided
pub AreDecided-take : (b : BookTerms) (s : BoardState) (m : ℕ) → HasRuns b s → m ≤ length s.published
    → (a : ℕ) → AreDecided s a (take m s.published)
AreDecided-take b s zero sound within a = AreDecided-nil s a
AreDecided-take b s (suc m) sound within a =
    let x : Publication = publication_at s.published m in
    let more = AreDecided-push b s a (prefix_of x.view s.published) (take m s.published) x.process x.view x.entry
    (IsInitial-take b s m sound (omega arith)) (AreDecided-take b s m sound (omega arith)) (sound.entries m (omega arith))
    (IsNextAtMost-HasRuns b s m sound (omega arith)) in
    let e : m + 1 ≡ suc m = omega arith in
    subst (AreDecided s a) (sym (take-publication_at s.published m (omega arith)) ∙ ap (λ k. take k s.published) e) more
