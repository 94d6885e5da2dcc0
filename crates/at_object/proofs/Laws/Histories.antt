-- Each prefix of a history is one.
use Rattle.std.proofs.Common.{◌≡◌, ℕ, ◌<◌, ◌≤◌, ◌==◌, ◌&&◌, cond, true, List, length, take, ap, subst, arith, inl, inr}
use Rattle.std.specs.Prelude.{◌↔◌}
use Rattle.at_object.proofs.Prelude.{cases_lt, sum_by-append, BookTerms, amount_of, IsPrefix-count_of, IsPrefix-length, place-HasView-le, publication_at-IsPrefix, round-below, take-IsPrefix-le, IsCovered, publication_at, place, prefix_of, is_own, AgreeOnRound, IsHistory, IsShownDecision, IsShownEntry, IsRun, IsPrefix, named, owns_of, rounds, HasView, Entry, Own, Round, Publication}

module _ (b : BookTerms) (list more : List Publication) (before : IsPrefix list more) (history : IsHistory b more) where
  here : (m : ℕ) → m < length list → publication_at more m ≡ publication_at list m
  here m within = publication_at-IsPrefix m list more before within

  first : (m : ℕ) → m ≤ length list → take m more ≡ take m list
  first m within = take-IsPrefix-le m list more within before

  inside : (m : ℕ) → m < length list → m < length more
  inside m within = omega (arith, within, IsPrefix-length list more before)

  viewed : (m : ℕ) → m < length list → HasView b (take m list) (publication_at list m)
  viewed m within =
      subst (λ (x : Publication). HasView b (take m list) x) (here m within)
      (subst (λ t. HasView b t (publication_at more m)) (first m (omega (arith, within))) (history.views m (inside m within)))

  entered : (m : ℕ) → m < length list → let x : Publication = publication_at list m in IsShownEntry b x.process (prefix_of x.view list) x.entry
  entered m within =
      let x : Publication = publication_at list m in
      subst (λ t. IsShownEntry b x.process t x.entry)
      (first (place x.view) (omega (arith, within, place-HasView-le b list m viewed within)))
      (subst (λ (y : Publication). IsShownEntry b y.process (prefix_of y.view more) y.entry) (here m within) (history.entries m (inside m within)))

  -- a decision's place is before each record of its round
  decided : (e : Entry) (m : ℕ) → m < length list → (publication_at more m).entry ≡ e → IsShownDecision b more e → IsShownDecision b list e
  decided (Own from targets) m within is shown = tt
  decided (Round account r d targets) m within is shown =
      let early : d.place ≤ m = elim (cases_lt m d.place) as (λ _. d.place ≤ m) [
        | inl late ↦ absurd (omega (arith, shown.next, round-below b more m d.place account r d targets history late (inside m within) is))
        | inr not ↦ omega (arith, not)
      ] in
      let same = first d.place (omega (arith, early, within)) in
      record {
        room = shown.room;
        number_in = shown.number_in;
        place = omega (arith, early, within);
        next = subst (λ t. rounds account t ≡ r) same shown.next;
        number = subst (λ t. named account d.slot t ≡ d.number) same shown.number;
        ok = subst (λ t. (d.ok ≡ true) ↔ IsCovered b t account (amount_of targets)) same shown.ok;
      }

  pub IsHistory-IsPrefix : IsHistory b list
  IsHistory-IsPrefix = record {
    views = viewed;
    entries = entered;
    decisions = λ m within.
        let is = ap (λ (x : Publication). x.entry) (here m within) in
        decided (publication_at list m).entry m within is (subst (IsShownDecision b more) is (history.decisions m (inside m within)));
    agree = λ m k m_in k_in.
        subst (λ (x : Publication). AgreeOnRound (publication_at list m).entry x.entry) (here k k_in)
        (subst (λ (x : Publication). AgreeOnRound x.entry (publication_at more k).entry) (here m m_in)
        (history.agree m k (inside m m_in) (inside k k_in)));
    own_room = λ p. omega (
      arith,
      history.own_room p,
      ap (owns_of p) before.1,
      sum_by-append (λ (x : Publication). cond ((x.process == p) && is_own x.entry) 1 0) list before.0,
    );
    room = λ p known. omega (arith, history.room p known, IsPrefix-count_of p list more before);
    few = omega (arith, history.few, IsPrefix-length list more before);
    runs = λ m within. subst (IsRun b) (first m within) (history.runs m (omega (arith, within, IsPrefix-length list more before)));
  }
