-- How far an owner's request may be overtaken: what the law of overtaking says of a prefix of the list.
use Rattle.std.proofs.Common.{◌≡◌, ℕ, ◌+◌, ◌-◌, ◌<◌, ◌≤◌, false, length, take, arith}
use Rattle.at_history.proofs.Prelude.{slots_of, BookTerms, account_of, BoardState, decision_at, AreOvertakers, IsLastRequest, Overtakes, Overtaking, is_settled, rounds, Sound}
use Rattle.at_history.proofs.Laws.DecisionNumbers.{IsUndecided-unsettled}
use Rattle.at_history.proofs.Laws.Distinct.{distinct_others-le}
use Rattle.at_history.proofs.Laws.HasRuns.{HasRuns-Sound}
use Rattle.at_history.proofs.Laws.RoundsDecided.{AreDecided-take}

-- as many rounds in a row that overtake a request are of as many different slots, and none of the request's
overtakers-le : (b : BookTerms) (s : BoardState) (a slot number d n : ℕ) → Sound b s → slot < slots_of (account_of b a)
    → AreOvertakers (s.cells a) d slot number → ((i : ℕ) → i < n → Overtakes (s.cells a) d slot number (d + i)) → n + 1 ≤ slots_of (account_of b a)
overtakers-le b s a slot number d n sound slot_in law each =
    let slots : ℕ → ℕ = λ i. (decision_at (s.cells a) (d + i)).slot in
    distinct_others-le slots slot n (slots_of (account_of b a)) slot_in
    (λ i inside. (sound.decisions a (d + i) (each i inside).decided).slot_in)
    (λ i j less inside same. omega (arith, law.once (d + i) (d + j) (each i (omega arith)) (each j inside) same, less))
    (λ i inside. law.others (d + i) (each i inside))

-- where an owner's last request is unsettled, the account has fewer rounds than were heard when it was announced and the
-- account has owners
pub rounds-Overtaking : (b : BookTerms) (s : BoardState) (m a slot number : ℕ) → Sound b s → Overtaking s → IsLastRequest (s.rows a slot) number
    → m ≤ length s.published → is_settled a slot number (take m s.published) ≡ false
    → rounds a (take m s.published) + 1 ≤ s.heard a slot + slots_of (account_of b a)
rounds-Overtaking b s m a slot number sound law last within unsettled =
    let d = s.heard a slot in
    let n = rounds a (take m s.published) in
    let undecided = IsUndecided-unsettled b s m a slot number sound within unsettled in
    let inside = (AreDecided-take b s m (HasRuns-Sound b s sound) within a).rounds_within in
    let own : slot < slots_of (account_of b a) = (sound.requests a slot number (omega arith)).slot_in in
    let each : (i : ℕ) → i < n - d → Overtakes (s.cells a) d slot number (d + i) = λ i below. record {
      heard_before = omega arith;
      decided = omega (arith, inside, below);
      undecided = λ r before. undecided r (omega (arith, before, below));
    } in
    omega (arith, overtakers-le b s a slot number d (n - d) sound own (law.overtakers a slot number last) each)
