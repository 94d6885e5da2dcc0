-- Where a closing is coherent and has the four calls of each process, all answers are one value, and one of the processes proposed it.
use Rattle.std.proofs.Common.{◌≡◌, ℕ, ◌^◌, ◌<◌, ◌≤◌, ◌==◌, ◌&&◌, List, sym, ap, ◌∙◌, arith, inl, inr}
use Rattle.at_agree.proofs.Prelude.{cases_order, eq-eqb, IsBegun, one_if, publication_at, is_own, owns_of, Own, Publication, ClosingTerms, receipts_of, Coherent, journal_order, IsSize, council_book, value_account, HasProposed, HasVoted, chosen, value_targets}
use Rattle.at_agree.proofs.Answered.{answered-chosen}
use Rattle.at_agree.proofs.KeptPlan.{AllVoted, KeepsPlan-AllVoted, NamesAnew-AllVoted, two_counted}
use Rattle.at_agree.proofs.OrderShown.{IsCouncilList-Coherent}
use Rattle.at_agree.proofs.VotedReceipts.{stands_as_voted}

-- a process has one value in a list
same_value : (k p x y : ℕ) (list : List Publication) → owns_of p list ≤ 1 → HasProposed k list p x → HasProposed k list p y → x ≡ y
same_value k p x y list once one other =
    let f : Publication → ℕ = λ z. one_if ((z.process == p) && is_own z.entry) in
    let i = one.position in
    let j = other.position in
    let here : f (publication_at list i) ≡ 1 = λ t. one_if (eq-eqb (publication_at list i).process p one.process_is t && is_own (one.entry t)) in
    let there : f (publication_at list j) ≡ 1 = λ t. one_if (eq-eqb (publication_at list j).process p other.process_is t && is_own (other.entry t)) in
    let same : i ≡ j = elim (cases_order i j) as (λ _. i ≡ j) [
      | inl equal ↦ equal
      | inr apart ↦ elim apart as (λ _. i ≡ j) [
        | inl below ↦ absurd (omega (arith, two_counted f list i j below other.within (omega (arith, here)) (omega (arith, there)), once))
        | inr above ↦ absurd (omega (arith, two_counted f list j i above one.within (omega (arith, there)) (omega (arith, here)), once))
      ]
    ] in
    let entry : Own p (value_targets k p x) ≡ Own p (value_targets k p y) =
    sym one.entry ∙ (ap (λ n. (publication_at list n).entry) same ∙ other.entry) in
    let pair : ◌≡◌ {A = ℕ × ℕ} (value_account k p, x) (value_account k p, y) = cc entry in
    ap (λ (t : ℕ × ℕ). t.1) pair

module _ (k : ℕ) (c : ClosingTerms) (value answer : ℕ → ℕ) where
  pub one_answer : IsSize k → IsBegun (council_book k) → Coherent (council_book k) c → ((p : ℕ) → p < k → value p < 2 ^ 32)
      → ((p : ℕ) → p < k → HasVoted k p (value p) (answer p) (receipts_of c p))
      → (w : ℕ) × (w < k) × ((p : ℕ) → p < k → answer p ≡ value w)
  one_answer size begun coherent small voted =
      let list = journal_order c in
      let shown = IsCouncilList-Coherent k c size begun coherent in
      let all : AllVoted k list =
      λ p known. (value p, answer p, stands_as_voted k p (value p) (answer p) list (receipts_of c p) size known (small p known) shown (coherent.told p known) (voted p known)) in
      let planned = KeepsPlan-AllVoted k list shown all in
      let anew = NamesAnew-AllVoted k list shown all in
      let w = chosen k list in
      let proposed : (p : ℕ) → p < k → HasProposed k list w (answer p) =
      λ p known. answered-chosen k p (value p) (answer p) list size shown planned anew (all p known).2 in
      let first = proposed 0 (omega (arith, size.some)) in
      let known : w < k = omega (arith, shown.known first.position first.within, first.process_is) in
      (w, known, λ p within. same_value k w (answer p) (value w) list (shown.own_room w) (proposed p within) (all w known).2.paid)
