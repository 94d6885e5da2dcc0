-- The journal's order of what a ledger leaves has the records of the state's list, and each held cut is a cut of both: what a
-- cut's prefix says of rounds and balances is the same in both.
use Rattle.std.proofs.Common.{◌≡◌, ℕ, ◌+◌, ◌-◌, ◌<◌, ◌↔◌, List, length, take, refl, sym, ap, subst, ◌∙◌, arith, inl, inr}
use Rattle.at_log.proofs.Prelude.{cases_lt, Contains, BookTerms, account_of, count_of-take-le, count_of-take_more_own, get_or-publications_of, ArePublishedBy-IsHistory, IsCovered, balance_after, credit_of, credits, debit_of, debits, BoardState, publication_at, prefix_of, ArePublishedBy, count_of, no_publication, publications_of, rounds, one_if, is_round_on, Publication, ClosingTerms, log_of, log_published, receipts_of, held_cuts, journal_order, receipt_at, At, IsLeft}
use Rattle.at_log.proofs.Laws.Order.{ArePublishedBy-journal_order, IsCut-held, publications_of-journal_order}
use Rattle.at_log.proofs.Laws.OrderPremises.{HasViews}
use Rattle.at_log.proofs.Laws.Views.{Contains-view}
use Rattle.at_log.proofs.LeftCuts.{AreChained-left, Contains-receipt, IsCut-left, length-log_of, view-log_published}
use Rattle.at_log.proofs.SameRecords.{AreTwins, IsCommonCut, publications_of-beyond, sum_by-cut}

module _ (b : BookTerms) (s : BoardState) (c : ClosingTerms) (left : IsLeft b s c) where
  pub HasViews-left : HasViews b c
  HasViews-left = record { logs = left.logs; cuts = AreChained-left b s c left; views = view-log_published b s c left }

  -- the two lists have the same records
  pub publications_of-left : (p : ℕ) → p < b.processes → publications_of p (journal_order c) ≡ publications_of p s.published
  publications_of-left p known = publications_of-journal_order c p (omega (arith, known, left.logs)) ∙ left.log p known

  pub AreTwins-left : AreTwins b.processes s.published (journal_order c)
  AreTwins-left =
      let known = ArePublishedBy-IsHistory b s.published left.history in
      let known_too = subst (λ n. ArePublishedBy n (journal_order c)) left.logs (ArePublishedBy-journal_order c) in
      record {
        known = known;
        known_too = known_too;
        same = λ p.
            elim (cases_lt p b.processes) as (λ _. publications_of p s.published ≡ publications_of p (journal_order c)) [
              | inl within ↦ sym (publications_of-left p within)
              | inr beyond ↦
                  publications_of-beyond b.processes p s.published beyond known
                  ∙ sym (publications_of-beyond b.processes p (journal_order c) beyond known_too)
            ];
      }

  abbrev pub IsHeldCut : List ℕ → Type 0
  IsHeldCut view = IsCommonCut b.processes s.published (journal_order c) view

  IsHeldCut-held : (view : List ℕ) → Contains (held_cuts c) view → IsHeldCut view
  IsHeldCut-held view held = record {
    one = IsCut-left b s c left view held;
    other = IsCut-held b c view (AreChained-left b s c left) left.logs held;
  }

  -- the view of a record, and the cut of a receipt
  pub IsHeldCut-view : (m : ℕ) → m < length s.published → IsHeldCut (publication_at s.published m).view
  IsHeldCut-view m within =
      let x : Publication = publication_at s.published m in
      let p = x.process in
      let i = count_of p (take m s.published) in
      let known : p < b.processes = (left.history.views m within).process in
      let inside : i < length (log_of c p) =
      omega (
        arith,
        count_of-take_more_own p m s.published no_publication within refl,
        count_of-take-le p (m + 1) s.published,
        length-log_of b s c left p known,
      ) in
      let is : publication_at (log_published c p) i ≡ x =
      ap (λ (t : List Publication). publication_at t i) (left.log p known) ∙ get_or-publications_of p m s.published no_publication within refl in
      IsHeldCut-held x.view
      (subst (λ (y : Publication). Contains (held_cuts c) y.view) is (Contains-view c p i (omega (arith, known, left.logs)) inside))

  pub IsHeldCut-receipt : (p i : ℕ) (view : List ℕ) → p < b.processes → i < length (receipts_of c p)
      → (receipt_at (receipts_of c p) i).at ≡ At.Cut view → IsHeldCut view
  IsHeldCut-receipt p i view known within at =
      IsHeldCut-held view (Contains-receipt c p i view (omega (arith, known, left.receipts)) within at)

  -- the rounds and the balances at a held cut
  pub rounds-left : (a : ℕ) (view : List ℕ) → IsHeldCut view → rounds a (prefix_of view s.published) ≡ rounds a (prefix_of view (journal_order c))
  rounds-left a view cut =
      sum_by-cut b.processes s.published (journal_order c) AreTwins-left (λ e. one_if (is_round_on a e)) view left.history.agree cut

  credits-left : (a : ℕ) (view : List ℕ) → IsHeldCut view → credits a (prefix_of view s.published) ≡ credits a (prefix_of view (journal_order c))
  credits-left a view cut = sum_by-cut b.processes s.published (journal_order c) AreTwins-left (credit_of a) view left.history.agree cut

  debits-left : (a : ℕ) (view : List ℕ) → IsHeldCut view → debits a (prefix_of view s.published) ≡ debits a (prefix_of view (journal_order c))
  debits-left a view cut = sum_by-cut b.processes s.published (journal_order c) AreTwins-left (debit_of a) view left.history.agree cut

  pub balance_after-left : (a : ℕ) (view : List ℕ) → IsHeldCut view
      → balance_after b (prefix_of view s.published) a ≡ balance_after b (prefix_of view (journal_order c)) a
  balance_after-left a view cut = λ t. (account_of b a).opening + credits-left a view cut t - debits-left a view cut t

  pub IsCovered-left : (a amount : ℕ) (view : List ℕ) → IsHeldCut view
      → IsCovered b (prefix_of view s.published) a amount ↔ IsCovered b (prefix_of view (journal_order c)) a amount
  IsCovered-left a amount view cut = (
    λ covered. omega (arith, covered, credits-left a view cut, debits-left a view cut),
    λ covered. omega (arith, covered, credits-left a view cut, debits-left a view cut),
  )
