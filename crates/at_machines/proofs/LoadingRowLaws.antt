-- The row of an owner from one turn to the next.
use Rattle.std.proofs.Common.{◌≡◌, ℕ, ◌+◌, Some, refl, sym, subst, ◌∙◌}
use Rattle.at_machines.proofs.Prelude.{BookTerms, own_part, LoadsAnnounced, Knowledge, HasAccount, HasAccount-IsSeat, LoadsRow-other, LoadsRow-own, LoadsRequest, LoadsRow, OpenRequest, IsLoadingRowSo, LoadingRequestTerms, LoadingRowTerms, RowStage, Announced, Last}

-- the seat has something on the account
has_account : (r : LoadingRowTerms) (stage : RowStage) → IsLoadingRowSo r stage → HasAccount r.start r.account
has_account r stage so = HasAccount-IsSeat r.start r.start.first (own_part r.start).published r.account so.seat so.account_in

-- what was told for the board's book is told of the one at the start
announced_at_start : (b : BookTerms) (r : LoadingRowTerms) (w : Knowledge) (n : ℕ) → r.mark.book ≡ b → IsLoadingRowSo r Announced
    → LoadsAnnounced b r.mark w r.account r.slot n → LoadsAnnounced r.start.book r.start w r.account r.slot n
announced_at_start b r w n book so told =
    subst (λ (v : Knowledge). LoadsAnnounced r.start.book v w r.account r.slot n) so.stage_so
    (subst (λ (t : BookTerms). LoadsAnnounced t r.mark w r.account r.slot n) (sym book ∙ so.book) told)

-- the own row is whole
pub LoadsRow-IsLoadingRowSo-own : (b : BookTerms) (r : LoadingRowTerms) (w : Knowledge) (n : ℕ) → r.mark.book ≡ b → IsLoadingRowSo r Announced
    → r.slot ≡ r.own.slot → LoadsAnnounced b r.mark w r.account r.slot n → LoadsRow r.start w r.account r.slot r.own (Some r.own)
LoadsRow-IsLoadingRowSo-own b r w n book so at told =
    LoadsRow-own r.start.book r.start w r.account r.slot n r.own at so.own_seen (announced_at_start b r w n book so told)

-- the row of another owner is, once its last request is loaded
pub LoadsRow-IsLoadingRowSo-other : (b : BookTerms) (r : LoadingRowTerms) (l : LoadingRequestTerms) (w : Knowledge) (x : OpenRequest) → r.mark.book ≡ b
    → IsLoadingRowSo r (Last l) → LoadsRequest b l.start w l.account l.slot l.number x → LoadsRow r.start w r.account r.slot r.own (Some x)
LoadsRow-IsLoadingRowSo-other b r l w x book so told =
    let (mark_is, account_is, slot_is, few, apart, first) = so.stage_so in
    let here : LoadsRequest r.start.book l.start w r.account r.slot l.number x =
    subst (λ (t : BookTerms). LoadsRequest t l.start w r.account r.slot l.number x) (sym book ∙ so.book)
    (subst (λ s. LoadsRequest b l.start w r.account s l.number x) slot_is (subst (λ a. LoadsRequest b l.start w a l.slot l.number x) account_is told)) in
    LoadsRow-other r.start.book r.start l.start w r.account r.slot (l.number + 1) l.number r.own x (has_account r (Last l) so) apart refl first here
