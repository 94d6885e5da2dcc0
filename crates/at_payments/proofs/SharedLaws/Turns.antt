-- The round that a turn decides may be published, and turns in a row.
use Rattle.std.proofs.Common.{◌≡◌, ℕ, ◌≤◌, true, List, [], ◌∷◌, length, sym, ap, subst, ◌∙◌, arith, inl, inr}
use Rattle.at_payments.proofs.Prelude.{cases_lt, length_push, slot_in, Request, asking_on, own_part, request_of, OpenRequest, HasAllSettled, AsksOnce, SeesOwnRecords, Decision, BookTerms, HasSlot, account_of, is_owner, prefix_of-IsPrefix, ArePublishedBy-IsHistory, IsCut, prefix_of, IsHistory, is_settled, rounds, IsSoundRound, Decides, Knowledge, HasAccount, HelpingTerms, HasTurned, none, again, More}
use Rattle.at_payments.proofs.SharedLaws.Kept.{is_settled-IsPrefix}
use Rattle.at_payments.proofs.SharedLaws.Starting.{same_some}
use Rattle.at_payments.proofs.SharedLaws.Added.{Adds, Adds-refl, Adds-trans, HasAccount-Adds}
use Rattle.at_payments.proofs.SharedLaws.Placing.{is_owner-HasSlot, is_shared-HasSlot}
use Rattle.at_payments.proofs.SharedLaws.Turning.{Adds-HelpAnswers}

-- after the exchange on the cell of the next round at a cut that round may be published with the cut as its view
pub IsSoundRound-Decides : (b : BookTerms) (v x : Knowledge) (a slot round r word : ℕ) (proposal : Decision) (cut : List ℕ) → IsHistory b v.seen
    → IsCut b.processes cut v.seen → HasSlot b v.first a slot → r ≡ rounds a (prefix_of cut v.seen) → Decides b v x a round proposal word
    → IsSoundRound b x.first (prefix_of cut x.seen) a r
IsSoundRound-Decides b v x a slot round r word proposal cut history is_cut has next decides =
    let same = prefix_of-IsPrefix b.processes cut v.seen x.seen is_cut (ArePublishedBy-IsHistory b v.seen history) decides.more in
    record {
      account_in = has.account_in;
      shared = is_shared-HasSlot b v.first a slot has;
      owner = subst (λ p. is_owner b p a ≡ true) (sym (ap (λ (t : Knowledge). t.first) decides.same)) (is_owner-HasSlot b v.first a slot has);
      next = ap (rounds a) same ∙ sym next;
    }

-- turns in a row announce no request
pub Adds-HasTurned : (b : BookTerms) (h : HelpingTerms) (u w : Knowledge) (turns : ℕ) → HasAccount u h.account → HasTurned b h u turns w
    → Adds b u w h.account []
Adds-HasTurned b h u _ _ has none = Adds-refl b u h.account
Adds-HasTurned b h u _ _ has (again turns before after turned answers) =
    let so_far = Adds-HasTurned b h u before turns has turned in
    Adds-trans b u before after h.account [] [] so_far
    (Adds-HelpAnswers b before after h More (HasAccount-Adds b u before h.account h.account [] so_far has) answers)

-- a call that has announced one request, which is settled, has asked once
pub AsksOnce-Adds : (b : BookTerms) (v z : Knowledge) (a : ℕ) (own : OpenRequest) → Adds b v z a (request_of own ∷ []) → SeesOwnRecords v → HasAllSettled b v a
    → HasSlot b v.first a own.slot → own.number ≡ length (asking_on (own_part v) a).announced → length v.seen ≤ own.since
    → is_settled a own.slot own.number z.seen ≡ true → AsksOnce b v z a
AsksOnce-Adds b v z a own adds sees before own_slot number since settled_own =
    let row : List Request = (asking_on (own_part v) a).announced in
    record {
      request = request_of own;
      announced = adds.announced;
      since = since;
      elsewhere = adds.elsewhere;
      settled = λ slot n has within. elim (cases_lt n (length row)) as (λ _. is_settled a slot n z.seen ≡ true) [
        | inl earlier ↦
            is_settled-IsPrefix a slot n v.seen z.seen adds.more (before slot n (subst (λ p. HasSlot b p a slot) adds.first has) earlier)
        | inr last ↦
            let count : n ≡ own.number =
            omega (arith, within, last, ap (λ (rs : List Request). length rs) adds.announced, length_push row (request_of own), number) in
            let slots : slot ≡ own.slot =
            same_some slot own.slot (sym has.owner ∙ (ap (slot_in (account_of b a)) adds.first ∙ own_slot.owner)) in
            subst (λ s. is_settled a s n z.seen ≡ true) (sym slots) (subst (λ k. is_settled a own.slot k z.seen ≡ true) (sym count) settled_own)
      ];
      owns = adds.owns sees;
      gained = adds.gained;
    }
