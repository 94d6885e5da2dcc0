-- Asking from one turn to the next.
use Rattle.std.proofs.Common.{◌≡◌, ℕ, ◌<◌, ◌≤◌, ◌^◌, List, length, get_or, refl, sym, ap, subst, ◌∙◌, arith}
use Rattle.at_machines.proofs.Prelude.{BookTerms, HasSlot, AreTargetsOn, TargetPair, asking_on, own_part, IsKept, Announces, MayAnnounce, MayStoreRequest, StoresRequestWord, request_words, Asking, Knowledge, REQUEST_WORDS, HasAccount, HasAccount-IsSeat, asking_on-with_asking, Announces-IsStoringRequest, HasAsked-Announces, HasLoadedNothing-Announces, IsStoringRequest-more, IsStoringRequest-start, MayAnnounce-IsStoringRequest, MayAskFor-slot, MayStoreRequest-IsStoringRequest, AreTargetsOn-AreTargets, HasAsked, HasLoadedNothing, MayAskFor, asked_for, opened, with_request_stored, AskingTerms, asking_after, request_asked, starting_to_ask, IsAskingSo}

pub IsAskingSo-start : (v : Knowledge) (a : ℕ) (targets : List TargetPair) (since : ℕ) → IsKept v → (slot : ℕ) × MayAskFor v.book v a slot (asked_for targets since)
    → IsAskingSo (starting_to_ask v a targets since)
IsAskingSo-start v a targets since kept may = record {
  seat = kept;
  book = refl;
  may = may;
  so_far = λ few. IsStoringRequest-start v a (request_words (asked_for targets since)) (kept.next_words a may.0 may.1.asks.slot_in);
}

-- the seat has something on the account
has_account : (a : AskingTerms) → IsAskingSo a → HasAccount a.start a.account
has_account a so = HasAccount-IsSeat a.start a.start.first (own_part a.start).published a.account so.seat so.may.1.asks.slot_in.account_in

-- the targets fit their word
pub AreTargetsOn-IsAskingSo : (a : AskingTerms) → IsAskingSo a → AreTargetsOn (2 ^ 10) a.targets
AreTargetsOn-IsAskingSo a so = AreTargetsOn-AreTargets a.start.book a.targets so.seat.book so.may.1.targets

-- what stands before the board's book is put in place of the one at the start
may_ask : (b : BookTerms) (a : AskingTerms) (slot : ℕ) → a.mark.book ≡ b → IsAskingSo a → HasSlot b a.start.first a.account slot
    → MayAskFor b a.start a.account slot (request_asked a)
may_ask b a slot book so slot_in =
    let same : a.start.book ≡ b = sym so.book ∙ book in
    MayAskFor-slot b a.start a.account so.may.0 slot (request_asked a)
    (subst (λ (t : BookTerms). MayAskFor t a.start a.account so.may.0 (request_asked a)) same so.may.1) slot_in

-- the account is one that the seat's process shares
pub HasSlot-IsAskingSo : (b : BookTerms) (a : AskingTerms) → a.mark.book ≡ b → (so : IsAskingSo a) → HasSlot b a.start.first a.account so.may.0
HasSlot-IsAskingSo b a book so =
    subst (λ (t : BookTerms). HasSlot t a.start.first a.account so.may.0) (sym so.book ∙ book) so.may.1.asks.slot_in

pub MayStoreRequest-IsAskingSo : (b : BookTerms) (a : AskingTerms) → a.mark.book ≡ b → a.stored ≤ REQUEST_WORDS → (so : IsAskingSo a)
    → MayStoreRequest b a.mark a.account so.may.0
MayStoreRequest-IsAskingSo b a book few so =
    MayStoreRequest-IsStoringRequest b a.start a.mark a.account so.may.0 (request_words (request_asked a)) a.stored (has_account a so) (so.so_far few)
    (may_ask b a so.may.0 book so (HasSlot-IsAskingSo b a book so)).asks

pub IsAskingSo-word : (a : AskingTerms) (w : Knowledge) (n : ℕ) → a.stored < REQUEST_WORDS → IsAskingSo a
    → n ≡ get_or (request_words (request_asked a)) a.stored 0 → StoresRequestWord a.mark w a.account a.stored n → IsAskingSo (asking_after a w)
IsAskingSo-word a w n left so word told = record {
  seat = so.seat;
  book = ap (λ (t : Knowledge). t.book) told ∙ so.book;
  may = so.may;
  so_far = λ few. IsStoringRequest-more a.start a.mark w a.account (request_words (request_asked a)) a.stored n (has_account a so) left
      (so.so_far (omega (arith, left))) word told;
}

-- none is announced yet
pub announced-IsAskingSo : (a : AskingTerms) → a.stored ≤ REQUEST_WORDS → IsAskingSo a
    → length (asking_on (own_part a.mark) a.account).announced ≡ length (asking_on (own_part a.start) a.account).announced
announced-IsAskingSo a few so =
    let storing = so.so_far few in
    ap (λ (t : Knowledge). length (asking_on (own_part t) a.account).announced) storing.same
    ∙ ap (λ (t : Asking). length t.announced)
    (asking_on-with_asking a.start a.account (with_request_stored (asking_on (own_part a.start) a.account) storing.stored) (has_account a so))

-- all words are stored
pub MayAnnounce-IsAskingSo : (b : BookTerms) (a : AskingTerms) (slot : ℕ) → a.mark.book ≡ b → a.stored ≡ REQUEST_WORDS → IsAskingSo a
    → HasSlot b a.start.first a.account slot → MayAnnounce b a.mark a.account slot (request_asked a)
MayAnnounce-IsAskingSo b a slot book all so slot_in =
    MayAnnounce-IsStoringRequest b a.start a.mark a.account slot (request_asked a) a.stored (has_account a so) (may_ask b a slot book so slot_in)
    (so.so_far (omega (arith, all))) all

pub Announces-IsAskingSo : (b : BookTerms) (a : AskingTerms) (w : Knowledge) (slot : ℕ) → a.stored ≡ REQUEST_WORDS → IsAskingSo a
    → Announces b a.mark w a.account slot (request_asked a) → Announces b a.start w a.account slot (request_asked a)
Announces-IsAskingSo b a w slot all so told =
    Announces-IsStoringRequest b a.start a.mark w a.account slot (request_asked a) (request_words (request_asked a)) a.stored (has_account a so)
    (so.so_far (omega (arith, all))) told

pub HasAsked-IsAskingSo : (b : BookTerms) (a : AskingTerms) (w : Knowledge) (slot number : ℕ) → IsAskingSo a → HasSlot b a.start.first a.account slot
    → number ≡ length (asking_on (own_part a.start) a.account).announced → Announces b a.start w a.account slot (request_asked a)
    → HasAsked b w a.account (opened slot number a.targets a.since)
HasAsked-IsAskingSo b a w slot number so slot_in next told =
    HasAsked-Announces b a.start w a.account slot number a.targets a.since (has_account a so) slot_in next told

pub HasLoadedNothing-IsAskingSo : (b : BookTerms) (a : AskingTerms) (w : Knowledge) (slot : ℕ) → IsAskingSo a
    → Announces b a.start w a.account slot (request_asked a) → HasLoadedNothing w a.account
HasLoadedNothing-IsAskingSo b a w slot so told = HasLoadedNothing-Announces b a.start w a.account slot (request_asked a) (has_account a so) told

pub IsAskingSo-announced : (b : BookTerms) (a : AskingTerms) (w : Knowledge) (slot : ℕ) → a.stored ≡ REQUEST_WORDS → IsAskingSo a
    → Announces b a.mark w a.account slot (request_asked a) → IsAskingSo (asking_after a w)
IsAskingSo-announced b a w slot all so told = record {
  seat = so.seat;
  book = ap (λ (t : Knowledge). t.book) told.same ∙ so.book;
  may = so.may;
  so_far = λ few. absurd (omega (arith, few, all));
}
