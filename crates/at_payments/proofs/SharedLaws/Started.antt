-- A start of its parts: a snapshot, a request with its place, and the rows.
use Rattle.std.proofs.Common.{◌≡◌, ℕ, ◌<◌, ◌≤◌, List, length, get_or, None, refl, sym, ap, subst, ◌∙◌, arith, inl, inr}
use Rattle.at_payments.proofs.Prelude.{get_or_default, length-take, Contains, BookTerms, HasSlot, TargetPair, place-IsCut-le, ArePublishedBy-IsHistory, IsPrefix-length, rounds-IsPrefix, place, prefix_of, AreTargets, asking_on, own_part, MayStoreRequest, Asking, Knowledge, LoadedWord, Part, HasAccount, MayAskFor, asked_for, request_of, seen_of, OpenRequest, helping_of, HasAllSettled, HasStarted, IsHelping, StartsBy, HasLoaded, IsSnapshot}
use Rattle.at_payments.proofs.SharedLaws.After.{own_part-HasLoaded}
use Rattle.at_payments.proofs.SharedLaws.Kept.{is_settled-IsPrefix}
use Rattle.at_payments.proofs.SharedLaws.Starting.{HasAccount-Keeps, Keeps, Keeps-Announces, Keeps-HasLoaded, Keeps-LoadsOnly, Keeps-trans, heard-Announces, heard-LoadsOnly}

-- a cut is a part of what is seen
pub place-IsSnapshot-le : (b : BookTerms) (v w : Knowledge) (cut : List ℕ) → IsSnapshot b v w cut → HasLoaded b v w → place cut ≤ length w.seen
place-IsSnapshot-le b v w cut snapshot loads =
    place-IsCut-le b.processes cut w.seen snapshot.cut (ArePublishedBy-IsHistory b w.seen loads.history)

-- a snapshot leaves what was asked
pub asking_on-HasLoaded : (b : BookTerms) (v w : Knowledge) (a : ℕ) → 0 < length v.parts → HasLoaded b v w
    → asking_on (own_part w) a ≡ asking_on (own_part v) a
asking_on-HasLoaded b v w a part loads = ap (λ (q : Part). asking_on q a) (own_part-HasLoaded b v w part loads)

-- after it the seat may ask with its place
pub MayAskFor-IsSnapshot : (b : BookTerms) (v w : Knowledge) (a slot : ℕ) (targets : List TargetPair) (cut : List ℕ) → HasAccount v a
    → IsSnapshot b v w cut → HasLoaded b v w → MayStoreRequest b v a slot → HasAllSettled b v a → AreTargets b targets
    → MayAskFor b w a slot (asked_for targets (place cut))
MayAskFor-IsSnapshot b v w a slot targets cut has snapshot loads may settled are =
    let count = ap (λ (t : Asking). length t.announced) (asking_on-HasLoaded b v w a has.part loads) in
    record {
      asks = record {
        slot_in = subst (λ p. HasSlot b p a slot) (sym (Keeps-HasLoaded b v w has.part loads).first) may.slot_in;
        room = omega (arith, may.room, count);
      };
      targets = are;
      since = place-IsSnapshot-le b v w cut snapshot loads;
      follows = λ number last.
          is_settled-IsPrefix a slot number v.seen (prefix_of cut w.seen) snapshot.begins
          (settled slot number may.slot_in (omega (arith, last, count)));
    }

module _ (b : BookTerms) (v z : Knowledge) (a : ℕ) (own : OpenRequest) (list : List OpenRequest) (by : StartsBy b v z a own list) (has : HasAccount v a) where
  kept_look : Keeps v by.looked
  kept_look = Keeps-HasLoaded b v by.looked has.part by.loads

  has_look : HasAccount by.looked a
  has_look = HasAccount-Keeps v by.looked a kept_look has

  kept_ask : Keeps by.looked by.asked
  kept_ask = Keeps-Announces b by.looked by.asked a own.slot (request_of own) has_look by.announced

  has_ask : HasAccount by.asked a
  has_ask = HasAccount-Keeps by.looked by.asked a kept_ask has_look

  pub Keeps-StartsBy-look : Keeps by.looked z
  Keeps-StartsBy-look =
      Keeps-trans by.looked by.asked z kept_ask (Keeps-LoadsOnly by.asked z a by.rows.rows by.rows.words has_ask by.rows.loads)

  -- it publishes, holds and decides nothing
  pub Keeps-StartsBy : Keeps v z
  Keeps-StartsBy = Keeps-trans v by.looked z kept_look Keeps-StartsBy-look

  pub number-StartsBy : own.number ≡ length (asking_on (own_part v) a).announced
  number-StartsBy = by.number ∙ ap (λ (t : Asking). length t.announced) (asking_on-HasLoaded b v by.looked a has.part by.loads)

  pub since-StartsBy : length v.seen ≤ own.since
  since-StartsBy =
      omega (
        arith,
        IsPrefix-length v.seen (prefix_of by.cut by.looked.seen) by.snapshot.begins,
        length-take (place by.cut) by.looked.seen,
        by.since,
      )

  pub HasStarted-StartsBy : HasStarted b v z (helping_of a own list)
  HasStarted-StartsBy = record {
    cut = by.cut;
    looked = by.looked;
    snapshot = by.snapshot;
    loads = by.loads;
    since = by.since;
    number = number-StartsBy;
    asked = by.asked;
    announced = by.announced;
    rows = by.rows.rows;
    words = by.rows.words;
    row_loads = by.rows.loads;
  }

  -- the cut counts all own records
  pub own_counted-StartsBy : get_or by.cut z.first 0 ≡ (own_part z).published
  own_counted-StartsBy = ap (λ p. get_or by.cut p 0) Keeps-StartsBy.first ∙ (by.snapshot.own ∙ sym Keeps-StartsBy.published)

  -- the request is waited for
  pub IsHelping-StartsBy : own.number < b.request_room → (own_part v).held ≡ None → IsHelping b z (helping_of a own list)
  IsHelping-StartsBy room free = record {
    asked = by.last;
    room = room;
    since = omega (
      arith,
      place-IsSnapshot-le b v by.looked by.cut by.snapshot by.loads,
      by.since,
      IsPrefix-length by.looked.seen z.seen Keeps-StartsBy-look.more,
    );
    heard = omega (
      arith,
      heard-LoadsOnly by.asked z a by.rows.rows by.rows.words has_ask by.rows.loads,
      heard-Announces b by.looked by.asked a own.slot (request_of own) has_look by.announced,
      rounds-IsPrefix a by.asked.seen z.seen by.rows.loads.more,
    );
    free = Keeps-StartsBy.held ∙ free;
    collected = by.collected;
    own_in = by.rows.own_in;
    slots = λ i d inside. by.rows.within (get_or list i d) (i, inside, get_or_default list i (get_or list i d) d inside);
    seen = λ x there. (by.rows.seen x there).sees;
    candidates = λ x there. by.candidates.each (seen_of a x) (x, there, refl);
    loaded = λ l there. elim (by.candidates.only l there) [
      | inl before ↦
          let empty = subst (λ (ls : List LoadedWord). Contains ls l) by.nothing.loaded before in absurd (omega (arith, empty.1))
      | inr among ↦ inl among
    ];
  }
