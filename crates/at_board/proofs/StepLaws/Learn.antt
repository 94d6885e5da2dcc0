-- Learning a note keeps the rule, and tells the longer of two lists.
use Rattle.std.proofs.Common.{◌≡◌, ℕ, ◌+◌, ◌<◌, length, subst, arith, ◌≢◌, List, set, refl, sym, ap, ◌∙◌, inl, inr}
use Rattle.at_board.proofs.Prelude.{get_elem?, some, some-injective, cases_eq, All-append, All-nil, Contains-append_left, at_set, set_else, Joins, BookTerms, IsBook, IsHistory-Sound, IsPrefix-count_of, IsLonger, IsLonger-longer, longer-either, BoardState, IsHistory, IsPrefix, count_of, longer, Publication, AgreesWithSeen, HasPart, IsAnnounced, IsDecided, Knows, part_at, HasCounts, IsSeat, Ruled, AreSeated, Holds, Learns, learned, spent_knowledge, AreSeen, IsNote, Knowledge}
use Rattle.at_board.proofs.KnowledgeLaws.Agreement.{AgreesWithSeen-Knows}
use Rattle.at_board.proofs.KnowledgeLaws.Asking.{HasPart-more, HasRequests}
use Rattle.at_board.proofs.KnowledgeLaws.Kept.{IsKept-state, IsSeat-IsKept}
use Rattle.at_board.proofs.KnowledgeLaws.Seats.{AreSeated-set, knows_after}
use Rattle.at_board.proofs.StepLaws.Note.{Holds-nothing}

-- a seat has seen all of its own process, so there is no more of it in a longer list that is a prefix of what was published
pub count_of-between : (b : BookTerms) (words : List ℕ) (s : BoardState) (v : Knowledge) (list : List Publication) → 0 < length v.parts → Knows b words s v
    → IsPrefix v.seen list → IsPrefix list s.published → count_of v.first list ≡ count_of v.first v.seen
count_of-between b words s v list part knows more before =
    let first : v.first + 0 ≡ v.first = omega arith in
    let own : HasPart b words s v v.first (part_at v 0) = subst (λ p. HasPart b words s v p (part_at v 0)) first (knows.parts 0 part) in
    omega (arith, own.seen, own.published, IsPrefix-count_of v.first v.seen list more, IsPrefix-count_of v.first list s.published before)

module _ {S : Type 0} where
  -- both lists of two seats that the rule has at once
  pub IsLonger-seen : (b : BookTerms) (id other : ℕ) (v w : Knowledge) (met : AreSeen {S = S} (λ s. Ruled b s.words s.views) id v other w)
      → IsLonger v.seen w.seen met.1.state.published
  IsLonger-seen b id other v w met =
      let ruled = met.1 in
      IsLonger-longer v.seen w.seen ruled.state.published (ruled.knows id v met.3).seen (ruled.knows other w met.4).seen

  -- the first seat has seen all of its own process, so there is no more of it in the longer list
  count_of-longer : (b : BookTerms) (id other : ℕ) (v w : Knowledge) → 0 < length v.parts → AreSeen {S = S} (λ s. Ruled b s.words s.views) id v other w
      → count_of v.first (longer v.seen w.seen) ≡ count_of v.first v.seen
  count_of-longer b id other v w part met =
      let long = IsLonger-seen b id other v w met in
      count_of-between b met.0.words met.1.state v (longer v.seen w.seen) part (met.1.knows id v met.3) long.first long.before

Knows-learned : (b : BookTerms) (words : List ℕ) (s : BoardState) (v w : Knowledge) → Knows b words s v → Knows b words s w → Knows b words s (learned v w)
Knows-learned b words s v w mine theirs =
    let u : Knowledge = learned v w in
    let long = IsLonger-longer v.seen w.seen s.published mine.seen theirs.seen in
    let more : HasRequests u.requests v.requests = λ x there. Contains-append_left v.requests w.requests x there in
    record {
      seen = long.before;
      requests = All-append (IsAnnounced s) v.requests w.requests mine.requests theirs.requests;
      decisions = All-append (IsDecided s) v.decisions w.decisions mine.decisions theirs.decisions;
      parts = λ k within. HasPart-more b words s v u (v.first + k) (part_at v k) long.first long.before more (mine.parts k within);
    }

pub Knows-spent_knowledge : (b : BookTerms) (words : List ℕ) (s : BoardState) → Knows b words s spent_knowledge
Knows-spent_knowledge b words s = record {
  seen = (s.published, refl);
  requests = All-nil (IsAnnounced s);
  decisions = All-nil (IsDecided s);
  parts = λ k within. absurd (omega arith);
}

-- a note is spent
AreSeated-spent : (b : BookTerms) (seat : ℕ → ℕ) (knowledge : List Knowledge) (id : ℕ) (w : Knowledge) → AreSeated b seat knowledge
    → get_elem? knowledge id ≡ some w → length w.parts ≡ 0 → AreSeated b seat (set knowledge id spent_knowledge)
AreSeated-spent b seat knowledge id w seated found none = record {
  only = λ j p u there holds. elim (at_set knowledge id j spent_knowledge u there) as (λ _. seat p ≡ j) [
    | inl here ↦ absurd (Holds-nothing spent_knowledge p refl (subst (λ t. Holds t p) (sym here.1) holds))
    | inr other ↦ seated.only j p u other.1 holds
  ];
  some_seat = λ p within.
      let before = seated.some_seat p within in
      elim (cases_eq (seat p) id) as (λ _. (u : Knowledge) × (get_elem? (set knowledge id spent_knowledge) (seat p) ≡ some u) × Holds u p) [
        | inl mine ↦
            let same : before.0 ≡ w = some-injective before.0 w (sym before.1 ∙ (ap (get_elem? knowledge) mine ∙ found)) in
            absurd (Holds-nothing w p none (subst (λ t. Holds t p) same before.2))
        | inr other ↦ (before.0, set_else knowledge id (seat p) spent_knowledge other ∙ before.1, before.2)
      ];
}

Ruled-learned : (b : BookTerms) (words : List ℕ) (knowledge : List Knowledge) (id other : ℕ) (v w : Knowledge) → Ruled b words knowledge
    → get_elem? knowledge id ≡ some v → other ≢ id → get_elem? knowledge other ≡ some w
    → length w.parts ≡ 0 → Ruled b words (set (set knowledge id (learned v w)) other spent_knowledge)
Ruled-learned b words knowledge id other v w ruled found apart there none =
    let s : BoardState = ruled.state in
    let u : Knowledge = learned v w in
    let joined = set knowledge id u in
    let knows = knows_after b words s knowledge id u (Knows-learned b words s v w (ruled.knows id v found) (ruled.knows other w there))
    (λ j t off at. ruled.knows j t at) in
    record {
      state = s;
      seat = ruled.seat;
      shown = ruled.shown;
      sound = ruled.sound;
      overtaking = ruled.overtaking;
      knows = knows_after b words s joined other spent_knowledge (Knows-spent_knowledge b words s) (λ j t off at. knows j t at);
      seated = AreSeated-spent b ruled.seat joined other w (AreSeated-set b ruled.seat knowledge id v u ruled.seated found refl refl)
          (set_else knowledge id other u apart ∙ there) none;
    }

module _ {S : Type 0} where
  -- a note may be joined to a seat, or to another note
  pub learns : (key : BookTerms) (id other : ℕ) (v w : Knowledge) → length w.parts ≡ 0
      → Joins {S = S} (λ s. Ruled key s.words s.views) id v other w (learned v w) spent_knowledge
  learns key id other v w none s holds found apart there =
      Ruled-learned key s.words s.views id other v w holds found apart
      (sym (set_else s.views id other (learned v w) apart) ∙ there) none

module _ {S : Type 0} where
  -- where the rule holds of a seat and a note, all that the seat has seen with the note agrees
  learned_agrees : (b : BookTerms) (id other : ℕ) (v w : Knowledge)
      → AreSeen {S = S} (λ s. Ruled b s.words s.views) id v other w → AgreesWithSeen (learned v w)
  learned_agrees b id other v w met =
      let ruled = met.1 in
      AgreesWithSeen-Knows b met.0.words ruled.state (learned v w) ruled.sound
      (Knows-learned b met.0.words ruled.state v w (ruled.knows id v met.3) (ruled.knows other w met.4))

-- the same by the book that the key is
pub AreSeen-key : {S : Type 0} (key b : BookTerms) (id other : ℕ) (v w : Knowledge) → key ≡ b
    → AreSeen {S = S} (λ s. Ruled key s.words s.views) id v other w → AreSeen {S = S} (λ s. Ruled b s.words s.views) id v other w
AreSeen-key {S} key b id other v w is = subst (λ t. AreSeen {S = S} (λ s. Ruled t s.words s.views) id v other w) is

-- what the seat has then seen
pub Learns-learned : {S : Type 0} (b : BookTerms) (id other : ℕ) (v w : Knowledge) (process published : ℕ) → v.book ≡ b → w.book ≡ b → IsSeat v process published → IsNote w
    → AreSeen {S = S} (λ s. Ruled b s.words s.views) id v other w → Learns b v w (learned v w)
Learns-learned b id other v w process published book note_book seat note met =
    let long = IsLonger-seen b id other v w met in
    record {
      more = long.first;
      own = count_of-longer b id other v w (omega (arith, seat.one_part)) met;
      told = long.second;
      history = longer-either (IsHistory b) v.seen w.seen (subst (λ t. IsHistory t v.seen) book seat.history) (subst (λ t. IsHistory t w.seen) note_book note.history);
      agrees = learned_agrees b id other v w met;
      same = refl;
    }

-- what the seat's type keeps, since the state that the rule had of both has all that they know
pub IsSeat-learned : {S : Type 0} (b : BookTerms) (id other : ℕ) (v w : Knowledge) (process published : ℕ) → v.book ≡ b → w.book ≡ b → IsSeat v process published
    → IsNote w → AreSeen {S = S} (λ s. Ruled b s.words s.views) id v other w → IsSeat (learned v w) process published
IsSeat-learned b id other v w process published book note_book seat note met =
    let told = Learns-learned b id other v w process published book note_book seat note met in
    let ruled = met.1 in
    let s : BoardState = ruled.state in
    let checked : IsBook b = subst IsBook book seat.book in
    let knows = Knows-learned b met.0.words s v w (ruled.knows id v met.3) (ruled.knows other w met.4) in
    let few = (IsHistory-Sound b s ruled.shown.records.room ruled.sound checked.begun).few in
    IsSeat-IsKept (learned v w) process published seat.process_is seat.published_is
    (IsKept-state b met.0.words s (learned v w) ruled.sound ruled.overtaking few checked book told.history knows seat.one_part)

-- the seat's own part is the same
pub HasCounts-learned : (v w : Knowledge) (announced : List ℕ) → HasCounts v announced → HasCounts (learned v w) announced
HasCounts-learned v w announced has = record { sized = has.sized; counted = has.counted }
