-- Where the receipts of a process stand in the list that a ledger leaves and in the journal's order: what stands in one order in the
-- first stands so in the second.
use Rattle.at_log.proofs.Prelude.{Decision, AreTwo, HasAskedFor, IsOwnAt, IsLeft, get_or-publications_of, named-is_settled, same_round, has_round, place-HasView-le, first-below, BoardState, publication_at, request_at, is_own, is_round, place, prefix_of, count_of, no_publication, publications_of, is_settled, rounds, IsDecidedSo, IsSoundDecision, Round, Publication, BookTerms, HasSlot, TargetPair, ClosingTerms, journal_order, own_position, round_position, cases_eq, cases_lt}
use Rattle.at_log.proofs.LeftEntries.{StandsIn-order}
use Rattle.at_log.proofs.LeftRounds.{has_round-none, sound_round, winner_of}
use Rattle.at_log.proofs.OrderOfLeft.{AreTwins-left, IsHeldCut, IsHeldCut-view, publications_of-left}
use Rattle.at_log.proofs.RecordPositions.{counted-own_position, has_round-position, is_round-entry, number-le, own_position-counted, own_position-le, position-has_round, round_position-le}
use Rattle.at_log.proofs.SameRecords.{list_any-cut}
use Rattle.at_log.proofs.Laws.Positions.{own_position-at}
use Rattle.std.proofs.Common.{List, ap, arith, false, inl, inr, length, subst, sym, take, true, ℕ, ◌*◌, ◌+◌, ◌<◌, ◌∙◌, ◌≡◌, ◌≤◌}
use Rattle.std.specs.Prelude.{Some}

module _ (b : BookTerms) (s : BoardState) (c : ClosingTerms) (left : IsLeft b s c) (p : ℕ) (known : p < b.processes) where
  -- an own record of the process
  pub record IsOwnMark (number : ℕ) : Type 0 where
    pub within : number < count_of p s.published
    pub own : is_own (publication_at (publications_of p s.published) number).entry ≡ true

  -- a round of an account that decided a request of the process
  pub record IsRoundMark (a r : ℕ) (d : Decision) : Type 0 where
    pub position : ℕ
    pub targets : List TargetPair
    pub within : position < length s.published
    pub entry : (publication_at s.published position).entry ≡ Round a r d targets
    pub slot : HasSlot b p a d.slot

  -- where a receipt stands: at a held cut, at an own record, or at the first record of a round
  pub data Mark : Type 0 where
    still : (view : List ℕ) → IsHeldCut b s c left view → Mark
    own : (number : ℕ) → IsOwnMark number → Mark
    round : (a r : ℕ) (d : Decision) → IsRoundMark a r d → Mark

  -- its key in a list
  abbrev pub key_in : List Publication → Mark → ℕ
  key_in list (still view cut) = 2 * place view
  key_in list (own number so) = 2 * own_position p number list + 1
  key_in list (round a r d so) = 2 * round_position a r list + 1

  -- the journal's order has the record too
  in_order : (number : ℕ) → number < count_of p s.published → number < count_of p (journal_order c)
  in_order number within = omega (arith, within, ap length (publications_of-left b s c left p known))

  -- an own record stands in the prefix of a held cut in both lists or in none
  own-order : (view : List ℕ) (number : ℕ) → IsHeldCut b s c left view → number < count_of p s.published
      → own_position p number s.published < place view → own_position p number (journal_order c) < place view
  own-order view number cut within below =
      own_position-counted b.processes p number view (journal_order c) cut.other known (in_order number within)
      (counted-own_position b.processes p number view s.published cut.one known within below)

  own-state : (view : List ℕ) (number : ℕ) → IsHeldCut b s c left view → number < count_of p s.published
      → own_position p number (journal_order c) < place view → own_position p number s.published < place view
  own-state view number cut within below =
      own_position-counted b.processes p number view s.published cut.one known within
      (counted-own_position b.processes p number view (journal_order c) cut.other known (in_order number within) below)

  module _ (a r : ℕ) (d : Decision) (so : IsRoundMark a r d) where
    is_here : is_round a r (publication_at s.published so.position).entry ≡ true
    is_here = is_round-entry a r d so.targets (publication_at s.published so.position).entry so.entry

    same_rounds : (view : List ℕ) → IsHeldCut b s c left view → has_round a r (prefix_of view s.published) ≡ has_round a r (prefix_of view (journal_order c))
    same_rounds view cut =
        list_any-cut b.processes s.published (journal_order c) (AreTwins-left b s c left) (λ (x : Publication). is_round a r x.entry) view cut

    -- so does the first record of a round
    round-order : (view : List ℕ) → IsHeldCut b s c left view → round_position a r s.published < place view → round_position a r (journal_order c) < place view
    round-order view cut below =
        position-has_round a r (place view) (journal_order c)
        (sym (same_rounds view cut) ∙ has_round-position a r (place view) so.position s.published so.within is_here below)

    round-state : (view : List ℕ) → IsHeldCut b s c left view → round_position a r (journal_order c) < place view → round_position a r s.published < place view
    round-state view cut below =
        let stands = StandsIn-order b s c left so.position so.within in
        position-has_round a r (place view) s.published
        (same_rounds view cut ∙ has_round-position a r (place view) stands.0 (journal_order c) stands.1
        (ap (λ (x : Publication). is_round a r x.entry) stands.2 ∙ is_here) below)

    decided : IsDecidedSo s a r d so.targets
    decided = (sound_round b s c left so.position a r d so.targets so.within so.entry).1

    decision : IsSoundDecision b s a r d
    decision = subst (IsSoundDecision b s a r) decided.decision (left.sound.decisions a r decided.decided)

    -- the process has asked for the request that the round decided
    asked : HasAskedFor b p s.rows a d.slot d.number
    asked = record { slot_in = so.slot; within = decision.announced }

    -- the view from which the decision was proposed: no record of the round stands before it
    pub winner_view : List ℕ
    winner_view = (publication_at s.published (winner_of b s c left so.position a r d so.targets so.within so.entry).0).view

    pub winner_cut : IsHeldCut b s c left winner_view
    unfolding winner_view
    winner_cut =
        let found = winner_of b s c left so.position a r d so.targets so.within so.entry in
        IsHeldCut-view b s c left found.0 found.1.within

    pub winner_place : place winner_view ≡ d.place
    unfolding winner_view
    winner_place = (winner_of b s c left so.position a r d so.targets so.within so.entry).1.place

    behind_place : d.place ≤ round_position a r s.published
    behind_place =
        let none = has_round-none b s.published left.history a r d.place decision.next in
        elim (cases_lt (round_position a r s.published) d.place) as (λ _. d.place ≤ round_position a r s.published) [
          | inl below ↦
              let both : true ≡ false = sym (has_round-position a r d.place so.position s.published so.within is_here below) ∙ none in
              absurd (cc both)
          | inr above ↦ above
        ]

    pub behind_place-order : d.place ≤ round_position a r (journal_order c)
    behind_place-order =
        elim (cases_lt (round_position a r (journal_order c)) d.place) as (λ _. d.place ≤ round_position a r (journal_order c)) [
          | inl below ↦ absurd (omega (arith, behind_place, winner_place, round-state winner_view winner_cut (omega (arith, below, winner_place))))
          | inr above ↦ above
        ]

    -- where its request is settled, a record of the round stands
    settled-position : (m : ℕ) → m ≤ length s.published → is_settled a d.slot d.number (take m s.published) ≡ true → round_position a r s.published < m
    settled-position m within settled =
        let found = named-is_settled b s m a d.slot d.number left.sound settled in
        let named = found.1 in
        let here = decided.decision in
        let same : found.0 ≡ r =
        same_round b s a found.0 r left.sound named.within decided.decided
        (named.slot_is ∙ sym (ap (λ (e : Decision). e.slot) here)) (named.number_is ∙ sym (ap (λ (e : Decision). e.number) here)) in
        let first = first-below b s.published m a r left.history within (subst (λ t. t < rounds a (take m s.published)) same found.2) in
        omega (
          arith,
          first.1,
          round_position-le a r first.0 s.published first.2.within
              (is_round-entry a r first.2.decision first.2.targets (publication_at s.published first.0).entry first.2.entry),
        )

  -- an own record stands in the list as one that the order of records and requests speaks of
  own_at : (number : ℕ) → IsOwnMark number → IsOwnAt p s.published (own_position p number s.published)
  own_at number so =
      let at = own_position-at p number s.published so.within in
      let m = own_position p number s.published in
      record {
        within = at.within;
        process_is = at.own;
        own =
            ap (λ (x : Publication). is_own x.entry)
            (sym (get_or-publications_of p m s.published no_publication at.within at.own) ∙ ap (publication_at (publications_of p s.published)) at.before)
            ∙ so.own;
      }

  -- its view counts the records before it
  pub behind_view : (number : ℕ) → IsOwnMark number → let view = (publication_at s.published (own_position p number s.published)).view in
      (place view ≤ own_position p number s.published) × (place view ≤ own_position p number (journal_order c))
  behind_view number so =
      let at = own_position-at p number s.published so.within in
      let m = own_position p number s.published in
      let x : Publication = publication_at s.published m in
      let before = place-HasView-le b s.published m left.history.views at.within in
      let cut = IsHeldCut-view b s c left m at.within in (
        before,
        elim (cases_lt (own_position p number (journal_order c)) (place x.view)) as (λ _. place x.view ≤ own_position p number (journal_order c)) [
          | inl below ↦ absurd (omega (arith, before, own-state x.view number cut so.within below))
          | inr above ↦ above
        ],
      )

  -- two requests of the process on an account with one number are one, decided in one round
  same_request : (a r l : ℕ) (d e : Decision) → IsRoundMark a r d → IsRoundMark a l e → d.number ≡ e.number → r ≡ l
  same_request a r l d e one other numbers =
      let slots : Some d.slot ≡ Some e.slot = sym one.slot.owner ∙ other.slot.owner in
      let slot_is : d.slot ≡ e.slot = cc slots in
      let first = decided a r d one in
      let second = decided a l e other in
      same_round b s a r l left.sound first.decided second.decided
      (ap (λ (t : Decision). t.slot) first.decision ∙ (slot_is ∙ sym (ap (λ (t : Decision). t.slot) second.decision)))
      (ap (λ (t : Decision). t.number) first.decision ∙ (numbers ∙ sym (ap (λ (t : Decision). t.number) second.decision)))

  -- where the request of a round is settled at a record's view, the round stands before that view's place
  settled-view : (m a r : ℕ) (d : Decision) → IsRoundMark a r d → m < length s.published
      → is_settled a d.slot d.number (prefix_of (publication_at s.published m).view s.published) ≡ true
      → round_position a r s.published < place (publication_at s.published m).view
  settled-view m a r d at within settled =
      let view = (publication_at s.published m).view in
      let before : place view ≤ m = place-HasView-le b s.published m left.history.views within in
      settled-position a r d at (place view) (omega (arith, before, within)) settled

  -- where it is settled at a `since` of the process's request, before that
  settled-since : (a r l k : ℕ) (d e : Decision) → IsRoundMark a r d → IsRoundMark k l e
      → is_settled a d.slot d.number (take (request_at (s.rows k e.slot) e.number).since s.published) ≡ true
      → round_position a r s.published < e.place
  settled-since a r l k d e one other settled =
      let law = decision k l e other in
      let since = (request_at (s.rows k e.slot) e.number).since in
      let before : since ≤ e.place = law.since in
      omega (arith, before, settled-position a r d one since (omega (arith, before, law.place)) settled)

  -- an own record and then a round
  own-round : (number a r : ℕ) (d : Decision) → IsOwnMark number → IsRoundMark a r d
      → own_position p number s.published ≤ round_position a r s.published → own_position p number (journal_order c) ≤ round_position a r (journal_order c)
  own-round number a r d so at before =
      let m = own_position p number s.published in
      let view = winner_view a r d at in
      let cut = winner_cut a r d at in
      let place_is = winner_place a r d at in
      elim ((left.order p known).owns m a d.slot d.number (own_at number so) (asked a r d at))
      as (λ _. own_position p number (journal_order c) ≤ round_position a r (journal_order c)) [
        | inl early ↦
            let below : m < place view = omega (arith, early, (decision a r d at).since, place_is) in
            omega (
              arith,
              place_is,
              own-order view number cut so.within below,
              behind_place-order a r d at,
            )
        | inr settled ↦ absurd (omega (arith, before, (behind_view number so).0, settled-view m a r d at (own_at number so).within settled))
      ]

  -- a round and then an own record
  round-own : (number a r : ℕ) (d : Decision) → IsOwnMark number → IsRoundMark a r d
      → round_position a r s.published ≤ own_position p number s.published → round_position a r (journal_order c) ≤ own_position p number (journal_order c)
  round-own number a r d so at before =
      let m = own_position p number s.published in
      let view = (publication_at s.published m).view in
      elim ((left.order p known).owns m a d.slot d.number (own_at number so) (asked a r d at))
      as (λ _. round_position a r (journal_order c) ≤ own_position p number (journal_order c)) [
        | inl early ↦
            absurd (omega (arith, before, early, (decision a r d at).since, behind_place a r d at))
        | inr settled ↦
            let within = (own_at number so).within in
            let cut = IsHeldCut-view b s c left m within in
            omega (
              arith,
              round-order a r d at view cut (settled-view m a r d at within settled),
              (behind_view number so).1,
            )
      ]

  -- two rounds that decided two requests
  rounds-apart : (a r k l : ℕ) (d e : Decision) → IsRoundMark a r d → IsRoundMark k l e → AreTwo a d.number k e.number
      → round_position a r s.published ≤ round_position k l s.published → round_position a r (journal_order c) ≤ round_position k l (journal_order c)
  rounds-apart a r k l d e one other two before =
      let view = winner_view k l e other in
      let place_is = winner_place k l e other in
      elim ((left.order p known).requests a d.slot d.number k e.slot e.number (asked a r d one) (asked k l e other) two)
      as (λ _. round_position a r (journal_order c) ≤ round_position k l (journal_order c)) [
        | inl first ↦
            let below : round_position a r s.published < place view = omega (arith, settled-since a r l k d e one other first, place_is) in
            omega (
              arith,
              place_is,
              round-order a r d one view (winner_cut k l e other) below,
              behind_place-order k l e other,
            )
        | inr second ↦ absurd (omega (arith, before, settled-since k l r a e d other one second, behind_place a r d one))
      ]

  -- two rounds
  round-round : (a r k l : ℕ) (d e : Decision) → IsRoundMark a r d → IsRoundMark k l e
      → round_position a r s.published ≤ round_position k l s.published → round_position a r (journal_order c) ≤ round_position k l (journal_order c)
  round-round a r k l d e one other before =
      elim (cases_eq a k) as (λ _. round_position a r (journal_order c) ≤ round_position k l (journal_order c)) [
        | inl same ↦
            elim (cases_eq d.number e.number) as (λ _. round_position a r (journal_order c) ≤ round_position k l (journal_order c)) [
              | inl numbers ↦
                  let round_is : r ≡ l = same_request a r l d e one (subst (λ t. IsRoundMark t l e) (sym same) other) numbers in
                  let is : round_position a r (journal_order c) ≡ round_position k l (journal_order c) =
                  λ t. round_position (same t) (round_is t) (journal_order c) in
                  omega (arith, is)
              | inr apart ↦ rounds-apart a r k l d e one other (λ both. apart both.1) before
            ]
        | inr apart ↦ rounds-apart a r k l d e one other (λ both. apart both.0) before
      ]

  -- all that stand in one order in the list stand so in the journal's order
  pub key_in-order : (h k : Mark) → key_in s.published h ≤ key_in s.published k
      → key_in (journal_order c) h ≤ key_in (journal_order c) k
  key_in-order (still view cut) (still other beyond) before = before
  key_in-order (still view cut) (own number so) before =
      elim (cases_lt (own_position p number (journal_order c)) (place view)) as (λ _. 2 * place view ≤ 2 * own_position p number (journal_order c) + 1) [
        | inl below ↦ absurd (omega (arith, before, own-state view number cut so.within below))
        | inr above ↦ omega (arith, above)
      ]
  key_in-order (still view cut) (round a r d at) before =
      elim (cases_lt (round_position a r (journal_order c)) (place view)) as (λ _. 2 * place view ≤ 2 * round_position a r (journal_order c) + 1) [
        | inl below ↦ absurd (omega (arith, before, round-state a r d at view cut below))
        | inr above ↦ omega (arith, above)
      ]
  key_in-order (own number so) (still view cut) before =
      omega (arith, own-order view number cut so.within (omega (arith, before)))
  key_in-order (own number so) (own other too) before =
      let numbers = number-le p number other s.published so.within too.within (omega (arith, before)) in
      omega (
        arith,
        own_position-le p number other (journal_order c) (in_order number so.within) (in_order other too.within) numbers,
      )
  key_in-order (own number so) (round a r d at) before = omega (arith, own-round number a r d so at (omega (arith, before)))
  key_in-order (round a r d at) (still view cut) before =
      omega (arith, round-order a r d at view cut (omega (arith, before)))
  key_in-order (round a r d at) (own number so) before = omega (arith, round-own number a r d so at (omega (arith, before)))
  key_in-order (round a r d one) (round k l e other) before = omega (arith, round-round a r k l d e one other (omega (arith, before)))
