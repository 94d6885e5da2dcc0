-- What each step of a call leaves of its seat: its process, what a load of a length has seen, and how many records are published.
use Rattle.std.proofs.Common.{◌≡◌, ℕ, ◌<◌, ◌≤◌, Bool, true, false, cond, List, Some, refl, ap, subst, arith, inl, inr}
use Rattle.at_stepper.proofs.Prelude.{cases_lt, BookTerms, IsPrefix, Publication, SeatTerms, record_width, Knowledge, REQUEST_WORDS, TotalSums, AnnouncesAsked, AskingTerms, StoresNextRequestWord, DecidingTerms, MakesStep, NextOfRound, publishes_in, MakesLoadOf, NextRowLoad, MakesLookLoad, length_at, MakesLoad, NextLoad, length_in, LookStage, MakesCallStep, length_loaded, publishes_of, MakesPayStep, pay_length_at, pay_publishes_at, MakesShareStep, share_length_at, share_publishes_at, MakesStartStep, start_length_at, MakesTurnStep, help_length_at, publishes_at, CallStage, PayStage, ShareStage, StartStage, TurnStage}

-- a step publishes one record at most
one-cond : (t : Bool) → cond t 1 0 ≤ 1
one-cond true = omega arith
one-cond false = omega arith

publishes_in-le : (b : BookTerms) (next : NextOfRound) → publishes_in b next ≤ 1
publishes_in-le b NextOfRound.exchange = omega arith
publishes_in-le b (NextOfRound.request_word d word) = omega arith
publishes_in-le b (NextOfRound.record_word d word) = one-cond _
publishes_in-le b NextOfRound.nothing = omega arith

publishes_at-le : (b : BookTerms) (stage : TurnStage) → publishes_at b stage ≤ 1
publishes_at-le b (TurnStage.Look l) = omega arith
publishes_at-le b (TurnStage.Decide d) = publishes_in-le b d.next
publishes_at-le b TurnStage.Found = omega arith

pay_publishes_at-le : (b : BookTerms) (stage : PayStage) → pay_publishes_at b stage ≤ 1
pay_publishes_at-le b (PayStage.Look l) = omega arith
pay_publishes_at-le b (PayStage.Append a) = one-cond _
pay_publishes_at-le b PayStage.Short = omega arith

share_publishes_at-le : (b : BookTerms) (stage : ShareStage) → share_publishes_at b stage ≤ 1
share_publishes_at-le b (ShareStage.Start s) = omega arith
share_publishes_at-le b (ShareStage.Help h u) = publishes_at-le b u.stage
share_publishes_at-le b ShareStage.Ended = omega arith

pub publishes_of-le : (b : BookTerms) (stage : CallStage) → publishes_of b stage ≤ 1
publishes_of-le b (CallStage.Refuse reply) = omega arith
publishes_of-le b CallStage.Refused = omega arith
publishes_of-le b (CallStage.Read r) = omega arith
publishes_of-le b (CallStage.PayAlone p) = pay_publishes_at-le b p.stage
publishes_of-le b (CallStage.PayShared p) = share_publishes_at-le b p.stage

-- and none where it loads a length
publishes_at-loaded : (b : BookTerms) (stage : TurnStage) (p : ℕ) → help_length_at stage ≡ Some p → publishes_at b stage ≡ 0
publishes_at-loaded b (TurnStage.Look l) p loads = refl
publishes_at-loaded b (TurnStage.Decide d) p loads = absurd (cc loads)
publishes_at-loaded b TurnStage.Found p loads = refl

pay_publishes_at-loaded : (b : BookTerms) (stage : PayStage) (p : ℕ) → pay_length_at stage ≡ Some p → pay_publishes_at b stage ≡ 0
pay_publishes_at-loaded b (PayStage.Look l) p loads = refl
pay_publishes_at-loaded b (PayStage.Append a) p loads = absurd (cc loads)
pay_publishes_at-loaded b PayStage.Short p loads = refl

share_publishes_at-loaded : (b : BookTerms) (stage : ShareStage) (p : ℕ) → share_length_at stage ≡ Some p → share_publishes_at b stage ≡ 0
share_publishes_at-loaded b (ShareStage.Start s) p loads = refl
share_publishes_at-loaded b (ShareStage.Help h u) p loads = publishes_at-loaded b u.stage p loads
share_publishes_at-loaded b ShareStage.Ended p loads = refl

pub publishes_of-loaded : (b : BookTerms) (stage : CallStage) (p : ℕ) → length_loaded stage ≡ Some p → publishes_of b stage ≡ 0
publishes_of-loaded b (CallStage.Refuse reply) p loads = refl
publishes_of-loaded b CallStage.Refused p loads = refl
publishes_of-loaded b (CallStage.Read r) p loads = refl
publishes_of-loaded b (CallStage.PayAlone pay) p loads = pay_publishes_at-loaded b pay.stage p loads
publishes_of-loaded b (CallStage.PayShared pay) p loads = share_publishes_at-loaded b pay.stage p loads

-- a load of a length has seen all that was seen by then
module _ (b : BookTerms) (seen : List Publication) (before after : SeatTerms) (now : TotalSums) (p : ℕ) where
  length_in-told : (next : NextLoad) → length_in next ≡ Some p → MakesLoad b seen next before after → IsPrefix seen after.knows.seen
  length_in-told (NextLoad.length_of q) loads made = made.1
  length_in-told (NextLoad.view_word l) loads made = absurd (cc loads)
  length_in-told NextLoad.nothing loads made = absurd made

  length_at-told : (stage : LookStage) → length_at stage ≡ Some p → MakesLookLoad b seen stage before after now → IsPrefix seen after.knows.seen
  length_at-told (LookStage.Snap s) loads made = length_in-told s.next loads made
  length_at-told (LookStage.CatchUp c) loads made = absurd (cc loads)

  pay_length_at-told : (stage : PayStage) → pay_length_at stage ≡ Some p → MakesPayStep b seen stage before after now → IsPrefix seen after.knows.seen
  pay_length_at-told (PayStage.Look l) loads made = length_at-told l.stage loads made
  pay_length_at-told (PayStage.Append a) loads made = absurd (cc loads)
  pay_length_at-told PayStage.Short loads made = absurd made

  start_length_at-told : (stage : StartStage) → start_length_at stage ≡ Some p → MakesStartStep b seen stage before after now
      → IsPrefix seen after.knows.seen
  start_length_at-told (StartStage.Look l) loads made = length_at-told l.stage loads made
  start_length_at-told (StartStage.Ask a) loads made = absurd (cc loads)
  start_length_at-told (StartStage.Collect c) loads made = absurd (cc loads)

  help_length_at-told : (stage next : TurnStage) → help_length_at stage ≡ Some p → MakesTurnStep b seen stage next before after now
      → IsPrefix seen after.knows.seen
  help_length_at-told (TurnStage.Look l) next loads made = length_at-told l.stage loads made
  help_length_at-told (TurnStage.Decide d) next loads made = absurd (cc loads)
  help_length_at-told TurnStage.Found next loads made = absurd (cc loads)

  share_length_at-told : (stage : ShareStage) → share_length_at stage ≡ Some p → MakesShareStep b seen stage before after now
      → IsPrefix seen after.knows.seen
  share_length_at-told (ShareStage.Start s) loads made = start_length_at-told s.stage loads made
  share_length_at-told (ShareStage.Help h u) loads made = help_length_at-told u.stage made.0 loads made.1
  share_length_at-told ShareStage.Ended loads made = absurd made

  pub length_loaded-told : (stage : CallStage) → length_loaded stage ≡ Some p → MakesCallStep b seen stage before after now
      → IsPrefix seen after.knows.seen
  length_loaded-told (CallStage.Refuse reply) loads made = absurd (cc loads)
  length_loaded-told CallStage.Refused loads made = absurd made
  length_loaded-told (CallStage.Read r) loads made = length_at-told r.looking.stage loads made
  length_loaded-told (CallStage.PayAlone pay) loads made = pay_length_at-told pay.stage loads made
  length_loaded-told (CallStage.PayShared pay) loads made = share_length_at-told pay.stage loads made

-- a step leaves its seat with its process
abbrev pub IsSameProcess : Knowledge → Knowledge → Type 0
IsSameProcess before after = after.first ≡ before.first

module _ (b : BookTerms) (seen : List Publication) (before after : SeatTerms) (now : TotalSums) where
  process-MakesLoad : (next : NextLoad) → MakesLoad b seen next before after → IsSameProcess before.knows after.knows
  process-MakesLoad (NextLoad.length_of p) made = ap (λ (v : Knowledge). v.first) made.0.same
  process-MakesLoad (NextLoad.view_word l) made = ap (λ (s : SeatTerms). s.knows.first) made.0
  process-MakesLoad NextLoad.nothing made = absurd made

  process-MakesLookLoad : (stage : LookStage) → MakesLookLoad b seen stage before after now → IsSameProcess before.knows after.knows
  process-MakesLookLoad (LookStage.Snap s) made = process-MakesLoad s.next made
  process-MakesLookLoad (LookStage.CatchUp c) made = ap (λ (s : SeatTerms). s.knows.first) made.0

-- of a round
process-MakesStep : (b : BookTerms) (c : DecidingTerms) (v : Knowledge) (step next : NextOfRound) → MakesStep b c v step next → IsSameProcess c.mark v
process-MakesStep b c v NextOfRound.exchange next (d, proposal, told, follows) = ap (λ (w : Knowledge). w.first) told.decides.same
process-MakesStep b c v (NextOfRound.request_word d word) next ((n, told), more, last) = ap (λ (w : Knowledge). w.first) told.same
process-MakesStep b c v (NextOfRound.record_word d word) next (few, stores, publishes) =
    elim (cases_lt word (record_width b)) as (λ _. IsSameProcess c.mark v) [
      | inl inside ↦ let ((n, told), follows) = stores inside in ap (λ (w : Knowledge). w.first) told
      | inr over ↦ let ((x, told), follows) = publishes (omega (arith, few, over)) in ap (λ (w : Knowledge). w.first) told.same
    ]
process-MakesStep b c v NextOfRound.nothing next none = absurd none

-- of asking, and of the rows
process-ask : (b : BookTerms) (a : AskingTerms) (v : Knowledge) → a.stored ≤ REQUEST_WORDS → (a.stored < REQUEST_WORDS → StoresNextRequestWord b a v)
    → (a.stored ≡ REQUEST_WORDS → AnnouncesAsked b a v) → IsSameProcess a.mark v
process-ask b a v few stores announces =
    elim (cases_lt a.stored REQUEST_WORDS) as (λ _. IsSameProcess a.mark v) [
      | inl inside ↦ ap (λ (w : Knowledge). w.first) (stores inside).2
      | inr over ↦ let (slot, mine, told) = announces (omega (arith, few, over)) in ap (λ (w : Knowledge). w.first) told.same
    ]

process-MakesLoadOf : (b : BookTerms) (before after : Knowledge) (a slot own : ℕ) (step next : NextRowLoad) → MakesLoadOf b before after a slot own step next
    → IsSameProcess before after
process-MakesLoadOf b before after a slot own NextRowLoad.announced_word next (count, told, follows) = ap (λ (w : Knowledge). w.first) told.same
process-MakesLoadOf b before after a slot own (NextRowLoad.request_word number word) next (n, told, follows) = ap (λ (w : Knowledge). w.first) told.same
process-MakesLoadOf b before after a slot own NextRowLoad.nothing next none = absurd none

module _ (b : BookTerms) (seen : List Publication) (before after : SeatTerms) (now : TotalSums) where
  process-MakesPayStep : (stage : PayStage) → MakesPayStep b seen stage before after now → IsSameProcess before.knows after.knows
  process-MakesPayStep (PayStage.Look l) made = process-MakesLookLoad b seen before after now l.stage made
  process-MakesPayStep (PayStage.Append a) (mark, few, stores, publishes) =
      subst (λ (v : Knowledge). IsSameProcess v after.knows) mark
      (elim (cases_lt a.stored (record_width b)) as (λ _. IsSameProcess a.mark after.knows) [
        | inl inside ↦ ap (λ (w : Knowledge). w.first) (stores inside)
        | inr over ↦ ap (λ (w : Knowledge). w.first) (publishes (omega (arith, few, over))).same
      ])
  process-MakesPayStep PayStage.Short none = absurd none

  process-MakesStartStep : (stage : StartStage) → MakesStartStep b seen stage before after now → IsSameProcess before.knows after.knows
  process-MakesStartStep (StartStage.Look l) made = process-MakesLookLoad b seen before after now l.stage made
  process-MakesStartStep (StartStage.Ask a) (mark, few, stores, announces) =
      subst (λ (v : Knowledge). IsSameProcess v after.knows) mark (process-ask b a after.knows few stores announces)
  process-MakesStartStep (StartStage.Collect c) (mark, (slot, next, told)) =
      subst (λ (v : Knowledge). IsSameProcess v after.knows) mark
      (process-MakesLoadOf b c.mark after.knows c.account c.slot c.own.slot c.next told.row_next told.load)

  process-MakesTurnStep : (stage next : TurnStage) → MakesTurnStep b seen stage next before after now → IsSameProcess before.knows after.knows
  process-MakesTurnStep (TurnStage.Look l) next made = process-MakesLookLoad b seen before after now l.stage made
  process-MakesTurnStep (TurnStage.Decide d) (TurnStage.Decide e) (mark, told) =
      subst (λ (v : Knowledge). IsSameProcess v after.knows) mark (process-MakesStep b d after.knows d.next e.next told)
  process-MakesTurnStep (TurnStage.Decide d) (TurnStage.Look l) none = absurd none
  process-MakesTurnStep (TurnStage.Decide d) TurnStage.Found none = absurd none
  process-MakesTurnStep TurnStage.Found next none = absurd none

  process-MakesShareStep : (stage : ShareStage) → MakesShareStep b seen stage before after now → IsSameProcess before.knows after.knows
  process-MakesShareStep (ShareStage.Start s) made = process-MakesStartStep s.stage made
  process-MakesShareStep (ShareStage.Help h u) (next, made) = process-MakesTurnStep u.stage next made
  process-MakesShareStep ShareStage.Ended none = absurd none

  pub process-MakesCallStep : (stage : CallStage) → MakesCallStep b seen stage before after now → IsSameProcess before.knows after.knows
  process-MakesCallStep (CallStage.Refuse reply) same = ap (λ (s : SeatTerms). s.knows.first) same
  process-MakesCallStep CallStage.Refused none = absurd none
  process-MakesCallStep (CallStage.Read r) made = process-MakesLookLoad b seen before after now r.looking.stage made
  process-MakesCallStep (CallStage.PayAlone pay) made = process-MakesPayStep pay.stage made
  process-MakesCallStep (CallStage.PayShared pay) made = process-MakesShareStep pay.stage made
