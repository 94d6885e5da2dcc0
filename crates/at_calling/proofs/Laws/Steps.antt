-- Which step a turn of a call makes: just the one that its stage names.
use Rattle.std.proofs.Common.{List, refl, ap, subst}
use Rattle.at_calling.proofs.Prelude.{BookTerms, Publication, SeatTerms, MakesOnly, Knowledge, TotalSums, MakesOnly-MakesLookLoad, MakesOnly-MakesNextLoad, MakesOnly-MakesStep, MakesOnly-append, MakesOnly-ask, append_step, ask_step, rows_after, step_in_round, row_step, MakesCallStep, next_step, steps_of, MakesPayStep, pay_step_at, MakesShareStep, share_step_at, MakesStartStep, start_step_at, MakesTurnStep, help_step_at, CallStage, PayStage, ShareStage, StartStage, TurnStage}

module _ (b : BookTerms) (seen : List Publication) (before after : SeatTerms) (now : TotalSums) where
  MakesOnly-MakesPayStep : (stage : PayStage) → MakesPayStep b seen stage before after now → MakesOnly b before.knows after.knows 1 (pay_step_at b stage)
  MakesOnly-MakesPayStep (PayStage.Look l) told = MakesOnly-MakesLookLoad b seen l.stage before after now told
  MakesOnly-MakesPayStep (PayStage.Append a) (mark, few, stores, publishes) =
      subst (λ (v : Knowledge). MakesOnly b v after.knows 1 (append_step b a)) mark (MakesOnly-append b a after.knows few stores publishes)
  MakesOnly-MakesPayStep PayStage.Short none = absurd none

  MakesOnly-MakesStartStep : (stage : StartStage) → MakesStartStep b seen stage before after now → MakesOnly b before.knows after.knows 1 (start_step_at b stage)
  MakesOnly-MakesStartStep (StartStage.Look l) told = MakesOnly-MakesLookLoad b seen l.stage before after now told
  MakesOnly-MakesStartStep (StartStage.Ask a) (mark, few, stores, announces) =
      subst (λ (v : Knowledge). MakesOnly b v after.knows 1 (ask_step b a)) mark (MakesOnly-ask b a after.knows few stores announces)
  MakesOnly-MakesStartStep (StartStage.Collect c) (mark, (slot, next, told)) =
      subst (λ (v : Knowledge). MakesOnly b v after.knows 1 (row_step c.account c.slot c.next)) mark
      (MakesOnly-MakesNextLoad b c (rows_after c after.knows slot next) told)

  MakesOnly-MakesTurnStep : (stage next : TurnStage) → MakesTurnStep b seen stage next before after now
      → MakesOnly b before.knows after.knows 1 (help_step_at b stage)
  MakesOnly-MakesTurnStep (TurnStage.Look l) next told = MakesOnly-MakesLookLoad b seen l.stage before after now told
  MakesOnly-MakesTurnStep (TurnStage.Decide d) (TurnStage.Decide e) (mark, told) =
      subst (λ (v : Knowledge). MakesOnly b v after.knows 1 (step_in_round b d d.next)) mark (MakesOnly-MakesStep b d after.knows d.next e.next told)
  MakesOnly-MakesTurnStep (TurnStage.Decide d) (TurnStage.Look l) none = absurd none
  MakesOnly-MakesTurnStep (TurnStage.Decide d) TurnStage.Found none = absurd none
  MakesOnly-MakesTurnStep TurnStage.Found next none = absurd none

  MakesOnly-MakesShareStep : (stage : ShareStage) → MakesShareStep b seen stage before after now → MakesOnly b before.knows after.knows 1 (share_step_at b stage)
  MakesOnly-MakesShareStep (ShareStage.Start s) told = MakesOnly-MakesStartStep s.stage told
  MakesOnly-MakesShareStep (ShareStage.Help h u) (next, told) = MakesOnly-MakesTurnStep u.stage next told
  MakesOnly-MakesShareStep ShareStage.Ended none = absurd none

  -- a turn makes just the step that its stage names, and where that is refused none
  pub MakesOnly-MakesCallStep : (stage : CallStage) → MakesCallStep b seen stage before after now
      → MakesOnly b before.knows after.knows (steps_of stage) (next_step b stage)
  MakesOnly-MakesCallStep (CallStage.Refuse reply) same = (refl, ap (λ (s : SeatTerms). s.knows) same)
  MakesOnly-MakesCallStep CallStage.Refused none = absurd none
  MakesOnly-MakesCallStep (CallStage.Read r) told = MakesOnly-MakesLookLoad b seen r.looking.stage before after now told
  MakesOnly-MakesCallStep (CallStage.PayAlone p) told = MakesOnly-MakesPayStep p.stage told
  MakesOnly-MakesCallStep (CallStage.PayShared p) told = MakesOnly-MakesShareStep p.stage told
