use Rattle.std.proofs.Common.{◌≡◌, ℕ, ◌+◌, ◌<◌, ◌++◌, List, length, get_or, take, ap, sym, ◌∙◌, arith}
use Rattle.std.proofs.lemmas.Grind.{common_steps}
use Rattle.at_logs.proofs.Prelude.{BacklogState, RoomyBacklog, flat_map, get_or_default, get_or_read, kept_of, length-map, no_backlog}
use Rattle.at_logs.proofs.RoomLaws.{backlog_of-kept_of, no_roomy}
use Rattle.at_logs.proofs.SavingLaws.{fits_more}
use Rattle.at_logs.specs.Snapshot.{HasBacklogBytes, backlog_bytes}
use Rattle.at_logs.proofs.compact.put_backlogs.Goals as goal

-- one more is written
one_more : (f : BacklogState → List ℕ) (before out new : List ℕ) (ys : List BacklogState) (i : ℕ) (y : BacklogState) → i < length ys → y ≡ get_or ys i no_backlog
    → out ≡ before ++ flat_map f (take i ys) → new ≡ out ++ f y → new ≡ before ++ flat_map f (take (i + 1) ys)
one_more f before out new ys i y within is was now = grind (arith, common_steps)

pub loop-backlog-preserved : goal.loop-backlog-preserved
loop-backlog-preserved c =
    let xs : List RoomyBacklog = c.args.backlogs.now in
    let i : ℕ = c.loop-backlog.backlog-index in
    let here : c.backlog-item.result.kept ≡ get_or (kept_of xs) i no_backlog =
    ap (λ (l : RoomyBacklog). l.kept) (get_or_read xs i c.backlog-item.result c.loop-backlog-test.true c.backlog-item.is no_roomy) ∙ sym (backlog_of-kept_of xs i) in
    let within : i < length (kept_of xs) = omega (arith, length-map xs (λ (l : RoomyBacklog). l.kept), c.loop-backlog-test.true) in
    record {
      spelled = one_more backlog_bytes _ _ _ (kept_of xs) i c.backlog-item.result.kept within here c.loop-backlog.invariant.spelled c.in_ok-put.ensures.spelled;
      fits = fits_more HasBacklogBytes (kept_of xs) i c.backlog-item.result.kept within
          (here ∙ get_or_default (kept_of xs) i no_backlog c.backlog-item.result.kept within) c.in_ok-put.ensures.fits c.loop-backlog.invariant.fits;
    }

pub returns-clause-fits : goal.returns-clause-fits
returns-clause-fits c k d within =
    c.loop-backlog.invariant.fits k d (omega (arith, within, length-map c.args.backlogs.now (λ (l : RoomyBacklog). l.kept), c.loop-backlog-test.false))
