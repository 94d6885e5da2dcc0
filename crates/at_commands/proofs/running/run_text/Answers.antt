use Rattle.std.proofs.Common.{◌≡◌, ap, map, refl, ◌∙◌}
use Rattle.at_commands.proofs.Prelude.{line_at, loaded_shown, report_text, journal_of}
use Rattle.at_commands.specs.Answer.{ReportsRun}
use Rattle.at_commands.proofs.Laws.Forms.{IsPlayable-loaded}
use Rattle.at_commands.proofs.running.run_text.Goals as goal

pub play_in_order-requires-clause-known : goal.play_in_order-requires-clause-known
play_in_order-requires-clause-known g c = λ _ _. IsPlayable-loaded c.args.opened.loaded c.requires.loaded

pub journal_report-requires-clause-lines : goal.journal_report-requires-clause-lines
journal_report-requires-clause-lines g c = λ _ _.
    let ordered = c.in_ok-closed.ensures in
    rw (c.closing.ensures.closing, c.as_slice.ensures.value, ordered.lines_are) ordered.played.on

pub returns : goal.returns
returns g c =
    let ordered = c.in_ok-closed.ensures in
    let played = ordered.played in
    let lines : map (line_at c.closing.result.now) c.as_slice.result.now ≡ journal_of c.in_ok-closed.closed =
    (λ t. map (line_at (c.closing.ensures.closing t)) (c.as_slice.ensures.value t)) ∙ ordered.lines_are in
    let reports : ReportsRun (loaded_shown c.args.opened.loaded) c.in_ok-closed.closed c.in_ok-text.text = record {
      run = played.run;
      whole = played.whole;
      legal = played.legal;
      total = played.total;
      printed = c.in_ok-text.ensures.text ∙ ap (report_text c.args.opened.loaded.book c.args.opened.loaded.names) lines;
    } in
    ((c.in_ok-closed.closed, refl, reports), tt)
