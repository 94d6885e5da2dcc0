use Rattle.std.proofs.Common.{refl}
use Rattle.at_commands.proofs.Laws.Commands.{IfErr-memory, IfOk-printed}
use Rattle.at_commands.proofs.Laws.Forms.{IsPlayable-loaded}
use Rattle.at_commands.proofs.views.ledger_shown.Goals as goal

pub play-requires-clause-known : goal.play-requires-clause-known
play-requires-clause-known g c κs within = IsPlayable-loaded c.args.loaded c.requires

pub returns : goal.returns
returns g c = (
  IfOk-printed _ c.of.result _ _ c.of.ensures.text c.of.ensures.closed (
    c.in_ok-closed.closed,
    refl,
    record {
      lines = c.in_ok-closed.lines.items;
      played = c.in_ok-closed.ensures;
      printed = rw c.as_slice.ensures.value at c.in_ok-text.ensures.text;
    },
  ),
  IfErr-memory _ c.of.result c.of.ensures.err,
)
