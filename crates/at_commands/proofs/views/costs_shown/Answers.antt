use Rattle.std.proofs.Common.{◌∙◌, refl}
use Rattle.at_commands.proofs.Prelude.{contents_of, length-contents_of}
use Rattle.at_commands.proofs.Laws.Commands.{IfErr-memory, IfOk-printed}
use Rattle.at_commands.proofs.Laws.Forms.{IsPlayable-loaded}
use Rattle.at_commands.proofs.PlayedCosts.{HaveCosts-played}
use Rattle.at_commands.proofs.views.costs_shown.Goals as goal

pub play_noting-requires-clause-known : goal.play_noting-requires-clause-known
play_noting-requires-clause-known g c κs within = IsPlayable-loaded c.args.loaded c.requires

pub costs_text-requires-clause-costs : goal.costs_text-requires-clause-costs
costs_text-requires-clause-costs g c =
    let l = c.args.loaded in
    rw (c.closing.ensures.closing, c.as_slice.ensures.value)
    (HaveCosts-played l.book (contents_of l.files.items) c.in_ok-kept.kept (contents_of c.in_ok-kept.costs.items)
    (length-contents_of l.files.items ∙ c.requires.count) (IsPlayable-loaded l c.requires) c.in_ok-kept.ensures)

pub returns : goal.returns
returns g c = (
  IfOk-printed _ c.of.result _ _ c.of.ensures.text c.of.ensures.closed (
    c.in_ok-kept.kept,
    refl,
    record {
      costs = contents_of c.in_ok-kept.costs.items;
      played = c.in_ok-kept.ensures;
      within = rw (c.closing.ensures.closing, c.as_slice.ensures.value) at c.in_ok-text.ensures.within;
      printed = rw (c.closing.ensures.closing, c.as_slice.ensures.value) at c.in_ok-text.ensures.text;
    },
  ),
  IfErr-memory _ c.of.result c.of.ensures.err,
)
