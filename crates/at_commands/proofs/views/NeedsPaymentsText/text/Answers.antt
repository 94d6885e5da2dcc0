use Rattle.std.proofs.Common.{refl, ◌∙◌}
use Rattle.at_commands.proofs.Prelude.{covered-settled, owners-cover, contents_of, length-contents_of}
use Rattle.at_commands.proofs.Laws.Commands.{IfOk-printed}
use Rattle.at_commands.proofs.Laws.Forms.{IsPlayable-loaded}
use Rattle.at_commands.proofs.views.NeedsPaymentsText.text.Goals as goal

pub needs_text-requires-clause-files : goal.needs_text-requires-clause-files
needs_text-requires-clause-files g c = rw c.as_slice.ensures.value (IsPlayable-loaded c.args.loaded c.requires)

pub returns-clause-prints : goal.returns-clause-prints
returns-clause-prints g c =
    IfOk-printed _ c.of.result _ _ c.of.ensures.text c.of.ensures.closed (
      refl,
      record {
        settled = λ account known covers. covered-settled c.args.loaded.book (contents_of c.args.loaded.files.items) account (IsPlayable-loaded c.args.loaded c.requires)
            (length-contents_of c.args.loaded.files.items ∙ c.requires.count) known (owners-cover c.args.loaded.book (contents_of c.args.loaded.files.items) account covers);
        printed = rw c.as_slice.ensures.value at c.in_ok-text.ensures;
      },
    )
