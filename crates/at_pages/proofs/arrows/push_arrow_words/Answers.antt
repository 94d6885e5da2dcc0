use Rattle.std.proofs.Common.{append_assoc, codes}
use Rattle.at_pages.proofs.Prelude.{process_name}
use Rattle.at_pages.proofs.arrows.push_arrow_words.Goals as goal

pub returns : goal.returns
returns c =
    rw (c.in_ok-extend_from_slice-2.ensures.items, c.process.ensures.name, c.in_ok-extend_from_slice.ensures.items)
    (append_assoc c.args.out.now.items (codes "decides for ") (process_name c.args.names.now c.args.owner))
