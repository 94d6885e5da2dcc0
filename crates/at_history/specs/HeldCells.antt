-- Held cells: a process that has won the cell of a round holds it until it has published that round.
use Rattle.std.specs.Prelude.{◌==◌, ◌&&◌, Bool, false, Option, Some, None, if◌then◌else◌}
use Rattle.at_history.specs.Cuts.{place}
use Rattle.at_history.specs.declared.cell.Cell.{Cell}
use Rattle.at_history.specs.declared.publication.Entry.{Entry}
use Rattle.at_history.specs.declared.publication.Entry.TheVariants.{Own, Round}
use Rattle.at_history.specs.declared.publication.Publication.{Publication}

-- the record is of the round of a cell, and has the view from which its decision was proposed
abbrev pub gives_up : Publication → Cell → Bool
gives_up x c = from_place x.entry
  where
    from_place : Entry → Bool
    from_place (Own from targets) = false
    from_place (Round account round decision targets) =
        (account == c.account) && ((round == c.round) && (place x.view == decision.place))

-- a cell is held until its round is published so
abbrev pub held_after : Publication → Option Cell → Option Cell
held_after x None = None
held_after x (Some c) = if gives_up x c then None else Some c
