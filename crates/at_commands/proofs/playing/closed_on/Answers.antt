use Rattle.std.proofs.Common.{◌∙◌, map, ap, refl}
use Rattle.at_commands.proofs.Prelude.{BoardTerms, calls_of, with_usable_room}
use Rattle.at_commands.proofs.playing.closed_on.Goals as goal

pub close-requires : goal.close-requires
close-requires g c = c.in_ok-left.ensures.accounted

pub returns : goal.returns
returns g c =
    let left = c.in_ok-left.ensures in
    let told = c.in-Ok.ensures in
    record {
      run = record {
        book_is = told.book;
        usable = ap (λ (l : BoardTerms). with_usable_room l.book) told.ledger;
        calls_are = ap (map calls_of) told.receipts ∙ left.calls;
        costs = left.costs.costs;
        costed = rw (told.ledger, told.passes, told.receipts) left.costs.are;
        coherent = told.coherent;
      };
      ledger_is = ap (λ (l : BoardTerms). l.book) told.ledger;
      costs_are = left.costs.noted_are;
    }
