-- Totals stay so when more is published.
use Rattle.std.proofs.Common.{◌<◌, List, sym, subst, arith}
use Rattle.at_fold.proofs.Prelude.{BookTerms, get_or-counts, length-counts, IsPrefix-count_of, Publication, AreSumsOf, HasCounted, StaysCounted, TotalSums}
use Rattle.at_fold.proofs.Laws.CountedRecords.{counted_records-IsPrefix}

pub StaysCounted-HasCounted : (t : TotalSums) (b : BookTerms) (seen : List Publication) → HasCounted t b seen → StaysCounted t b seen
StaysCounted-HasCounted t b seen counts more longer = record {
  book = counts.book;
  processes = counts.processes;
  within = λ q below.
      let known : q < b.processes = omega (arith, below, length-counts b.processes more) in
      omega (
        arith,
        counts.within q (omega (arith, known, length-counts b.processes seen)),
        get_or-counts b.processes seen q 0 known,
        get_or-counts b.processes more q 0 known,
        IsPrefix-count_of q seen more longer,
      );
  sums = subst (λ list. AreSumsOf b list t.accounts) (sym (counted_records-IsPrefix b.processes t.upto seen more counts.processes counts.within longer)) counts.sums;
}
