use Rattle.std.proofs.Common.{◌≡◌, ◌<◌, sum, take}
use Rattle.at_verify.proofs.Prelude.{contents_of, newlines}
use Rattle.at_verify.proofs.FirstLines.{IsEnded}
use Rattle.at_verify.proofs.Walking.{IsWalked}
use Rattle.at_verify.proofs.verifying.walk.Given as goal

abbrev pub invariant-loop-turn : goal.invariant-loop-turn
invariant-loop-turn l = record {
  walked : IsWalked l.book l.names (contents_of l.files) l.text l.at l.state l.made;
  count : sum l.made ≡ l._turn;
  book : l.state.book ≡ l.book;
  lines : 0 < newlines (take l.at l.text);
  ended : IsEnded (take l.at l.text);
}
