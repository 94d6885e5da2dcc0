use Rattle.std.proofs.Common.{◌≡◌, length}
use Rattle.at_c.proofs.Prelude.{IsStillOpen}
use Rattle.at_c.proofs.opened.Opened.take_back.Given as goal

-- as many are back as were asked for
abbrev pub invariant-loop-process : goal.invariant-loop-process
invariant-loop-process l = record {
  open_still : IsStillOpen l.fn.self l.self;
  back : length l.self.passes ≡ l._process;
  end : l._process-end ≡ l.fn.self.handed;
}
