use Rattle.std.proofs.Common.{◌≡◌, ◌≢◌, ℕ, ◌+◌, ◌-◌, ◌*◌, ◌≤◌, [], sum}
use Rattle.at_payments.proofs.Prelude.{raised, slots_of, account_of, IsPrefix, rounds, own_part, IsOf, RECORD_WORDS, HasCounted, IsHelping, decides_made, decides_on, heard_on, HasTurned, asking_steps, round_steps, newly_counted, snapshot_steps}
use Rattle.at_payments.proofs.SharedLaws.Added.{Adds}
use Rattle.at_payments.proofs.shared_payments.pay_shared.Given as goal

-- each turn so far has made one exchange and published a round, of which fewer are left than the account has owners
abbrev pub invariant-loop-answer : goal.invariant-loop-answer
invariant-loop-answer l = record {
  same : l.helping ≡ l.initial.helping;
  board : IsOf l.seat l.board;
  helping : IsHelping l.board.book l.seat.knows l.helping;
  few : decides_made l.account l.fn.seat.knows l.seat.knows + 1 ≤ slots_of (account_of l.board.book l.account);
  heard : heard_on l.seat.knows l.account + decides_made l.account l.fn.seat.knows l.seat.knows ≤ rounds l.account l.seat.knows.seen;
  turned : HasTurned l.board.book l.initial.helping l.initial.seat.knows (decides_made l.account l.fn.seat.knows l.seat.knows) l.seat.knows;
  kept : Adds l.board.book l.initial.seat.knows l.seat.knows l.account [];
  begins : IsPrefix l.fn.seat.knows.seen l.seat.knows.seen;
  process : l.seat.knows.first ≡ l.fn.seat.knows.first;
  decides : decides_on l.fn.seat.knows l.account ≤ decides_on l.seat.knows l.account;
  elsewhere : (a : ℕ) → a ≢ l.account → decides_on l.seat.knows a ≡ decides_on l.fn.seat.knows a;
  published : (own_part l.fn.seat.knows).published ≤ (own_part l.seat.knows).published;
  more : sum l.fn.totals.upto + (own_part l.seat.knows).published ≤ sum l.totals.upto + (own_part l.fn.seat.knows).published;
  counted : HasCounted l.totals l.board.book l.seat.knows.seen;
  steps : l.seat.steps ≤ l.fn.seat.steps + snapshot_steps l.board.book.processes + asking_steps (slots_of (account_of l.board.book l.account))
      + decides_made l.account l.fn.seat.knows l.seat.knows * (snapshot_steps l.board.book.processes + round_steps l.board.book.processes)
      + RECORD_WORDS * newly_counted l.fn.seat.knows l.seat.knows l.fn.totals l.totals;
  risen : l.fn.seat.steps ≤ l.seat.steps;
  exchanges : l.seat.exchanges ≡ raised l.fn.seat.exchanges (decides_made l.account l.fn.seat.knows l.seat.knows);
}

-- the rounds that may still be decided before the request
abbrev pub decreases-loop-answer : goal.decreases-loop-answer
decreases-loop-answer l =
    heard_on l.seat.knows l.account + slots_of (account_of l.board.book l.account) - rounds l.account l.seat.knows.seen
