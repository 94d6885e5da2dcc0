use Rattle.std.proofs.Common.{◌≡◌, ◌+◌, take}
use Rattle.at_ledger.proofs.Prelude.{sum_by, rounds_room_of}
use Rattle.at_ledger.proofs.book.Book.log_room.Given as goal

abbrev pub invariant-loop-account : goal.invariant-loop-account
invariant-loop-account l =
    l.room ≡ l.self.own_room + sum_by (rounds_room_of l.self.request_room l.process) (take l.account-index l.self.accounts)
