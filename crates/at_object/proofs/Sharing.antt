-- A pass may be moved to another thread: each part of it, from the inside out, since one search over all of them meets its limit.
use Rattle.at_object.proofs.Prelude.{IsSend, sendable, view_send, declared_send, variants_send, crosses, table_seat_send}
use Rattle.at_base.specs.contracts.decision.Decision as decision
use Rattle.at_board.specs.contracts.seat.BoardSeat as seat
use Rattle.at_fold.specs.contracts.account_totals.AccountTotals as account
use Rattle.at_fold.specs.contracts.slot_totals.SlotTotals as slot
use Rattle.at_fold.specs.contracts.totals.Totals as totals
use Rattle.at_object.specs.contracts.parts.CallCount as count
use Rattle.at_object.specs.contracts.parts.Rest as rest
use Rattle.at_object.specs.contracts.pass.Pass as pass

seat_send : IsSend seat.the_row
seat_send = search (sendable, crosses, table_seat_send) depth 20

count_send : IsSend count.the_row
count_send = search (sendable, crosses) depth 20

decision_send : IsSend decision.the_row
decision_send = search (sendable, variants_send) depth 20

slot_totals_send : IsSend slot.the_row
slot_totals_send = search (sendable, crosses, decision_send) depth 40 fits 100000

account_totals_send : IsSend account.the_row
account_totals_send = search (sendable, crosses, slot_totals_send) depth 20

totals_send : IsSend totals.the_row
totals_send = search (sendable, crosses, account_totals_send) depth 20

rest_send : IsSend rest.the_row
rest_send = search (sendable, count_send, totals_send) depth 20

inside_send : IsSend pass.TheInside.the_row
inside_send = search (sendable, declared_send, seat_send, rest_send) depth 20

pub pass_send : IsSend pass.the_row
pass_send = view_send pass.TheInside.the_row _ _ _ _ inside_send
