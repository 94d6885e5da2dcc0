-- What a handle holds may be moved to another thread: each part of it by itself, since one search over all of them meets its limit.
use Rattle.at_c.proofs.Prelude.{full_share, Keyless, lone, RattleType, Ptr, block_ptr, null_ptr, fields, shape, to, Struct, exits_of, AllSend, IsSend, IsSync, owning_send, part_keyless, sendable, struct_send, view_send, view_sync, declared_send, declared_sync, variants_send, chain-Keyless, crosses, frees, ghosts, lies, quiet, box_owns, right_send, owns_keyless, shares_keyless, Ghosts, Id, Phase, free, away, offset, state, board_seat_sync, table_seat_send, receipt_send, pass_send, owns_held}
use mir.Raw.{raw}
use Rattle.std.proofs.Common.{ℕ, ◌+◌, ◌∷◌}
use Rattle.std.specs.Prelude.{Option}
use Rattle.std.specs.contracts.alloc.Global as heap
use Rattle.atomic_table.specs.contracts.send_lease.SendLease as lease
use Rattle.atomic_table.specs.contracts.owned.Table as table
use Rattle.atomic_table.specs.contracts.shared.Shared as words
use Rattle.counted_slot.specs.Counting.{shared as apart}
use Rattle.counted_slot.specs.contracts.Counted as counted
use Rattle.counted_slot.specs.declared.Fits.{Ghosts as Fitting}
use Rattle.at_base.specs.contracts.decision.Decision as decision
use Rattle.at_board.specs.contracts.seat.BoardSeat as seat
use Rattle.at_fold.specs.contracts.account_totals.AccountTotals as account
use Rattle.at_fold.specs.contracts.slot_totals.SlotTotals as slot
use Rattle.at_fold.specs.contracts.totals.Totals as totals
use Rattle.at_log.specs.contracts.receipt.Receipt as receipt
use Rattle.at_object.specs.contracts.closed.Closed as closed
use Rattle.at_object.specs.contracts.parts.CallCount as count
use Rattle.at_object.specs.contracts.parts.Rest as rest
use Rattle.at_object.specs.contracts.pass.Pass as pass
use Rattle.at_ledger.specs.contracts.book.Book as book
use Rattle.at_board.specs.contracts.board.Board as board
use Rattle.at_board.specs.contracts.layout.Layout as layout
use Rattle.at_files.specs.contracts.names.Names as names
use Rattle.at_object.specs.contracts.ledger.Ledger as ledger
use Rattle.at_c.specs.contracts.caller.Caller as caller
use Rattle.at_c.specs.contracts.handle.Handle as handle
use Rattle.at_c.specs.contracts.held.Held as held
use Rattle.at_c.specs.contracts.opened.Opened as opened
use Rattle.at_c.specs.contracts.ended.Ended as ended
use Rattle.at_c.specs.contracts.ended.Reported as reported
use Rattle.at_c.specs.contracts.ending.Ending as ending
use Rattle.at_c.specs.contracts.gathered.Gathered as gathered
use Rattle.at_c.specs.contracts.given.Given as given
use Rattle.at_c.specs.contracts.given.LeftNote as left
use Rattle.at_c.specs.contracts.shared.Shared as shared

heap_send : IsSend heap.the_row
heap_send = search sendable depth 20

-- the table of a board, by what it owns and what threads share of it
shared_words_send : (S V K P : RattleType) (g : Ghosts P.Denot S.Denot V.Denot K.Denot) → IsSend S → IsSend (words.the_row S V K P g)
shared_words_send S V K P g s = record {
  owned = λ d vs. ((λ vss. (tt, (tt, (tt, ((λ uss. (tt, tt)), tt))))), owns_keyless S s V.coded.code d.table_id (g.holds d.key) d.words d.slots);
  leaving = λ k f vs. tt;
}

shared_words_sync : (S V K P : RattleType) (g : Ghosts P.Denot S.Denot V.Denot K.Denot) → IsSend S → IsSync (words.the_row S V K P g)
shared_words_sync S V K P g s = let inside : IsSync (Struct (shape (words.the_type S V K P g))) = search sendable depth 20 in record {
  shared = λ d b o ν. (inside.shared (d.words, (d.slots, (tt, tt))) b o ν, shares_keyless S s V.coded.code d.table_id (g.holds d.key) d.words d.slots ν);
}

lease_send : (T : RattleType) → IsSend (lease.the_row T heap.the_row ghosts)
lease_send T = right_send T heap.the_row ghosts frees

lease_sync : (T : RattleType) → IsSync (lease.the_row T heap.the_row ghosts)
lease_sync T = record { shared = λ d b o ν q. part_keyless (lease.the_row T heap.the_row ghosts) (lease_send T) q d b o }

book_send : IsSend book.the_row
book_send = search (sendable, crosses) depth 40 fits 100000

book_sync : IsSync book.the_row
book_sync = search (sendable, crosses) depth 40 fits 100000

layout_send : IsSend layout.the_row
layout_send = search (sendable, crosses, declared_send, book_send) depth 40 fits 100000

layout_sync : IsSync layout.the_row
layout_sync = search (sendable, crosses, declared_sync, book_sync) depth 40 fits 100000

table_send : (S V K P : RattleType) (g : Ghosts P.Denot S.Denot V.Denot K.Denot) → IsSend S → IsSend (table.the_row S V K P heap.the_row g ghosts)
table_send S V K P g s = search (sendable, declared_send, shared_words_send, lease_send, heap_send) depth 40

table_sync : (S V K P : RattleType) (g : Ghosts P.Denot S.Denot V.Denot K.Denot) → IsSend S → IsSync (table.the_row S V K P heap.the_row g ghosts)
table_sync S V K P g s = search (sendable, declared_sync, shared_words_sync, lease_sync) depth 40

board_inside_send : IsSend board.TheInside.the_row
board_inside_send = search (sendable, declared_send, table_send, layout_send) depth 20

board_inside_sync : IsSync board.TheInside.the_row
board_inside_sync = search (sendable, declared_sync, table_sync, layout_sync) depth 20

board_send : IsSend board.the_row
board_send = view_send board.TheInside.the_row _ _ _ _ board_inside_send

board_sync : IsSync board.the_row
board_sync = view_sync board.TheInside.the_row _ _ _ _ board_inside_sync

ledger_inside_send : IsSend ledger.TheInside.the_row
ledger_inside_send = search (sendable, declared_send, board_send) depth 20

ledger_inside_sync : IsSync ledger.TheInside.the_row
ledger_inside_sync = search (sendable, declared_sync, board_sync) depth 20

ledger_send : IsSend ledger.the_row
ledger_send = view_send ledger.TheInside.the_row _ _ _ _ ledger_inside_send

ledger_sync : IsSync ledger.the_row
ledger_sync = view_sync ledger.TheInside.the_row _ _ _ _ ledger_inside_sync

names_send : IsSend names.the_row
names_send = search (sendable, crosses) depth 40 fits 100000

names_sync : IsSync names.the_row
names_sync = search (sendable, crosses) depth 40 fits 100000

-- a pass may be shared, as it may be moved
board_seat_sync' : IsSync seat.the_row
board_seat_sync' = search (sendable, crosses, board_seat_sync) depth 20

count_sync : IsSync count.the_row
count_sync = search (sendable, crosses) depth 20

decision_sync : IsSync decision.the_row
decision_sync = search sendable depth 20

slot_totals_sync : IsSync slot.the_row
slot_totals_sync = search (sendable, crosses, decision_sync) depth 40 fits 100000

account_totals_sync : IsSync account.the_row
account_totals_sync = search (sendable, crosses, slot_totals_sync) depth 20

totals_sync : IsSync totals.the_row
totals_sync = search (sendable, crosses, account_totals_sync) depth 20

rest_sync : IsSync rest.the_row
rest_sync = search (sendable, count_sync, totals_sync) depth 20

pass_inside_sync : IsSync pass.TheInside.the_row
pass_inside_sync = search (sendable, declared_sync, board_seat_sync', rest_sync) depth 20

pass_sync : IsSync pass.the_row
pass_sync = view_sync pass.TheInside.the_row _ _ _ _ pass_inside_sync

receipt_sync : IsSync receipt.the_row
receipt_sync = search (sendable, crosses) depth 40 fits 100000

-- what stands in a place
given_send : IsSend given.the_row
given_send = search (sendable, crosses, declared_send, pass_send, receipt_send) depth 20

given_sync : IsSync given.the_row
given_sync = search (sendable, crosses, declared_sync, pass_sync, receipt_sync) depth 20

left_send : IsSend left.the_row
left_send = search (sendable, crosses, declared_send, table_seat_send) depth 20

left_sync : IsSync left.the_row
left_sync = search (sendable, crosses, declared_sync, board_seat_sync) depth 20

-- and the places themselves
place_send : (T G : RattleType) (g : Fitting T.Denot G.Denot) → IsSend T → IsSend (counted.the_row T G g)
place_send T G g s = record { owned = λ d vs. ((λ _. tt), λ z. ((λ vss. (tt, ((tt, tt), (s.owned z.1 vss.1.0, tt)))), λ _. tt)); leaving = λ k d w. tt }

place_keyless : (R : RattleType) (ok : R.Denot → Type 0) → IsSend R → IsSync R → (b o : ℕ) (t : Id) (w : ℕ) (p : Phase R.Denot) → Keyless (state R ok b o t w p)
place_keyless R ok s y b o t w free = ((λ _. tt), ((λ _. tt), ((tt, tt), λ x. (part_keyless R s full_share x b (o + offset R), λ _. tt))))
place_keyless R ok s y b o t w away = ((λ _. tt), λ _. tt)
place_keyless R ok s y b o t w (apart a m x) =
    ((λ _. tt), ((λ e c. (tt, tt)), ((tt, tt), (((λ _. tt), y.shared x b (o + offset R) (a ∷ t.0)), λ z. (part_keyless R s full_share z b (o + offset R), λ _. tt)))))

place_sync : (T G : RattleType) (g : Fitting T.Denot G.Denot) → IsSend T → IsSync T → IsSync (counted.the_row T G g)
place_sync T G g s y = record { shared = λ d b o κ t. ((λ νs. chain-Keyless νs κ t.0), λ w. (tt, place_keyless T (g.fits d) s y b o t w)) }

shared_inside_send : IsSend shared.TheInside.the_row
shared_inside_send = search (sendable, crosses, declared_send, ledger_send, names_send, place_send, given_send, left_send) depth 30 fits 100000

shared_inside_sync : IsSync shared.TheInside.the_row
shared_inside_sync = search (sendable, crosses, declared_sync, ledger_sync, names_sync, place_sync, given_send, given_sync, left_send, left_sync) depth 30 fits 100000

shared_send : IsSend shared.the_row
shared_send = view_send shared.TheInside.the_row _ _ _ _ shared_inside_send

shared_sync : IsSync shared.the_row
shared_sync = view_sync shared.TheInside.the_row _ _ _ _ shared_inside_sync

caller_inside_send : IsSend caller.TheInside.the_row
caller_inside_send = search (sendable, crosses, declared_send, shared_send, shared_sync, pass_send, receipt_send) depth 20

pub caller_send : IsSend caller.the_row
caller_send = view_send caller.TheInside.the_row _ _ _ _ caller_inside_send

opened_inside_send : IsSend opened.TheInside.the_row
opened_inside_send = search (sendable, crosses, declared_send, shared_send, shared_sync, pass_send, receipt_send) depth 20 fits 100000

pub opened_send : IsSend opened.the_row
opened_send = view_send opened.TheInside.the_row _ _ _ _ opened_inside_send

-- what a ledger comes to
gathered_inside_send : IsSend gathered.TheInside.the_row
gathered_inside_send = search (sendable, crosses, declared_send, ledger_send, names_send, pass_send, receipt_send) depth 20 fits 100000

gathered_send : IsSend gathered.the_row
gathered_send = view_send gathered.TheInside.the_row _ _ _ _ gathered_inside_send

closed_send : IsSend closed.the_row
closed_send = search (sendable, crosses, declared_send) depth 40 fits 100000

ended_inside_send : IsSend ended.TheInside.the_row
ended_inside_send = search (sendable, crosses, declared_send, closed_send, names_send) depth 20 fits 100000

ended_send : IsSend ended.the_row
ended_send = view_send ended.TheInside.the_row _ _ _ _ ended_inside_send

reported_inside_send : IsSend reported.TheInside.the_row
reported_inside_send = search (sendable, crosses, declared_send, ended_send) depth 20 fits 100000

reported_send : IsSend reported.the_row
reported_send = view_send reported.TheInside.the_row _ _ _ _ reported_inside_send

pub ending_send : IsSend ending.the_row
ending_send = search (sendable, variants_send, gathered_send, ended_send, reported_send) depth 20

pub held_send : IsSend held.the_row
held_send = search (sendable, variants_send, caller_send, opened_send, ending_send) depth 20

-- what stands behind a handle may be reached and freed in whichever thread has the handle
box_keyless : (alloc : (heap.the_row).Denot) (p : Ptr) (x : (held.the_row).Denot) → Keyless (box_owns (ghosts.dealloc_token alloc) held.the_row p x)
box_keyless alloc p x = (lies held.the_row held_send p x, frees.frees alloc (raw (lone (held.the_row).mir)) p)

held_keyless : (alloc : (heap.the_row).Denot) (p : Ptr) (h : Option (held.the_row).Denot) → Keyless (owns_held held.the_row alloc p h)
held_keyless alloc null_ptr h = tt
held_keyless alloc (block_ptr b o) h = λ x. (tt, box_keyless alloc (block_ptr b o) x)

fields_send : AllSend (fields handle.the_type)
fields_send = (search sendable, (search sendable, tt))

pub handle_send : IsSend handle.the_row
handle_send =
    owning_send handle.the_type fields_send (λ d. held_keyless d.alloc d.at d.held)
    (λ k. quiet (to handle.the_type) (exits_of k (fields handle.the_type)) ((struct_send (shape handle.the_type) fields_send).leaving k))
