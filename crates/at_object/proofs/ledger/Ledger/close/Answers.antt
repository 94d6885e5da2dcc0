use Rattle.std.proofs.Common.{◌≡◌, List, length, sym, ap, subst, ◌∙◌, map, arith}
use Rattle.at_object.proofs.Prelude.{BoardTerms, Receipt, AreAccountedFor, ClosedTerms, HasAllLogs, PassTerms}
use Rattle.at_object.proofs.ClosingSeats.{AreAllFree-seats, HasAllLogs-seats, HasRooms, IsEndWith-seats, room-seats}
use Rattle.at_object.proofs.Laws.Notes.{KeepsNotes-HasAllLogs}
use Rattle.at_object.proofs.ledger.Ledger.close.Goals.{After-closing_of}
use Rattle.at_object.proofs.ledger.Ledger.close.Goals as goal

pub close-end-requires : goal.close-end-requires
close-end-requires c =
    let board : BoardTerms = c.self.inside.board in
    let passes = c.args.passes.items in
    let receipts : List (List Receipt) = map (λ v. v.items) c.args.receipts.items in
    let seats = c.seats_of.result.items in
    let accounted = subst (λ (b : BoardTerms). AreAccountedFor b passes receipts) (sym c.self.view_is) c.requires in
    AreAllFree-seats board passes receipts seats accounted c.seats_of.ensures.seats c.seats_of.ensures.at_rest

pub closing_of-requires-clause-ended : goal.closing_of-requires-clause-ended
closing_of-requires-clause-ended c =
    let board : BoardTerms = c.self.inside.board in
    let passes = c.args.passes.items in
    let receipts : List (List Receipt) = map (λ v. v.items) c.args.receipts.items in
    let seats = c.seats_of.result.items in
    let accounted = subst (λ (b : BoardTerms). AreAccountedFor b passes receipts) (sym c.self.view_is) c.requires in
    IsEndWith-seats board passes receipts seats accounted c.seats_of.ensures.seats c.seats_of.ensures.at_rest
    c.close-end.result c.close-end.ensures.book c.close-end.ensures.end

pub closing_of-requires-clause-room : goal.closing_of-requires-clause-room
closing_of-requires-clause-room c =
    let board : BoardTerms = c.self.inside.board in
    let passes = c.args.passes.items in
    let receipts : List (List Receipt) = map (λ v. v.items) c.args.receipts.items in
    let seats = c.seats_of.result.items in
    let rooms = c.in-Ok.memory.rooms.items in
    let accounted = subst (λ (b : BoardTerms). AreAccountedFor b passes receipts) (sym c.self.view_is) c.requires in
    room-seats board passes receipts seats accounted c.seats_of.ensures.seats c.seats_of.ensures.at_rest
    c.close-end.result rooms c.close-end.ensures.book c.close-end.ensures.end (subst (λ (ps : List PassTerms). HasRooms ps rooms) c.as_slice.ensures.value c.in-Ok.ensures.rooms)

-- the closed ledger, and all that is published on it
abbrev closed_of : After-closing_of → ClosedTerms
closed_of c = record { ledger = c.of-ledger.result.value; book = c.in-Ok.memory.book; closing = c.closing_of.result; passes = c.of-last.result.value.items }

all_logs : (c : After-closing_of) → HasAllLogs c.args.passes.items (closed_of c)
all_logs c =
    let board : BoardTerms = c.self.inside.board in
    let passes = c.args.passes.items in
    let receipts : List (List Receipt) = map (λ v. v.items) c.args.receipts.items in
    let seats = c.seats_of.result.items in
    let accounted = subst (λ (b : BoardTerms). AreAccountedFor b passes receipts) (sym c.self.view_is) c.requires in
    HasAllLogs-seats board passes receipts seats accounted c.seats_of.ensures.seats c.seats_of.ensures.at_rest
    c.close-end.result (closed_of c) c.close-end.ensures.book
    (c.in-Ok.ensures.book ∙ (c.book.ensures ∙ sym (ap (λ (b : BoardTerms). b.book) c.self.view_is))) c.close-end.ensures.end (c.closing_of.ensures.logs seats c.close-end.ensures.end)
    c.closing_of.ensures.receipts (c.closing_of.ensures.in_time seats c.close-end.ensures.end)

pub returns-clause-logs : goal.returns-clause-logs
returns-clause-logs c = all_logs (goal.at.returns-clause-logs c).After-closing_of

pub returns-clause-after_notes : goal.returns-clause-after_notes
returns-clause-after_notes c =
    let d : After-closing_of = (goal.at.returns-clause-after_notes c).After-closing_of in
    let passes : c.of-last.result.value.items ≡ c.args.passes.items = ap (λ v. v.items) c.of-last.ensures in
    KeepsNotes-HasAllLogs (closed_of d) (subst (λ ps. HasAllLogs ps (closed_of d)) (sym passes) (all_logs d))
    (c.in-Ok.ensures.book ∙ (c.book.ensures ∙ sym (ap (λ (b : BoardTerms). b.book) c.of-ledger.ensures)))
    (omega (
      arith,
      ap (λ (ps : List PassTerms). length ps) passes,
      c.requires.passes_count,
      c.requires.receipts_count,
      ap (λ (rs : List (List Receipt)). length rs) c.closing_of.ensures.receipts,
    ))
