use Rattle.std.proofs.Common.{◌≡◌, ◌+◌, ◌^◌, ◌<◌, length, sym, ap, subst, ◌∙◌, arith}
use Rattle.at_log.proofs.Prelude.{length-set, BookTerms, IsBook, IsRecordWord, RecordWordTerms, SeatTerms, IsHistory, RECORD_WORDS, stepped-stepped}
use Rattle.at_log.proofs.Laws.SeenRecords.{IsLoaded, IsLoaded-more, IsViewOf-IsLoaded, small-IsRecordWord}
use Rattle.at_log.proofs.load_view_words.load_view.Goals.{After-value-count, After-processes-processes}
use Rattle.at_log.proofs.load_view_words.load_view.Goals as goal

book : (c : After-processes-processes) → IsBook c.args.board.now.book
book c = subst IsBook c.book.ensures c.known.ensures.checked

history : (c : After-processes-processes) → IsHistory c.args.board.now.book c.args.seat.now.knows.seen
history c = subst (λ t. IsHistory t c.args.seat.now.knows.seen) c.requires.board.book c.known-2.ensures.seat.history

count : (c : After-processes-processes) → c.processes-processes.result ≡ c.args.board.now.book.processes
count c = c.processes-processes.ensures ∙ ap (λ (t : BookTerms). t.processes) c.book-2.ensures

word : (c : After-value-count)
    → IsRecordWord c.args.seat.now.knows c.args.p c.args.i (RECORD_WORDS + c.loop-q.q) c.value-count.result
word c =
    subst (λ (s : SeatTerms). IsRecordWord s.knows c.args.p c.args.i (RECORD_WORDS + c.loop-q.q) c.value-count.result) c.loop-q.invariant.same
    (c.value-count.ensures ∙ ap (λ (t : RecordWordTerms). t.value) c.load_record_word.ensures.word)

-- a count of a view is that of few records
small : (c : After-value-count) → c.value-count.result < 2 ^ 16
small c =
    let before : After-processes-processes = (goal.at.After-value-count c).After-processes-processes in
    small-IsRecordWord c.args.board.now.book c.args.seat.now.knows c.args.p c.args.i c.loop-q.q c.value-count.result (book before).begun
    (history before) c.requires.record (omega (arith, c.loop-q-test.true, count before)) (word c)

pub overflow_cast-count : goal.overflow_cast-count
overflow_cast-count c = omega (arith, small (goal.at.overflow_cast-count c).After-value-count)

pub set-requires-clause-small : goal.set-requires-clause-small
set-requires-clause-small c = small (goal.at.set-requires-clause-small c).After-value-count

pub loop-q-preserved : goal.loop-q-preserved
loop-q-preserved c =
    let read : After-value-count = (goal.at.loop-q-preserved c).After-value-count in
    let counted = count (goal.at.After-value-count read).After-processes-processes in
    let inside : c.loop-q.q < length c.loop-q.view = omega (arith, c.loop-q-test.true, counted, c.loop-q.invariant.sized) in
    record {
      same = c.load_record_word.ensures.same ∙ stepped-stepped c.args.seat.now c.loop-q.seat c.loop-q.q 1 c.loop-q.invariant.same;
      sized = ap length c.set.ensures ∙ (length-set c.loop-q.view c.loop-q.q c.value-count.result ∙ c.loop-q.invariant.sized);
      loaded = subst (λ t. IsLoaded c.args.seat.now.knows c.args.p c.args.i t (c.loop-q.q + 1)) (sym c.set.ensures)
          (IsLoaded-more c.args.seat.now.knows c.args.p c.args.i c.loop-q.view c.loop-q.q c.value-count.result inside c.loop-q.invariant.loaded (word read));
    }

pub returns-clause-view : goal.returns-clause-view
returns-clause-view c =
    let before : After-processes-processes = (goal.at.returns-clause-view c).After-processes-processes in
    IsViewOf-IsLoaded c.args.board.now.book c.args.seat.now.knows c.args.p c.args.i c.loop-q.view c.loop-q.q (book before).begun (history before)
    c.requires.record c.loop-q.invariant.sized (omega (arith, c.loop-q-test.false, c.loop-q.auto.q-end, count before)) c.loop-q.invariant.loaded
