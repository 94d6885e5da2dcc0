use Rattle.std.proofs.Common.{◌≡◌, ◌<◌, length, refl, ap, ◌∙◌, arith}
use Rattle.at_log.proofs.Prelude.{BookTerms, length-IsCut, Knowledge, record_width, own_part, record_words, Record, published_by}
use Rattle.at_log.proofs.Laws.StoredWords.{FitsNext-MayAppend, IsStoring-more, MayPublish-IsStoring, MayStoreWord-IsStoring, Publishes-IsStoring}
use Rattle.at_log.proofs.Laws.LastRecord.{IsLast-Publishes}
use Rattle.at_log.proofs.append_record.append.Goals.{After-processes-width}
use Rattle.at_log.proofs.append_record.append.Goals as goal

-- the count of processes that the width was made of
processes : (c : After-processes-width) → c.processes-width.result ≡ c.args.board.now.book.processes
processes c = c.processes-width.ensures ∙ ap (λ (t : BookTerms). t.processes) c.book-2.ensures

pub record_word-word-requires-clause-form : goal.record_word-word-requires-clause-form
record_word-word-requires-clause-form c =
    (FitsNext-MayAppend c.args.board.now.book c.args.seat.now.knows c.args.rec.now c.requires.board.book c.known-2.ensures.next c.requires.record).1

pub record_word-word-requires-clause-word : goal.record_word-word-requires-clause-word
record_word-word-requires-clause-word c =
    let x : Record = c.args.rec.now in
    omega (
      arith,
      c.loop-j-test.true,
      processes (goal.at.record_word-word-requires-clause-word c).After-processes-width,
      length-IsCut c.args.board.now.book.processes x.view c.args.seat.now.knows.seen c.requires.record.view.cut,
    )

pub store_record_word-requires-clause-word : goal.store_record_word-requires-clause-word
store_record_word-requires-clause-word c =
    let b : BookTerms = c.args.board.now.book in
    let v : Knowledge = c.args.seat.now.knows in
    let told = c.known-2.ensures in
    let count = processes (goal.at.store_record_word-requires-clause-word c).After-processes-width in
    let room = (FitsNext-MayAppend b v c.args.rec.now c.requires.board.book told.next c.requires.record).0 in
    MayStoreWord-IsStoring b v c.loop-j.seat.knows (record_words (published_by v.first c.args.rec.now)) c.loop-j.j c.loop-j.j (omega (arith, told.seat.one_part)) room
    c.loop-j.invariant.storing (omega (arith, c.loop-j-test.true, count))

pub loop-j-preserved : goal.loop-j-preserved
loop-j-preserved c =
    let v : Knowledge = c.args.seat.now.knows in
    let seat = c.known-2.ensures.seat in
    let count = processes (goal.at.loop-j-preserved c).After-processes-width in
    let inside : c.loop-j.j < length (own_part v).stored = omega (arith, c.loop-j-test.true, count, seat.words, ap record_width c.requires.board.book) in
    record {
      board = c.store_record_word.ensures.board ∙ c.loop-j.invariant.board;
      storing = IsStoring-more v c.loop-j.seat.knows c.store_record_word.new.seat.knows (record_words (published_by v.first c.args.rec.now)) c.loop-j.j
          c.record_word-word.result (omega (arith, seat.one_part)) inside c.loop-j.invariant.storing c.record_word-word.ensures
          c.store_record_word.ensures.stored;
      steps = omega (arith, c.store_record_word.ensures.steps, c.loop-j.invariant.steps);
      exchanges = c.store_record_word.ensures.exchanges ∙ c.loop-j.invariant.exchanges;
    }

pub publish-requires-clause-record : goal.publish-requires-clause-record
publish-requires-clause-record c =
    let v : Knowledge = c.args.seat.now.knows in
    let count = processes (goal.at.publish-requires-clause-record c).After-processes-width in (
      published_by v.first c.args.rec.now,
      MayPublish-IsStoring c.args.board.now.book v c.loop-j.seat.knows c.args.rec.now c.loop-j.j c.requires.board.book c.args.seat.now.knows.first
          (own_part v).published c.known-2.ensures.seat c.requires.record c.loop-j.invariant.storing (omega (arith, c.loop-j-test.false, c.loop-j.auto.j-end, count)),
    )

pub returns-clause-published : goal.returns-clause-published
returns-clause-published c =
    let b : BookTerms = c.args.board.now.book in
    let v : Knowledge = c.args.seat.now.knows in
    let x : Record = c.args.rec.now in
    let seat = c.known-2.ensures.seat in
    let count = processes (goal.at.returns-clause-published c).After-processes-width in
    let may = MayPublish-IsStoring b v c.loop-j.seat.knows x c.loop-j.j c.requires.board.book c.args.seat.now.knows.first (own_part v).published seat c.requires.record c.loop-j.invariant.storing
    (omega (arith, c.loop-j-test.false, c.loop-j.auto.j-end, count)) in
    Publishes-IsStoring b v c.loop-j.seat.knows c.publish.new.seat.knows (published_by v.first x) (record_words (published_by v.first x)) c.loop-j.j
    (omega (arith, seat.one_part)) c.loop-j.invariant.storing (c.publish.ensures.published (published_by v.first x) may)

pub returns-clause-last : goal.returns-clause-last
returns-clause-last c =
    let v : Knowledge = c.args.seat.now.knows in
    IsLast-Publishes c.args.board.now.book v c.publish.new.seat.knows (published_by v.first c.args.rec.now) (omega (arith, c.known-2.ensures.seat.one_part)) refl
    (returns-clause-published c)
