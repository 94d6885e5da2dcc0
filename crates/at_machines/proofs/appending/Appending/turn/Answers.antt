use Rattle.std.proofs.Common.{◌≡◌, refl, ◌+◌, ◌<◌, length, get_or, ap, subst, sym, ◌∙◌, arith}
use Rattle.at_machines.proofs.Prelude.{common_steps, BookTerms, SeatTerms, MayPublish, Publishes, StoresWord, record_width, record_words, Knowledge, IsAppendingSo, AppendingTerms, appending_after, publication_of}
use Rattle.at_machines.proofs.AppendingLaws.{IsAppendingSo-published, IsAppendingSo-word, IsLast-IsAppendingSo, MayPublish-IsAppendingSo, Publishes-IsAppendingSo, length-view-IsAppendingSo}
use Rattle.at_machines.proofs.appending.Appending.turn.Goals.{After-processes, After-publish}
use Rattle.at_machines.proofs.appending.Appending.turn.Goals as goal

-- the append before the turn
before : (c : After-processes) → IsAppendingSo c.args.self.now
before c = subst IsAppendingSo c.self.view_is c.self.invariant

-- its seat is the board's
book : (c : After-processes) → c.args.self.now.mark.book ≡ c.args.board.now.book
book c = ap (λ (v : Knowledge). v.book) (sym c.requires.mark) ∙ c.requires.board.book

-- how many words are stored
stored : (c : After-processes) → c.self.inside.stored ≡ c.args.self.now.stored
stored c = ap (λ (a : AppendingTerms). a.stored) c.self.view_is

width : (c : After-processes) → c.processes.result ≡ c.args.board.now.book.processes
width c = c.processes.ensures ∙ ap (λ (t : BookTerms). t.processes) c.book-2.ensures

pub record_word-word-requires-clause-word : goal.record_word-word-requires-clause-word
record_word-word-requires-clause-word c =
    let at = (goal.at.record_word-word-requires-clause-word c).After-processes in
    omega (
      arith,
      c.if-self-processes.true,
      width at,
      length-view-IsAppendingSo c.args.board.now.book c.args.self.now (book at) (before at),
      ap (λ (a : AppendingTerms). length a.rec.view) c.self.view_is,
    )

pub publish-requires-clause-record : goal.publish-requires-clause-record
publish-requires-clause-record c =
    let at = (goal.at.publish-requires-clause-record c).After-processes in
    let all : c.args.self.now.stored ≡ record_width c.args.board.now.book = omega (arith, c.if-self-processes.false, width at, stored at, c.requires.left) in (
      publication_of c.args.self.now,
      subst (λ (v : Knowledge). MayPublish c.args.board.now.book v (publication_of c.args.self.now)) (sym c.requires.mark)
          (MayPublish-IsAppendingSo c.args.board.now.book c.args.self.now (book at) all (before at)),
    )

-- how the fields stand after the turn
pub invariant_of-self : goal.invariant_of-self
invariant_of-self c =
    let b : BookTerms = c.args.board.now.book in
    let at = (goal.at.invariant_of-self c).After-processes in
    let a : AppendingTerms = c.args.self.now in
    let w : Knowledge = c.store_record_word.new.seat.knows in
    let n = c.record_word-word.result in
    let left : a.stored < record_width b = omega (arith, c.if-self-processes.true, width at, stored at) in
    let is = c.self.view_is in
    let word : n ≡ get_or (record_words (publication_of a)) a.stored 0 =
    c.record_word-word.ensures ∙ ap (λ (t : AppendingTerms). get_or (record_words (publication_of t)) t.stored 0) is in
    let told : StoresWord a.mark w a.stored n =
    subst (λ (v : Knowledge). StoresWord v w a.stored n) c.requires.mark
    (subst (λ j. StoresWord c.args.seat.now.knows w j n) (stored at) c.store_record_word.ensures.stored) in
    let after = IsAppendingSo-word b a w n (book at) left (before at) word told in
    subst (λ (s : SeatTerms). IsAppendingSo (record { start = c.self.inside.start.value.knows; mark = s.knows; rec = c.self.inside.rec; stored = c.self.inside.stored + 1 }))
    (sym c.of.ensures) (subst (λ (t : AppendingTerms). IsAppendingSo (appending_after t w)) (sym is) after)

-- all words are stored
all : (c : After-publish) → c.args.self.now.stored ≡ record_width c.args.board.now.book
all c =
    let at = (goal.at.After-publish c).After-processes in
    omega (arith, c.if-self-processes.false, width at, stored at, c.requires.left)

-- the record is published
published : (c : After-publish)
    → Publishes c.args.board.now.book c.args.self.now.mark c.publish.new.seat.knows (publication_of c.args.self.now)
published c =
    let b : BookTerms = c.args.board.now.book in
    let at = (goal.at.After-publish c).After-processes in
    let a : AppendingTerms = c.args.self.now in
    let may = subst (λ (v : Knowledge). MayPublish b v (publication_of a)) (sym c.requires.mark) (MayPublish-IsAppendingSo b a (book at) (all c) (before at)) in
    subst (λ (v : Knowledge). Publishes b v c.publish.new.seat.knows (publication_of a)) c.requires.mark (c.publish.ensures.published (publication_of a) may)

pub invariant_of-self-else-self-processes : goal.invariant_of-self-else-self-processes
invariant_of-self-else-self-processes c =
    let b : BookTerms = c.args.board.now.book in
    let done = (goal.at.invariant_of-self-else-self-processes c).After-publish in
    let at = (goal.at.After-publish done).After-processes in
    let a : AppendingTerms = c.args.self.now in
    let w : Knowledge = c.publish.new.seat.knows in
    let after = IsAppendingSo-published b a w (publication_of a) (book at) (all done) (before at) (published done) in
    subst (λ (s : SeatTerms). IsAppendingSo (record { start = c.self.inside.start.value.knows; mark = s.knows; rec = c.self.inside.rec; stored = c.self.inside.stored + 1 }))
    (sym c.of-else-self-processes.ensures) (subst (λ (t : AppendingTerms). IsAppendingSo (appending_after t w)) (sym c.self.view_is) after)

-- as if by one step
from_start : (c : After-publish)
    → Publishes c.args.board.now.book c.args.self.now.start c.publish.new.seat.knows (publication_of c.args.self.now)
from_start c =
    let at = (goal.at.After-publish c).After-processes in
    Publishes-IsAppendingSo c.args.board.now.book c.args.self.now c.publish.new.seat.knows (book at) (all c) (before at) (published c)

pub returns-else-self-processes-clause-ends : goal.returns-else-self-processes-clause-ends
returns-else-self-processes-clause-ends c = (
  λ is. all (goal.at.returns-else-self-processes-clause-ends c).After-publish,
  λ full. refl,
)

pub returns-else-self-processes-clause-publishes : goal.returns-else-self-processes-clause-publishes
returns-else-self-processes-clause-publishes c = λ is. published (goal.at.returns-else-self-processes-clause-publishes c).After-publish

pub returns-else-self-processes-clause-published : goal.returns-else-self-processes-clause-published
returns-else-self-processes-clause-published c = λ is. from_start (goal.at.returns-else-self-processes-clause-published c).After-publish

pub returns-else-self-processes-clause-last : goal.returns-else-self-processes-clause-last
returns-else-self-processes-clause-last c = λ is.
    let done = (goal.at.returns-else-self-processes-clause-last c).After-publish in
    IsLast-IsAppendingSo c.args.board.now.book c.args.self.now c.publish.new.seat.knows (before (goal.at.After-publish done).After-processes) (from_start done)

pub returns-else-self-processes-clause-board : goal.returns-else-self-processes-clause-board
returns-else-self-processes-clause-board c =
    let done = (goal.at.returns-else-self-processes-clause-board c).After-publish in
    record {
      id = c.publish.ensures.board ∙ c.requires.board.id;
      book = ap (λ (v : Knowledge). v.book) (published done).same ∙ book (goal.at.After-publish done).After-processes;
    }

pub returns-then-self-processes-clause-word : goal.returns-then-self-processes-clause-word
returns-then-self-processes-clause-word c = grind (arith, common_steps)

pub returns-else-self-processes-clause-after : goal.returns-else-self-processes-clause-after
returns-else-self-processes-clause-after c = grind (arith, common_steps)

pub store_record_word-requires-clause-word : goal.store_record_word-requires-clause-word
store_record_word-requires-clause-word c = grind (arith, common_steps)

pub returns-then-self-processes-clause-published : goal.returns-then-self-processes-clause-published
returns-then-self-processes-clause-published c = grind (arith, common_steps)

pub returns-then-self-processes-clause-publishes : goal.returns-then-self-processes-clause-publishes
returns-then-self-processes-clause-publishes c = grind (arith, common_steps)

pub overflow_add-self : goal.overflow_add-self
overflow_add-self c = grind (arith, common_steps)

pub overflow_add-self-else-self-processes : goal.overflow_add-self-else-self-processes
overflow_add-self-else-self-processes c = grind (arith, common_steps)

pub returns-then-self-processes-clause-ends : goal.returns-then-self-processes-clause-ends
returns-then-self-processes-clause-ends c = grind (arith, common_steps)

pub returns-then-self-processes-clause-after : goal.returns-then-self-processes-clause-after
returns-then-self-processes-clause-after c = grind (arith, common_steps)

pub overflow_add-processes : goal.overflow_add-processes
overflow_add-processes c = grind (arith, common_steps)

pub returns-else-self-processes-clause-word : goal.returns-else-self-processes-clause-word
returns-else-self-processes-clause-word c = grind (arith, common_steps)
