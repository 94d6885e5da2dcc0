use Rattle.std.proofs.Common.{◌≡◌, ◌+◌, ◌^◌, ◌<◌, length, get_or, ap, sym, subst, ◌∙◌, arith}
use Rattle.at_machines.proofs.Prelude.{length-set, IsRecordWord, RecordWordTerms, RECORD_WORDS, small-IsRecordWord, IsLoadingSo, LoadingTerms, loading_with}
use Rattle.at_machines.proofs.LoadingLaws.{AreRecordWords, AreRecordWords-more, IsRecordWord-IsLoadingSo, IsViewOf-AreRecordWords}
use Rattle.at_machines.proofs.loading_view.LoadingView.view.Goals.{After-value}
use Rattle.at_machines.proofs.loading_view.LoadingView.view.Goals as goal

-- the count of a process is its word of the view
word : (c : After-value)
    → IsRecordWord c.args.self.now.knows c.args.self.now.process c.args.self.now.number (RECORD_WORDS + c.loop-q.q) c.value.result
word c =
    let i = c.self.inside in
    let q = c.loop-q.q in
    let l : LoadingTerms = loading_with i.seat.value.knows i.process i.number i.words.items in
    let w : RecordWordTerms = c.index-deref-q.result in
    let below : q < length i.words.items =
    omega (arith, c.loop-q-test.true, c.self.invariant.0, c.requires.whole, ap (λ (t : LoadingTerms). t.loaded) c.self.view_is, ap (λ (t : LoadingTerms). t.knows.book.processes) c.self.view_is) in
    subst (λ (t : LoadingTerms). IsRecordWord t.knows t.process t.number (RECORD_WORDS + q) c.value.result) c.self.view_is
    (c.value.ensures ∙ IsRecordWord-IsLoadingSo l RECORD_WORDS q w below c.self.invariant.1 (c.index-deref-q.is ∙ ap (λ ws. get_or ws q w) c.deref.ensures.0))

-- a count of a view is that of few records
small : (c : After-value) → c.value.result < 2 ^ 16
small c =
    let t : LoadingTerms = c.args.self.now in
    let so : IsLoadingSo t RECORD_WORDS = subst (λ (s : LoadingTerms). IsLoadingSo s RECORD_WORDS) c.self.view_is c.self.invariant.1 in
    let known : c.loop-q.q < t.knows.book.processes =
    omega (arith, c.loop-q-test.true, c.self.invariant.0, ap (λ (s : LoadingTerms). s.knows.book.processes) c.self.view_is) in
    small-IsRecordWord t.knows.book t.knows t.process t.number c.loop-q.q c.value.result c.requires.seat.book.begun c.requires.seat.history so.record_seen known (word c)

pub overflow_cast-value : goal.overflow_cast-value
overflow_cast-value c = omega (arith, small (goal.at.overflow_cast-value c).After-value)

pub set-requires-clause-small : goal.set-requires-clause-small
set-requires-clause-small c = small (goal.at.set-requires-clause-small c).After-value

pub loop-q-preserved : goal.loop-q-preserved
loop-q-preserved c =
    let t : LoadingTerms = c.args.self.now in
    let q = c.loop-q.q in
    let inside : q < length c.loop-q.view =
    omega (arith, c.loop-q-test.true, c.self.invariant.0, ap (λ (s : LoadingTerms). s.knows.book.processes) c.self.view_is, c.loop-q.invariant.sized) in
    record {
      sized = ap length c.set.ensures ∙ (length-set c.loop-q.view q c.value.result ∙ c.loop-q.invariant.sized);
      are = subst (λ counts. AreRecordWords t.knows t.process t.number RECORD_WORDS counts (q + 1)) (sym c.set.ensures)
          (AreRecordWords-more t.knows t.process t.number RECORD_WORDS c.loop-q.view q c.value.result inside c.loop-q.invariant.are (word (goal.at.loop-q-preserved c).After-value));
    }

pub returns : goal.returns
returns c =
    let t : LoadingTerms = c.args.self.now in
    let so : IsLoadingSo t RECORD_WORDS = subst (λ (s : LoadingTerms). IsLoadingSo s RECORD_WORDS) c.self.view_is c.self.invariant.1 in
    let all : c.loop-q.q ≡ t.knows.book.processes =
    omega (arith, c.loop-q-test.false, c.loop-q.auto.q-end, c.self.invariant.0, ap (λ (s : LoadingTerms). s.knows.book.processes) c.self.view_is) in
    IsViewOf-AreRecordWords t.knows t.process t.number c.loop-q.view c.loop-q.q c.requires.seat so.record_seen c.loop-q.invariant.sized all c.loop-q.invariant.are
