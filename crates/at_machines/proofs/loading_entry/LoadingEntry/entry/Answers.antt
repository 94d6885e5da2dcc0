use Rattle.std.proofs.Common.{◌≡◌, subst, arith}
use Rattle.at_machines.proofs.Prelude.{publication_at, publications_of, RECORD_WORDS, IsLoadingSo, LoadingTerms}
use Rattle.at_machines.proofs.LoadingLaws.{entry_words-AreRecordWords}
use Rattle.at_machines.proofs.loading_entry.LoadingEntry.entry.Goals as goal

pub returns : goal.returns
returns c =
    let t : LoadingTerms = c.args.self.now in
    let so : IsLoadingSo t 0 = subst (λ (s : LoadingTerms). IsLoadingSo s 0) c.self.view_is c.self.invariant in
    let all : c.loop-j.j ≡ RECORD_WORDS = omega (arith, c.loop-j-test.false, c.loop-j.auto.j-end) in
    c.entry_of.ensures (publication_at (publications_of t.process t.knows.seen) t.number).entry (c.requires.forms t.process t.number so.record_seen)
    (entry_words-AreRecordWords t.knows t.process t.number c.loop-j.values c.loop-j.j c.loop-j.invariant.sized all c.loop-j.invariant.are)
