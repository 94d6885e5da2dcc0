use Rattle.std.proofs.Common.{◌≡◌, get_or, set, sym, ap, subst, ◌∙◌, arith, below_more}
use Rattle.at_log.proofs.Prelude.{same_number_lists, get_or_append_left, get_or-set_other, get_or-set_same, length-set, Publication, Knowledge, publication_at, publications_of, stepped-stepped, IsRecordWord, RecordWordTerms, SeatTerms, entry_words, RECORD_WORDS}
use Rattle.at_log.proofs.load_entry_words.load_entry.Goals as goal

pub loop-j-preserved : goal.loop-j-preserved
loop-j-preserved c =
    let v : Knowledge = c.args.seat.now.knows in
    let p = c.args.p in
    let i = c.args.i in
    let j = c.loop-j.j in
    let w = c.value-in-loop-j.result in
    let word : IsRecordWord v p i j w =
    subst (λ (s : SeatTerms). IsRecordWord s.knows p i j w) c.loop-j.invariant.same (c.value-in-loop-j.ensures ∙ ap (λ (t : RecordWordTerms). t.value) c.load_record_word.ensures.word) in
    record {
      same = c.load_record_word.ensures.same ∙ stepped-stepped c.args.seat.now c.loop-j.seat c.loop-j.j 1 c.loop-j.invariant.same;
      sized = length-set c.loop-j.words j w ∙ c.loop-j.invariant.sized;
      loaded = below_more (λ k. IsRecordWord v p i k (get_or (set c.loop-j.words j w) k 0)) j
          (λ k below. subst (IsRecordWord v p i k) (sym (get_or-set_other c.loop-j.words j k w 0 (omega arith))) (c.loop-j.invariant.loaded k below))
          (subst (IsRecordWord v p i j) (sym (get_or-set_same c.loop-j.words j w 0 (omega (arith, c.loop-j-test.true, c.loop-j.invariant.sized)))) word);
    }

pub returns-clause-entry : goal.returns-clause-entry
returns-clause-entry c =
    let v : Knowledge = c.args.seat.now.knows in
    let x : Publication = publication_at (publications_of c.args.p v.seen) c.args.i in
    let all : c.loop-j.j ≡ RECORD_WORDS = omega (arith, c.loop-j-test.false, c.loop-j.auto.j-end) in
    let same : c.loop-j.words ≡ entry_words x.entry = same_number_lists c.loop-j.words (entry_words x.entry) c.loop-j.invariant.sized (λ k within.
    c.loop-j.invariant.loaded k (omega (arith, within, c.loop-j.invariant.sized, all))
    ∙ get_or_append_left (entry_words x.entry) x.view 0 k (omega (arith, within, c.loop-j.invariant.sized))) in
    c.entry_of.ensures x.entry (c.known-2.ensures.records c.args.p c.args.i c.requires.record) same
