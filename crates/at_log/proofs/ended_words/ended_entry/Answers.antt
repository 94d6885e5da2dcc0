use Rattle.std.proofs.Common.{◌≡◌, [], get_or, ap, ◌∙◌, arith}
use Rattle.at_log.proofs.Prelude.{same_number_lists, get_or_append_left, publication_at, publications_of, Publication, records_of, entry_words, record_words, RECORD_WORDS}
use Rattle.at_log.proofs.Laws.EndedRecords.{get_or-records_of, length-records_of}
use Rattle.at_log.proofs.ended_words.ended_entry.Goals as goal

pub returns : goal.returns
returns c seats ended =
    let x : Publication = publication_at (publications_of c.args.p ended.state.published) c.args.i in
    let words : get_or (records_of c.args.end.now c.args.p) c.args.i [] ≡ record_words x =
    get_or-records_of c.args.end.now seats c.args.p c.args.i ended c.requires.process c.requires.record in
    let all : c.loop-j.j ≡ RECORD_WORDS = omega (arith, c.loop-j-test.false, c.loop-j.auto.j-end) in
    let same : c.loop-j.words ≡ entry_words x.entry = same_number_lists c.loop-j.words (entry_words x.entry) c.loop-j.invariant.sized (λ k within.
    c.loop-j.invariant.read k (omega (arith, within, c.loop-j.invariant.sized, all))
    ∙ (ap (λ ws. get_or ws k 0) words ∙ get_or_append_left (entry_words x.entry) x.view 0 k (omega (arith, within, c.loop-j.invariant.sized)))) in
    c.entry_of.ensures x.entry
    (ended.forms c.args.p c.args.i (omega (arith, c.requires.record, length-records_of c.args.end.now seats c.args.p ended c.requires.process)))
    same
