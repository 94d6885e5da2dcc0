use Rattle.std.proofs.Common.{◌≡◌, ℕ, ◌<◌, length, get_or, map, sym, ap, subst, ◌∙◌, arith}
use Rattle.at_board.proofs.Prelude.{range_with_len, length-map-range_with_len, slots_counts, slots_items, BookTerms, log_room_of-le, EndTerms, records_in, records_of, length_of, record_width, record_word, word_at}
use Rattle.at_board.proofs.EndLaws.Closed.{records_of-end_of}
use Rattle.at_board.proofs.EndLaws.Reading.{get_or-get_elem}
use Rattle.at_board.proofs.WordLaws.Addresses.{index_of-below}
use Rattle.at_board.proofs.StepLaws.Table.{index_of-length_of}
use Rattle.at_board.proofs.board_end.BoardEnd.length.Goals.{After-word}
use Rattle.at_board.proofs.board_end.BoardEnd.length.Goals as goal

pub word-requires : goal.word-requires
word-requires c =
    let b : BookTerms = c.self.inside.book in
    let known : c.args.p < b.processes = subst (λ (t : EndTerms). c.args.p < t.book.processes) (sym c.self.view_is) c.requires in (
      omega (
        arith,
        (slots_counts c.self.inside.table.words).0,
        c.self.invariant.0.sized,
        index_of-below b (length_of c.args.p) known,
        index_of-length_of b c.args.p,
      ),
      c.self.invariant.2,
    )

known : (c : After-word) → c.args.p < c.self.inside.book.processes
known c = subst (λ (t : EndTerms). c.args.p < t.book.processes) (sym c.self.view_is) c.requires

-- the word that was read is the process's length
read : (c : After-word) → c.word.result ≡ word_at c.self.inside.book (slots_items c.self.inside.table.words) (length_of c.args.p)
read c =
    let b : BookTerms = c.self.inside.book in
    let p = c.args.p in
    let items = slots_items c.self.inside.table.words in
    sym (get_or-get_elem items p c.word.result 0 c.word.ensures) ∙ ap (λ n. get_or items n 0) (sym (index_of-length_of b p))

pub overflow_cast-result : goal.overflow_cast-result
overflow_cast-result c =
    let b : BookTerms = c.self.inside.book in
    let p = c.args.p in
    let before : After-word = (goal.at.overflow_cast-result c).After-word in
    omega (arith, read before, c.self.invariant.0.room p (known before), log_room_of-le b p c.self.invariant.0.book.begun)

pub returns : goal.returns
returns c =
    let b : BookTerms = c.self.inside.book in
    let p = c.args.p in
    let words = slots_items c.self.inside.table.words in
    let of_record = λ (i : ℕ). map (λ j. word_at b words (record_word p i j)) (range_with_len 0 (record_width b)) in
    let here : c.word.result ≡ length (records_in b words p) =
    read (goal.at.returns c).After-word ∙ sym (length-map-range_with_len of_record 0 (word_at b words (length_of p))) in
    here ∙ (ap length (sym (records_of-end_of b words p (known (goal.at.returns c).After-word))) ∙ ap (λ (t : EndTerms). length (records_of t p)) c.self.view_is)
