use Rattle.std.proofs.Common.{◌≡◌, ℕ, ◌<◌, [], List, length, get_or, map, sym, ap, subst, ◌∙◌, arith}
use Rattle.at_board.proofs.Prelude.{range_with_len, get_or-map-range_with_len, length-map-range_with_len, slots_counts, slots_items, BookTerms, EndTerms, HasWords, end_of, records_in, records_of, IsAddress, length_of, record_width, record_word, word_at}
use Rattle.at_board.proofs.EndLaws.Closed.{records_of-end_of}
use Rattle.at_board.proofs.EndLaws.Reading.{get_or-get_elem}
use Rattle.at_board.proofs.WordLaws.Addresses.{index_of-below}
use Rattle.at_board.proofs.board_end.BoardEnd.record_word.Goals as goal

-- the record of a number, as it stands in the words
abbrev record_in : BookTerms → List ℕ → ℕ → ℕ → List ℕ
record_in b words p i = map (λ j. word_at b words (record_word p i j)) (range_with_len 0 (record_width b))

record_below : (b : BookTerms) (words : List ℕ) (p i : ℕ) → i < length (records_in b words p) → i < word_at b words (length_of p)
record_below b words p i below = omega (arith, below, length-map-range_with_len (record_in b words p) 0 (word_at b words (length_of p)))

-- the board has the word
is_place : (b : BookTerms) (words : List ℕ) (e : EndTerms) (p i j : ℕ) → end_of b words ≡ e → HasWords b words
    → p < e.book.processes → i < length (records_of e p) → j < record_width e.book → IsAddress b (record_word p i j)
is_place b words e p i j same has process record_is word_is =
    let known : p < b.processes = subst (λ (t : EndTerms). p < t.book.processes) (sym same) process in
    let within : i < length (records_in b words p) =
    subst (λ rs. i < length rs) (records_of-end_of b words p known) (subst (λ (t : EndTerms). i < length (records_of t p)) (sym same) record_is) in
    (known, omega (arith, record_below b words p i within, has.room p known), subst (λ (t : EndTerms). j < record_width t.book) (sym same) word_is)

pub record_index-requires-clause-place : goal.record_index-requires-clause-place
record_index-requires-clause-place c =
    is_place c.self.inside.book (slots_items c.self.inside.table.words) c.args.self.now c.args.p c.args.i c.args.j c.self.view_is c.self.invariant.0
    c.requires.process c.requires.record c.requires.word

pub word-requires : goal.word-requires
word-requires c =
    let b : BookTerms = c.self.inside.book in
    let words = slots_items c.self.inside.table.words in
    let is = is_place b words c.args.self.now c.args.p c.args.i c.args.j c.self.view_is c.self.invariant.0
    c.requires.process c.requires.record c.requires.word in (
      omega (
        arith,
        (slots_counts c.self.inside.table.words).0,
        c.self.invariant.0.sized,
        c.record_index.ensures,
        index_of-below b (record_word c.args.p c.args.i c.args.j) is,
      ),
      c.self.invariant.2,
    )

pub returns : goal.returns
returns c =
    let b : BookTerms = c.self.inside.book in
    let words = slots_items c.self.inside.table.words in
    let p = c.args.p in
    let i = c.args.i in
    let j = c.args.j in
    let is = is_place b words c.args.self.now p i j c.self.view_is c.self.invariant.0 c.requires.process c.requires.record c.requires.word in
    let read : c.word.result ≡ word_at b words (record_word p i j) =
    sym (get_or-get_elem words c.record_index.result c.word.result 0 c.word.ensures) ∙ ap (λ n. get_or words n 0) c.record_index.ensures in
    let here : records_of (end_of b words) p ≡ records_in b words p = records_of-end_of b words p is.0 in
    let within : i < length (records_in b words p) =
    subst (λ rs. i < length rs) here (subst (λ (t : EndTerms). i < length (records_of t p)) (sym c.self.view_is) c.requires.record) in
    let of_record : get_or (records_in b words p) i [] ≡ record_in b words p i =
    get_or-map-range_with_len (record_in b words p) 0 (word_at b words (length_of p)) i i [] (record_below b words p i within) (omega arith) in
    let of_word : get_or (record_in b words p i) j 0 ≡ word_at b words (record_word p i j) =
    get_or-map-range_with_len (λ k. word_at b words (record_word p i k)) 0 (record_width b) j j 0 is.2 (omega arith) in
    read ∙ (sym (ap (λ rs. get_or (get_or rs i []) j 0) here ∙ (ap (λ xs. get_or xs j 0) of_record ∙ of_word))
    ∙ ap (λ (t : EndTerms). get_or (get_or (records_of t p) i []) j 0) c.self.view_is)
