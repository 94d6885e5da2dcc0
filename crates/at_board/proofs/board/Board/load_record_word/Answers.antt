use Rattle.std.proofs.Common.{◌≡◌, sym, ap, subst, ◌∙◌, arith}
use Rattle.at_board.proofs.Prelude.{common_steps, IsKept, IsRecordWord, MayLoadWord, Knowledge, IsAddress, index_of, record_word, word_count}
use Rattle.at_board.proofs.KnowledgeLaws.Books.{to_seat}
use Rattle.at_board.proofs.KnowledgeLaws.Kept.{IsKept-IsSeat}
use Rattle.at_board.proofs.WordLaws.Addresses.{index_of-below}
use Rattle.at_board.proofs.KnowledgeLaws.Records.{IsAddress-MayLoadWord}
use Rattle.at_board.proofs.StepLaws.LoadRecordWord.{loads_word_at}
use Rattle.at_board.proofs.board.Board.load_record_word.Goals.{After-self, After-record_index-index}
use Rattle.at_board.proofs.board.Board.load_record_word.Goals as goal

-- the seat is the one that callers see, and the board has the book that the seat knows
mine : (c : After-self) → c.seat.inside.seat.me.0 ≡ c.args.seat.now.knows
mine c = ap (λ s. s.knows) c.seat.view_is

ours : (c : After-self) → c.self.inside.layout.book ≡ c.seat.inside.seat.me.0.book
ours c = ap (λ t. t.book) c.self.view_is ∙ sym (ap (λ (t : Knowledge). t.book) (mine c) ∙ c.requires.board.book)

kept : (c : After-self) → IsKept c.seat.inside.seat.me.0
kept c = IsKept-IsSeat c.seat.inside.seat.me.0 c.seat.inside.process c.seat.inside.published c.seat.invariant.1

may : (c : After-self) → MayLoadWord c.seat.inside.seat.me.0.book c.seat.inside.seat.me.0 c.args.p c.args.i c.args.j
may c =
    to_seat (λ b v. MayLoadWord b v c.args.p c.args.i c.args.j) c.args.self.now.book c.args.seat.now.knows c.seat.inside.seat.me.0 c.requires.board.book (mine c)
    c.requires.record

-- the board has the word
place : (c : After-self) → IsAddress c.seat.inside.seat.me.0.book (record_word c.args.p c.args.i c.args.j)
place c = IsAddress-MayLoadWord c.seat.inside.seat.me.0 c.args.p c.args.i c.args.j (kept c) (may c)

pub record_index-index-requires-clause-place : goal.record_index-index-requires-clause-place
record_index-index-requires-clause-place c = subst (λ t. IsAddress t (record_word c.args.p c.args.i c.args.j)) (sym (ours c)) (place c)

at : (c : After-record_index-index) → c.record_index-index.result ≡ index_of c.seat.inside.seat.me.0.book (record_word c.args.p c.args.i c.args.j)
at c =
    let known : After-self = (goal.at.After-record_index-index c).After-self in
    c.record_index-index.ensures.index ∙ ap (λ t. index_of t (record_word c.args.p c.args.i c.args.j)) (ours known)

pub load-value-requires : goal.load-value-requires
load-value-requires c =
    let indexed : After-record_index-index = (goal.at.load-value-requires c).After-record_index-index in
    let known : After-self = (goal.at.After-record_index-index indexed).After-self in (
      ap (λ s. s.board) c.seat.view_is ∙ (c.requires.board.id ∙ sym (ap (λ t. t.id) c.self.view_is)),
      omega (
        arith,
        c.self.invariant.1,
        ap word_count (ours known),
        at indexed,
        index_of-below c.seat.inside.seat.me.0.book (record_word c.args.p c.args.i c.args.j) (place known),
      ),
      loads_word_at c.self.inside.table.shared.key.value c.self.inside.table.shared.table_id.slots c.seat.inside.seat.id c.seat.inside.seat.me
          c.record_index-index.result (c.self.invariant.0 ∙ ours known),
    )

pub returns-clause-word : goal.returns-clause-word
returns-clause-word c =
    let indexed : After-record_index-index = (goal.at.returns-clause-word c).After-record_index-index in
    let known : After-self = (goal.at.After-record_index-index indexed).After-self in
    let here = place known in
    let told : IsRecordWord c.args.seat.now.knows c.args.p c.args.i c.args.j c.load-value.result =
    subst (λ t. IsRecordWord t c.args.p c.args.i c.args.j c.load-value.result) (mine known)
    (c.load-value.ensures.2.1 c.args.p c.args.i c.args.j here.0 here.2 (may known).seen (at indexed)) in
    grind (told, arith, common_steps)

pub invariant_of-seat : goal.invariant_of-seat
invariant_of-seat c = grind (arith, common_steps)

pub returns-clause-same : goal.returns-clause-same
returns-clause-same c = grind (arith, common_steps)
