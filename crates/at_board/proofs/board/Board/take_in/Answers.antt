use Rattle.std.proofs.Common.{◌≡◌, length, sym, ap, subst, ◌∙◌, arith}
use Rattle.at_board.proofs.Prelude.{common_steps, BookTerms, Knowledge, Learns, learned, HasCounts, IsSeat}
use Rattle.at_board.proofs.StepLaws.Learn.{AreSeen-key, HasCounts-learned, IsSeat-learned, Learns-learned, learns}
use Rattle.at_board.proofs.StepLaws.Note.{word_count-some}
use Rattle.at_board.proofs.KnowledgeLaws.Kept.{IsKept-IsSeat}
use Rattle.at_board.proofs.board.Board.take_in.Goals.{After-join_seat}
use Rattle.at_board.proofs.board.Board.take_in.Goals as goal

pub meet-requires : goal.meet-requires
meet-requires c =
    let ours = sym (ap (λ t. t.id) c.self.view_is) in record {
      one = ap (λ s. s.board) c.seat.view_is ∙ (c.requires.board.id ∙ ours);
      other = ap (λ s. s.board) c.note.view_is ∙ (c.requires.note.id ∙ ours);
    }

pub join_seat-requires : goal.join_seat-requires
join_seat-requires c =
    let ours = sym (ap (λ t. t.id) c.self.view_is) in
    let one = c.meet.ensures.one in
    let other = c.meet.ensures.other in (
      ap (λ s. s.table_id) one ∙ (ap (λ s. s.board) c.seat.view_is ∙ (c.requires.board.id ∙ ours)),
      ap (λ s. s.table_id) other ∙ (ap (λ s. s.board) c.note.view_is ∙ (c.requires.note.id ∙ ours)),
      ap (λ s. s.me.1) other ∙ c.note.invariant.0,
      omega (arith, c.self.invariant.1, word_count-some c.self.inside.layout.book c.self.invariant.2),
      learns c.self.inside.table.shared.key.value c.meet.new.one.id c.meet.new.other.id c.meet.new.one.me.0 c.meet.new.other.me.0
          (ap (λ s. length s.me.0.parts) other ∙ c.note.invariant.1.no_part),
    )

-- what the seat has then learned, and what its type keeps
learned_is : (c : After-join_seat) → learned c.seat.inside.seat.me.0 c.note.inside.seat.me.0 ≡ c.join_seat.new.seat.me.0
learned_is c = sym (ap (λ m. m.0) c.join_seat.ensures.2 ∙ (λ t. learned (c.meet.ensures.one t).me.0 (c.meet.ensures.other t).me.0))

seat : (c : After-join_seat) → IsSeat c.join_seat.new.seat.me.0 c.seat.inside.process c.seat.inside.published
seat c =
    let b : BookTerms = c.args.self.now.book in
    let v : Knowledge = c.seat.inside.seat.me.0 in
    let w : Knowledge = c.note.inside.seat.me.0 in
    let book : v.book ≡ b = ap (λ s. s.knows.book) c.seat.view_is ∙ c.requires.board.book in
    let note_book : w.book ≡ b = ap (λ s. s.knows.book) c.note.view_is ∙ c.requires.note.book in
    let met = AreSeen-key c.self.inside.table.shared.key.value b c.seat.inside.seat.id c.note.inside.seat.id v w (c.self.invariant.0 ∙ ap (λ t. t.book) c.self.view_is)
    c.meet.ensures.seen in
    subst (λ t. IsSeat t c.seat.inside.process c.seat.inside.published) (learned_is c)
    (IsSeat-learned b c.seat.inside.seat.id c.note.inside.seat.id v w c.seat.inside.process c.seat.inside.published book note_book c.seat.invariant.1 c.note.invariant.1 met)

pub invariant_of-seat : goal.invariant_of-seat
invariant_of-seat c =
    let after : After-join_seat = (goal.at.invariant_of-seat c).After-join_seat in
    let v : Knowledge = c.seat.inside.seat.me.0 in
    let w : Knowledge = c.note.inside.seat.me.0 in (
      ap (λ m. m.1) c.join_seat.ensures.2 ∙ (ap (λ s. s.me.1) c.meet.ensures.one ∙ c.seat.invariant.0),
      seat after,
      subst (λ t. HasCounts t c.seat.inside.announced.items) (learned_is after) (HasCounts-learned v w c.seat.inside.announced.items c.seat.invariant.2),
    )

pub returns-clause-seat : goal.returns-clause-seat
returns-clause-seat c =
    let after : After-join_seat = (goal.at.returns-clause-seat c).After-join_seat in
    IsKept-IsSeat c.join_seat.new.seat.me.0 c.seat.inside.process c.seat.inside.published (seat after)

pub returns-clause-learned : goal.returns-clause-learned
returns-clause-learned c =
    let b : BookTerms = c.args.self.now.book in
    let v : Knowledge = c.seat.inside.seat.me.0 in
    let w : Knowledge = c.note.inside.seat.me.0 in
    let mine : v ≡ c.args.seat.now.knows = ap (λ s. s.knows) c.seat.view_is in
    let theirs : w ≡ c.args.note.knows = ap (λ s. s.knows) c.note.view_is in
    let book : v.book ≡ b = ap (λ (t : Knowledge). t.book) mine ∙ c.requires.board.book in
    let note_book : w.book ≡ b = ap (λ (t : Knowledge). t.book) theirs ∙ c.requires.note.book in
    let met = AreSeen-key c.self.inside.table.shared.key.value b c.seat.inside.seat.id c.note.inside.seat.id v w (c.self.invariant.0 ∙ ap (λ t. t.book) c.self.view_is)
    c.meet.ensures.seen in
    let after : After-join_seat = (goal.at.returns-clause-learned c).After-join_seat in
    let told = Learns-learned b c.seat.inside.seat.id c.note.inside.seat.id v w c.seat.inside.process c.seat.inside.published book note_book c.seat.invariant.1 c.note.invariant.1 met in
    subst (λ (t : Knowledge). Learns b t c.args.note.knows c.join_seat.new.seat.me.0) mine
    (subst (λ (t : Knowledge). Learns b v t c.join_seat.new.seat.me.0) theirs (subst (Learns b v w) (learned_is after) told))

pub returns-clause-exchanges : goal.returns-clause-exchanges
returns-clause-exchanges c = grind (arith, common_steps)

pub returns-clause-board : goal.returns-clause-board
returns-clause-board c = grind (arith, common_steps)

pub returns-clause-steps : goal.returns-clause-steps
returns-clause-steps c = grind (arith, common_steps)
