use Rattle.std.proofs.Common.{◌≡◌, List, length, sym, ap, subst, ◌∙◌, arith}
use Rattle.at_board.proofs.Prelude.{common_steps, BookTerms, IsHistory, Publication, IsOverview, TakesIn, seen_alone, learned, Knowledge}
use Rattle.at_board.proofs.StepLaws.Learn.{AreSeen-key, learns}
use Rattle.at_board.proofs.StepLaws.Note.{word_count-some}
use Rattle.at_board.proofs.StepLaws.Overview.{IsOverview-learned, TakesIn-met, sees_alone}
use Rattle.at_board.proofs.board.Board.add_to_overview.Goals.{After-join_seat}
use Rattle.at_board.proofs.board.Board.add_to_overview.Goals as goal

pub meet-requires : goal.meet-requires
meet-requires c =
    let ours = sym (ap (λ t. t.id) c.self.view_is) in record {
      one = ap (λ o. o.board) c.overview.view_is ∙ (c.requires.overview.id ∙ ours);
      other = ap (λ s. s.board) c.seat.view_is ∙ (c.requires.seat.id ∙ ours);
    }

pub split_seat-seen-requires : goal.split_seat-seen-requires
split_seat-seen-requires c =
    let ours = sym (ap (λ t. t.id) c.self.view_is) in (
      ap (λ s. s.table_id) c.meet.ensures.other ∙ (ap (λ s. s.board) c.seat.view_is ∙ (c.requires.seat.id ∙ ours)),
      omega (arith, c.self.invariant.1, word_count-some c.self.inside.layout.book c.self.invariant.2),
      sees_alone c.self.inside.table.shared.key.value c.meet.new.other.id c.meet.new.other.me.0,
    )

pub join_seat-requires : goal.join_seat-requires
join_seat-requires c =
    let ours = sym (ap (λ t. t.id) c.self.view_is) in
    let told = c.split_seat-seen.ensures in (
      ap (λ s. s.table_id) c.meet.ensures.one ∙ (ap (λ o. o.board) c.overview.view_is ∙ (c.requires.overview.id ∙ ours)),
      told.3 ∙ (ap (λ s. s.table_id) c.meet.ensures.other ∙ (ap (λ s. s.board) c.seat.view_is ∙ (c.requires.seat.id ∙ ours))),
      ap (λ m. m.1) told.4,
      omega (arith, c.self.invariant.1, word_count-some c.self.inside.layout.book c.self.invariant.2),
      learns c.self.inside.table.shared.key.value c.meet.new.one.id c.split_seat-seen.result.id c.meet.new.one.me.0 c.split_seat-seen.result.me.0
          (ap (λ m. length m.0.parts) told.4),
    )

-- what the overview then has
learned_is : (c : After-join_seat) → learned c.overview.inside.seat.me.0 (seen_alone c.seat.inside.seat.me.0) ≡ c.join_seat.new.seat.me.0
learned_is c =
    let seen = ap (λ m. m.0) c.split_seat-seen.ensures.4 in
    sym (ap (λ m. m.0) c.join_seat.ensures.2 ∙ (λ t. learned (c.meet.ensures.one t).me.0 (seen t)) ∙ (λ t. learned c.overview.inside.seat.me.0 (seen_alone (c.meet.ensures.other t).me.0)))

-- all that the seat has seen is a history of the board's book
history : (c : After-join_seat) → IsHistory c.args.self.now.book c.seat.inside.seat.me.0.seen
history c =
    let book = ap (λ s. s.knows.book) c.seat.view_is ∙ c.requires.seat.book in
    subst (λ (b : BookTerms). IsHistory b c.seat.inside.seat.me.0.seen) book c.seat.invariant.1.history

-- the book that the overview has is the board's
book : (c : After-join_seat) → c.overview.inside.seat.me.0.book ≡ c.args.self.now.book
book c = ap (λ o. o.book) c.overview.view_is ∙ c.requires.overview.book

pub invariant_of-overview : goal.invariant_of-overview
invariant_of-overview c =
    let after : After-join_seat = (goal.at.invariant_of-overview c).After-join_seat in
    let o : Knowledge = c.overview.inside.seat.me.0 in
    let v : Knowledge = c.seat.inside.seat.me.0 in
    let theirs : IsHistory o.book v.seen = subst (λ (b : BookTerms). IsHistory b v.seen) (sym (book after)) (history after) in (
      ap (λ m. m.1) c.join_seat.ensures.2 ∙ (ap (λ s. s.me.1) c.meet.ensures.one ∙ c.overview.invariant.0),
      subst IsOverview (learned_is after) (IsOverview-learned o v c.overview.invariant.1 theirs),
    )

pub invariant_of-seat : goal.invariant_of-seat
invariant_of-seat c = grind (arith, common_steps)

pub returns-clause-added : goal.returns-clause-added
returns-clause-added c =
    let after : After-join_seat = (goal.at.returns-clause-added c).After-join_seat in
    let b : BookTerms = c.args.self.now.book in
    let o : Knowledge = c.overview.inside.seat.me.0 in
    let v : Knowledge = c.seat.inside.seat.me.0 in
    let mine : IsHistory b o.seen = subst (λ (x : BookTerms). IsHistory x o.seen) (book after) c.overview.invariant.1.note.history in
    let met = AreSeen-key c.self.inside.table.shared.key.value b c.overview.inside.seat.id c.seat.inside.seat.id o v (c.self.invariant.0 ∙ ap (λ t. t.book) c.self.view_is)
    c.meet.ensures.seen in
    let taken = TakesIn-met b c.overview.inside.seat.id c.seat.inside.seat.id o v (omega (arith, c.seat.invariant.1.one_part)) mine (history after) met in
    subst (λ (t : Knowledge). TakesIn b c.args.overview.now.seen t c.join_seat.new.seat.me.0.seen) (ap (λ s. s.knows) c.seat.view_is)
    (subst (λ (xs : List Publication). TakesIn b xs v c.join_seat.new.seat.me.0.seen) (ap (λ s. s.seen) c.overview.view_is)
    (subst (λ (t : Knowledge). TakesIn b o.seen v t.seen) (learned_is after) taken))

pub returns-clause-overview : goal.returns-clause-overview
returns-clause-overview c =
    let after : After-join_seat = (goal.at.returns-clause-overview c).After-join_seat in
    record {
      id = c.join_seat.ensures.0 ∙ (ap (λ s. s.table_id) c.meet.ensures.one ∙ (ap (λ o. o.board) c.overview.view_is ∙ c.requires.overview.id));
      book = ap (λ (t : Knowledge). t.book) (sym (learned_is after)) ∙ book after;
    }

pub returns-clause-same : goal.returns-clause-same
returns-clause-same c = grind (arith, common_steps)
