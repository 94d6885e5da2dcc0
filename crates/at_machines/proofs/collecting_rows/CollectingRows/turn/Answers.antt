use Rattle.std.proofs.Common.{◌≡◌, ◌≢◌, ◌+◌, ◌-◌, ◌*◌, ◌<◌, ◌≤◌, List, true, false, refl, ap, subst, sym, ◌∙◌, arith}
use Rattle.at_machines.proofs.Prelude.{common_steps, slots_of, BookTerms, account_of, Knowledge, REQUEST_WORDS, IsCollectingRows, OpenRequest, CollectingRowsTerms, MakesNextLoad, IsCollectingRowsSo, LoadingRowTerms, MakesLoadOf, row_after, starting_row, nothing, the_view}
use Rattle.at_machines.proofs.CollectingRowsLaws.{HasCollected, HasCollected-IsCollectingRows, IsCollectingRows-IsCollectingRowsSo, IsCollectingRowsSo-more, IsCollectingRowsSo-row, MakesNextLoad-more, MakesNextLoad-row, made-IsCollectingRowsSo}
use Rattle.at_machines.proofs.collecting_rows.CollectingRows.turn.Goals.{After-add, After-replace, After-slot-next, After-start, After-turn}
use Rattle.at_machines.proofs.collecting_rows.CollectingRows.turn.Goals as goal

-- what the seat knew is what the last turn left
known_before : (c : After-turn) → c.args.seat.now.knows ≡ c.self.inside.row.mark
known_before c = c.requires.mark ∙ sym (ap (λ (t : CollectingRowsTerms). t.mark) c.self.view_is)

-- some load of the row is left
left : (c : After-turn) → c.self.inside.row.next ≢ nothing
left c ended = c.requires.left (sym (ap (λ (t : CollectingRowsTerms). t.next) c.self.view_is) ∙ ended)

-- the book stays
book : (c : After-turn) → c.turn.new.seat.knows.book ≡ c.self.inside.row.mark.book
book c = c.turn.ensures.board.book ∙ (sym c.requires.board.book ∙ ap (λ (v : Knowledge). v.book) (known_before c))

start_book : (c : After-turn) → c.self.inside.start.value.knows.book ≡ c.args.board.now.book
start_book c = sym c.self.invariant.book ∙ (sym (book c) ∙ c.turn.ensures.board.book)

-- the load that was made
load : (c : After-turn)
    → MakesLoadOf c.args.board.now.book c.self.inside.row.mark c.turn.new.seat.knows c.self.inside.row.account c.self.inside.row.slot c.self.inside.row.own.slot
    c.self.inside.row.next c.turn.new.self.next
load c = c.turn.ensures.load

pub invariant_of-self : goal.invariant_of-self
invariant_of-self c =
    let at = (goal.at.invariant_of-self c).After-turn in
    let start : Knowledge = c.self.inside.start.value.knows in
    let goes : c.turn.new.self.next ≢ nothing = λ ended. let wrong : false ≡ true = c.in_err-found.ensures.ends.1 ended in absurd (cc wrong) in
    subst (λ (r : LoadingRowTerms). IsCollectingRowsSo start r c.self.inside.asked (c.self.inside.made + 1)) (sym c.turn.ensures.after)
    (IsCollectingRowsSo-more c.args.board.now.book start c.turn.new.seat.knows c.self.inside.row c.self.inside.asked c.self.inside.made c.turn.new.self.next c.self.invariant
    (left at) (book at) goes (load at))

pub returns-in_err-found-clause-load : goal.returns-in_err-found-clause-load
returns-in_err-found-clause-load c =
    let at = (goal.at.returns-in_err-found-clause-load c).After-turn in
    let b : BookTerms = c.args.board.now.book in
    let w : Knowledge = c.turn.new.seat.knows in
    let old : CollectingRowsTerms = the_view c.self.inside in
    let goes : c.turn.new.self.next ≢ nothing = λ ended. let wrong : false ≡ true = c.in_err-found.ensures.ends.1 ended in absurd (cc wrong) in
    let after : LoadingRowTerms → CollectingRowsTerms = λ r. the_view (record {
      asked = c.self.inside.asked;
      row = r;
      made = c.self.inside.made + 1;
      start = c.self.inside.start;
    }) in
    let told : MakesNextLoad b old (after (row_after c.self.inside.row w c.turn.new.self.next)) =
    MakesNextLoad-more b old w c.turn.new.self.next (load at) goes (c.self.invariant.amid (left at)).few in
    subst (λ (t : CollectingRowsTerms). MakesNextLoad b t (after c.turn.new.self)) c.self.view_is
    (subst (λ (r : LoadingRowTerms). MakesNextLoad b old (after r)) (sym c.turn.ensures.after) told)

-- the rows up to this one are whole
whole : (c : After-add)
    → IsCollectingRows c.self.inside.start.value.knows c.turn.new.seat.knows c.self.inside.row.account c.self.inside.row.own c.add.new.self (c.self.inside.row.slot + 1)
    (c.self.inside.made + 1)
whole c =
    let at = (goal.at.After-add c).After-turn in
    let start : Knowledge = c.self.inside.start.value.knows in
    let w : Knowledge = c.turn.new.seat.knows in
    let row : LoadingRowTerms = c.self.inside.row in
    subst (λ (l : List OpenRequest). IsCollectingRows start w row.account row.own l (row.slot + 1) (c.self.inside.made + 1)) (sym c.add.ensures)
    (IsCollectingRows-IsCollectingRowsSo start w row c.self.inside.asked c.self.inside.made c.in_ok-found.found c.self.invariant (left at)
    c.in_ok-found.ensures.row c.in_ok-found.ensures.turns)

-- nothing of the row is left
ended : (c : After-add) → c.turn.new.self.next ≡ nothing
ended c = c.in_ok-found.ensures.ends.0 refl

-- so many slots the account has
slots : (c : After-add) → c.slot_count-slots.result ≡ slots_of (account_of c.args.board.now.book c.self.inside.row.account)
slots c =
    c.slot_count-slots.ensures.count
    ∙ (ap (λ (t : BookTerms). slots_of (account_of t c.account.result)) c.book.ensures
    ∙ ap (λ a. slots_of (account_of c.args.board.now.book a)) c.account.ensures)

-- the slot is that of the row
slot_is : (c : After-slot-next) → c.slot-next.result ≡ c.self.inside.row.slot
slot_is c = c.slot-next.ensures ∙ ap (λ (t : LoadingRowTerms). t.slot) c.turn.ensures.after

-- the row that comes next
start_is : (c : After-start)
    → c.start.result ≡ starting_row c.turn.new.seat.knows c.self.inside.row.account (c.self.inside.row.slot + 1) c.self.inside.row.own
start_is c =
    let w : Knowledge = c.turn.new.seat.knows in
    let after = c.turn.ensures.after in
    let account : c.account-2.result ≡ c.self.inside.row.account = c.account-2.ensures ∙ ap (λ (t : LoadingRowTerms). t.account) after in
    let own : c.own.result ≡ c.self.inside.row.own = c.own.ensures ∙ ap (λ (t : LoadingRowTerms). t.own) after in
    c.start.ensures
    ∙ (ap (λ a. starting_row w a (c.slot-next.result + 1) c.own.result) account
    ∙ (ap (λ s. starting_row w c.self.inside.row.account (s + 1) c.own.result) (slot_is (goal.at.After-start c).After-slot-next)
    ∙ ap (λ (x : OpenRequest). starting_row w c.self.inside.row.account (c.self.inside.row.slot + 1) x) own))

pub invariant_of-self-2 : goal.invariant_of-self-2
invariant_of-self-2 c =
    let last = (goal.at.invariant_of-self-2 c).After-start in
    let next = (goal.at.After-start last).After-slot-next in
    let add = (goal.at.After-slot-next next).After-add in
    let at = (goal.at.After-add add).After-turn in
    let start : Knowledge = c.self.inside.start.value.knows in
    let w : Knowledge = c.turn.new.seat.knows in
    let row : LoadingRowTerms = c.self.inside.row in
    let slot_in : row.slot + 1 < slots_of (account_of start.book row.account) =
    omega (
      arith,
      (c.self.invariant.amid (left at)).slot_in,
      slots add,
      ap (λ (t : BookTerms). slots_of (account_of t row.account)) (start_book at),
      slot_is next,
      c.if-next-slots.false,
    ) in
    subst (λ (r : LoadingRowTerms). IsCollectingRowsSo start r c.add.new.self (c.self.inside.made + 1)) (sym (start_is last))
    (IsCollectingRowsSo-row start w row c.self.inside.asked c.self.inside.made (row.slot + 1) c.add.new.self c.self.invariant (book at) slot_in (whole add))

pub returns-clause-load : goal.returns-clause-load
returns-clause-load c =
    let last = (goal.at.returns-clause-load c).After-start in
    let next = (goal.at.After-start last).After-slot-next in
    let add = (goal.at.After-slot-next next).After-add in
    let at = (goal.at.After-add add).After-turn in
    let b : BookTerms = c.args.board.now.book in
    let w : Knowledge = c.turn.new.seat.knows in
    let row : LoadingRowTerms = c.self.inside.row in
    let old : CollectingRowsTerms = the_view c.self.inside in
    let after : LoadingRowTerms → CollectingRowsTerms = λ r. the_view (record {
      asked = c.add.new.self;
      row = r;
      made = c.self.inside.made + 1;
      start = c.self.inside.start;
    }) in
    let other : row.slot + 1 ≢ slots_of (account_of b row.account) = λ is. absurd (omega (arith, is, slots add, slot_is next, c.if-next-slots.false)) in
    let made : MakesLoadOf b row.mark w row.account row.slot row.own.slot row.next nothing =
    subst (MakesLoadOf b row.mark w row.account row.slot row.own.slot row.next) (ended add) (load at) in
    let told : MakesNextLoad b old (after (starting_row w row.account (row.slot + 1) row.own)) = MakesNextLoad-row b old w (row.slot + 1) made refl other in
    subst (λ (t : CollectingRowsTerms). MakesNextLoad b t (after c.start.result)) c.self.view_is
    (subst (λ (r : LoadingRowTerms). MakesNextLoad b old (after r)) (sym (start_is last)) told)

-- all rows are whole
all : (c : After-replace)
    → HasCollected c.args.board.now.book c.args.self.now.start c.turn.new.seat.knows c.args.self.now.account c.args.self.now.own c.replace.result (c.self.inside.made + 1)
all c =
    let next = (goal.at.After-replace c).After-slot-next in
    let add = (goal.at.After-slot-next next).After-add in
    let at = (goal.at.After-add add).After-turn in
    let b : BookTerms = c.args.board.now.book in
    let start : Knowledge = c.self.inside.start.value.knows in
    let w : Knowledge = c.turn.new.seat.knows in
    let row : LoadingRowTerms = c.self.inside.row in
    let last : row.slot + 1 ≡ slots_of (account_of b row.account) = omega (arith, slots add, slot_is next, c.if-next-slots.true) in
    let told = HasCollected-IsCollectingRows b start w row.account row.own c.add.new.self (row.slot + 1) (c.self.inside.made + 1) (start_book at) c.self.invariant.seat
    c.self.invariant.asked last (whole add) in
    subst (λ (t : CollectingRowsTerms). HasCollected b t.start w t.account t.own c.replace.result (c.self.inside.made + 1)) c.self.view_is
    (subst (λ (l : List OpenRequest). HasCollected b start w row.account row.own l (c.self.inside.made + 1)) (sym c.replace.ensures.value) told)

-- and nothing comes next
pub returns-then-next-slots-clause-load : goal.returns-then-next-slots-clause-load
returns-then-next-slots-clause-load c =
    let replace = (goal.at.returns-then-next-slots-clause-load c).After-replace in
    let next = (goal.at.After-replace replace).After-slot-next in
    let add = (goal.at.After-slot-next next).After-add in
    let at = (goal.at.After-add add).After-turn in
    let b : BookTerms = c.args.board.now.book in
    let w : Knowledge = c.turn.new.seat.knows in
    let row : LoadingRowTerms = c.self.inside.row in
    let old : CollectingRowsTerms = the_view c.self.inside in
    let after : LoadingRowTerms → CollectingRowsTerms = λ r. the_view (record {
      asked = c.add.new.self;
      row = r;
      made = c.self.inside.made + 1;
      start = c.self.inside.start;
    }) in
    let last : row.slot + 1 ≡ slots_of (account_of b row.account) = omega (arith, slots add, slot_is next, c.if-next-slots.true) in
    let told : MakesNextLoad b old (after (row_after row w nothing)) = record {
      row_next = nothing;
      load = subst (MakesLoadOf b row.mark w row.account row.slot row.own.slot row.next) (ended add) (load at);
      goes_on = (λ less. absurd (omega (arith, less, last)), λ is_last. refl);
    } in
    subst (λ (t : CollectingRowsTerms). MakesNextLoad b t (after c.turn.new.self)) c.self.view_is
    (subst (λ (r : LoadingRowTerms). MakesNextLoad b old (after r)) (sym (c.turn.ensures.after ∙ ap (row_after row w) (ended add))) told)

pub returns-then-next-slots-clause-collected : goal.returns-then-next-slots-clause-collected
returns-then-next-slots-clause-collected c = (all c).collected

pub returns-then-next-slots-clause-rows : goal.returns-then-next-slots-clause-rows
returns-then-next-slots-clause-rows c = (all c).rows

pub returns-then-next-slots-clause-candidates : goal.returns-then-next-slots-clause-candidates
returns-then-next-slots-clause-candidates c = (all c).candidates

pub returns-then-next-slots-clause-own : goal.returns-then-next-slots-clause-own
returns-then-next-slots-clause-own c = (all c).own_is

pub returns-then-next-slots-clause-turns : goal.returns-then-next-slots-clause-turns
returns-then-next-slots-clause-turns c = (all c).turns

pub returns-then-next-slots-clause-few : goal.returns-then-next-slots-clause-few
returns-then-next-slots-clause-few c = (all c).few

-- so many turns were made at most
most : (c : After-turn) → c.self.inside.made + 1 ≤ slots_of (account_of c.args.board.now.book c.args.self.now.account)
    + REQUEST_WORDS * (slots_of (account_of c.args.board.now.book c.args.self.now.account) - 1)
most c =
    let made = c.self.inside.made + 1 in
    let told = made-IsCollectingRowsSo c.self.inside.start.value.knows c.self.inside.row c.self.inside.asked c.self.inside.made c.self.invariant (left c) in
    subst (λ (t : CollectingRowsTerms). made ≤ slots_of (account_of c.args.board.now.book t.account)
    + REQUEST_WORDS * (slots_of (account_of c.args.board.now.book t.account) - 1)) c.self.view_is
    (subst (λ (b : BookTerms). made ≤ slots_of (account_of b c.self.inside.row.account) + REQUEST_WORDS * (slots_of (account_of b c.self.inside.row.account) - 1))
    (start_book c) told)

pub returns-in_err-found-clause-most : goal.returns-in_err-found-clause-most
returns-in_err-found-clause-most c = most (goal.at.returns-in_err-found-clause-most c).After-turn

pub returns-then-next-slots-clause-most : goal.returns-then-next-slots-clause-most
returns-then-next-slots-clause-most c =
    let replace = (goal.at.returns-then-next-slots-clause-most c).After-replace in
    let next = (goal.at.After-replace replace).After-slot-next in
    let add = (goal.at.After-slot-next next).After-add in
    most (goal.at.After-add add).After-turn

pub returns-clause-most : goal.returns-clause-most
returns-clause-most c =
    let last = (goal.at.returns-clause-most c).After-start in
    let next = (goal.at.After-start last).After-slot-next in
    let add = (goal.at.After-slot-next next).After-add in
    most (goal.at.After-add add).After-turn

pub start-requires-clause-account : goal.start-requires-clause-account
start-requires-clause-account c = grind (arith, common_steps)

pub returns-clause-after : goal.returns-clause-after
returns-clause-after c = grind (arith, common_steps)

pub returns-then-next-slots-clause-after : goal.returns-then-next-slots-clause-after
returns-then-next-slots-clause-after c = grind (arith, common_steps)

pub invariant_of-self-then-next-slots : goal.invariant_of-self-then-next-slots
invariant_of-self-then-next-slots c = grind (arith, common_steps)

pub returns-in_err-found-clause-candidates : goal.returns-in_err-found-clause-candidates
returns-in_err-found-clause-candidates c = grind (arith, common_steps)

pub returns-in_err-found-clause-few : goal.returns-in_err-found-clause-few
returns-in_err-found-clause-few c = grind (arith, common_steps)

pub returns-in_err-found-clause-own : goal.returns-in_err-found-clause-own
returns-in_err-found-clause-own c = grind (arith, common_steps)

pub overflow_add-next : goal.overflow_add-next
overflow_add-next c = grind (arith, common_steps)

pub returns-in_err-found-clause-turns : goal.returns-in_err-found-clause-turns
returns-in_err-found-clause-turns c = grind (arith, common_steps)

pub turn-requires-clause-mark : goal.turn-requires-clause-mark
turn-requires-clause-mark c = grind (arith, common_steps)

pub returns-in_err-found-clause-collected : goal.returns-in_err-found-clause-collected
returns-in_err-found-clause-collected c = grind (arith, common_steps)

pub add-requires-clause-room : goal.add-requires-clause-room
add-requires-clause-room c = grind (arith, common_steps)

pub returns-in_err-found-clause-after : goal.returns-in_err-found-clause-after
returns-in_err-found-clause-after c = grind (arith, common_steps)

pub returns-in_err-found-clause-rows : goal.returns-in_err-found-clause-rows
returns-in_err-found-clause-rows c = grind (arith, common_steps)
