use Rattle.std.proofs.Common.{◌≡◌, ◌+◌, ◌*◌, List, ◌++◌, length, refl, sym, ap, subst, ◌∙◌, arith}
use Rattle.at_requests.proofs.Prelude.{Contains, option_to_list, slots_of, BookTerms, account_of, own_part, Knowledge, REQUEST_WORDS, IsCollectingRows, row_steps, OpenRequest}
use Rattle.at_requests.proofs.Laws.Accounts.{HasAccount}
use Rattle.at_requests.proofs.Laws.Collecting.{AreBelow-LoadsRow, AreCandidates-IsCollectingRows, CollectsRows-IsCollectingRows, HasAsked-IsCollectingRows, HasLoadedRows-IsCollectingRows, SeesRequest-HasAsked, IsCollectingRows-row, IsCollectingRows-start, steps-IsCollectingRows}
use Rattle.at_requests.proofs.load_rows.collect_rows.Goals.{After-known-2, After-loop-slot}
use Rattle.at_requests.proofs.load_rows.collect_rows.Goals as goal

-- the seat has something on the account
has : (c : After-known-2) → HasAccount c.args.seat.now.knows c.args.account
has c =
    let seat = c.known-2.ensures.seat in
    let same = ap (λ (t : BookTerms). length t.accounts) c.requires.board.book in
    record { part = omega (arith, seat.one_part); inside = omega (arith, seat.accounts, c.requires.own.slot_in.account_in, same) }

-- all slots were visited
visited : (c : After-loop-slot) → c.loop-slot.slot ≡ slots_of (account_of c.args.board.now.book c.args.account)
visited c =
    omega (
      arith,
      c.loop-slot-test.false,
      c.loop-slot.auto.slot-end,
      c.slot_count-slot-end.ensures.count,
      ap (λ (t : BookTerms). slots_of (account_of t c.args.account)) c.book-2.ensures,
    )

pub loop-slot-init : goal.loop-slot-init
loop-slot-init c =
    let v : Knowledge = c.args.seat.now.knows in
    record {
      board = refl;
      made = 0;
      collecting = subst (λ (l : List OpenRequest). IsCollectingRows v v c.args.account c.args.own.now l 0 0) (sym c.empty-asked.ensures)
          (IsCollectingRows-start v c.args.account c.args.own.now (SeesRequest-HasAsked c.args.board.now.book v c.args.account c.args.own.now
          c.requires.board.book v.first (own_part v).published c.known-2.ensures.seat c.requires.own));
      steps = omega arith;
      exchanges = refl;
    }

pub loop-slot-preserved : goal.loop-slot-preserved
loop-slot-preserved c =
    let v : Knowledge = c.args.seat.now.knows in
    let w : Knowledge = c.load_row-found.new.seat.knows in
    let a = c.args.account in
    let own : OpenRequest = c.args.own.now in
    let more = IsCollectingRows-row v c.loop-slot.seat.knows w a own c.loop-slot.asked c.loop-slot.slot c.loop-slot.invariant.made c.load_row-found.result
    (has (goal.at.loop-slot-preserved c).After-known-2) c.loop-slot.invariant.collecting c.load_row-found.ensures.row in
    record {
      board = c.load_row-found.ensures.board.id ∙ sym c.requires.board.id;
      made = c.loop-slot.invariant.made + row_steps own.slot c.loop-slot.slot c.load_row-found.result;
      collecting = subst (λ (l : List OpenRequest). IsCollectingRows v w a own l (c.loop-slot.slot + 1)
          (c.loop-slot.invariant.made + row_steps own.slot c.loop-slot.slot c.load_row-found.result))
          {x = c.loop-slot.asked ++ option_to_list c.load_row-found.result} (sym c.add.ensures) more;
      steps = omega (arith, c.load_row-found.ensures.steps, c.loop-slot.invariant.steps);
      exchanges = c.load_row-found.ensures.exchanges ∙ c.loop-slot.invariant.exchanges;
    }

pub returns-clause-collected : goal.returns-clause-collected
returns-clause-collected c =
    HasLoadedRows-IsCollectingRows c.args.board.now.book c.args.seat.now.knows c.loop-slot.seat.knows c.args.account c.args.own.now c.loop-slot.asked c.loop-slot.slot
    c.loop-slot.invariant.made (has (goal.at.returns-clause-collected c).After-known-2) c.requires.own c.loop-slot.invariant.collecting (visited c)

pub returns-clause-rows : goal.returns-clause-rows
returns-clause-rows c =
    CollectsRows-IsCollectingRows c.args.board.now.book c.args.seat.now.knows c.loop-slot.seat.knows c.args.account c.args.own.now c.loop-slot.asked c.loop-slot.slot
    c.loop-slot.invariant.made c.requires.own c.loop-slot.invariant.collecting (visited c)

pub returns-clause-candidates : goal.returns-clause-candidates
returns-clause-candidates c =
    AreCandidates-IsCollectingRows c.args.board.now.book c.args.seat.now.knows c.loop-slot.seat.knows c.args.account c.args.own.now c.loop-slot.asked c.loop-slot.slot
    c.loop-slot.invariant.made (has (goal.at.returns-clause-candidates c).After-known-2) c.requires.own c.loop-slot.invariant.collecting (visited c)

pub returns-clause-own : goal.returns-clause-own
returns-clause-own c =
    HasAsked-IsCollectingRows c.args.board.now.book c.args.seat.now.knows c.loop-slot.seat.knows c.args.account c.args.own.now c.loop-slot.asked c.loop-slot.slot
    c.loop-slot.invariant.made (has (goal.at.returns-clause-own c).After-known-2) c.requires.own c.loop-slot.invariant.collecting

pub load_row-found-requires-clause-own : goal.load_row-found-requires-clause-own
load_row-found-requires-clause-own c = c.loop-slot.invariant.collecting.own_seen

pub add-requires-clause-above : goal.add-requires-clause-above
add-requires-clause-above c =
    AreBelow-LoadsRow c.loop-slot.seat.knows c.load_row-found.new.seat.knows c.args.account c.loop-slot.slot c.args.own.now c.loop-slot.asked
    c.load_row-found.result c.loop-slot.invariant.collecting.below c.load_row-found.ensures.row

-- in so many steps
made : (c : After-loop-slot) → c.loop-slot.invariant.made + REQUEST_WORDS ≡ slots_of (account_of c.args.board.now.book c.args.account) + REQUEST_WORDS * length c.loop-slot.asked
made c =
    steps-IsCollectingRows c.args.board.now.book c.args.seat.now.knows c.loop-slot.seat.knows c.args.account c.args.own.now c.loop-slot.asked c.loop-slot.slot
    c.loop-slot.invariant.made c.requires.own c.loop-slot.invariant.collecting (visited c)

pub returns-clause-steps : goal.returns-clause-steps
returns-clause-steps c =
    let all = visited (goal.at.returns-clause-steps c).After-loop-slot in
    let some : Contains c.loop-slot.asked c.args.own.now = c.loop-slot.invariant.collecting.own_in (omega (arith, all, c.requires.own.slot_in.within)) in
    omega (arith, made (goal.at.returns-clause-steps c).After-loop-slot, c.loop-slot.invariant.steps, some.1)

pub returns-clause-most : goal.returns-clause-most
returns-clause-most c =
    omega (arith, made (goal.at.returns-clause-most c).After-loop-slot, c.loop-slot.invariant.steps, c.loop-slot.invariant.collecting.few, visited (goal.at.returns-clause-most c).After-loop-slot)
