use Rattle.std.proofs.Common.{◌≡◌, ℕ, ◌≤◌, List, length, get_or, Some, sum, sym, ap, subst, ◌∙◌, arith}
use Rattle.at_payments.proofs.Prelude.{BookTerms, HasSlot, account_of, slot_in, AreTargetsOn, place, Announces, Knowledge, HasAccount, MayAskFor, asked_for, opened, OpenRequest, HelpingTerms, HasStarted, IsHelping, StartsBy}
use Rattle.at_payments.proofs.SharedLaws.Started.{HasStarted-StartsBy, IsHelping-StartsBy, Keeps-StartsBy, Keeps-StartsBy-look, MayAskFor-IsSnapshot, number-StartsBy, own_counted-StartsBy, place-IsSnapshot-le, since-StartsBy}
use Rattle.at_payments.proofs.SharedLaws.Starting.{Keeps, Keeps-HasLoaded, same_some}
use Rattle.at_payments.proofs.helping.Helping.start.Goals.{After-known, After-look-cut, After-len-count, After-unwrap-slot, After-ask-number, After-collect_rows-asked}
use Rattle.at_payments.proofs.helping.Helping.start.Goals as goal

-- the seat has something on the account
has_account : (c : After-look-cut) → HasAccount c.args.seat.now.knows c.args.account
has_account c =
    let seat = c.known.ensures.seat in
    let same = ap (λ (t : BookTerms). length t.accounts) c.requires.seat.book in
    record { part = omega (arith, seat.one_part); inside = omega (arith, seat.accounts, c.requires.asks.1.slot_in.account_in, same) }

-- the snapshot changes neither what the part has on the account nor anything else of it but its loads
kept_look : (c : After-look-cut) → Keeps c.args.seat.now.knows c.look-cut.new.seat.knows
kept_look c =
    Keeps-HasLoaded c.args.board.now.book c.args.seat.now.knows c.look-cut.new.seat.knows (has_account c).part c.look-cut.ensures.looked.loads

-- the cut is a part of what is seen
place_within : (c : After-look-cut) → place c.look-cut.result ≤ length c.look-cut.new.seat.knows.seen
place_within c =
    place-IsSnapshot-le c.args.board.now.book c.args.seat.now.knows c.look-cut.new.seat.knows c.look-cut.result c.look-cut.ensures.looked.snapshot
    c.look-cut.ensures.looked.loads

-- the slot is the process's
has_slot : (c : After-unwrap-slot) → HasSlot c.args.board.now.book c.look-cut.new.seat.knows.first c.args.account c.unwrap-slot.result
has_slot c =
    let b : BookTerms = c.args.board.now.book in
    let v : Knowledge = c.args.seat.now.knows in
    let w : Knowledge = c.look-cut.new.seat.knows in
    let slot_of = c.requires.asks.1.slot_in in
    let first : w.first ≡ v.first = (kept_look (goal.at.After-unwrap-slot c).After-look-cut).first in
    let found : slot_in (account_of b c.args.account) w.first ≡ Some c.unwrap-slot.result =
    ap (λ (t : BookTerms). slot_in (account_of t c.args.account) w.first) (sym c.book-2.ensures)
    ∙ (ap (slot_in (account_of c.book-2.result.now c.args.account)) (sym c.process.ensures.process) ∙ (sym c.slot_of.ensures.slot ∙ c.unwrap-slot.ensures)) in
    let same : c.unwrap-slot.result ≡ c.requires.asks.0 =
    same_some c.unwrap-slot.result c.requires.asks.0 (sym found ∙ (ap (slot_in (account_of b c.args.account)) first ∙ slot_of.owner)) in
    record { account_in = slot_of.account_in; within = omega (arith, same, slot_of.within); owner = found }

pub sum-since-requires : goal.sum-since-requires
sum-since-requires c =
    let before : After-look-cut = (goal.at.sum-since-requires c).After-look-cut in
    omega (arith, place_within before, c.look-cut.ensures.looked.loads.history.few)

pub ask-number-requires-clause-request : goal.ask-number-requires-clause-request
ask-number-requires-clause-request c =
    let before : After-look-cut = (goal.at.ask-number-requires-clause-request c).After-look-cut in
    let b : BookTerms = c.args.board.now.book in
    let v : Knowledge = c.args.seat.now.knows in
    let w : Knowledge = c.look-cut.new.seat.knows in
    let a = c.args.account in
    let slot = c.unwrap-slot.result in
    let has = has_slot (goal.at.ask-number-requires-clause-request c).After-unwrap-slot in
    let looked = c.look-cut.ensures.looked in (
      slot,
      subst (λ k. MayAskFor b w a slot (asked_for c.copy-targets.result k)) (sym c.sum-since.ensures)
          (MayAskFor-IsSnapshot b v w a slot c.copy-targets.result c.look-cut.result (has_account before) looked.snapshot looked.loads
          (record {
            slot_in = subst (λ p. HasSlot b p a slot) (kept_look before).first has;
            room = c.requires.asks.1.room;
          })
          c.requires.settled
          (record {
            some = c.len-count.ensures.some;
            few = c.len-count.ensures.few;
            accounts = subst (AreTargetsOn (length b.accounts)) (sym c.copy-targets.ensures) c.requires.targets;
          })),
    )

pub collect_rows-asked-requires-clause-own : goal.collect_rows-asked-requires-clause-own
collect_rows-asked-requires-clause-own c =
    c.ask-number.ensures.own c.unwrap-slot.result (has_slot (goal.at.collect_rows-asked-requires-clause-own c).After-unwrap-slot)

-- what was known before
abbrev to_look : After-ask-number → After-look-cut
to_look c = (goal.at.After-ask-number c).After-look-cut

abbrev to_ask : After-collect_rows-asked → After-ask-number
to_ask c = (goal.at.After-collect_rows-asked c).After-ask-number

-- what asking changes
told_ask : (c : After-ask-number) → Announces c.args.board.now.book c.look-cut.new.seat.knows c.ask-number.new.seat.knows c.args.account
    c.unwrap-slot.result (asked_for c.copy-targets.result c.sum-since.result)
told_ask c = c.ask-number.ensures.announced c.unwrap-slot.result (has_slot (goal.at.After-ask-number c).After-unwrap-slot)

-- the own request
abbrev own_of : After-ask-number → OpenRequest
own_of c = opened c.unwrap-slot.result c.ask-number.result c.copy-targets.result c.sum-since.result

-- the parts of the start
parts : (c : After-collect_rows-asked) → StartsBy c.args.board.now.book c.args.seat.now.knows c.collect_rows-asked.new.seat.knows
    c.args.account (own_of (to_ask c)) c.collect_rows-asked.result
parts c =
    let looked = c.look-cut.ensures.looked in
    record {
      cut = c.look-cut.result;
      looked = c.look-cut.new.seat.knows;
      snapshot = looked.snapshot;
      loads = looked.loads;
      since = c.sum-since.ensures;
      number = c.ask-number.ensures.number;
      asked = c.ask-number.new.seat.knows;
      announced = told_ask (to_ask c);
      nothing = c.ask-number.ensures.nothing;
      rows = c.collect_rows-asked.ensures.rows;
      candidates = c.collect_rows-asked.ensures.candidates;
      collected = c.collect_rows-asked.ensures.collected;
      last = c.collect_rows-asked.ensures.own;
    }

kept : (c : After-collect_rows-asked) → Keeps c.args.seat.now.knows c.collect_rows-asked.new.seat.knows
kept c =
    Keeps-StartsBy c.args.board.now.book c.args.seat.now.knows c.collect_rows-asked.new.seat.knows c.args.account (own_of (to_ask c)) c.collect_rows-asked.result
    (parts c) (has_account (to_look (to_ask c)))

pub returns-clause-started : goal.returns-clause-started
returns-clause-started c =
    let collected : After-collect_rows-asked = (goal.at.returns-clause-started c).After-collect_rows-asked in
    let b : BookTerms = c.args.board.now.book in
    let v : Knowledge = c.args.seat.now.knows in
    let z : Knowledge = c.collect_rows-asked.new.seat.knows in
    subst (HasStarted b v z) (sym c.of.ensures)
    (HasStarted-StartsBy b v z c.args.account (own_of (to_ask collected)) c.collect_rows-asked.result (parts collected)
    (has_account (to_look (to_ask collected))))

pub returns-clause-helping : goal.returns-clause-helping
returns-clause-helping c =
    let collected : After-collect_rows-asked = (goal.at.returns-clause-helping c).After-collect_rows-asked in
    let b : BookTerms = c.args.board.now.book in
    let v : Knowledge = c.args.seat.now.knows in
    let z : Knowledge = c.collect_rows-asked.new.seat.knows in
    let a = c.args.account in
    let own : OpenRequest = own_of (to_ask collected) in
    let by = parts collected in
    let has = has_account (to_look (to_ask collected)) in
    subst (IsHelping b z) (sym c.of.ensures)
    (IsHelping-StartsBy b v z a own c.collect_rows-asked.result by has
    (omega (arith, number-StartsBy b v z a own c.collect_rows-asked.result by has, c.requires.asks.1.room)) c.requires.free)

pub returns-clause-number : goal.returns-clause-number
returns-clause-number c =
    let collected : After-collect_rows-asked = (goal.at.returns-clause-number c).After-collect_rows-asked in
    let b : BookTerms = c.args.board.now.book in
    let v : Knowledge = c.args.seat.now.knows in
    let z : Knowledge = c.collect_rows-asked.new.seat.knows in
    let own : OpenRequest = own_of (to_ask collected) in
    ap (λ (h : HelpingTerms). h.own.number) c.of.ensures ∙ number-StartsBy b v z c.args.account own c.collect_rows-asked.result (parts collected) (has_account (to_look (to_ask collected)))

pub returns-clause-since : goal.returns-clause-since
returns-clause-since c =
    let collected : After-collect_rows-asked = (goal.at.returns-clause-since c).After-collect_rows-asked in
    let b : BookTerms = c.args.board.now.book in
    let v : Knowledge = c.args.seat.now.knows in
    let z : Knowledge = c.collect_rows-asked.new.seat.knows in
    let own : OpenRequest = own_of (to_ask collected) in
    omega (
      arith,
      since-StartsBy b v z c.args.account own c.collect_rows-asked.result (parts collected) (has_account (to_look (to_ask collected))),
      ap (λ (h : HelpingTerms). h.own.since) c.of.ensures,
    )

pub returns-clause-begins : goal.returns-clause-begins
returns-clause-begins c = (kept (goal.at.returns-clause-begins c).After-collect_rows-asked).more

pub returns-clause-process : goal.returns-clause-process
returns-clause-process c = (kept (goal.at.returns-clause-process c).After-collect_rows-asked).first

pub returns-clause-decides : goal.returns-clause-decides
returns-clause-decides c = (kept (goal.at.returns-clause-decides c).After-collect_rows-asked).decides

pub returns-clause-published : goal.returns-clause-published
returns-clause-published c = (kept (goal.at.returns-clause-published c).After-collect_rows-asked).published

pub returns-clause-counted : goal.returns-clause-counted
unfolding parts
returns-clause-counted c =
    let collected : After-collect_rows-asked = (goal.at.returns-clause-counted c).After-collect_rows-asked in
    let b : BookTerms = c.args.board.now.book in
    let v : Knowledge = c.args.seat.now.knows in
    let z : Knowledge = c.collect_rows-asked.new.seat.knows in
    let own : OpenRequest = own_of (to_ask collected) in
    c.look-cut.ensures.looked.counted z.seen (Keeps-StartsBy-look b v z c.args.account own c.collect_rows-asked.result (parts collected) (has_account (to_look (to_ask collected)))).more

pub returns-clause-own_counted : goal.returns-clause-own_counted
unfolding parts
returns-clause-own_counted c =
    let collected : After-collect_rows-asked = (goal.at.returns-clause-own_counted c).After-collect_rows-asked in
    let b : BookTerms = c.args.board.now.book in
    let v : Knowledge = c.args.seat.now.knows in
    let z : Knowledge = c.collect_rows-asked.new.seat.knows in
    let own : OpenRequest = own_of (to_ask collected) in
    ap (λ (upto : List ℕ). get_or upto z.first 0) c.look-cut.ensures.looked.upto
    ∙ own_counted-StartsBy b v z c.args.account own c.collect_rows-asked.result (parts collected) (has_account (to_look (to_ask collected)))

pub returns-clause-steps : goal.returns-clause-steps
returns-clause-steps c =
    let all = kept (goal.at.returns-clause-steps c).After-collect_rows-asked in
    let looked = c.look-cut.ensures.looked in
    let slot = (has_slot (goal.at.returns-clause-steps c).After-unwrap-slot).within in
    omega (
      arith,
      c.look-cut.ensures.steps,
      c.ask-number.ensures.steps,
      c.collect_rows-asked.ensures.most,
      ap sum looked.upto,
      looked.more,
      all.published,
      slot,
    )

pub returns-clause-risen : goal.returns-clause-risen
returns-clause-risen c = omega (arith, c.look-cut.ensures.risen, c.ask-number.ensures.steps, c.collect_rows-asked.ensures.steps)
