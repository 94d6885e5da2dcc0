use Rattle.std.proofs.Common.{◌≡◌, ℕ, ◌+◌, ◌-◌, ◌++◌, List, length, drop, get_or, set, take, sum, refl, sym, ap, subst, ◌∙◌, arith, length-set}
use Rattle.at_logs.proofs.Prelude.{left, left-one_more_of, get_or-less, get_or_read, length-map, moved-same, sum-less, CompactState, IsPayable, Payout, RoomyBacklog, ValidatesFrom, amount_of, backlog_credited, backlog_of, kept_of, room_of, state_of}
unfoldable use Rattle.at_ledger.specs.State.{credited}
use Rattle.at_logs.proofs.StateLaws.{CanMove, HasMoved, IsKept-moved, can_move, rewritten, validated_from, written}
use Rattle.at_logs.proofs.compact.Compact.raise.Goals.{After-index_mut-2, After-self-4-1, After-sum-amount}
use Rattle.at_logs.proofs.compact.Compact.raise.Goals as goal

-- the state that was
abbrev old_of : After-sum-amount → CompactState
old_of c = state_of c.self.inside.book c.self.inside.validated c.self.inside.told c.self.inside.settled.items c.self.inside.balances.items c.self.inside.backlogs.items

pay_of : (c : After-sum-amount) → IsPayable (old_of c) c.args.payout.now
pay_of c = subst (λ (x : CompactState). IsPayable x c.args.payout.now) (sym c.self.view_is) c.requires

can_of : (c : After-sum-amount) → CanMove (old_of c) c.args.payout.now
can_of c = can_move (old_of c) c.args.payout.now c.self.invariant.0 (pay_of c)

pub overflow_cast-amount : goal.overflow_cast-amount
overflow_cast-amount c =
    let at = (goal.at.overflow_cast-amount c).After-sum-amount in
    omega (arith, (can_of at).covered, (can_of at).fits, c.sum-amount.ensures.sum)

-- the balance that was read
was : (c : After-index_mut-2) → c.index_mut-2.result.now ≡ get_or c.self.inside.balances.items c.args.payout.now.from 0
was c =
    let at = (goal.at.After-index_mut-2 c).After-sum-amount in
    get_or_read c.self.inside.balances.items c.args.payout.now.from c.index_mut-2.result.now ((can_of at).from_in) c.index_mut-2.ensures.value 0

pub overflow_sub-index_mut-2 : goal.overflow_sub-index_mut-2
overflow_sub-index_mut-2 c =
    let at = goal.at.overflow_sub-index_mut-2 c in
    omega (arith, was at.After-index_mut-2, (can_of at.After-sum-amount).covered, c.sum-amount.ensures.sum)

pub credit-requires-clause-targets_in : goal.credit-requires-clause-targets_in
credit-requires-clause-targets_in c k d w =
    let at = (goal.at.credit-requires-clause-targets_in c).After-sum-amount in
    omega (
      arith,
      (can_of at).targets k d w,
      ap (λ (l : List ℕ). length l) c.deref_mut.ensures.value,
      length-set c.self.inside.balances.items c.args.payout.now.from (c.index_mut-2.result.now - c.sum-amount.result),
      c.self.invariant.0.balanced,
    )

pub credit-requires-clause-fits : goal.credit-requires-clause-fits
credit-requires-clause-fits c =
    let at = goal.at.credit-requires-clause-fits c in
    let balances : List ℕ = c.self.inside.balances.items in
    let from : ℕ = c.args.payout.now.from in
    omega (
      arith,
      ap sum c.deref_mut.ensures.value,
      ap (λ n. sum (set balances from (n - c.sum-amount.result))) (was at.After-index_mut-2),
      ap (λ n. sum (set balances from (get_or balances from 0 - n))) c.sum-amount.ensures.sum,
      sum-less balances from (amount_of c.args.payout.now.targets) (can_of at.After-sum-amount).from_in (can_of at.After-sum-amount).covered,
      c.self.invariant.0.total,
      c.self.invariant.0.book.total,
    )

pub keep_credits-requires-clause-targets_in : goal.keep_credits-requires-clause-targets_in
keep_credits-requires-clause-targets_in c k d w = (can_of (goal.at.keep_credits-requires-clause-targets_in c).After-sum-amount).targets k d w

pub keep_credits-requires-clause-room : goal.keep_credits-requires-clause-room
keep_credits-requires-clause-room c p known =
    omega (
      arith,
      (can_of (goal.at.keep_credits-requires-clause-room c).After-sum-amount).named p,
      c.self.invariant.1 p known,
      ap (λ (l : List RoomyBacklog). room_of l p) c.deref_mut-2.ensures.value,
    )

-- what is written
abbrev settled_of : After-self-4-1 → List ℕ
settled_of c = set c.self.inside.settled.items c.args.payout.now.from (c.index_mut.result.now - c.sum-amount.result)

unfoldable sums_of : After-self-4-1 → List ℕ
sums_of c =
    take c.self.inside.balances.len
    (c.credit.new.balances
    ++ drop (length c.credit.new.balances) (set c.self.inside.balances.items c.args.payout.now.from (c.index_mut-2.result.now - c.sum-amount.result)))

unfoldable all_of : After-self-4-1 → List RoomyBacklog
all_of c = take c.self.inside.backlogs.len (c.keep_credits.new.backlogs ++ drop (length c.keep_credits.new.backlogs) c.self.inside.backlogs.items)

sums_is : (c : After-self-4-1) → sums_of c ≡ c.credit.new.balances
unfolding sums_of
sums_is c =
    let written_to : List ℕ = set c.self.inside.balances.items c.args.payout.now.from (c.index_mut-2.result.now - c.sum-amount.result) in
    rewritten c.self.inside.balances.len c.credit.new.balances written_to (omega (arith, c.credit.auto.balances, ap (λ (l : List ℕ). length l) c.deref_mut.ensures.value))
    (length-set c.self.inside.balances.items c.args.payout.now.from (c.index_mut-2.result.now - c.sum-amount.result) ∙ sym c.self.inside.balances.ok.0)

all_is : (c : After-self-4-1) → all_of c ≡ c.keep_credits.new.backlogs
unfolding all_of
all_is c =
    written c.self.inside.backlogs.len c.keep_credits.new.backlogs c.self.inside.backlogs.items
    (omega (arith, c.keep_credits.auto.backlogs, ap (λ (l : List RoomyBacklog). length l) c.deref_mut-2.ensures.value)) (sym c.self.inside.backlogs.ok.0)

-- the state that was
abbrev state_at : After-self-4-1 → CompactState
state_at c = state_of c.self.inside.book c.self.inside.validated c.self.inside.told c.self.inside.settled.items c.self.inside.balances.items c.self.inside.backlogs.items

moved_of : (c : After-self-4-1) → IsPayable (state_at c) c.args.payout.now → CanMove (state_at c) c.args.payout.now
    → c.index_mut-2.result.now ≡ get_or c.self.inside.balances.items c.args.payout.now.from 0
    → HasMoved (state_at c) c.args.payout.now c.set.new.self (settled_of c) (sums_of c) (all_of c)
moved_of c pay can was_read =
    let t : Payout = c.args.payout.now in
    let settled : List ℕ = c.self.inside.settled.items in
    let balances : List ℕ = c.self.inside.balances.items in
    let read : c.index_mut.result.now ≡ get_or settled t.from 0 = get_or_read settled t.from c.index_mut.result.now can.from_settled c.index_mut.ensures.value 0 in
    let paid : settled_of c ≡ set settled t.from (get_or settled t.from 0 - amount_of t.targets) =
    ap (λ n. set settled t.from (n - c.sum-amount.result)) read ∙ ap (λ n. set settled t.from (get_or settled t.from 0 - n)) c.sum-amount.ensures.sum in
    record {
      validated = c.set.ensures ∙ ap (λ n. set c.self.inside.validated t.log (n + 1)) c.get-number.ensures;
      settled = λ a known. omega (arith, get_or-less settled t.from (amount_of t.targets) a can.from_settled pay.covers, ap (λ (l : List ℕ). get_or l a 0) paid);
      long = length-set settled t.from (c.index_mut.result.now - c.sum-amount.result);
      balances = sums_is c
          ∙ (c.credit.ensures
          ∙ (ap (λ (l : List ℕ). credited l t.targets) c.deref_mut.ensures.value
          ∙ (ap (λ n. credited (set balances t.from (c.index_mut-2.result.now - n)) t.targets) c.sum-amount.ensures.sum
          ∙ moved-same balances t.from t.from t.targets t.targets c.index_mut-2.result.now refl refl was_read)));
      credited = λ q known.
          ap (λ (l : List RoomyBacklog). backlog_of (kept_of l) q) (all_is c)
          ∙ (c.keep_credits.ensures.kept q known
          ∙ (ap (λ (l : List RoomyBacklog). backlog_credited c.self.inside.book q (backlog_of (kept_of l) q) t.log c.get-number.result t.targets) c.deref_mut-2.ensures.value
          ∙ ap (λ n. backlog_credited c.self.inside.book q (backlog_of (kept_of c.self.inside.backlogs.items) q) t.log n t.targets) c.get-number.ensures));
      many = omega (
        arith,
        length-map (all_of c) (λ (l : RoomyBacklog). l.kept),
        length-map c.self.inside.backlogs.items (λ (l : RoomyBacklog). l.kept),
        ap (λ (l : List RoomyBacklog). length l) (all_is c),
        c.keep_credits.auto.backlogs,
        ap (λ (l : List RoomyBacklog). length l) c.deref_mut-2.ensures.value,
      );
    }

pub invariant_of-self : goal.invariant_of-self
unfolding sums_of all_of
invariant_of-self c =
    let at = goal.at.invariant_of-self c in
    let pay = pay_of at.After-sum-amount in
    IsKept-moved c.self.inside.book c.self.inside.validated c.self.inside.told c.self.inside.settled.items c.self.inside.balances.items c.self.inside.backlogs.items (all_of c) c.args.payout.now
    c.set.new.self (settled_of c) (sums_of c) c.self.invariant pay (moved_of c pay (can_of at.After-sum-amount) (was at.After-index_mut-2)) (λ p known. omega (
      arith,
      ap (λ (l : List RoomyBacklog). room_of l p) (all_is c),
      c.keep_credits.ensures.room p known,
      ap (λ (l : List RoomyBacklog). room_of l p) c.deref_mut-2.ensures.value,
    ))

pub returns-clause-validates : goal.returns-clause-validates
unfolding sums_of all_of
returns-clause-validates c =
    let at = goal.at.returns-clause-validates c in
    let pay = pay_of at.After-sum-amount in
    subst (λ (x : CompactState). ValidatesFrom x (state_of c.self.inside.book c.set.new.self c.self.inside.told (settled_of c) (sums_of c) (all_of c))) c.self.view_is
    (validated_from (state_at c) c.args.payout.now c.set.new.self (settled_of c) (sums_of c) (all_of c) c.self.invariant.0 pay
    (moved_of c pay (can_of at.After-sum-amount) (was at.After-index_mut-2)))

pub returns-clause-fewer : goal.returns-clause-fewer
returns-clause-fewer c =
    let can = can_of (goal.at.returns-clause-fewer c).After-sum-amount in
    omega (
      arith,
      left-one_more_of c.self.inside.validated c.args.payout.now.log (omega (arith, can.log, c.self.invariant.0.counted)) can.validated,
      ap left (c.set.ensures ∙ ap (λ n. set c.self.inside.validated c.args.payout.now.log (n + 1)) c.get-number.ensures),
      ap (λ (x : CompactState). left x.validated) c.self.view_is,
    )
