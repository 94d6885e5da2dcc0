use Rattle.at_orders.proofs.Prelude.{common_steps, with_items_is, Global, with_items, amount_of, credited, AreKept, Stage}
use Rattle.std.proofs.Common.{◌≡◌, ℕ, ◌-◌, List, length, get_or, set, refl, sym, ap, subst, ◌∙◌, arith}
use Rattle.std.specs.Prelude.{Vec}
use Rattle.at_orders.proofs.Crediting.{amount-few, covered-all, moved-has, standing-moved, taken-few}
use Rattle.at_orders.proofs.stage.Stage.move_amounts.Goals as goal

pub overflow_cast-sum : goal.overflow_cast-sum
overflow_cast-sum c =
    let covered = covered-all c.args.ground.now c.args.self.now c.args.source c.args.targets.now c.requires.standing c.requires.covered in
    let few = amount-few c.args.ground.now c.args.self.now c.args.source (amount_of c.args.targets.now) c.book.ensures.known c.requires.standing c.requires.source_in covered in
    let sum = c.sum.ensures.sum in
    omega (arith, few, sum)

pub debit-requires-clause-covered : goal.debit-requires-clause-covered
debit-requires-clause-covered c =
    let all : List ℕ = c.requires.standing.all in
    let covered = covered-all c.args.ground.now c.args.self.now c.args.source c.args.targets.now c.requires.standing c.requires.covered in
    let sum = c.sum.ensures.sum in
    (all, subst (λ (kept : List ℕ). AreKept c.args.ground.now kept all) (sym c.deref_mut.ensures.value) c.requires.standing.kept, omega (arith, covered, sum))

pub credit-requires-clause-fits : goal.credit-requires-clause-fits
credit-requires-clause-fits c =
    let g = c.args.ground.now in
    let all : List ℕ = c.requires.standing.all in
    let covered = covered-all c.args.ground.now c.args.self.now c.args.source c.args.targets.now c.requires.standing c.requires.covered in
    let left : List ℕ = set all c.args.source (get_or all c.args.source 0 - amount_of c.args.targets.now) in
    let taken = with_items_is c.args.self.now.balances c.debit.new.balances (c.debit.ensures.len ∙ c.deref_mut.ensures.len) in
    let are = subst (λ (n : ℕ). AreKept g c.debit.new.balances (set all c.args.source (get_or all c.args.source 0 - n))) c.sum.ensures.sum
    (c.debit.ensures.debited all (subst (λ (kept : List ℕ). AreKept g kept all) (sym c.deref_mut.ensures.value) c.requires.standing.kept)) in (
      left,
      subst (λ (kept : List ℕ). AreKept g kept left) (sym (c.deref_mut-2.ensures.value ∙ taken)) are,
      taken-few g c.args.self.now c.args.source (amount_of c.args.targets.now) c.book.ensures.known c.requires.standing c.requires.source_in covered,
    )

-- the kept balances once the sum is taken
abbrev taken : goal.After-self-2-1 → Vec ℕ Global
taken c = with_items c.args.self.now.balances c.debit.new.balances

taken-is : (c : goal.After-self-2-1) → (taken c).items ≡ c.debit.new.balances
taken-is c = with_items_is c.args.self.now.balances c.debit.new.balances (c.debit.ensures.len ∙ c.deref_mut.ensures.len)

debited : (c : goal.After-self-2-1) (all : List ℕ) → AreKept c.args.ground.now c.args.self.now.balances.items all
    → AreKept c.args.ground.now c.debit.new.balances (set all c.args.source (get_or all c.args.source 0 - amount_of c.args.targets.now))
debited c all are =
    subst (λ (n : ℕ). AreKept c.args.ground.now c.debit.new.balances (set all c.args.source (get_or all c.args.source 0 - n))) c.sum.ensures.sum
    (c.debit.ensures.debited all (subst (λ (kept : List ℕ). AreKept c.args.ground.now kept all) (sym c.deref_mut.ensures.value) are))

-- the stage that is left
abbrev left : goal.After-self-2-1 → Stage
left c = record { made = c.args.self.now.made; balances = with_items (taken c) c.credit.new.balances; sent = c.args.self.now.sent }

left-is : (c : goal.After-self-2-1) → (left c).balances.items ≡ c.credit.new.balances
left-is c = with_items_is (taken c) c.credit.new.balances (c.credit.ensures.len ∙ c.deref_mut-2.ensures.len)

added : (c : goal.After-self-2-1) (all : List ℕ) → AreKept c.args.ground.now c.debit.new.balances all → AreKept c.args.ground.now (left c).balances.items (credited all c.args.targets.now)
added c all are =
    subst (λ (kept : List ℕ). AreKept c.args.ground.now kept (credited all c.args.targets.now)) (sym (left-is c))
    (c.credit.ensures.credited all (subst (λ (kept : List ℕ). AreKept c.args.ground.now kept all) (sym (c.deref_mut-2.ensures.value ∙ taken-is c)) are))

pub returns-clause-moved : goal.returns-clause-moved
returns-clause-moved c =
    moved-has c.args.ground.now c.args.self.now (left c) c.args.source c.args.targets.now c.debit.new.balances (debited c) (added c) refl refl

pub returns-clause-standing : goal.returns-clause-standing
returns-clause-standing c =
    let sized : length (left c).balances.items ≡ length c.args.ground.now.named =
    ap (length {A = ℕ}) (left-is c) ∙ (c.credit.ensures.len ∙ (ap (length {A = ℕ}) (c.deref_mut-2.ensures.value ∙ taken-is c)
    ∙ (c.debit.ensures.len ∙ (ap (length {A = ℕ}) c.deref_mut.ensures.value ∙ c.requires.standing.balances)))) in
    standing-moved c.args.ground.now c.args.self.now (left c) c.args.source c.args.targets.now c.debit.new.balances (debited c) (added c) refl refl
    c.requires.standing c.requires.source_in c.requires.targets_in (covered-all c.args.ground.now c.args.self.now c.args.source c.args.targets.now c.requires.standing c.requires.covered) sized

pub credit-requires-clause-targets_in : goal.credit-requires-clause-targets_in
credit-requires-clause-targets_in c = grind (arith, common_steps)

pub credit-requires-clause-kept : goal.credit-requires-clause-kept
credit-requires-clause-kept c = grind (arith, common_steps)

pub debit-requires-clause-kept : goal.debit-requires-clause-kept
debit-requires-clause-kept c = grind (arith, common_steps)
