use Rattle.std.proofs.Common.{◌≡◌, nat_lt, true, false, refl, arith}
use Rattle.at_files.proofs.Prelude.{common_steps, nat_tests}
use Rattle.at_files.proofs.calls.transfer_of.Goals.{in_default-via-in-Some+in-Some+in_default, in_default-via-in-Some+in_default, in_default-via-in_default, else-from-via-then-from+else-to-from, else-from-via-else-from}
use Rattle.at_files.proofs.calls.transfer_of.Goals as goal

pub returns-in_default : goal.returns-in_default
returns-in_default c = elim c.in_default.branch [
  | in_default-via-in-Some+in-Some+in_default w ↦ rw (w.in_default.is-0, w.in_default.is-1, w.in_default.is-2) refl
  | in_default-via-in-Some+in_default w ↦ rw (w.in_default.is-0, w.in_default.is-1) refl
  | in_default-via-in_default w ↦ rw w.in_default.is-0 refl
]

pub returns-then-to-from : goal.returns-then-to-from
returns-then-to-from c =
    let source = c.if-from.true in
    let source_of = c.from.ensures in
    let target = c.if-to-from.true in
    let target_of = c.from-then-from.ensures in
    let from_known : nat_lt c.in-Some-Some-Some.from c.args.accounts ≡ true = grind (arith, nat_tests) in
    let to_known : nat_lt c.in-Some-Some-Some.to c.args.accounts ≡ true = grind (arith, nat_tests) in
    rw (c.in-Some-Some-Some.is-0, c.in-Some-Some-Some.is-1, c.in-Some-Some-Some.is-2, from_known, to_known) refl

pub returns-else-from : goal.returns-else-from
returns-else-from c =
    let source_of = c.from.ensures in
    elim c.else-from.branch [
      | else-from-via-then-from+else-to-from w ↦ let source = w.if-from.true in
          let target = w.if-to-from.false in
          let target_of = w.from-then-from.ensures in
          let from_known : nat_lt c.in-Some-Some-Some.from c.args.accounts ≡ true = grind (arith, nat_tests) in
          let to_unknown : nat_lt c.in-Some-Some-Some.to c.args.accounts ≡ false = grind (arith, nat_tests) in
          rw (c.in-Some-Some-Some.is-0, c.in-Some-Some-Some.is-1, c.in-Some-Some-Some.is-2, from_known, to_unknown) refl
      | else-from-via-else-from w ↦ let source = w.if-from.false in
          let from_unknown : nat_lt c.in-Some-Some-Some.from c.args.accounts ≡ false = grind (arith, nat_tests) in
          rw (c.in-Some-Some-Some.is-0, c.in-Some-Some-Some.is-1, c.in-Some-Some-Some.is-2, from_unknown) refl
    ]

pub overflow_cast-result : goal.overflow_cast-result
overflow_cast-result c = grind (arith, common_steps)

pub overflow_cast-result-then-to-from : goal.overflow_cast-result-then-to-from
overflow_cast-result-then-to-from c = grind (arith, common_steps)
