use Rattle.std.proofs.Common.{◌≡◌, nat_le, nat_lt, true, false, refl, arith}
use Rattle.at_files.proofs.Prelude.{nat_tests}
use Rattle.at_files.proofs.owners.owner_known.Goals as goal

pub returns-in_default-clause-known : goal.returns-in_default-clause-known
returns-in_default-clause-known c = rw c.in_default.is refl

pub returns-else-count-ge-OWNERS_MAX-clause-known : goal.returns-else-count-ge-OWNERS_MAX-clause-known
returns-else-count-ge-OWNERS_MAX-clause-known c =
    let rising = c.if-owner-least.false in
    let few = c.if-count-ge-OWNERS_MAX.false in
    let risen : nat_lt c.in-Some.position c.args.least ≡ false = grind (arith, nat_tests) in
    let room : nat_le 8 c.args.count ≡ false = grind (arith, nat_tests) in
    rw (c.in-Some.is, risen, room) refl

pub returns-then-count-ge-OWNERS_MAX-clause-known : goal.returns-then-count-ge-OWNERS_MAX-clause-known
returns-then-count-ge-OWNERS_MAX-clause-known c =
    let rising = c.if-owner-least.false in
    let many = c.if-count-ge-OWNERS_MAX.true in
    let risen : nat_lt c.in-Some.position c.args.least ≡ false = grind (arith, nat_tests) in
    let full : nat_le 8 c.args.count ≡ true = grind (arith, nat_tests) in
    rw (c.in-Some.is, risen, full) refl

pub returns-then-owner-least-clause-known : goal.returns-then-owner-least-clause-known
returns-then-owner-least-clause-known c =
    let below = c.if-owner-least.true in
    let falls : nat_lt c.in-Some.position c.args.least ≡ true = grind (arith, nat_tests) in
    rw (c.in-Some.is, falls) refl
