use Rattle.std.proofs.Common.{subst, sym}
use Rattle.at_broadcast.proofs.Prelude.{IsNode}
use Rattle.at_broadcast.proofs.NodeLaws.{AgreesWithAll-IsNode, HasPrefixes-IsNode, IsOnlyClosed-IsNode, IsSolvent-IsNode, ShowsBalances-IsNode}
use Rattle.at_broadcast.proofs.node.Node.deliver.Goals.{Then-is_delivered, After-from_residual, After-settle}
use Rattle.at_broadcast.proofs.node.Node.deliver.Goals as goal

-- a node that refuses a repeated delivery is as it was
same : (c : Then-is_delivered) → IsNode c.args.self.now
same c = subst IsNode c.self.view_is c.self.invariant

-- so is one that found no memory
kept : (c : After-from_residual) → IsNode c.store.new.self
kept c = subst IsNode (sym c.in_err-store.ensures.err) c.self.invariant

-- and one that has settled is a node again
settled : (c : After-settle) → IsNode c.settle.new.self
settled c = record { steady = c.settle.ensures.steady; done = c.settle.ensures.done }

pub returns-then-is_delivered-clause-balances : goal.returns-then-is_delivered-clause-balances
returns-then-is_delivered-clause-balances c = ShowsBalances-IsNode c.args.self.now (same c)

pub returns-then-is_delivered-clause-prefix : goal.returns-then-is_delivered-clause-prefix
returns-then-is_delivered-clause-prefix c = HasPrefixes-IsNode c.args.self.now (same c)

pub returns-then-is_delivered-clause-agree : goal.returns-then-is_delivered-clause-agree
returns-then-is_delivered-clause-agree c = AgreesWithAll-IsNode c.args.self.now (same c)

pub returns-then-is_delivered-clause-solvent : goal.returns-then-is_delivered-clause-solvent
returns-then-is_delivered-clause-solvent c = IsSolvent-IsNode c.args.self.now (same c)

pub returns-in_err-store-clause-balances : goal.returns-in_err-store-clause-balances
returns-in_err-store-clause-balances c = ShowsBalances-IsNode c.store.new.self (kept c)

pub returns-in_err-store-clause-prefix : goal.returns-in_err-store-clause-prefix
returns-in_err-store-clause-prefix c = HasPrefixes-IsNode c.store.new.self (kept c)

pub returns-in_err-store-clause-agree : goal.returns-in_err-store-clause-agree
returns-in_err-store-clause-agree c = AgreesWithAll-IsNode c.store.new.self (kept c)

pub returns-in_err-store-clause-solvent : goal.returns-in_err-store-clause-solvent
returns-in_err-store-clause-solvent c = IsSolvent-IsNode c.store.new.self (kept c)

pub returns-clause-balances : goal.returns-clause-balances
returns-clause-balances c = ShowsBalances-IsNode c.settle.new.self (settled c)

pub returns-clause-prefix : goal.returns-clause-prefix
returns-clause-prefix c = HasPrefixes-IsNode c.settle.new.self (settled c)

pub returns-clause-agree : goal.returns-clause-agree
returns-clause-agree c = AgreesWithAll-IsNode c.settle.new.self (settled c)

pub returns-clause-solvent : goal.returns-clause-solvent
returns-clause-solvent c = IsSolvent-IsNode c.settle.new.self (settled c)

pub returns-then-is_delivered-clause-only : goal.returns-then-is_delivered-clause-only
returns-then-is_delivered-clause-only c = IsOnlyClosed-IsNode (c.args.self.now) (same c)

pub returns-in_err-store-clause-only : goal.returns-in_err-store-clause-only
returns-in_err-store-clause-only c = IsOnlyClosed-IsNode (c.store.new.self) (kept c)

pub returns-clause-only : goal.returns-clause-only
returns-clause-only c = IsOnlyClosed-IsNode (c.settle.new.self) (settled c)
