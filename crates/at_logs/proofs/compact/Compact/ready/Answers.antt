use Rattle.std.proofs.Common.{Option, None, Some, IfNone, false, ap, sym, subst, ◌∙◌}
use Rattle.std.specs.Prelude.{IsTrue}
use Rattle.at_logs.proofs.Prelude.{IsCompact, IsStuck, option_copied}
use Rattle.at_logs.proofs.StateLaws.{next_known, stuck_none, stuck_unmade}
use Rattle.at_logs.proofs.compact.Compact.ready.Goals as goal

if_none : {X : Type 0} (r : Option X) (P : Type 0) → P → IfNone r P
if_none None P p = p
if_none (Some x) P p = tt

pub returns-in_err-message-clause-none : goal.returns-in_err-message-clause-none
returns-in_err-message-clause-none c =
    if_none c.from_residual.result (IsStuck c.args.self.now c.args.p)
    (stuck_none c.args.self.now c.args.p (subst IsCompact c.self.view_is c.self.invariant.0) c.requires (sym c.next.ensures ∙ ap option_copied c.in_err-message.was))

pub is_made_there-requires-clause-message_in : goal.is_made_there-requires-clause-message_in
is_made_there-requires-clause-message_in c =
    next_known c.args.self.now c.args.p c.in_ok-message.message.now (subst IsCompact c.self.view_is c.self.invariant.0) c.requires (sym c.next.ensures ∙ ap option_copied c.in_ok-message.was)

pub returns-then-not-is_made_there-clause-none : goal.returns-then-not-is_made_there-clause-none
returns-then-not-is_made_there-clause-none c =
    stuck_unmade c.args.self.now c.args.p c.in_ok-message.message.now (subst IsCompact c.self.view_is c.self.invariant.0) c.requires (sym c.next.ensures ∙ ap option_copied c.in_ok-message.was)
    (λ made. falsehood (subst IsTrue c.if-not-is_made_there.true (c.is_made_there.ensures.1 made))) where
      falsehood : IsTrue false → ⊥
      falsehood t = cc
