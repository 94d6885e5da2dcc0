use Rattle.at_broadcast.proofs.Prelude.{common_steps, option_copied, get_or_read, IsMessageOn, MessageList, message_at, message_of, NodeState, messages_of, no_sender, SenderState}
use Rattle.std.proofs.Common.{◌≡◌, ℕ, ◌<◌, List, Some, length, ap, sym, subst, ◌∙◌, arith}
use Rattle.at_broadcast.proofs.ProgressLaws.{list_of-messages_of}
use Rattle.at_broadcast.proofs.progress.Progress.valid_of.Goals as goal

pub is_valid-requires-clause-message_in : goal.is_valid-requires-clause-message_in
is_valid-requires-clause-message_in c =
    let senders : List SenderState = c.self.inside.senders.items in
    let p : ℕ = c.args.p in
    let inside : p < length senders = omega (arith, c.requires, c.self.invariant.sized, ap (λ (s : NodeState). s.book.logs) c.self.view_is) in
    let read = get_or_read senders p c.index.result.now inside c.index.ensures no_sender in
    let there : message_of (messages_of senders) p c.get.result ≡ Some c.in_ok-message.message.now =
    ap (λ (l : MessageList). message_at l c.get.result) (list_of-messages_of senders p)
    ∙ (ap (λ (s : SenderState). message_at s.messages c.get.result) (sym read) ∙ (sym c.message.ensures ∙ ap option_copied c.in_ok-message.was)) in
    subst (λ (s : NodeState). IsMessageOn s.book.logs (length s.book.accounts) c.in_ok-message.message.now) c.self.view_is (c.self.invariant.known p c.get.result c.in_ok-message.message.now there)

pub returns-clause-some : goal.returns-clause-some
returns-clause-some c = grind (arith, common_steps)

pub returns-then-not-is_valid-clause-none : goal.returns-then-not-is_valid-clause-none
returns-then-not-is_valid-clause-none c = grind (arith, common_steps)

pub returns-in_err-message-clause-none : goal.returns-in_err-message-clause-none
returns-in_err-message-clause-none c = grind (arith, common_steps)

pub is_valid-requires-clause-next : goal.is_valid-requires-clause-next
is_valid-requires-clause-next c = grind (arith, common_steps)
