use Rattle.std.proofs.Common.{◌≡◌, ℕ, ◌<◌, ◌≤◌, List, length, get_or, None, IsSome, ap, sym, subst, ◌∙◌, arith}
use Rattle.at_broadcast.proofs.Prelude.{get_or_read, LogTerms, MessageList, message_at, message_of, with_place, NodeState, no_sender, sender_of, IsStored, SenderState}
use Rattle.at_broadcast.proofs.FilledLaws.{within-there}
use Rattle.at_broadcast.proofs.ProgressLaws.{IsProgress-stored, differ, list_of-messages_of, messages_of-stored}
use Rattle.at_broadcast.proofs.progress.Progress.remove.Goals.{After-index_mut}
use Rattle.at_broadcast.proofs.progress.Progress.remove.Goals as goal

-- the sender that was read
read : (c : After-index_mut) → c.index_mut.result.now ≡ sender_of c.self.inside.senders.items c.args.sender
read c =
    let process : c.args.sender < length c.self.inside.senders.items = omega (arith, c.self.invariant.sized, c.requires.sender_in, ap (λ (s : NodeState). s.book.logs) c.self.view_is) in
    get_or_read c.self.inside.senders.items c.args.sender c.index_mut.result.now process c.index_mut.ensures.value no_sender

pub remove-requires : goal.remove-requires
remove-requires c =
    subst (λ (l : MessageList). IsSome (message_at l c.args.number))
    (list_of-messages_of c.self.inside.senders.items c.args.sender ∙ ap (λ (s : SenderState). s.messages) (sym (read c)))
    (subst (λ (s : NodeState). IsSome (message_of s.messages c.args.sender c.args.number)) (sym c.self.view_is) c.requires.there)

pub invariant_of-self : goal.invariant_of-self
invariant_of-self c =
    let b : LogTerms = c.self.inside.book in
    let counts : List ℕ = c.self.inside.validated in
    let senders : List SenderState = c.self.inside.senders.items in
    let process : c.args.sender < b.logs = omega (arith, c.requires.sender_in, ap (λ (s : NodeState). s.book.logs) c.self.view_is) in
    let there = subst (λ (s : NodeState). IsSome (message_of s.messages c.args.sender c.args.number)) (sym c.self.view_is) c.requires.there in
    let after = subst (λ (s : NodeState). get_or s.validated c.args.sender 0 ≤ c.args.number) (sym c.self.view_is) c.requires.later in
    IsProgress-stored b counts senders c.self.inside.balances.items c.args.sender c.args.number None c.remove.new.self c.self.invariant process
    (omega (arith, (c.self.invariant.credits c.args.sender process).messages, within-there (sender_of senders c.args.sender).messages c.args.number (subst (λ (l : MessageList). IsSome (message_at l c.args.number)) (list_of-messages_of senders c.args.sender) there))) after (λ m is. absurd (differ m is))
    (subst (λ (s : SenderState). IsStored s c.args.number None c.remove.new.self) (read ((goal.at.invariant_of-self c).After-index_mut)) c.remove.ensures)

pub returns : goal.returns
returns c =
    ap (λ (l : List MessageList). record { book = c.self.inside.book; messages = l; validated = c.self.inside.validated; balances = c.self.inside.balances.items })
    (messages_of-stored c.self.inside.senders.items c.args.sender c.args.number None c.remove.new.self
    (subst (λ (s : SenderState). IsStored s c.args.number None c.remove.new.self) (read ((goal.at.returns c).After-index_mut)) c.remove.ensures))
    ∙ ap (λ (s : NodeState). record { book = s.book; messages = with_place s.messages c.args.sender c.args.number None; validated = s.validated; balances = s.balances }) c.self.view_is
