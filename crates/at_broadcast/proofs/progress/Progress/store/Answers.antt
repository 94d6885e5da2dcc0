use Rattle.std.proofs.Common.{◌≡◌, ℕ, ◌<◌, List, [], length, set, None, Some, Ok, Err, ap, sym, subst, ◌∙◌, arith}
use Rattle.at_broadcast.proofs.Prelude.{OnOk, OnErr, Result, AllocError, on_err_weaker, on_ok_weaker, get_or_read, same_Some, AreTargetsOn, LogTerms, Message, IsMessageOn, MessageList, message_of, with_message, NodeState, IsProgress, no_sender, sender_of, IsStored, MakesRoom, SenderState}
use Rattle.at_broadcast.proofs.ProgressLaws.{IsProgress-roomier, IsProgress-stored, messages_of-same, messages_of-stored, validated-le}
use Rattle.at_broadcast.proofs.progress.Progress.store.Goals.{After-index_mut}
use Rattle.at_broadcast.proofs.progress.Progress.store.Goals as goal

-- the sender that was read
read : (c : After-index_mut) → c.index_mut.result.now ≡ sender_of c.self.inside.senders.items c.args.sender
read c =
    let process : c.args.sender < length c.self.inside.senders.items = omega (arith, c.self.invariant.sized, c.requires.sender_in, ap (λ (s : NodeState). s.book.logs) c.self.view_is) in
    get_or_read c.self.inside.senders.items c.args.sender c.index_mut.result.now process c.index_mut.ensures.value no_sender

pub store-requires-clause-targets : goal.store-requires-clause-targets
store-requires-clause-targets c =
    let process : c.args.sender < c.self.inside.book.logs = omega (arith, c.requires.sender_in, ap (λ (s : NodeState). s.book.logs) c.self.view_is) in
    let accounts : length c.args.self.now.book.accounts ≡ length c.index_mut.result.now.credits =
    sym (ap (λ (s : SenderState). length s.credits) (read c) ∙ ((c.self.invariant.credits c.args.sender process).sized ∙ ap (λ (s : NodeState). length s.book.accounts) c.self.view_is)) in
    subst (λ (n : ℕ). AreTargetsOn n c.args.message.now.targets) accounts c.requires.message_in.targets

-- a sender that has more room alone
abbrev KeepsSender : SenderState → SenderState → Type 0
KeepsSender before after = (after.messages ≡ before.messages) × MakesRoom [] before after

keeps : (r : Result (Unit {0}) AllocError) (before after : SenderState) → OnErr r (after.messages ≡ before.messages) → OnErr r (MakesRoom [] before after)
    → OnErr r (KeepsSender before after)
keeps (Ok _) before after messages makes = tt
keeps (Err _) before after messages makes = (messages, makes)

-- a fact of the sender that holds where the message is stored and where it isn't
either : (r : Result (Unit {0}) AllocError) (Stored Kept : Type 0) (P : Type 0) → OnOk r Stored → OnErr r Kept → (Stored → P) → (Kept → P) → P
either (Ok _) Stored Kept P ok err stored kept = stored ok
either (Err _) Stored Kept P ok err stored kept = kept err

pub invariant_of-self : goal.invariant_of-self
invariant_of-self c =
    let b : LogTerms = c.self.inside.book in
    let counts : List ℕ = c.self.inside.validated in
    let senders : List SenderState = c.self.inside.senders.items in
    let balances : List ℕ = c.self.inside.balances.items in
    let p : ℕ = c.args.sender in
    let m : Message = c.args.message.now in
    let new : SenderState = c.store.new.self in
    let process : p < b.logs = omega (arith, c.requires.sender_in, ap (λ (s : NodeState). s.book.logs) c.self.view_is) in
    let none = subst (λ (s : NodeState). message_of s.messages p c.args.number ≡ None) (sym c.self.view_is) c.requires.undelivered in
    let known = subst (λ (s : NodeState). IsMessageOn s.book.logs (length s.book.accounts) m) (sym c.self.view_is) c.requires.message_in in
    let sender = read ((goal.at.invariant_of-self c).After-index_mut) in
    either c.store.result (IsStored c.index_mut.result.now c.args.number (Some m) new) (KeepsSender c.index_mut.result.now new)
    (IsProgress b counts (set senders p new) balances)
    c.store.ensures.ok (keeps c.store.result c.index_mut.result.now new c.store.ensures.messages c.store.ensures.err)
    (λ stored. IsProgress-stored b counts senders balances p c.args.number (Some m) new c.self.invariant process c.requires.number_in
    (validated-le b counts senders balances p c.args.number c.self.invariant none) (λ x is. subst (IsMessageOn b.logs (length b.accounts)) (same_Some m x is) known)
    (subst (λ (s : SenderState). IsStored s c.args.number (Some m) new) sender stored))
    (λ kept. IsProgress-roomier b counts senders balances p new c.self.invariant process
    (kept.0 ∙ ap (λ (s : SenderState). s.messages) sender) (subst (λ (s : SenderState). MakesRoom [] s new) sender kept.1))

pub returns-clause-ok : goal.returns-clause-ok
returns-clause-ok c =
    let senders : List SenderState = c.self.inside.senders.items in
    let p : ℕ = c.args.sender in
    let number : ℕ = c.args.number in
    let m : Message = c.args.message.now in
    let new : SenderState = c.store.new.self in
    on_ok_weaker c.store.result (λ ok.
    ap (λ (l : List MessageList). record { book = c.self.inside.book; messages = l; validated = c.self.inside.validated; balances = c.self.inside.balances.items })
    (messages_of-stored senders p number (Some m) new (subst (λ (s : SenderState). IsStored s number (Some m) new) (read ((goal.at.returns-clause-ok c).After-index_mut)) ok))
    ∙ ap (λ (s : NodeState). record { book = s.book; messages = with_message s.messages p number m; validated = s.validated; balances = s.balances }) c.self.view_is) c.store.ensures.ok

pub returns-clause-err : goal.returns-clause-err
returns-clause-err c =
    let senders : List SenderState = c.self.inside.senders.items in
    let p : ℕ = c.args.sender in
    let new : SenderState = c.store.new.self in
    on_err_weaker c.store.result (λ kept.
    ap (λ (l : List MessageList). record { book = c.self.inside.book; messages = l; validated = c.self.inside.validated; balances = c.self.inside.balances.items })
    (messages_of-same senders p new (kept ∙ ap (λ (s : SenderState). s.messages) (read ((goal.at.returns-clause-err c).After-index_mut))))
    ∙ c.self.view_is) c.store.ensures.messages
