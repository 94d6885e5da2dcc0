use Rattle.std.proofs.Common.{◌≡◌, ℕ, ◌+◌, ◌<◌, List, length, get_or, None, IsSome, is_some, ap, sym, subst, ◌∙◌, arith}
use Rattle.at_broadcast.proofs.Prelude.{All, All-tail, IsMessageOn, IsUndelivered, MESSAGES_MAX, Message, MessageList, list_of, message_of, with_message, with_place, NodeState, SenderState}
use Rattle.at_broadcast.proofs.MessageLaws.{IsUndelivered-next, message_of-new, others_of, split_first, with_place-with_message}
use Rattle.at_broadcast.proofs.ProgressLaws.{length-messages_of, list_of-messages_of, validated-le}
use Rattle.at_broadcast.proofs.progress.Progress.+store_all.Goals as goal

pub store_all-requires : goal.store_all-requires
store_all-requires t c =
    let xs : List Message = c.args.messages.now in
    let same : c.store.new.self ≡ record { book = c.args.self.now.book; messages = with_message c.args.self.now.messages c.args.sender c.args.number c.message-item.result; validated = c.args.self.now.validated; balances = c.args.self.now.balances } = c.in_ok-store.ensures.ok in
    let split = split_first xs c.message-item.result c.in-len1-up.len_at_least in
    let long : length xs ≡ length (others_of xs) + 1 = omega (arith, ap (λ (l : List Message). length l) split) in
    let logs : c.store.new.self.book.logs ≡ c.args.self.now.book.logs = ap (λ (s : NodeState). s.book.logs) same in
    let listed : c.args.sender < length c.args.self.now.messages =
    omega (arith, c.requires.sender_in, c.self.invariant.sized, length-messages_of c.self.inside.senders.items, ap (λ (s : NodeState). length s.messages) c.self.view_is, ap (λ (s : NodeState). s.book.logs) c.self.view_is) in
    let undelivered : IsUndelivered c.args.self.now.messages c.args.sender c.args.number (length (others_of xs) + 1) =
    subst (IsUndelivered c.args.self.now.messages c.args.sender c.args.number) long c.requires.undelivered in
    let all : All (IsMessageOn c.args.self.now.book.logs (length c.args.self.now.book.accounts)) (others_of xs) =
    All-tail (IsMessageOn c.args.self.now.book.logs (length c.args.self.now.book.accounts)) (get_or xs 0 c.message-item.result) (others_of xs)
    (subst (All (IsMessageOn c.args.self.now.book.logs (length c.args.self.now.book.accounts))) split c.requires.messages_in) in (
      omega (arith, long, c.decreases),
      (
        omega (arith, logs, c.requires.sender_in),
        (
          omega (arith, long, c.requires.number_in),
          (
            subst (λ (s : NodeState). IsUndelivered s.messages c.args.sender (c.args.number + 1) (length (others_of xs))) (sym same)
                (IsUndelivered-next c.args.self.now.messages c.args.sender c.args.number (length (others_of xs)) c.message-item.result listed undelivered),
            subst (λ (s : NodeState). All (IsMessageOn s.book.logs (length s.book.accounts)) (others_of xs)) (sym same) all,
          ),
        ),
      ),
    )

pub remove-requires-clause-later : goal.remove-requires-clause-later
remove-requires-clause-later t c =
    let p : ℕ = c.args.sender in
    let number : ℕ = c.args.number in
    let first : number + 0 ≡ number = omega arith in
    let none : message_of c.args.self.now.messages p number ≡ None =
    sym (ap (message_of c.args.self.now.messages p) first) ∙ c.requires.undelivered 0 (omega (arith, c.in-len1-up.len_at_least)) in
    omega (
      arith,
      validated-le c.self.inside.book c.self.inside.validated c.self.inside.senders.items c.self.inside.balances.items p number c.self.invariant
          (ap (λ (s : NodeState). message_of s.messages p number) c.self.view_is ∙ none),
      ap (λ (s : NodeState). get_or s.validated p 0) (c.in-Err.ensures.err ∙ c.in_ok-store.ensures.ok),
      ap (λ (s : NodeState). get_or s.validated p 0) c.self.view_is,
    )

pub remove-requires-clause-there : goal.remove-requires-clause-there
remove-requires-clause-there t c =
    let p : ℕ = c.args.sender in
    let number : ℕ = c.args.number in
    let senders : List SenderState = c.self.inside.senders.items in
    let process : p < c.self.inside.book.logs = omega (arith, c.requires.sender_in, ap (λ (s : NodeState). s.book.logs) c.self.view_is) in
    let listed : p < length c.args.self.now.messages =
    omega (arith, process, c.self.invariant.sized, length-messages_of senders, ap (λ (s : NodeState). length s.messages) c.self.view_is) in
    let long : length (list_of c.args.self.now.messages p) ≡ MESSAGES_MAX =
    sym (ap (λ (s : NodeState). length (list_of s.messages p)) c.self.view_is)
    ∙ (ap (λ (l : MessageList). length l) (list_of-messages_of senders p) ∙ (c.self.invariant.credits p process).messages) in
    subst (λ (s : NodeState). IsSome (message_of s.messages p number)) (sym (c.in-Err.ensures.err ∙ c.in_ok-store.ensures.ok))
    (ap is_some (message_of-new c.args.self.now.messages p number c.message-item.result listed (omega (arith, long, c.requires.number_in, c.in-len1-up.len_at_least))))

pub returns-in-Err-clause-err : goal.returns-in-Err-clause-err
returns-in-Err-clause-err t c =
    let p : ℕ = c.args.sender in
    let number : ℕ = c.args.number in
    let m : Message = c.message-item.result in
    let before : NodeState = c.args.self.now in
    let listed : p < length before.messages =
    omega (arith, c.requires.sender_in, c.self.invariant.sized, length-messages_of c.self.inside.senders.items, ap (λ (s : NodeState). length s.messages) c.self.view_is, ap (λ (s : NodeState). s.book.logs) c.self.view_is) in
    let first : number + 0 ≡ number = omega arith in
    let none = sym (ap (message_of before.messages p) first) ∙ c.requires.undelivered 0 (omega (arith, c.in-len1-up.len_at_least)) in
    c.remove.ensures
    ∙ (ap (λ (s : NodeState). record { book = s.book; messages = with_place s.messages p number None; validated = s.validated; balances = s.balances }) (c.in-Err.ensures.err ∙ c.in_ok-store.ensures.ok)
    ∙ ap (λ (l : List MessageList). record { book = before.book; messages = l; validated = before.validated; balances = before.balances }) (with_place-with_message before.messages p number m listed none))
