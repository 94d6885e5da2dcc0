-- Messages that are told one after another.
use Rattle.std.proofs.Common.{◌≡◌, ℕ, ◌+◌, ◌<◌, List, [], ◌∷◌, ◌++◌, length, get_or, None, Some, refl, ap, sym, subst, ◌∙◌, inl, inr, arith}
use Rattle.at_follow.proofs.Prelude.{All, All-append, All-cons, All-nil, AreTargetsOn, HasTold, IsHistoryOf, IsMessageOn, IsReading, IsToldOn, IsUntold, MESSAGES_MAX, Message, MessageList, NodeState, NodeTerms, ReadingState, Told, TellsEach, TellsOn, cases_lt, delivered-process, differ, get_or_past, left, left-one_more_of, length-told, list_of, message_of, one_more_of, read_state}
use Rattle.at_follow.specs.Following.TellsEach.{none, more}

-- to tell changes what was told alone
pub record IsSameButTold (s t : ReadingState) : Type 0 where
  pub book : t.book ≡ s.book
  pub node : t.node ≡ s.node
  pub tails : t.tails ≡ s.tails

pub same-TellsEach : (s : ReadingState) (told : List Told) (t : ReadingState) → TellsEach s told t → IsSameButTold s t
same-TellsEach s _ _ none = record { book = refl; node = refl; tails = refl }
same-TellsEach s _ _ (more told next t u before step) =
    let is = same-TellsEach s told t before in
    record {
      book = ap (λ (x : ReadingState). x.book) step.left ∙ is.book;
      node = ap (λ (x : ReadingState). x.node) step.left ∙ is.node;
      tails = ap (λ (x : ReadingState). x.tails) step.left ∙ is.tails;
    }

-- a message that stands in a list of a reading
on-delivered : (s : ReadingState) (p number : ℕ) (m : Message) → IsReading s → message_of s.node.messages p number ≡ Some m
    → (p < s.node.book.logs) × IsMessageOn s.node.book.logs (length s.node.book.accounts) m
on-delivered s p number m reading there =
    let known : p < s.node.book.logs = omega (arith, delivered-process s.node.messages p number m there, reading.node.steady.sized) in
    (known, (reading.tails p known).named number m there)

on-untold : (s t : ReadingState) (told : Told) → IsReading s → t.node ≡ s.node → IsUntold t told → IsToldOn s.node.book.logs (length s.node.book.accounts) told
on-untold s t told reading same is =
    let there : message_of s.node.messages told.log (get_or t.told told.log 0) ≡ Some is.message =
    subst (λ (n : NodeState). message_of n.messages told.log (get_or t.told told.log 0) ≡ Some is.message) same is.next.delivered in
    let on = on-delivered s told.log (get_or t.told told.log 0) is.message reading there in
    let accounts : ℕ = length s.node.book.accounts in
    record {
      log = on.0;
      source = subst (λ a. a < accounts) (sym is.source) on.1.source;
      targets = subst (AreTargetsOn accounts) (sym is.targets) on.1.targets;
    }

-- each message that was told is one of the book
pub on-TellsEach : (s : ReadingState) (told : List Told) (t : ReadingState) → IsReading s → TellsEach s told t → All (IsToldOn s.node.book.logs (length s.node.book.accounts)) told
on-TellsEach s _ _ reading none = All-nil (IsToldOn s.node.book.logs (length s.node.book.accounts))
on-TellsEach s _ _ reading (more told next t u before step) =
    let Is : Told → Type 0 = IsToldOn s.node.book.logs (length s.node.book.accounts) in
    All-append Is told (next ∷ []) (on-TellsEach s told t reading before)
    (All-cons Is next [] (on-untold s t next reading (same-TellsEach s told t before).node step.untold) (All-nil Is))

-- ---- telling comes to an end

numbered : (list : MessageList) (number : ℕ) (m : Message) → get_or list number None ≡ Some m → number < length list
numbered list number m there =
    elim (cases_lt number (length list)) as (λ _. number < length list) [
      | inl inside ↦ inside
      | inr past ↦ absurd (differ m (sym (get_or_past list number None past) ∙ there))
    ]

-- one message less is left
pub left-told : (n m : NodeTerms) (messages : List MessageList) (told : Told) → IsHistoryOf messages n → HasTold (read_state n messages) told m → left m.core.told + 1 ≡ left n.core.told
left-told n m messages told history has =
    let p : ℕ = told.log in
    let s : ReadingState = read_state n messages in
    let valid = has.next.untold.next in
    let at : m.core.told ≡ one_more_of n.core.told p = ap (λ (x : ReadingState). x.told) has.next.left in
    let steady = history.reading.node.steady in
    let known : p < s.node.book.logs = omega (arith, delivered-process messages p (get_or n.core.told p 0) has.next.untold.message valid.delivered, steady.sized) in
    let within : p < length n.core.told = omega (arith, known, length-told s.node n.core.told history.reading.told) in
    let room : get_or n.core.told p 0 < MESSAGES_MAX = omega (arith, numbered (list_of messages p) (get_or n.core.told p 0) has.next.untold.message valid.delivered, steady.lists p known) in
    omega (arith, ap left at, left-one_more_of n.core.told p within room)

-- ---- all that is validated is told

-- so far
pub record HasToldSome (s : ReadingState) (told : List Told) (n : NodeTerms) : Type 0 where
  pub history : IsHistoryOf s.node.messages n
  pub tells : TellsEach s told (read_state n s.node.messages)
  pub of_logs : TellsOn s (read_state n s.node.messages)

pub HasToldSome-none : (n : NodeTerms) (messages : List MessageList) → IsHistoryOf messages n → HasToldSome (read_state n messages) [] n
HasToldSome-none n messages history = record { history = history; tells = none; of_logs = λ b hash logs before. before }

pub HasToldSome-more : (s : ReadingState) (told : List Told) (next : Told) (n m : NodeTerms) → HasToldSome s told n → HasTold (read_state n s.node.messages) next m
    → HasToldSome s (told ++ next ∷ []) m
HasToldSome-more s told next n m some has = record {
  history = has.history;
  tells = more told next (read_state n s.node.messages) (read_state m s.node.messages) some.tells has.next;
  of_logs = λ b hash logs before. has.read b hash logs (some.of_logs b hash logs before);
}
