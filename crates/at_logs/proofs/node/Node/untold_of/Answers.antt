use Rattle.std.proofs.Common.{◌≡◌, ℕ, ◌+◌, ◌<◌, List, Some, length, get_or, slice_get, refl, ap, sym, subst, ◌∙◌, arith}
use Rattle.at_logs.proofs.Prelude.{same_Some, slice_get_within, slice_get-get_or, CompactState, IsCompact, IsHistoryOf, IsMessageOn, IsUntold, Message, MessageList, NodeTerms, ReadingState, backlog_of, message_of, read_state}
use Rattle.at_logs.proofs.TellingLaws.{IsValid-told}
use Rattle.at_logs.proofs.node.Node.untold_of.Goals.{After-validated}
use Rattle.at_logs.proofs.node.Node.untold_of.Goals as goal

-- the node by its parts
abbrev inside : After-validated → NodeTerms
inside c = record { book = c.self.inside.book; hash = c.self.inside.hash; core = c.self.inside.core; tails = c.self.inside.tails.items }

known : (c : After-validated) → c.args.log < (inside c).core.book.logs
known c = omega (arith, c.requires, ap (λ (n : NodeTerms). n.core.book.logs) c.self.view_is)

-- the first message that wasn't told
first : (messages : List MessageList) (n : NodeTerms) (p : ℕ) → IsHistoryOf messages n → p < n.core.book.logs
    → message_of messages p (get_or n.core.told p 0) ≡ slice_get (backlog_of n.core.backlogs p).messages 0
first messages n p is inside = let at : get_or n.core.told p 0 ≡ get_or n.core.told p 0 + 0 = omega arith in ap (message_of messages p) at ∙ is.kept.waiting p 0 inside

first_on : (k : CompactState) (p : ℕ) (m : Message) → IsCompact k → p < k.book.logs → Some m ≡ slice_get (backlog_of k.backlogs p).messages 0 → IsMessageOn k.book.logs (length k.book.accounts) m
first_on k p m is inside there =
    let xs : List Message = (backlog_of k.backlogs p).messages in
    let below : 0 < length xs = slice_get_within xs 0 m (sym there) in
    subst (IsMessageOn k.book.logs (length k.book.accounts)) (same_Some (get_or xs 0 m) m (sym (slice_get-get_or xs 0 m below) ∙ sym there)) ((is.backlogs p inside).known 0 m below)

pub has_told-requires : goal.has_told-requires
has_told-requires c =
    let at = (goal.at.has_told-requires c).After-validated in
    (first_on c.self.inside.core c.args.log c.in_ok-message.message.now c.known.ensures (known at) c.in_ok-message.ensures).deps

pub returns-clause-some : goal.returns-clause-some
returns-clause-some c = λ messages history.
    let at = (goal.at.returns-clause-some c).After-validated in
    let n : NodeTerms = inside at in
    let s : ReadingState = read_state n messages in
    let is : IsHistoryOf messages n = subst (IsHistoryOf messages) (sym c.self.view_is) history in
    let m : Message = c.in_ok-message.message.now in
    let below : get_or s.told c.args.log 0 < get_or s.node.validated c.args.log 0 = omega (arith, c.if-number-validated.false, c.told_of-number.ensures, c.validated.ensures) in
    subst (λ (n : NodeTerms). IsUntold (read_state n messages) (record { log = c.args.log; number = c.told_of-number.result; from = m.from; targets = c.copy.result; reference = m.reference })) c.self.view_is (record {
      message = m;
      next = IsValid-told s.node s.told c.args.log m is.reading.node below (first messages n c.args.log is (known at) ∙ sym c.in_ok-message.ensures) (c.has_told.ensures.0 c.if-not-has_told.false);
      validated = below;
      number = c.told_of-number.ensures;
      source = refl;
      targets = c.copy.ensures;
      reference = refl;
    })
