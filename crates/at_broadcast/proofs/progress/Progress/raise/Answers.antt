use Rattle.std.proofs.Common.{◌≡◌, ℕ, ◌+◌, ◌-◌, ◌<◌, ◌≤◌, List, length, get_or, set, sum, ap, sym, subst, ◌∙◌, arith, length-set}
use Rattle.at_broadcast.proofs.Prelude.{get_or_default_zero, get_or_read, take_at, get_or-le-sum_by, credited, AreTargetsOn, TargetPair, amount_of, Message, NodeState, messages_of, no_sender, sender_of, HasRoomFor, SenderState, message_counted, IsValid}
use Rattle.at_broadcast.proofs.MoveLaws.{length-credited, sum-less}
use Rattle.at_broadcast.proofs.ProgressLaws.{Stands, Stands-valid, IsProgress-raised_to, covered-valid, message_counted-same, messages_of-message_counted, moved-same}
use Rattle.at_broadcast.proofs.SenderLaws.{HasRoomFor-next}
use Rattle.at_broadcast.proofs.progress.Progress.raise.Goals.{After-index_mut, After-index_mut-2}
use Rattle.at_broadcast.proofs.progress.Progress.raise.Goals as goal

-- the message that is validated, as the fields show it
valid : (c : After-index_mut) → IsValid c.self.inside.book (messages_of c.self.inside.senders.items) c.self.inside.validated c.args.payout.now.log c.requires.message
valid c = subst (λ (s : NodeState). IsValid s.book s.messages s.validated c.args.payout.now.log c.requires.message) (sym c.self.view_is) c.requires.valid

stands : (c : After-index_mut) → Stands c.self.inside.book c.self.inside.validated c.self.inside.senders.items c.args.payout.now.log c.requires.message
stands c = Stands-valid c.self.inside.book c.self.inside.validated c.self.inside.senders.items c.self.inside.balances.items c.args.payout.now.log c.requires.message c.self.invariant (valid c)

-- the sender that was read
read : (c : After-index_mut) → c.index_mut.result.now ≡ sender_of c.self.inside.senders.items c.args.payout.now.log
read c = get_or_read c.self.inside.senders.items c.args.payout.now.log c.index_mut.result.now (stands c).sender c.index_mut.ensures.value no_sender

-- the accounts of the sender are those of the book
accounts : (c : After-index_mut) → length c.index_mut.result.now.credits ≡ length c.self.inside.book.accounts
accounts c = ap (λ (s : SenderState). length s.credits) (read c) ∙ (c.self.invariant.credits c.args.payout.now.log (stands c).process).sized

-- the targets are those of the message
targets_in : (c : After-index_mut) (n : ℕ) → n ≡ length c.self.inside.book.accounts → AreTargetsOn n c.args.payout.now.targets
targets_in c n same =
    subst (λ (l : List TargetPair). AreTargetsOn n l) (sym c.requires.targets) (subst (λ (n : ℕ). AreTargetsOn n c.requires.message.targets) (sym same) (stands c).known.targets)

pub count-requires-clause-targets : goal.count-requires-clause-targets
count-requires-clause-targets c =
    let at = (goal.at.count-requires-clause-targets c).After-index_mut in
    targets_in at (length c.index_mut.result.now.credits) (accounts at)

pub count-requires-clause-room : goal.count-requires-clause-room
count-requires-clause-room c =
    let at = (goal.at.count-requires-clause-room c).After-index_mut in
    let here = stands at in
    let counts : List ℕ = c.self.inside.validated in
    let p : ℕ = c.args.payout.now.log in
    let m : Message = c.requires.message in
    let next = HasRoomFor-next (length c.self.inside.book.accounts) (get_or counts p 0) (sender_of c.self.inside.senders.items p) m
    (c.self.invariant.credits p here.process) here.number here.message here.known.few in
    subst (λ (s : SenderState). HasRoomFor c.args.payout.now.targets c.get-number.result s) (sym (read at))
    (subst (λ (n : ℕ). HasRoomFor c.args.payout.now.targets n (sender_of c.self.inside.senders.items p)) (sym c.get-number.ensures)
    (subst (λ (l : List TargetPair). HasRoomFor l (get_or counts p 0) (sender_of c.self.inside.senders.items p)) (sym c.requires.targets) next))

-- where its source stands
source_in : (c : After-index_mut) → c.args.payout.now.from < length c.self.inside.balances.items
source_in c = omega (arith, c.requires.source, (stands c).known.source, c.self.invariant.balanced)

-- the balance of the source covers the amounts
covered : (c : After-index_mut) → amount_of c.args.payout.now.targets ≤ get_or c.self.inside.balances.items c.args.payout.now.from 0
covered c =
    let enough = covered-valid c.self.inside.book c.self.inside.validated c.self.inside.senders.items c.self.inside.balances.items c.args.payout.now.log c.requires.message c.self.invariant (valid c) in
    omega (arith, enough, ap amount_of c.requires.targets, ap (λ a. get_or c.self.inside.balances.items a 0) c.requires.source)

-- the balance of the source that was read
was : (c : After-index_mut-2) → c.index_mut-2.result.now ≡ get_or c.self.inside.balances.items c.args.payout.now.from 0
was c = c.index_mut-2.ensures.value ∙ get_or_default_zero c.self.inside.balances.items c.args.payout.now.from c.index_mut-2.result.now (source_in ((goal.at.After-index_mut-2 c).After-index_mut))

-- the balances with what the source has left
rest : (c : After-index_mut-2) → sum (set c.self.inside.balances.items c.args.payout.now.from (c.index_mut-2.result.now - amount_of c.args.payout.now.targets)) + amount_of c.args.payout.now.targets ≡ sum c.self.inside.balances.items
rest c =
    let at = (goal.at.After-index_mut-2 c).After-index_mut in
    let balances : List ℕ = c.self.inside.balances.items in
    ap (λ n. sum (set balances c.args.payout.now.from (n - amount_of c.args.payout.now.targets)) + amount_of c.args.payout.now.targets) (was c)
    ∙ sum-less balances c.args.payout.now.from (amount_of c.args.payout.now.targets) (source_in at) (covered at)

pub overflow_cast-sum : goal.overflow_cast-sum
overflow_cast-sum c =
    let at = (goal.at.overflow_cast-sum c).After-index_mut in
    omega (
      arith,
      covered at,
      c.sum.ensures.sum,
      get_or-le-sum_by (λ n. n) c.self.inside.balances.items c.args.payout.now.from 0 (source_in at),
      c.self.invariant.total,
      c.self.invariant.book.total,
    )

pub overflow_sub-index_mut : goal.overflow_sub-index_mut
overflow_sub-index_mut c =
    let at = goal.at.overflow_sub-index_mut c in
    omega (arith, was at.After-index_mut-2, covered at.After-index_mut, c.sum.ensures.sum)

pub credit-requires-clause-fits : goal.credit-requires-clause-fits
credit-requires-clause-fits c =
    let at = goal.at.credit-requires-clause-fits c in
    omega (
      arith,
      rest at.After-index_mut-2,
      ap (λ n. sum (set c.self.inside.balances.items c.args.payout.now.from (c.index_mut-2.result.now - n))) c.sum.ensures.sum,
      ap sum c.deref_mut.ensures.value,
      c.self.invariant.total,
      c.self.invariant.book.total,
    )

pub invariant_of-self : goal.invariant_of-self
invariant_of-self c =
    let at = goal.at.invariant_of-self c in
    let counts : List ℕ = c.self.inside.validated in
    let senders : List SenderState = c.self.inside.senders.items in
    let balances : List ℕ = c.self.inside.balances.items in
    let p : ℕ = c.args.payout.now.log in
    let m : Message = c.requires.message in
    let targets : List TargetPair = c.args.payout.now.targets in
    IsProgress-raised_to c.self.inside.book counts senders balances p m c.self.invariant (valid at.After-index_mut)
    c.count.new.self c.set.new.self _
    (c.count.ensures ∙ message_counted-same (sender_of senders p) c.index_mut.result.now c.get-number.result (get_or counts p 0) targets m.targets
    (read at.After-index_mut) c.get-number.ensures c.requires.targets)
    (c.set.ensures ∙ ap (λ n. set counts p (n + 1)) c.get-number.ensures)
    (take_at _ _ _ (omega (
      arith,
      c.self.inside.balances.ok,
      ap (λ (l : List ℕ). length l) c.credit.ensures,
      length-credited c.deref_mut.result.now targets,
      ap (λ (l : List ℕ). length l) c.deref_mut.ensures.value,
      length-set balances c.args.payout.now.from (c.index_mut-2.result.now - c.sum.result),
    ))
    ∙ (c.credit.ensures
    ∙ (ap (λ (l : List ℕ). credited l targets) c.deref_mut.ensures.value ∙ ap (λ n. credited (set balances c.args.payout.now.from (c.index_mut-2.result.now - n)) targets) c.sum.ensures.sum
    ∙ moved-same balances c.args.payout.now.from m.from targets m.targets c.index_mut-2.result.now c.requires.source c.requires.targets (was at.After-index_mut-2))))

pub returns-clause-messages : goal.returns-clause-messages
returns-clause-messages c =
    let at = goal.at.returns-clause-messages c in
    let senders : List SenderState = c.self.inside.senders.items in
    let p : ℕ = c.args.payout.now.log in
    ap (λ (s : SenderState). messages_of (set senders p s)) (c.count.ensures ∙ ap (λ (s : SenderState). message_counted s c.get-number.result c.args.payout.now.targets) (read at.After-index_mut))
    ∙ (messages_of-message_counted senders p c.get-number.result c.args.payout.now.targets ∙ ap (λ (s : NodeState). s.messages) c.self.view_is)
