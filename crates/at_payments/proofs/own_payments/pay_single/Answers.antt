use Rattle.std.proofs.Common.{◌≡◌, ◌↔◌, ℕ, ◌<◌, ◌≤◌, false, true, sym, ap, subst, ◌∙◌, arith, inl, inr}
use Rattle.at_payments.proofs.Prelude.{cases_lt, BookTerms, amount_of, Done, balance_after, place, prefix_of, Entry, Publication, own_part, Publishes, Knowledge, HasCounted, TotalSums, MayAppend, IsLast, IsPlaced, own_position, Own, cut_behind, own_record, payment_reply, IsSnapshot}
use Rattle.at_payments.proofs.Laws.Looks.{CountsAccount-HasLooked, CountsCut-HasLooked, HasCounted-HasLooked}
use Rattle.at_payments.proofs.Laws.OwnRecords.{owns_of-IsPrefix-take}
use Rattle.at_payments.proofs.Laws.Paid.{IsPaid, IsSnapshot-IsPaid, begins-IsPaid, cut_behind-IsPaid, more-IsPaid, number-IsPaid, place-IsPaid, prefix_of-IsPaid, record-IsPaid, within-IsPaid}
use Rattle.at_payments.proofs.Laws.Placed.{IsPlaced-done, IsPlaced-short, MayAppend-IsSnapshot, payment_reply-done, payment_reply-short}
use Rattle.at_payments.proofs.own_payments.pay_single.Goals.{After-append, After-covers}
use Rattle.at_payments.proofs.own_payments.pay_single.Goals as goal

pub covers-requires : goal.covers-requires
covers-requires c =
    let b : BookTerms = c.args.board.now.book in
    let v : Knowledge = c.args.seat.now.knows in
    let w : Knowledge = c.look-view.new.seat.knows in
    let was : TotalSums = c.args.totals.now in
    let now : TotalSums = c.look-view.new.totals in
    let cut = c.look-view.result in
    let looked = c.look-view.ensures.looked in (
      b,
      w.seen,
      CountsAccount-HasLooked b v w was now cut c.args.from looked c.requires.from,
      CountsCut-HasLooked b v w was now cut looked,
    )

-- the balance of the cut
abbrev here : After-covers → ℕ
here c = balance_after c.args.board.now.book (prefix_of c.look-view.result c.look-view.new.seat.knows.seen) c.args.from

-- the test is of that
tested : (c : After-covers) → (c.covers.result ≡ true) ↔ (amount_of c.args.targets.now ≤ here c)
tested c =
    let b : BookTerms = c.args.board.now.book in
    let v : Knowledge = c.args.seat.now.knows in
    let w : Knowledge = c.look-view.new.seat.knows in
    let was : TotalSums = c.args.totals.now in
    let now : TotalSums = c.look-view.new.totals in
    let cut = c.look-view.result in
    let looked = c.look-view.ensures.looked in
    subst (λ f. (c.covers.result ≡ true) ↔ (amount_of c.args.targets.now ≤ balance_after b (prefix_of f w.seen) c.args.from)) looked.upto
    (c.covers.ensures b w.seen (CountsAccount-HasLooked b v w was now cut c.args.from looked c.requires.from)
    (CountsCut-HasLooked b v w was now cut looked))

less : (c : After-covers) → c.covers.result ≡ false → here c < amount_of c.args.targets.now
less c off =
    elim (cases_lt (here c) (amount_of c.args.targets.now)) [
      | inl below ↦ below
      | inr enough ↦ let wrong : true ≡ false = sym ((tested c).1 enough) ∙ off in absurd (cc wrong)
    ]

pub returns-then-not-covers-clause-reply : goal.returns-then-not-covers-clause-reply
returns-then-not-covers-clause-reply c =
    let before : After-covers = (goal.at.returns-then-not-covers-clause-reply c).After-covers in
    payment_reply-short c.args.board.now.book (prefix_of c.look-view.result c.look-view.new.seat.knows.seen) c.args.from c.args.targets.now
    (less before c.if-not-covers.true)

pub returns-then-not-covers-clause-placed : goal.returns-then-not-covers-clause-placed
returns-then-not-covers-clause-placed c = λ call payout earlier owns.
    let before : After-covers = (goal.at.returns-then-not-covers-clause-placed c).After-covers in
    let v : Knowledge = c.args.seat.now.knows in
    IsPlaced-short c.args.board.now.book v.first c.look-view.new.seat.knows.seen earlier call c.args.from c.args.targets.now c.look-view.result payout
    c.requires.owner (omega (arith, owns, c.requires.room)) c.look-view.ensures.looked.snapshot.cut
    (less before c.if-not-covers.true)

pub returns-then-not-covers-clause-counted : goal.returns-then-not-covers-clause-counted
returns-then-not-covers-clause-counted c =
    HasCounted-HasLooked c.args.board.now.book c.args.seat.now.knows c.look-view.new.seat.knows c.args.totals.now c.look-view.new.totals c.look-view.result
    c.look-view.ensures.looked

pub append-requires-clause-record : goal.append-requires-clause-record
append-requires-clause-record c =
    let b : BookTerms = c.args.board.now.book in
    let v : Knowledge = c.args.seat.now.knows in
    let w : Knowledge = c.look-view.new.seat.knows in
    let looked = c.look-view.ensures.looked in
    let before : After-covers = (goal.at.append-requires-clause-record c).After-covers in
    let known : v.first < b.processes = omega (arith, c.known.ensures.seat.known, ap (λ (t : BookTerms). t.processes) c.requires.seat.book) in
    subst (λ targets. MayAppend b w (record { entry = Entry.Own c.args.from targets; view = c.look-view.result })) (sym c.copy.ensures)
    (MayAppend-IsSnapshot b v w c.look-view.result c.args.from c.args.targets.now looked.snapshot looked.loads known c.known.ensures.seat.own c.requires.owner
    c.requires.from
    (record { some = c.len-count.ensures.some; few = c.len-count.ensures.few; accounts = c.requires.targets }) c.requires.room
    ((tested before).0 c.if-not-covers.false))

-- the record was published after the snapshot
paid : (c : After-append)
    → IsPaid c.args.board.now.book c.args.seat.now.knows c.look-view.new.seat.knows c.append.new.seat.knows c.look-view.result c.args.from c.args.targets.now
paid c =
    let b : BookTerms = c.args.board.now.book in
    let w : Knowledge = c.look-view.new.seat.knows in
    let x : Knowledge = c.append.new.seat.knows in
    let looked = c.look-view.ensures.looked in
    record {
      one_part = c.known.ensures.seat.one_part;
      own = c.known.ensures.seat.own;
      loads = looked.loads;
      snapshot = looked.snapshot;
      published = subst (λ targets. Publishes b w x (own_record w.first c.look-view.result c.args.from targets)) c.copy.ensures c.append.ensures.published;
      last = subst (λ targets. IsLast w x (own_record w.first c.look-view.result c.args.from targets)) c.copy.ensures c.append.ensures.last;
    }

-- by the number that the receipt has
number : (c : After-append) → c.published-number.result ≡ (own_part c.args.seat.now.knows).published
number c =
    c.published-number.ensures
    ∙ number-IsPaid c.args.board.now.book c.args.seat.now.knows c.look-view.new.seat.knows c.append.new.seat.knows c.look-view.result c.args.from c.args.targets.now
    (paid c)

behind : (c : After-append) → cut_behind c.append.new.seat.knows (Own c.published-number.result) ≡ c.look-view.result
behind c =
    ap (λ k. cut_behind c.append.new.seat.knows (Own k)) (number c)
    ∙ cut_behind-IsPaid c.args.board.now.book c.args.seat.now.knows c.look-view.new.seat.knows c.append.new.seat.knows c.look-view.result c.args.from c.args.targets.now
    (paid c)

pub count_own-requires-clause-counted : goal.count_own-requires-clause-counted
count_own-requires-clause-counted c =
    let v : Knowledge = c.args.seat.now.knows in
    let w : Knowledge = c.look-view.new.seat.knows in
    let x : Knowledge = c.append.new.seat.knows in
    let so = paid (goal.at.count_own-requires-clause-counted c).After-append in
    let book = ap (λ (t : Knowledge). t.book) so.published.same ∙ (ap (λ (t : Knowledge). t.book) so.loads.same ∙ c.requires.seat.book) in
    subst (λ b. HasCounted c.look-view.new.totals b x.seen) (sym book)
    (c.look-view.ensures.looked.counted x.seen (more-IsPaid c.args.board.now.book v w x c.look-view.result c.args.from c.args.targets.now so))

pub returns-clause-reply : goal.returns-clause-reply
returns-clause-reply c =
    let b : BookTerms = c.args.board.now.book in
    let v : Knowledge = c.args.seat.now.knows in
    let w : Knowledge = c.look-view.new.seat.knows in
    let x : Knowledge = c.append.new.seat.knows in
    let before : After-append = (goal.at.returns-clause-reply c).After-append in
    let at_test : After-covers = (goal.at.returns-clause-reply c).After-covers in
    let prefix = ap (λ f. prefix_of f x.seen) (behind before) ∙ prefix_of-IsPaid b v w x c.look-view.result c.args.from c.args.targets.now (paid before) in
    payment_reply-done b (prefix_of c.look-view.result w.seen) c.args.from c.args.targets.now
    ((tested at_test).0 c.if-not-covers.false)
    ∙ ap (λ xs. payment_reply b xs c.args.from c.args.targets.now) (sym prefix)

pub returns-clause-placed : goal.returns-clause-placed
returns-clause-placed c = λ call payout earlier owns.
    let b : BookTerms = c.args.board.now.book in
    let v : Knowledge = c.args.seat.now.knows in
    let w : Knowledge = c.look-view.new.seat.knows in
    let x : Knowledge = c.append.new.seat.knows in
    let before : After-append = (goal.at.returns-clause-placed c).After-append in
    let so = paid before in
    let from = c.args.from in
    let targets = c.args.targets.now in
    let view = c.look-view.result in
    subst (λ k. IsPlaced b v.first x.seen earlier (record { call = call; reply = Done; at = Own k })) (sym (number before))
    (IsPlaced-done b v.first x.seen earlier call from targets (own_part v).published payout c.requires.owner (omega (arith, owns, c.requires.room))
    (within-IsPaid b v w x view from targets so)
    (ap (λ (y : Publication). y.entry) (record-IsPaid b v w x view from targets so))
    (owns_of-IsPrefix-take v.first (own_part v).published v.seen x.seen (begins-IsPaid b v w x view from targets so) so.own ∙ sym owns))

pub returns-clause-after_cut : goal.returns-clause-after_cut
returns-clause-after_cut c = λ call previous.
    let v : Knowledge = c.args.seat.now.knows in
    let x : Knowledge = c.append.new.seat.knows in
    let before : After-append = (goal.at.returns-clause-after_cut c).After-append in
    omega (
      arith,
      ap place (behind before),
      ap (λ k. own_position x.first k x.seen) (number before),
      place-IsPaid c.args.board.now.book v c.look-view.new.seat.knows x c.look-view.result c.args.from c.args.targets.now (paid before),
    )

pub returns-clause-snapshot : goal.returns-clause-snapshot
returns-clause-snapshot c =
    let b : BookTerms = c.args.board.now.book in
    let v : Knowledge = c.args.seat.now.knows in
    let x : Knowledge = c.append.new.seat.knows in
    let before : After-append = (goal.at.returns-clause-snapshot c).After-append in
    subst (IsSnapshot b v x) (sym (behind before))
    (IsSnapshot-IsPaid b v c.look-view.new.seat.knows x c.look-view.result c.args.from c.args.targets.now (paid before))

pub returns-then-not-covers-clause-risen : goal.returns-then-not-covers-clause-risen
returns-then-not-covers-clause-risen c = c.look-view.ensures.risen

pub returns-clause-risen : goal.returns-clause-risen
returns-clause-risen c = omega (arith, c.look-view.ensures.risen, c.append.ensures.steps)
