use Rattle.std.proofs.Common.{◌≡◌, ◌+◌, ◌*◌, ◌<◌, suc, true, [], ◌∷◌, length, Some, refl, sym, ap, subst, ◌∙◌, arith}
use Rattle.at_payments.proofs.Prelude.{slots_of, BookTerms, HasSlot, account_of, Call, IsPrefix-trans, is_settled, rounds, own_part, Knowledge, payout_of, asks_in, Receipt, HasAccount, HasAccount-IsSeat, request_of, HelpingTerms, HelpAnswers, SettlesOwn, IsHelping, decides_made, decides_on, heard_on, HasTurned, SettlesInTurns, none, again, StandsAfter, asking_steps, round_steps, More, newly_counted, snapshot_steps}
use Rattle.at_payments.proofs.SharedLaws.Added.{Adds, Adds-HasLoaded, Adds-HasStarted, Adds-refl, Adds-trans, HasAccount-Adds}
use Rattle.at_payments.proofs.SharedLaws.Asked.{StandsAfterSnapshot-SettlesInTurns}
use Rattle.at_payments.proofs.SharedLaws.Counting.{steps_after}
use Rattle.at_payments.proofs.SharedLaws.Turns.{AsksOnce-Adds}
use Rattle.at_payments.proofs.SharedLaws.Turning.{Adds-HelpAnswers, settled-SettlesOwn}
use Rattle.at_payments.proofs.shared_payments.pay_shared.Goals.{After-turn, In-Settled}
use Rattle.at_payments.proofs.shared_payments.pay_shared.Goals as goal

-- the helping is that of the account
account_is : (c : After-turn) → c.loop-answer.helping.account ≡ c.args.account
account_is c = ap (λ (h : HelpingTerms). h.account) c.loop-answer.invariant.same ∙ c.start-helping.ensures.account

-- and that of the targets
payout_is : (c : After-turn) (call : Call) → payout_of call ≡ Some (c.args.account, c.args.targets.now)
    → payout_of call ≡ Some (c.loop-answer.helping.account, c.loop-answer.helping.own.targets)
payout_is c call payout =
    let told = c.start-helping.ensures in
    let same : c.loop-answer.helping ≡ c.start-helping.result = c.loop-answer.invariant.same in
    subst (λ (h : HelpingTerms). payout_of call ≡ Some (h.account, h.own.targets)) (sym same)
    (subst (λ a. payout_of call ≡ Some (a, c.start-helping.result.own.targets)) (sym told.account)
    (subst (λ ts. payout_of call ≡ Some (c.args.account, ts)) (sym told.targets) payout))

-- at the start
pub loop-answer-init : goal.loop-answer-init
loop-answer-init c =
    let b : BookTerms = c.args.board.now.book in
    let v : Knowledge = c.args.seat.now.knows in
    let u : Knowledge = c.start-helping.new.seat.knows in
    let a = c.args.account in
    let told = c.start-helping.ensures in
    let made : decides_made a v u ≡ 0 = omega (arith, told.decides a) in
    let slots = ap (λ t. slots_of (account_of b t)) told.account in
    record {
      same = refl;
      board = told.board;
      helping = told.helping;
      few = omega (arith, made, told.helping.asked.slot_in.within, slots);
      heard = omega (arith, made, told.helping.heard, ap (heard_on u) told.account, ap (λ t. rounds t u.seen) told.account);
      turned = subst (λ n. HasTurned b c.start-helping.result u n u) (sym made) none;
      kept = Adds-refl b u a;
      begins = told.begins;
      process = told.process;
      decides = omega (arith, told.decides a);
      elsewhere = λ t other. told.decides t;
      published = omega (arith, told.published);
      more = omega (arith, told.published, told.more);
      counted = told.counted;
      steps = omega (arith, told.steps, ap (λ k. k * (snapshot_steps b.processes + round_steps b.processes)) made);
      risen = told.risen;
      exchanges = omega (arith, told.exchanges, made);
    }

-- the seat has something on the account
has_account : (c : After-turn) → HasAccount c.args.seat.now.knows c.args.account
has_account c =
    let told = c.start-helping.ensures in
    let within : c.args.account < length c.args.seat.now.knows.book.accounts = omega (
      arith,
      told.helping.asked.slot_in.account_in,
      told.account,
      ap (λ (t : BookTerms). length t.accounts) c.requires.seat.book,
    ) in
    HasAccount-IsSeat c.args.seat.now.knows c.args.seat.now.knows.first (own_part c.args.seat.now.knows).published c.args.account c.known.ensures.seat within

-- what the start adds
abbrev looked_of : After-turn → Knowledge
looked_of c = c.start-helping.ensures.started.looked

adds_look : (c : After-turn) → Adds c.args.board.now.book c.args.seat.now.knows (looked_of c) c.args.account []
adds_look c =
    let started = c.start-helping.ensures.started in
    Adds-HasLoaded c.args.board.now.book c.args.seat.now.knows started.looked c.args.account started.cut (has_account c).part started.loads started.snapshot

adds_start : (c : After-turn)
    → Adds c.args.board.now.book (looked_of c) c.start-helping.new.seat.knows c.args.account (request_of c.start-helping.result.own ∷ [])
adds_start c =
    let b : BookTerms = c.args.board.now.book in
    let v : Knowledge = c.args.seat.now.knows in
    let u : Knowledge = c.start-helping.new.seat.knows in
    let told = c.start-helping.ensures in
    subst (λ t. Adds b told.started.looked u t (request_of c.start-helping.result.own ∷ [])) told.account
    (Adds-HasStarted b v u c.start-helping.result told.started (subst (HasAccount v) (sym told.account) (has_account c)) c.known-2.ensures.seat.own)

-- what the turns so far add
has_account_loop : (c : After-turn) → HasAccount c.loop-answer.seat.knows c.args.account
has_account_loop c =
    let b : BookTerms = c.args.board.now.book in
    let a = c.args.account in
    let w : Knowledge = looked_of c in
    let u : Knowledge = c.start-helping.new.seat.knows in
    HasAccount-Adds b u c.loop-answer.seat.knows a a [] c.loop-answer.invariant.kept
    (HasAccount-Adds b w u a a (request_of c.start-helping.result.own ∷ []) (adds_start c)
    (HasAccount-Adds b c.args.seat.now.knows w a a [] (adds_look c) (has_account c)))

adds_turns : (c : After-turn)
    → Adds c.args.board.now.book c.start-helping.new.seat.knows c.turn.new.seat.knows c.args.account []
adds_turns c =
    let b : BookTerms = c.args.board.now.book in
    let a = c.args.account in
    let u : Knowledge = c.start-helping.new.seat.knows in
    let y : Knowledge = c.loop-answer.seat.knows in
    let z : Knowledge = c.turn.new.seat.knows in
    let account = account_is c in
    let has = subst (HasAccount y) (sym account) (has_account_loop c) in
    Adds-trans b u y z a [] [] c.loop-answer.invariant.kept
    (subst (λ t. Adds b y z t []) account (Adds-HelpAnswers b y z c.loop-answer.helping c.turn.result has c.turn.ensures.answers))

-- what all adds since the call has looked
adds_since : (c : After-turn)
    → Adds c.args.board.now.book (looked_of c) c.turn.new.seat.knows c.args.account (request_of c.start-helping.result.own ∷ [])
adds_since c =
    Adds-trans c.args.board.now.book (looked_of c) c.start-helping.new.seat.knows c.turn.new.seat.knows c.args.account
    (request_of c.start-helping.result.own ∷ []) [] (adds_start c) (adds_turns c)

pub loop-answer-preserved : goal.loop-answer-preserved
loop-answer-preserved c =
    let b : BookTerms = c.args.board.now.book in
    let v : Knowledge = c.args.seat.now.knows in
    let y : Knowledge = c.loop-answer.seat.knows in
    let z : Knowledge = c.turn.new.seat.knows in
    let a = c.args.account in
    let told = c.turn.ensures in
    let so_far = c.loop-answer.invariant in
    let is = c.in_default.is in
    let account = account_is (goal.at.loop-answer-preserved c).After-turn in
    let on_y = ap (decides_on y) account in
    let on_z = ap (decides_on z) account in
    let heard_y = ap (heard_on y) account in
    let heard_z = ap (heard_on z) account in
    let rounds_y = ap (λ t. rounds t y.seen) account in
    let rounds_z = ap (λ t. rounds t z.seen) account in
    let slots = ap (λ t. slots_of (account_of b t)) account in
    let more = told.decides_more is in
    let made : decides_made a v z ≡ suc (decides_made a v y) = omega (arith, so_far.decides, more, on_y, on_z) in
    let answers : HelpAnswers b y z c.start-helping.result More =
    subst (λ (h : HelpingTerms). HelpAnswers b y z h More) so_far.same (subst (HelpAnswers b y z c.loop-answer.helping) is told.answers) in
    record {
      same = told.same ∙ so_far.same;
      board = told.board;
      helping = subst (IsHelping b z) (sym told.same) (told.helping is);
      few = omega (arith, so_far.decides, so_far.heard, more, told.overtaken is, on_y, on_z, heard_y, rounds_y, slots);
      heard = omega (arith, so_far.decides, so_far.heard, more, told.heard, told.rounds_more is, on_y, on_z, heard_y, heard_z, rounds_y, rounds_z);
      turned = subst (λ n. HasTurned b c.start-helping.result c.start-helping.new.seat.knows n z) (sym made)
          (again (decides_made a v y) y z so_far.turned answers);
      kept = adds_turns (goal.at.loop-answer-preserved c).After-turn;
      begins = IsPrefix-trans v.seen y.seen z.seen so_far.begins told.begins;
      process = told.process ∙ so_far.process;
      decides = omega (arith, so_far.decides, more, on_y, on_z);
      elsewhere = λ t other. told.decides_elsewhere t (λ same. other (same ∙ account)) ∙ so_far.elsewhere t other;
      published = omega (arith, so_far.published, told.published);
      more = omega (arith, so_far.more, told.more);
      counted = told.counted;
      steps = steps_after c.args.seat.now.steps (snapshot_steps b.processes) (asking_steps (slots_of (account_of b a))) (round_steps b.processes) (decides_made a v y)
          (decides_made a v z) (decides_made c.loop-answer.helping.account y z) (newly_counted v y c.args.totals.now c.loop-answer.totals)
          (newly_counted y z c.loop-answer.totals c.turn.new.totals) (newly_counted v z c.args.totals.now c.turn.new.totals) c.loop-answer.seat.steps c.turn.new.seat.steps
          (omega (arith, more)) (omega (arith, so_far.decides, more, on_y, on_z)) so_far.steps told.steps
          (omega (arith, so_far.more, told.more, so_far.published, told.published));
      risen = omega (arith, so_far.risen, told.risen);
      exchanges = omega (arith, so_far.exchanges, told.exchanges, so_far.decides, more, on_y, on_z);
    }

pub loop-answer-smaller : goal.loop-answer-smaller
loop-answer-smaller c =
    let b : BookTerms = c.args.board.now.book in
    let y : Knowledge = c.loop-answer.seat.knows in
    let z : Knowledge = c.turn.new.seat.knows in
    let told = c.turn.ensures in
    let is = c.in_default.is in
    let account = account_is (goal.at.loop-answer-smaller c).After-turn in
    omega (
      arith,
      told.overtaken is,
      told.rounds_more is,
      told.heard,
      ap (heard_on y) account,
      ap (heard_on z) account,
      ap (λ t. rounds t y.seen) account,
      ap (λ t. rounds t z.seen) account,
      ap (λ t. slots_of (account_of b t)) account,
    )

pub returns-in-Settled-clause-placed : goal.returns-in-Settled-clause-placed
returns-in-Settled-clause-placed c = λ call payout earlier asks.
    let account = account_is (goal.at.returns-in-Settled-clause-placed c).After-turn in
    let number = ap (λ (h : HelpingTerms). h.own.number) c.loop-answer.invariant.same ∙ c.start-helping.ensures.number in
    c.in-Settled.ensures.placed call (payout_is (goal.at.returns-in-Settled-clause-placed c).After-turn call payout) earlier (ap (λ t. asks_in t earlier) account ∙ (asks ∙ sym number))

pub returns-in-Settled-clause-steps : goal.returns-in-Settled-clause-steps
returns-in-Settled-clause-steps c =
    let b : BookTerms = c.args.board.now.book in
    let v : Knowledge = c.args.seat.now.knows in
    let y : Knowledge = c.loop-answer.seat.knows in
    let z : Knowledge = c.turn.new.seat.knows in
    let a = c.args.account in
    let told = c.turn.ensures in
    let so_far = c.loop-answer.invariant in
    steps_after c.args.seat.now.steps (snapshot_steps b.processes) (asking_steps (slots_of (account_of b a))) (round_steps b.processes) (decides_made a v y)
    (slots_of (account_of b a)) (decides_made c.loop-answer.helping.account y z) (newly_counted v y c.args.totals.now c.loop-answer.totals)
    (newly_counted y z c.loop-answer.totals c.turn.new.totals) (newly_counted v z c.args.totals.now c.turn.new.totals) c.loop-answer.seat.steps c.turn.new.seat.steps
    (omega (arith, told.decides_at_most)) so_far.few so_far.steps told.steps (omega (arith, so_far.more, told.more, so_far.published, told.published))

-- the start and the turns, the last of which has settled the request
in_turns : (c : In-Settled)
    → SettlesInTurns c.args.board.now.book c.args.seat.now.knows c.turn.new.seat.knows c.args.account c.args.targets.now
in_turns c =
    let b : BookTerms = c.args.board.now.book in
    let y : Knowledge = c.loop-answer.seat.knows in
    let told = c.start-helping.ensures in
    let so_far = c.loop-answer.invariant in
    record {
      helping = c.start-helping.result;
      account = told.account;
      targets_are = told.targets;
      started = c.start-helping.new.seat.knows;
      starts = told.started;
      turns = decides_made c.args.account c.args.seat.now.knows y;
      few = omega (arith, so_far.few);
      last = y;
      turned = so_far.turned;
      settles = subst (SettlesOwn b y c.turn.new.seat.knows) so_far.same c.in-Settled.ensures.answers;
    }

pub returns-in-Settled-clause-turns : goal.returns-in-Settled-clause-turns
returns-in-Settled-clause-turns c = in_turns (goal.at.returns-in-Settled-clause-turns c).In-Settled

pub returns-in-Settled-clause-after_snapshot : goal.returns-in-Settled-clause-after_snapshot
unfolding in_turns
returns-in-Settled-clause-after_snapshot c = λ call payout.
    let settled : In-Settled = (goal.at.returns-in-Settled-clause-after_snapshot c).In-Settled in
    let before : After-turn = (goal.at.returns-in-Settled-clause-after_snapshot c).After-turn in
    let z : Knowledge = c.turn.new.seat.knows in
    let r : Receipt = record { call = call; reply = c.in-Settled.answer.0; at = c.in-Settled.answer.1 } in
    StandsAfterSnapshot-SettlesInTurns c.args.board.now.book c.args.seat.now.knows z c.args.account c.args.targets.now (in_turns settled) r
    (has_account before) c.known-2.ensures.seat.own
    (subst (λ (h : HelpingTerms). StandsAfter h.own.since z r) c.loop-answer.invariant.same
    (c.in-Settled.ensures.after_start call (payout_is before call payout)))

pub returns-in-Settled-clause-decides_elsewhere : goal.returns-in-Settled-clause-decides_elsewhere
returns-in-Settled-clause-decides_elsewhere c = λ t other.
    let account = account_is (goal.at.returns-in-Settled-clause-decides_elsewhere c).After-turn in
    c.turn.ensures.decides_elsewhere t (λ same. other (same ∙ account)) ∙ c.loop-answer.invariant.elsewhere t other

pub returns-in-Settled-clause-asked : goal.returns-in-Settled-clause-asked
returns-in-Settled-clause-asked c =
    let before : After-turn = (goal.at.returns-in-Settled-clause-asked c).After-turn in
    let b : BookTerms = c.args.board.now.book in
    let v : Knowledge = c.args.seat.now.knows in
    let u : Knowledge = c.start-helping.new.seat.knows in
    let y : Knowledge = c.loop-answer.seat.knows in
    let z : Knowledge = c.turn.new.seat.knows in
    let a = c.args.account in
    let told = c.start-helping.ensures in
    let own = c.start-helping.result.own in
    let adds : Adds b v z a (request_of own ∷ []) =
    Adds-trans b v (looked_of before) z a [] (request_of own ∷ []) (adds_look before) (adds_since before) in
    let helping : HelpingTerms = c.loop-answer.helping in
    let same = c.loop-answer.invariant.same in
    let account = account_is before in
    let has = subst (HasAccount y) (sym account) (has_account_loop before) in
    let settled_here = settled-SettlesOwn b y z helping has c.in-Settled.ensures.answers in
    let settled_own : is_settled a own.slot own.number z.seen ≡ true =
    subst (λ t. is_settled t own.slot own.number z.seen ≡ true) account
    (subst (λ (h : HelpingTerms). is_settled helping.account h.own.slot h.own.number z.seen ≡ true) same settled_here) in
    let slot_own = subst (λ t. HasSlot b u.first t own.slot) told.account told.helping.asked.slot_in in
    AsksOnce-Adds b v z a own adds c.known.ensures.seat.own c.requires.settled (subst (λ p. HasSlot b p a own.slot) told.process slot_own) told.number told.since
    settled_own

pub returns-in-Settled-clause-more : goal.returns-in-Settled-clause-more
returns-in-Settled-clause-more c = omega (arith, c.loop-answer.invariant.more, c.turn.ensures.more)

pub returns-in-Settled-clause-in_round : goal.returns-in-Settled-clause-in_round
returns-in-Settled-clause-in_round c = c.in-Settled.ensures.in_round

pub returns-in-Settled-clause-free : goal.returns-in-Settled-clause-free
returns-in-Settled-clause-free c = c.turn.ensures.free

pub returns-in-Settled-clause-begins : goal.returns-in-Settled-clause-begins
returns-in-Settled-clause-begins c =
    IsPrefix-trans c.args.seat.now.knows.seen c.loop-answer.seat.knows.seen c.turn.new.seat.knows.seen c.loop-answer.invariant.begins c.turn.ensures.begins

pub returns-in-Settled-clause-process : goal.returns-in-Settled-clause-process
returns-in-Settled-clause-process c = c.turn.ensures.process ∙ c.loop-answer.invariant.process

pub returns-in-Settled-clause-counted : goal.returns-in-Settled-clause-counted
returns-in-Settled-clause-counted c = c.turn.ensures.counted

pub returns-in-Settled-clause-own_counted : goal.returns-in-Settled-clause-own_counted
returns-in-Settled-clause-own_counted c = c.turn.ensures.own_counted

pub returns-in-Settled-clause-board : goal.returns-in-Settled-clause-board
returns-in-Settled-clause-board c = c.turn.ensures.board

pub returns-in-Settled-clause-after_start : goal.returns-in-Settled-clause-after_start
returns-in-Settled-clause-after_start c = λ call payout previous.
    let since = ap (λ (h : HelpingTerms). h.own.since) c.loop-answer.invariant.same in
    let payout_here = payout_is (goal.at.returns-in-Settled-clause-after_start c).After-turn call payout in
    omega (arith, c.in-Settled.ensures.after_start call payout_here previous, since, c.start-helping.ensures.since)

pub returns-in-Settled-clause-decides : goal.returns-in-Settled-clause-decides
returns-in-Settled-clause-decides c =
    let account = account_is (goal.at.returns-in-Settled-clause-decides c).After-turn in
    let on_y = ap (decides_on c.loop-answer.seat.knows) account in
    let on_z = ap (decides_on c.turn.new.seat.knows) account in
    let told = c.turn.ensures in
    let so_far = c.loop-answer.invariant in
    omega (arith, so_far.few, so_far.decides, told.decides_at_most, told.decides_few, on_y, on_z)

pub returns-in-Settled-clause-exchanges : goal.returns-in-Settled-clause-exchanges
returns-in-Settled-clause-exchanges c =
    let account = account_is (goal.at.returns-in-Settled-clause-exchanges c).After-turn in
    let on_y = ap (decides_on c.loop-answer.seat.knows) account in
    let on_z = ap (decides_on c.turn.new.seat.knows) account in
    let told = c.turn.ensures in
    let so_far = c.loop-answer.invariant in
    omega (arith, so_far.exchanges, so_far.decides, told.exchanges, told.decides_few, on_y, on_z)

pub returns-in-Settled-clause-risen : goal.returns-in-Settled-clause-risen
returns-in-Settled-clause-risen c = omega (arith, c.loop-answer.invariant.risen, c.turn.ensures.risen)
