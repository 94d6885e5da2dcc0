use Rattle.std.proofs.Common.{rules, ◌≡◌, ℕ, ◌+◌, ◌-◌, ◌≤◌, ◌*◌, ◌++◌, List, [], ◌∷◌, sym, ap, subst, ◌∙◌, arith, length}
use Rattle.at_object.proofs.Prelude.{get_or-le-sum_by, Balance, balance_after, place, prefix_of, owns_of, BoardTerms, SeatTerms, Asking, Knowledge, RECORD_WORDS, StandsBehind-cut, length-prefix_of-le, IsPlaced, is_at_own, is_at_round, look_at, Told, key_of, Receipt, PassTerms, pass_of, past_call, with_one_call, Stands, others_counted, sent_by, Rest, asking_on-HasLoaded, decides_on, StandsAfter, IsSnapshot, snapshot_steps, cut_behind}
use Rattle.std.specs.Prelude.{slice_index, sum}
use Rattle.at_object.proofs.Laws.Looked.{IsPass-HasLoaded, Told-HasLoaded, owns_of-HasLoaded}
use Rattle.at_object.proofs.Laws.Looks.{look-Cut, place-IsSnapshot}
use Rattle.at_object.proofs.Laws.OnePass.{IsOfOnePass-counted, past-counted}
use Rattle.at_object.proofs.Laws.Within.{read_or_refused}
use Rattle.at_object.proofs.ledger.Ledger.read.Goals.{After-known-2}
use Rattle.at_object.proofs.ledger.Ledger.read.Goals as goal

-- what the seat knew of the book is what the ledger has
pub invariant_of-pass : goal.invariant_of-pass
invariant_of-pass c =
    let told = c.read_account-receipt.ensures in
    let v : Knowledge = c.pass.inside.seat.knows in
    let same : v ≡ c.args.pass.now.knows = ap (λ (t : PassTerms). t.knows) c.pass.view_is in
    let book : v.book ≡ c.self.inside.board.book =
    ap (λ (t : Knowledge). t.book) same ∙ (c.requires.pass.book ∙ sym (ap (λ (t : BoardTerms). t.book) c.self.view_is)) in
    let was = c.pass.inside.rest in
    let now : Rest = record was { totals = c.read_account-receipt.new.totals; calls = c.count_one.new.self } in
    IsOfOnePass-counted c.of-start.result.value c.read_account-receipt.new.seat c.read_account-receipt.result was now c.count_one.ensures
    (IsPass-HasLoaded c.self.inside.board.book v c.read_account-receipt.new.seat.knows c.known.ensures.seat c.known-2.ensures.seat book told.board.book
    told.at_cut.loads was.totals c.read_account-receipt.new.totals was.sent c.pass.invariant.pass told.counted told.own_counted)

-- the receipt is right after the earlier ones
placed : (c : After-known-2) → (earlier : List Receipt)
    → IsPlaced c.args.self.now.book c.args.pass.now.knows.first c.read_account-receipt.new.seat.knows.seen earlier c.read_account-receipt.result
placed c = λ earlier.
    let w : Knowledge = c.read_account-receipt.new.seat.knows in
    subst (λ (t : BoardTerms). IsPlaced t.book c.args.pass.now.knows.first w.seen earlier c.read_account-receipt.result) c.self.view_is
    (subst (λ (t : PassTerms). IsPlaced c.self.inside.board.book t.knows.first w.seen earlier c.read_account-receipt.result) c.pass.view_is
    (c.read_account-receipt.ensures.placed earlier))

-- it stands after all that was seen
after_seen : (c : After-known-2) → StandsAfter (length c.args.pass.now.knows.seen) c.read_account-receipt.new.seat.knows c.read_account-receipt.result
after_seen c = λ previous.
    let w : Knowledge = c.read_account-receipt.new.seat.knows in
    let r = c.read_account-receipt.result in
    let cut = cut_behind w r.at in
    omega (
      arith,
      c.read_account-receipt.ensures.after_cut previous,
      length-prefix_of-le cut c.pass.inside.seat.knows.seen w.seen c.read_account-receipt.ensures.snapshot.begins,
      ap (λ (t : PassTerms). length t.knows.seen) c.pass.view_is,
    )

-- and its look has seen all of that
looked : (c : After-known-2) → let w : Knowledge = c.read_account-receipt.new.seat.knows in
    length c.args.pass.now.knows.seen ≤ look_at w.first w.seen c.read_account-receipt.result.at
looked c =
    let told = c.read_account-receipt.ensures in
    let w : Knowledge = c.read_account-receipt.new.seat.knows in
    let at = c.read_account-receipt.result.at in
    omega (
      arith,
      place-IsSnapshot c.self.inside.board.book c.pass.inside.seat.knows w (cut_behind w at) told.snapshot,
      look-Cut w at told.at_cut.at_cut,
      ap (λ (t : PassTerms). length t.knows.seen) c.pass.view_is,
    )

-- and with the earlier ones
stands : (c : After-known-2) → (earlier : List Receipt) → Stands c.args.pass.now earlier
    → let w : Knowledge = c.read_account-receipt.new.seat.knows in Told w.book w.first w.seen (earlier ++ c.read_account-receipt.result ∷ [])
stands c = λ earlier stands.
    let told = c.read_account-receipt.ensures in
    let v : Knowledge = c.pass.inside.seat.knows in
    let w : Knowledge = c.read_account-receipt.new.seat.knows in
    let r = c.read_account-receipt.result in
    let cut = cut_behind w r.at in
    let same : v ≡ c.args.pass.now.knows = ap (λ (t : PassTerms). t.knows) c.pass.view_is in
    let book : v.book ≡ c.self.inside.board.book =
    ap (λ (t : Knowledge). t.book) same ∙ (c.requires.pass.book ∙ sym (ap (λ (t : BoardTerms). t.book) c.self.view_is)) in
    let first : w.first ≡ v.first = ap (λ (t : Knowledge). t.first) told.at_cut.loads.same in
    Told-HasLoaded c.self.inside.board.book v w c.known.ensures.seat c.known-2.ensures.seat book told.board.book told.at_cut.loads
    c.pass.inside.rest.totals c.read_account-receipt.new.totals c.pass.inside.rest.sent c.pass.invariant.pass earlier r
    (subst (λ (t : Knowledge). Told t.book t.first t.seen earlier) (sym same) stands) (told.placed earlier)
    (StandsBehind-cut v.first v.seen w.seen r cut told.snapshot.begins
    (λ previous. subst (λ p. 2 * place cut ≤ key_of p w.seen previous r) first (told.after_cut previous)))
    (ap is_at_own told.at_cut.at_cut) (ap is_at_round told.at_cut.at_cut)

-- no own record was published
sent : (c : After-known-2)
    → let w : Knowledge = c.read_account-receipt.new.seat.knows in owns_of w.first w.seen ≡ sent_by c.args.pass.now
sent c =
    let told = c.read_account-receipt.ensures in
    let v : Knowledge = c.pass.inside.seat.knows in
    let w : Knowledge = c.read_account-receipt.new.seat.knows in
    let same : v ≡ c.args.pass.now.knows = ap (λ (t : PassTerms). t.knows) c.pass.view_is in
    let book : v.book ≡ c.self.inside.board.book =
    ap (λ (t : Knowledge). t.book) same ∙ (c.requires.pass.book ∙ sym (ap (λ (t : BoardTerms). t.book) c.self.view_is)) in
    ap (λ p. owns_of p w.seen) (ap (λ (t : Knowledge). t.first) told.at_cut.loads.same)
    ∙ (owns_of-HasLoaded c.self.inside.board.book v w c.known.ensures.seat c.known-2.ensures.seat book told.board.book told.at_cut.loads
    c.pass.inside.rest.totals c.read_account-receipt.new.totals c.pass.inside.rest.sent c.pass.invariant.pass
    ∙ ap (λ (t : Knowledge). owns_of t.first t.seen) same)

-- few steps were made: what was counted before of the own records is among all that was counted
few : (c : After-known-2) → let w : SeatTerms = c.read_account-receipt.new.seat in let was = c.args.pass.now in
    w.steps ≤ was.steps + snapshot_steps c.args.self.now.book.processes
    + RECORD_WORDS * ((sum c.read_account-receipt.new.totals.upto - slice_index c.read_account-receipt.new.totals.upto w.knows.first) - others_counted was)
few c =
    let told = c.read_account-receipt.ensures in
    let was = c.pass.inside.rest.totals in
    let first = c.pass.inside.seat.knows.first in
    let among : slice_index was.upto first ≤ sum was.upto =
    get_or-le-sum_by (λ (n : ℕ). n) was.upto first 0 (omega (arith, c.known.ensures.seat.known, c.pass.invariant.pass.counted.processes)) in
    omega (
      arith,
      told.steps,
      among,
      c.pass.invariant.pass.own_counted,
      told.own_counted,
      told.more,
      ap (λ (t : PassTerms). t.steps) c.pass.view_is,
      ap (λ (t : PassTerms). others_counted t) c.pass.view_is,
      ap (λ (t : BoardTerms). snapshot_steps t.book.processes) c.self.view_is,
    )

-- no exchange was made
decides : (c : After-known-2) (a : ℕ) → decides_on c.read_account-receipt.new.seat.knows a ≡ decides_on c.args.pass.now.knows a
decides c a =
    let told = c.read_account-receipt.ensures in
    let v : Knowledge = c.pass.inside.seat.knows in
    ap (λ (t : Asking). t.decides) (asking_on-HasLoaded c.self.inside.board.book v c.read_account-receipt.new.seat.knows a
    (omega (arith, c.known.ensures.seat.one_part)) told.at_cut.loads)
    ∙ ap (λ (t : PassTerms). decides_on t.knows a) c.pass.view_is

pub returns-clause-made : goal.returns-clause-made
returns-clause-made c =
    let d : After-known-2 = (goal.at.returns-clause-made c).After-known-2 in
    let told = c.read_account-receipt.ensures in
    let w : Knowledge = c.read_account-receipt.new.seat.knows in
    let r = c.read_account-receipt.result in
    let cut = cut_behind w r.at in
    record {
      call_is = told.call;
      at_cut = told.at_cut.at_cut;
      reply = subst (λ (t : BoardTerms). r.reply ≡ Balance (balance_after t.book (prefix_of cut w.seen) c.args.account)) c.self.view_is told.reply;
      snapshot = subst (λ (t : BoardTerms). IsSnapshot t.book c.args.pass.now.knows w cut) c.self.view_is
          (subst (λ (t : PassTerms). IsSnapshot c.self.inside.board.book t.knows w cut) c.pass.view_is told.snapshot);
      placed = λ earlier _. placed d earlier;
      stands = stands d;
      after_seen = after_seen d;
      looked = looked d;
      begins = search rules;
      history = search rules;
      process_is = search rules;
      asked = search rules;
      sent = sent d;
      counted = search rules;
    }

pub returns-clause-within : goal.returns-clause-within
returns-clause-within c =
    let d : After-known-2 = (goal.at.returns-clause-within c).After-known-2 in
    let told = c.read_account-receipt.ensures in
    record {
      few = few d;
      risen = omega (arith, told.risen, ap (λ (t : PassTerms). t.steps) c.pass.view_is);
      refused = λ refused. absurd (read_or_refused c.read_account-receipt.result _ told.reply refused);
      decided = omega (arith, told.exchanges, ap (λ (t : PassTerms). t.exchanges) c.pass.view_is, decides d c.args.account);
      none = λ _. told.exchanges ∙ ap (λ (t : PassTerms). t.exchanges) c.pass.view_is;
      few_decided = omega (arith, decides d c.args.account);
      decides_elsewhere = λ a apart. decides d a;
    }

-- it is among the calls of the pass
pub returns-clause-past : goal.returns-clause-past
returns-clause-past c =
    let r : Receipt = c.read_account-receipt.result in
    let was : Rest = c.pass.inside.rest in
    let now : Rest = record was { totals = c.read_account-receipt.new.totals; calls = c.count_one.new.self } in
    let after : PassTerms = pass_of c.read_account-receipt.new.seat now in
    subst (λ (t : PassTerms). after.past ≡ t.past ++ past_call t after r ∷ []) c.pass.view_is
    (past-counted c.pass.inside.seat c.read_account-receipt.new.seat r was now c.pass.invariant.counted
    (c.count_one.ensures ∙ ap (λ (s : SeatTerms). with_one_call s c.read_account-receipt.new.seat now.totals r was.calls) c.of-start.ensures))
