use Rattle.std.proofs.Common.{◌≡◌, ◌<◌, length, sym, ap, subst, ◌∙◌, arith}
use Rattle.at_machines.proofs.Prelude.{common_steps, prefix_of, rounds, SeatTerms, TotalSums, HelpingTerms, IsDecidingSo, Proposing}
use Rattle.at_machines.proofs.DecidingLaws.{IsDecidingSo-start}
use Rattle.at_machines.proofs.deciding.Deciding.start.Goals as goal

pub invariant_of-result : goal.invariant_of-result
invariant_of-result c =
    let b = c.args.board.now.book in
    let v = c.args.seat.now.knows in
    let h : HelpingTerms = c.args.helping.now in
    let cut = c.args.cut in
    let a = c.account-account.result in
    let r = c.rounds-round.result in
    let stage = Proposing c.proposal-proposal.result in
    let account : a ≡ h.account = c.account-account.ensures in
    let counts = c.rounds-round.ensures.cut b v.seen
    (record {
      counted = c.requires.totals;
      account_in = subst (λ k. k < length b.accounts) (sym account) c.requires.helping.asked.slot_in.account_in;
    })
    c.requires.at_cut in
    let round : r ≡ rounds h.account (prefix_of cut v.seen) =
    counts ∙ (ap (λ f. rounds a (prefix_of f v.seen)) c.requires.cut ∙ ap (λ k. rounds k (prefix_of cut v.seen)) account) in
    let so = IsDecidingSo-start b v c.args.totals.now h cut a r c.proposal-proposal.result c.known.ensures.seat c.requires.seat.book c.requires.totals
    c.requires.at_cut c.requires.cut c.requires.own c.requires.helping c.requires.unsettled account round c.proposal-proposal.ensures.place
    c.proposal-proposal.ensures.proposal in
    subst (λ (s : SeatTerms). IsDecidingSo s.knows c.of-2.result.value.knows c.of-3.result.value c.of-4.result.value cut a r stage) (sym c.of.ensures)
    (subst (λ (s : SeatTerms). IsDecidingSo v s.knows c.of-3.result.value c.of-4.result.value cut a r stage) (sym c.of-2.ensures)
    (subst (λ (t : TotalSums). IsDecidingSo v v t c.of-4.result.value cut a r stage) (sym c.of-3.ensures)
    (subst (λ (t : HelpingTerms). IsDecidingSo v v c.args.totals.now t cut a r stage) (sym c.of-4.ensures) so)))

pub proposal-proposal-requires-clause-totals : goal.proposal-proposal-requires-clause-totals
proposal-proposal-requires-clause-totals c = grind (arith, common_steps)

pub returns : goal.returns
returns c = grind (arith, common_steps)
