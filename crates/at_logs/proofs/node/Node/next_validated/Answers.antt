use Rattle.std.proofs.Common.{refl, sym, subst}
use Rattle.at_logs.specs.Calls.{HasTold, told_terms}
use Rattle.at_logs.proofs.Prelude.{IsHistoryOf, NodeTerms, ReadingState, Told, read_state, told}
use Rattle.at_logs.proofs.node.Node.next_validated.Goals as goal

pub returns-clause-some : goal.returns-clause-some
returns-clause-some c = λ messages history.
    let n : NodeTerms = c.args.self.now in
    let x : Told = c.in_ok-told.told in
    let s : ReadingState = read_state n messages in
    let untold = c.in_ok-told.ensures.some messages history in
    let next : IsHistoryOf messages (told_terms n x.log) = subst (IsHistoryOf messages) c.count_told.ensures.told (c.count_told.ensures.history messages untold.message history untold.next) in
    subst (λ (k : NodeTerms). HasTold s x k) (sym c.count_told.ensures.told) (record {
      history = next;
      next = record { untold = untold; left = refl };
      first = c.in_ok-told.ensures.first messages history;
      read = λ b hash logs before. told s (read_state (told_terms n x.log) messages) before refl next.reading;
    })
