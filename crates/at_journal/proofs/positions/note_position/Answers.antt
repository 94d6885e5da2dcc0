use Rattle.at_journal.proofs.Prelude.{common_steps, set, get_or-map, map-set, IsOnAccount, with_position}
use Rattle.std.proofs.Common.{◌≡◌, ◌<◌, subst, ◌++◌, [], ◌∷◌, ap, arith, length, map, get_or, sym, ◌∙◌}
use Rattle.at_journal.proofs.RoundPositions.{with_position-next}
use Rattle.at_journal.proofs.positions.note_position.Goals as goal

pub returns-in_ok-push-in-Round : goal.returns-in_ok-push-in-Round
returns-in_ok-push-in-Round c =
    let starts = map (λ v. v.items) c.args.starts.now.items in
    let account = c.in-Round.account in
    let known : account < length c.args.starts.now.items = subst (IsOnAccount (length c.args.starts.now.items)) c.in-Round.is c.requires in
    let old : c.index_mut-firsts.result.now.items ≡ get_or starts account [] =
    ap (λ v. v.items) c.index_mut-firsts.ensures.value
    ∙ sym (get_or-map (λ v. v.items) c.args.starts.now.items account c.index_mut-firsts.result.now [] known) in
    let new : c.push.new.self.items ≡ get_or starts account [] ++ c.args.position ∷ [] =
    c.in_ok-push-in-Round.ensures.items ∙ ap (λ xs. xs ++ c.args.position ∷ []) old in
    let next : length (get_or starts account []) ≡ c.in-Round.round =
    omega (arith, ap length old, c.len.ensures, c.if-len-round.true, c.index_mut-firsts.result.now.ok.0) in
    map-set (λ v. v.items) c.args.starts.now.items account c.push.new.self
    ∙ (ap (set starts account) new
    ∙ (sym (with_position-next c.args.position account c.in-Round.round c.in-Round.decision c.in-Round.targets starts next)
    ∙ ap (λ e. with_position c.args.position e starts) (sym c.in-Round.is)))

pub returns-else-len-round : goal.returns-else-len-round
returns-else-len-round c = grind (arith, common_steps)
