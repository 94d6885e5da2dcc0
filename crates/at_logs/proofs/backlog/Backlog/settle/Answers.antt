use Rattle.std.proofs.Common.{rules, ℕ, not, List, filter, ap, ◌∙◌}
use Rattle.std.proofs.lemmas.Fn.{filter_same}
use Rattle.at_logs.proofs.Prelude.{Credit, RoomyBacklog, backlog_settled, is_below}
use Rattle.at_logs.proofs.backlog.Backlog.settle.Goals as goal

pub returns-clause-kept : goal.returns-clause-kept
returns-clause-kept c =
    let test = λ (x : Credit). not (is_below c.args.deps.now x) in
    let left = filter_same _ test _ (λ x b f' k. search rules) _ _ c.retain.ensures.filtered in
    ap (λ (l : List Credit). record { kept = record { messages = c.self.inside.messages.items; credits = l; settled_at = c.copy-self-inside.result }; room = c.self.inside.room }) left
    ∙ (ap (λ (d : List ℕ). record { kept = record { messages = c.self.inside.messages.items; credits = filter test c.self.inside.credits.items; settled_at = d }; room = c.self.inside.room })
    c.copy-self-inside.ensures
    ∙ ap (λ (v : RoomyBacklog). record { kept = backlog_settled v.kept c.args.deps.now; room = v.room }) c.self.view_is)
