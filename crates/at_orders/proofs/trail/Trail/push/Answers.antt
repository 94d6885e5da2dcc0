use Rattle.std.proofs.Common.{◌≡◌, length, sym, ◌∙◌, Some, ℕ, subst}
use Rattle.at_orders.proofs.Prelude.{Link}
use Rattle.std.specs.Prelude.{nat_eq}
use Rattle.indexmap.specs.IndexMap.{Updates, get}
use Rattle.at_orders.proofs.Trails.{pushed}
use Rattle.at_orders.proofs.trail.Trail.push.Goals as goal

pub returns : goal.returns
returns c g stages s trail seen hash known led =
    let old = c.args.self.now in
    let l : Link = record { from = c.args.from; process = c.args.process; twin = c.copied-twin.result } in
    let number : c.len-number.result ≡ length stages = c.len-number.ensures ∙ sym trail.size in
    pushed g old (record { held = old.held; links = c.push.new.self; looked = old.looked; begun = old.begun; latest = c.insert.new.self }) stages s l trail seen known led
    (subst (λ (n : ℕ). c.copied-twin.result ≡ get nat_eq old.latest n) hash (c.copied-twin.ensures ∙ c.get.ensures.value))
    c.in_ok-push.ensures.items
    (subst (λ (n : ℕ). Updates nat_eq old.latest c.insert.new.self n (Some (length stages))) hash (subst (λ (n : ℕ). Updates nat_eq old.latest c.insert.new.self c.args.hash (Some n)) number c.in-Ok.ensures.updates))
