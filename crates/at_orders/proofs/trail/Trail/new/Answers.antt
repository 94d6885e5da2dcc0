use Rattle.std.proofs.Common.{ℕ, ◌++◌, ◌∷◌, [], List, refl, ap, ◌∙◌}
use Rattle.std.specs.Prelude.{nat_eq}
use Rattle.std.specs.Map.{lookup}
use Rattle.at_orders.proofs.Prelude.{Stage}
use Rattle.at_orders.proofs.Seen.{first-seen}
use Rattle.at_orders.proofs.Trails.{trail-first}
use Rattle.at_orders.proofs.trail.Trail.new.Goals as goal

pub returns-clause-first : goal.returns-clause-first
returns-clause-first c =
    let g = c.args.ground.now in
    let s = c.in_ok-first.field-0 in (
      s,
      trail-first g (record { held = c.push.new.self; links = c.new.result; looked = 0; begun = 1; latest = c.new-2.result }) s
          (first-seen g s c.book-known.ensures.known.processes c.in_ok-first.ensures.stage c.in_ok-first.ensures.standing)
          (c.in_ok-push.ensures.items ∙ ap (λ (xs : List Stage). xs ++ s ∷ []) c.new-held.ensures.items) c.new.ensures.items refl refl
          (λ hash. ap (λ (es : List (ℕ × ℕ)). lookup (nat_eq hash) es) c.new-2.ensures.empty),
      c.in_ok-first.ensures.stage,
      c.in_ok-first.ensures.standing,
    )
