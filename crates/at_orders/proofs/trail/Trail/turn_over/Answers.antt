use Rattle.std.proofs.Common.{◌≡◌, ℕ, ◌+◌, List, None, length, ap, sym, subst}
use Rattle.std.specs.Prelude.{nat_eq}
use Rattle.std.specs.Map.{lookup}
use Rattle.indexmap.specs.IndexMap.{get}
use Rattle.at_orders.proofs.Prelude.{TurnsOver, Trail}
use Rattle.at_orders.proofs.Trails.{turned, turned-held, with_level}
use Rattle.at_orders.proofs.trail.Trail.turn_over.Goals as goal
use Rattle.at_orders.proofs.trail.Trail.turn_over.Goals.{then-grown-named+in_ok-hold, else-grown-named}

pub returns : goal.returns
returns c stages trail =
    let g = c.args.ground.now in
    let old : Trail = c.args.self.now in
    let other : Trail = record { held = old.held; links = old.links; looked = 0; begun = 0; latest = c.new.result } in
    let none : (hash : ℕ) → get nat_eq other.latest hash ≡ None = λ hash. ap (λ (es : List (ℕ × ℕ)). lookup (nat_eq hash) es) c.new.ensures.empty in
    let all : c.len-self.result ≡ length c.if-grown-named.self.held.items + length c.if-grown-named.self.links.items = c.len-self.ensures in
    elim c.if-grown-named.branch [
      | then-grown-named+in_ok-hold w ↦
          let mid : Trail = w.hold.new.self in
          let same : c.if-grown-named.self ≡ mid = w.self-is in
          let count : c.len-self.result ≡ length mid.held.items + length mid.links.items = subst (λ (t : Trail). c.len-self.result ≡ length t.held.items + length t.links.items) same all in
          subst (λ (t : Trail). TurnsOver g old (with_level t c.len-self.result other) stages) (sym same) (turned-held g old mid other stages c.len-self.result trail (w.in_ok-hold.ensures stages trail) count none)
      | else-grown-named w ↦
          let same : c.if-grown-named.self ≡ old = w.self-is in
          let count : c.len-self.result ≡ length old.held.items + length old.links.items = subst (λ (t : Trail). c.len-self.result ≡ length t.held.items + length t.links.items) same all in
          subst (λ (t : Trail). TurnsOver g old (with_level t c.len-self.result other) stages) (sym same) (turned g old other stages c.len-self.result trail count none)
    ]
