use Rattle.std.proofs.Common.{◌≡◌, ◌∙◌, ◌+◌, ◌*◌, ◌%◌, ◌^◌, ℕ, ap}
use Rattle.at_commands.proofs.Prelude.{add-mod-mod, add_comm, mul_comm, next_state}
use Rattle.at_commands.proofs.generating.Draws.draw.Goals as goal

-- what is left of the product can be left of the sum
mod-add-mod : (a b m : ℕ) → (a % m + b) % m ≡ (a + b) % m
mod-add-mod a b m = ap (λ n. n % m) (add_comm (a % m) b) ∙ add-mod-mod b a m ∙ ap (λ n. n % m) (add_comm b a)

pub returns-clause-state : goal.returns-clause-state
unfolding next_state
returns-clause-state c =
    let x = c.args.self.now.state in
    mod-add-mod (x * 6364136223846793005) 1442695040888963407 (2 ^ 64) ∙ ap (λ n. (n + 1442695040888963407) % 2 ^ 64) (mul_comm x 6364136223846793005)
