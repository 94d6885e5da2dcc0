use Rattle.std.proofs.Common.{◌≡◌, List, ℕ, ◌++◌, ap, append_assoc, ◌∙◌}
use Rattle.std.specs.Int.{w32, w64, to_be_bytes}
use Rattle.at_logs.proofs.spelling.put_target.Goals as goal

pub returns : goal.returns
returns c =
    let front = c.args.out.now.items in
    let to : c.extend_from_slice.new.self.items ≡ front ++ to_be_bytes w32 c.args.to =
    c.in_ok-extend_from_slice.ensures.items ∙ ap (λ l. front ++ l) c.to_be_bytes.ensures in
    let both : c.extend_from_slice-2.new.self.items ≡ (front ++ to_be_bytes w32 c.args.to) ++ to_be_bytes w64 c.args.amount =
    c.in_ok-extend_from_slice-2.ensures.items
    ∙ (ap (λ (l : List ℕ). l ++ c.to_be_bytes-2.result) to ∙ ap (λ l. (front ++ to_be_bytes w32 c.args.to) ++ l) c.to_be_bytes-2.ensures) in
    both ∙ append_assoc front (to_be_bytes w32 c.args.to) (to_be_bytes w64 c.args.amount)
