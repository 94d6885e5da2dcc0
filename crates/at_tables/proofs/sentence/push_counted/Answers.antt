use Rattle.std.proofs.Common.{◌≡◌, ℕ, List, ◌++◌, append_assoc, codes, decimal}
use Rattle.at_tables.proofs.sentence.push_counted.Goals as goal

-- eight texts after another
append-eight : (out a b c d e f g h : List ℕ)
    → (((((((out ++ a) ++ b) ++ c) ++ d) ++ e) ++ f) ++ g) ++ h ≡ out ++ (a ++ b ++ c ++ d ++ e ++ f ++ g ++ h)
append-eight out a b c d e f g h = simp append_assoc

pub returns : goal.returns
returns c =
    rw (c.in_ok-extend_from_slice-4.ensures.items, c.in_ok-push_number-4.ensures.ok, c.in_ok-extend_from_slice-3.ensures.items, c.in_ok-push_number-3.ensures.ok, c.in_ok-extend_from_slice-2.ensures.items, c.in_ok-push_number-2.ensures.ok, c.in_ok-extend_from_slice.ensures.items, c.in_ok-push_number.ensures.ok)
    (append-eight c.args.out.now.items (decimal c.args.payments) (codes " payments: ") (decimal c.args.alone) (codes " made without agreement, ") (decimal c.args.refused) (codes " refused because the process does not own the source, ") (decimal c.args.agreed) (codes " agreed on"))
