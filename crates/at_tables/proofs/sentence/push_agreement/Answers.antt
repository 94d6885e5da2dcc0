use Rattle.std.proofs.Common.{◌≡◌, ℕ, List, ◌++◌, append_assoc, codes, decimal}
use Rattle.at_tables.proofs.Prelude.{spaced, owner_words}
use Rattle.at_tables.proofs.sentence.push_agreement.Goals as goal

-- four texts after another
append-four : (out a b c d : List ℕ) → (((out ++ a) ++ b) ++ c) ++ d ≡ out ++ (a ++ b ++ c ++ d)
append-four out a b c d = simp append_assoc

pub returns : goal.returns
returns c =
    let g = c.args.group.now in
    rw (c.in_ok-push_names.ensures, c.as_slice.ensures.value, c.in_ok-extend_from_slice-2.ensures.items, c.in_ok-push_number.ensures.ok, c.in_ok-extend_from_slice.ensures.items)
    (append-four c.args.out.now.items (codes "; ") (decimal g.payments.0) (codes " by the owners") (spaced (owner_words c.args.names.now g.owners.items)))
