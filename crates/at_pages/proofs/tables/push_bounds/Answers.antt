use Rattle.std.proofs.Common.{◌≡◌, ◌++◌, ◌∷◌, [], ℕ, List, append_assoc, append-nil, codes, decimal, flat_map}
use Rattle.at_pages.proofs.Prelude.{most_exchanges, most_steps}
use Rattle.at_pages.proofs.tables.push_bounds.Goals as goal

-- what a function gives of two words
two-parts : (f : List ℕ → List ℕ) (out a b : List ℕ) → (out ++ flat_map f (a ∷ [])) ++ flat_map f (b ∷ []) ≡ out ++ flat_map f (a ∷ b ∷ [])
two-parts f out a b = simp (append_assoc, append-nil)

pub returns : goal.returns
returns c =
    let b = c.args.book.now in
    let call = c.args.call.now in
    rw (c.in_ok-push_number_cell-2.ensures, c.from.ensures, c.most_exchanges.ensures, c.in_ok-push_number_cell.ensures, c.most_steps.ensures)
    (two-parts (λ word. codes "<td>" ++ word ++ codes "</td>") c.args.out.now.items (decimal (most_steps b call c.args.reply c.args.new_records)) (decimal (most_exchanges b call c.args.reply)))
