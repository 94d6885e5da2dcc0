use Rattle.std.proofs.Common.{◌≡◌, ◌++◌, ◌∷◌, [], ℕ, List, append_assoc, append-nil, codes, decimal, flat_map}
use Rattle.at_pages.proofs.Prelude.{Span}
use Rattle.at_pages.proofs.tables.push_count_cells.Goals as goal

-- what a function gives of three words
three-parts : (f : List ℕ → List ℕ) (out a b c : List ℕ)
    → ((out ++ flat_map f (a ∷ [])) ++ flat_map f (b ∷ [])) ++ flat_map f (c ∷ []) ≡ out ++ flat_map f (a ∷ b ∷ c ∷ [])
three-parts f out a b c = simp (append_assoc, append-nil)

pub returns : goal.returns
returns c =
    let s : Span = c.args.span.now in
    rw (c.in_ok-push_number_cell-3.ensures, c.in_ok-push_number_cell-2.ensures, c.in_ok-push_number_cell.ensures)
    (three-parts (λ word. codes "<td>" ++ word ++ codes "</td>") c.args.out.now.items (decimal s.steps) (decimal s.exchanges) (decimal s.new_records))
