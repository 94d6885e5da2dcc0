use Rattle.std.proofs.Common.{◌≡◌, ◌++◌, ◌∷◌, [], ℕ, List, append_assoc, append-nil, codes, flat_map}
use Rattle.at_pages.proofs.Prelude.{account_name, call_word, kind_word, kind_of, first_account}
use Rattle.at_pages.proofs.tables.push_fields.Goals as goal

-- what a function gives of three words
three-parts : (f : List ℕ → List ℕ) (out a b c : List ℕ)
    → ((out ++ flat_map f (a ∷ [])) ++ flat_map f (b ∷ [])) ++ flat_map f (c ∷ []) ≡ out ++ flat_map f (a ∷ b ∷ c ∷ [])
three-parts f out a b c = simp (append_assoc, append-nil)

pub returns : goal.returns
returns c =
    rw (c.in_ok-push_cell-3.ensures, c.kind_word.ensures, c.kind_of.ensures, c.in_ok-push_cell-2.ensures, c.account.ensures.name, c.first_account.ensures, c.in_ok-push_cell.ensures, c.call_word.ensures)
    (three-parts (λ word. codes "<td>" ++ word ++ codes "</td>") c.args.out.now.items (call_word c.args.call.now) (account_name c.args.names.now (first_account c.args.call.now)) (kind_word (kind_of c.args.book.now c.args.process c.args.call.now)))
