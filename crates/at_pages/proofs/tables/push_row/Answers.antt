use Rattle.std.proofs.Common.{◌≡◌, ◌+◌, ◌++◌, ◌∷◌, [], ℕ, List, append_assoc, append-nil, codes, decimal, flat_map}
use Rattle.at_pages.proofs.Prelude.{flat_map-append, process_name, contents_of, reply_field, spanned_call, bound_cells, call_cells, count_cells, Span}
use Rattle.at_pages.proofs.tables.push_row.Goals as goal

-- the parts of a row, one after another
row-parts : (f : List ℕ → List ℕ) (out begin a b : List ℕ) (words : List (List ℕ)) (c : List ℕ) (counts bounds : List (List ℕ)) (end : List ℕ)
    → (((((((out ++ begin) ++ flat_map f (a ∷ [])) ++ flat_map f (b ∷ [])) ++ flat_map f words) ++ flat_map f (c ∷ [])) ++ flat_map f counts) ++ flat_map f bounds) ++ end
    ≡ out ++ (begin ++ flat_map f (a ∷ b ∷ (words ++ c ∷ (counts ++ bounds))) ++ end)
row-parts f out begin a b words c counts bounds end =
    rw (flat_map-append f words (c ∷ (counts ++ bounds)), flat_map-append f counts bounds) (simp (append_assoc, append-nil))

pub returns : goal.returns
returns c =
    let s : Span = c.args.span.now in
    let call = spanned_call (contents_of c.args.files.now) s in
    rw (c.in_ok-extend_from_slice-2.ensures.items, c.in_ok-push_bound_cells.ensures, c.in_ok-push_count_cells.ensures, c.in_ok-push_reply_cell.ensures, c.in_ok-push_call_cells.ensures, c.in_ok-push_number_cell.ensures, c.in_ok-push_cell.ensures, c.process.ensures.name, c.in_ok-extend_from_slice.ensures.items)
    (row-parts (λ word. codes "<td>" ++ word ++ codes "</td>") c.args.out.now.items (codes "<tr>") (process_name c.args.names.now s.process) (decimal (s.number + 1))
    (call_cells c.args.book.now c.args.names.now s.process call) (reply_field s.reply) (count_cells s) (bound_cells c.args.book.now call s.new_records s.reply) (codes "</tr>\n"))
