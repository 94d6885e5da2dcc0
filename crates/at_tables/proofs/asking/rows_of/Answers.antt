use Rattle.std.proofs.Common.{◌≡◌, ◌<◌, ◌≤◌, ◌^◌, ◌++◌, ◌∷◌, ℕ, [], All, List, length, sym, ap, subst, ◌∙◌, arith}
use Rattle.std.specs.Prelude.{slice_index}
use Rattle.at_tables.proofs.Prelude.{get_or-replicate, with_items, with_items_is, IsPlayable, contents_of, contents_of-pushed, get_or-contents_of, length-contents_of, IsCallOn, Call, asked_in_file, owner_asks}
use Rattle.at_tables.proofs.AskingLaws.{have_sums-more, sum_rows-more}
use Rattle.at_tables.proofs.asking.rows_of.Goals as goal

pub add_all-requires-clause-calls_in : goal.add_all-requires-clause-calls_in
add_all-requires-clause-calls_in c =
    let size : length (contents_of c.args.files.now) ≡ length c.args.files.now = length-contents_of c.args.files.now in
    let file = get_or-contents_of c.args.files.now c.loop-process.process c.index-files-process.result (omega arith) c.index-files-process.is in
    let playable = c.requires.files c.loop-process.process [] (omega arith) in
    subst (λ (calls : List Call). All (IsCallOn (length c.args.book.now.accounts)) calls) (file ∙ sym c.as_slice-file.ensures.value) playable.known

pub loop-process-preserved : goal.loop-process-preserved
loop-process-preserved c =
    let b = c.args.book.now in
    let files : List (List Call) = contents_of c.args.files.now in
    let p : ℕ = c.loop-process.process in
    let calls : List Call = c.as_slice-file.result.now in
    let row : List ℕ = c.add_all.new.row in
    let before : List (List ℕ) = contents_of c.loop-process.rows.items in
    let size : length files ≡ length c.args.files.now = length-contents_of c.args.files.now in
    let same = get_or-contents_of c.args.files.now p c.index-files-process.result (omega arith) c.index-files-process.is ∙ sym c.as_slice-file.ensures.value in
    let playable = subst (IsPlayable (length b.accounts)) same (c.requires.files p [] (omega arith)) in
    let zero : (a : ℕ) → a < length b.accounts → slice_index c.as_mut_slice.result.now a ≡ 0 = λ a within.
    ap (λ (xs : List ℕ). slice_index xs a) (c.as_mut_slice.ensures.value ∙ c.in_ok-row.ensures.items_if_clones_equal (λ y is. is)) ∙ get_or-replicate _ a 0 0 (omega (arith, within, c.accounts.ensures.count)) in
    let asked : (a : ℕ) → a < length b.accounts → slice_index row a ≡ owner_asks b files a p = λ a within.
    omega (arith, c.add_all.ensures.each a within, zero a within) ∙ ap (λ (xs : List Call). asked_in_file b p a xs) (sym same) in
    let small : (a : ℕ) → a < length b.accounts → slice_index row a ≤ 2 ^ 80 = λ a within.
    omega (arith, c.add_all.ensures.small a within, zero a within, playable.few) in
    let accounts : length row ≡ length b.accounts = omega (arith, c.add_all.ensures.accounts, c.as_mut_slice.ensures.len, c.in_ok-row.ensures.len, c.accounts.ensures.count) in
    let items : (with_items c.in_ok-row.row row).items ≡ row = with_items_is c.in_ok-row.row row (c.add_all.ensures.accounts ∙ c.as_mut_slice.ensures.len) in
    let rows : contents_of c.push.new.self.items ≡ before ++ row ∷ [] =
    contents_of-pushed _ _ _ c.in_ok-push.ensures.items ∙ ap (λ (xs : List ℕ). before ++ xs ∷ []) items in
    rw rows (record {
      rows = sum_rows-more b before row p c.loop-process.invariant.rows accounts small;
      asked = have_sums-more b files before row p c.loop-process.invariant.rows.count c.loop-process.invariant.asked asked;
    })
