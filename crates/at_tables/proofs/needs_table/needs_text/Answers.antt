use Rattle.std.proofs.Common.{ℕ, ◌++◌, ◌∙◌, List, ap, length, arith}
use Rattle.at_tables.proofs.Prelude.{contents_of, Call, Words, record_text, records_text, row_number, needs_head, owner_asks}
use Rattle.at_tables.proofs.AskingLaws.{needs_records-same}
use Rattle.at_tables.proofs.needs_table.needs_text.Goals as goal

pub returns : goal.returns
returns c =
    let b = c.args.book.now in
    let names = c.args.names.now in
    let files : List (List Call) = contents_of c.args.files.now in
    let asks : ℕ → ℕ → ℕ = row_number (contents_of c.in_ok-rows.rows.items) in
    let same = needs_records-same b names asks (owner_asks b files) (λ a owner account_in owner_in. c.in_ok-rows.ensures.asked owner owner_in a account_in) c.known.ensures.checked.begun.accounts (length b.accounts) (omega arith) in
    c.in_ok-push_accounts.ensures
    ∙ rw (c.as_slice.ensures.value, c.in_ok-push_head.ensures, c.new-text.ensures.items)
    (ap (λ (records : List Words). record_text needs_head ++ records_text records) same)
