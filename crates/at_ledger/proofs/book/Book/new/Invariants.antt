use Rattle.std.proofs.Common.{◌≡◌, take, drop, map}
use Rattle.at_ledger.proofs.Prelude.{accounts_fault, book_without_accounts, terms_of}
use Rattle.at_ledger.proofs.book.Book.new.Given as goal

abbrev pub invariant-loop-account : goal.invariant-loop-account
invariant-loop-account l =
    let empty = book_without_accounts l.draft.processes l.draft.own_room l.draft.request_room in
    (accounts_fault empty (map terms_of l.account-items) ≡ accounts_fault l.builder (map terms_of (drop l.account-index l.account-items)))
    × (l.builder ≡ record empty { accounts = map terms_of (take l.account-index l.account-items) })
