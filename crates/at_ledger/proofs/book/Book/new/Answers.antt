use Rattle.std.proofs.Common.{◌≡◌, Some, None, Err, sym, ap, ◌∙◌, get_or, arith}
use Rattle.at_ledger.proofs.Prelude.{common_steps, map_more, err_from_is_err_and, terms_of, with_account, Bad}
use Rattle.at_ledger.proofs.Books.{accounts_fault-drop_good, accounts_fault-drop_bad, accounts_fault-drop_all_some, accounts_fault-drop_all_none, book_fault-from_accounts}
use Rattle.at_ledger.proofs.book.Book.new.Goals as goal

pub returns-in_err-add-clause-bad : goal.returns-in_err-add-clause-bad
returns-in_err-add-clause-bad c e is =
    let p = err_from_is_err_and c.from_residual.result c.from_residual.ensures.1 in
    let fault : c.in_err-add.field-0.0 ≡ Bad e = cc (p.1, p.2, is) in
    let found = c.in_err-add.ensures.bad e (ap Err fault) in
    book_fault-from_accounts c.args.draft.now _ (Some e) c.deref-account-items.ensures.value c.in-Ok.ensures.good
    (c.loop-account.invariant.0 ∙ accounts_fault-drop_bad c.loop-account.builder _ c.loop-account.account-index c.account-item.result e c.loop-account-test.true
    (rw (← c.account-item.is, ← c.as_slice.ensures.value) found))

pub loop-account-preserved : goal.loop-account-preserved
loop-account-preserved c =
    let item = c.account-item.result in
    let within = c.loop-account-test.true in
    let added : c.add.new.self ≡ with_account c.loop-account.builder (terms_of (get_or c.deref-account-items.result.now c.loop-account.account-index item)) =
    rw (← c.account-item.is, ← c.as_slice.ensures.value) c.in_ok-add.ensures.ok in (
      rw added (c.loop-account.invariant.0 ∙ accounts_fault-drop_good c.loop-account.builder _ _ item within
          (rw (← c.account-item.is, ← c.as_slice.ensures.value) c.in_ok-add.ensures.good)),
      rw (added, c.loop-account.invariant.1, map_more terms_of _ c.loop-account.account-index item within),
    )

pub returns-in-Ok-finish-clause-good : goal.returns-in-Ok-finish-clause-good
returns-in-Ok-finish-clause-good c =
    book_fault-from_accounts c.args.draft.now _ None c.deref-account-items.ensures.value c.in-Ok.ensures.good
    (c.loop-account.invariant.0 ∙ accounts_fault-drop_all_some c.loop-account.builder _ c.loop-account.account-index c.loop-account-test.false (rw (← c.in-Ok-finish.ensures.ok) c.in-Ok-finish.ensures.checked.some_account))

pub returns-in-Err-finish-clause-bad : goal.returns-in-Err-finish-clause-bad
returns-in-Err-finish-clause-bad c e is =
    let fault : c.in-Err-finish.fault ≡ e = cc is in
    book_fault-from_accounts c.args.draft.now _ (Some e) c.deref-account-items.ensures.value c.in-Ok.ensures.good
    (c.loop-account.invariant.0 ∙ (accounts_fault-drop_all_none c.loop-account.builder _ c.loop-account.account-index c.loop-account-test.false c.in-Err-finish.ensures.bad.1
    ∙ ap Some (sym c.in-Err-finish.ensures.bad.0 ∙ fault)))

pub returns-in-Ok-finish-clause-ok : goal.returns-in-Ok-finish-clause-ok
returns-in-Ok-finish-clause-ok c = grind (arith, common_steps)

pub returns-in-Err-clause-bad : goal.returns-in-Err-clause-bad
returns-in-Err-clause-bad c = grind (arith, common_steps)

pub offset_bounds-account-items-account-index : goal.offset_bounds-account-items-account-index
offset_bounds-account-items-account-index c = grind (arith, common_steps)
