use Rattle.std.proofs.Common.{◌≡◌, codes, sym, ◌∙◌, arith, refl, ap, option_map}
use Rattle.at_files.proofs.FieldLaws.{length-has_shape}
use Rattle.at_files.proofs.MessageLaws.{message_spelled-read}
use Rattle.at_files.proofs.messages.MessageFormRecordForm.item_of.Goals.{in_default-via-in-Some+in-Some+in-Some+in_default, in_default-via-in-Some+in-Some+in_default, in_default-via-in-Some+in_default, in_default-via-in_default}
use Rattle.at_files.proofs.messages.MessageFormRecordForm.item_of.Goals as goal

pub message_between-requires-clause-some : goal.message_between-requires-clause-some
message_between-requires-clause-some c =
    let long = length-has_shape (codes "send") _ _ (sym c.has_shape.ensures ∙ c.if-not-has_shape.false) in
    let some = c.accounts-accounts.ensures.checked.begun.some_process in
    let each = c.numbers_from-deps.ensures.each in
    grind arith

pub returns : goal.returns
returns c =
    let deps_are : c.deref.result.now ≡ c.in-Some-Some-Some-Some.deps.items = c.deref.ensures.0 in
    rw (c.accounts-accounts.ensures.count, deps_are) at c.message_between.ensures
    ∙ sym (message_spelled-read c.args.self.now.book.now _ _ _ _ _ (rw c.processes-processes.ensures at (sym c.has_shape.ensures ∙ c.if-not-has_shape.false))
    (sym c.number_at-from.ensures ∙ c.in-Some-Some-Some-Some.is-0)
    (sym c.number_at-to.ensures ∙ c.in-Some-Some-Some-Some.is-1)
    (sym c.number_at-amount.ensures ∙ c.in-Some-Some-Some-Some.is-2)
    (sym c.numbers_from-deps.ensures.numbers ∙ ap (option_map (λ numbers. numbers.items)) c.in-Some-Some-Some-Some.is-3))

pub returns-in_default : goal.returns-in_default
returns-in_default c =
    let shape = rw c.processes-processes.ensures at (sym c.has_shape.ensures ∙ c.if-not-has_shape.false) in
    let from = sym c.number_at-from.ensures in
    let to = sym c.number_at-to.ensures in
    let amount = sym c.number_at-amount.ensures in
    elim c.in_default.branch [
      | in_default-via-in-Some+in-Some+in-Some+in_default w ↦ sym (message_spelled-read c.args.self.now.book.now _ _ _ _ _ shape (from ∙ w.in_default.is-0) (to ∙ w.in_default.is-1) (amount ∙ w.in_default.is-2)
          (sym c.numbers_from-deps.ensures.numbers ∙ ap (option_map (λ numbers. numbers.items)) w.in_default.is-3))
      | in_default-via-in-Some+in-Some+in_default w ↦ sym (message_spelled-read c.args.self.now.book.now _ _ _ _ _ shape (from ∙ w.in_default.is-0) (to ∙ w.in_default.is-1) (amount ∙ w.in_default.is-2) refl)
      | in_default-via-in-Some+in_default w ↦ sym (message_spelled-read c.args.self.now.book.now _ _ _ _ _ shape (from ∙ w.in_default.is-0) (to ∙ w.in_default.is-1) refl refl)
      | in_default-via-in_default w ↦ sym (message_spelled-read c.args.self.now.book.now _ _ _ _ _ shape (from ∙ w.in_default.is-0) refl refl refl)
    ]

pub returns-then-not-has_shape : goal.returns-then-not-has_shape
returns-then-not-has_shape c = rw (rw c.processes-processes.ensures at (sym c.has_shape.ensures ∙ c.if-not-has_shape.true)) refl

pub message_between-requires-clause-few : goal.message_between-requires-clause-few
message_between-requires-clause-few c = c.deref.ensures.1

pub numbers_from-deps-requires : goal.numbers_from-deps-requires
numbers_from-deps-requires c =
    let long = length-has_shape (codes "send") _ _ (sym c.has_shape.ensures ∙ c.if-not-has_shape.false) in
    let few = c.accounts-accounts.ensures.checked.begun.few_processes in
    let processes = c.processes-processes.ensures in
    record { some = omega arith; few = omega arith }
