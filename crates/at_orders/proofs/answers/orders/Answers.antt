use Rattle.std.proofs.Common.{◌≡◌, Err, ap, ◌∙◌}
use Rattle.at_orders.proofs.Prelude.{contents_of, length-contents_of, TooManyOrders}
use Rattle.at_orders.proofs.Lone.{big-many, covered-few}
use Rattle.at_orders.proofs.Walking.{errors-same}
use Rattle.at_orders.proofs.answers.orders.Goals as goal

pub returns-in_err-done-clause-many : goal.returns-in_err-done-clause-many
returns-in_err-done-clause-many c is =
    let told = c.from_residual-in_err-done.ensures in
    let same : c.in_err-done.field-0.0 ≡ TooManyOrders = errors-same c.from_residual-in_err-done.result c.in_err-done.field-0.0 TooManyOrders told.1 is in
    big-many c.args.book.now (contents_of c.args.files.now) 1048576 (c.in_err-done.ensures.many (ap Err same))

pub returns-in_err-done-clause-covered : goal.returns-in_err-done-clause-covered
returns-in_err-done-clause-covered c covered is =
    let told = c.from_residual-in_err-done.ensures in
    let same : c.in_err-done.field-0.0 ≡ TooManyOrders = errors-same c.from_residual-in_err-done.result c.in_err-done.field-0.0 TooManyOrders told.1 is in
    covered-few c.args.book.now (contents_of c.args.files.now) (record { playable = c.requires.files; count = length-contents_of c.args.files.now ∙ c.requires.processes }) covered
    (c.in_err-done.ensures.many (ap Err same))
