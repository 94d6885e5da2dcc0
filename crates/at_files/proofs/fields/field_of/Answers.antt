use Rattle.std.proofs.Common.{◌≡◌, ◌<◌, ◌≤◌, length, ap, sym, ◌∙◌, rules}
use Rattle.at_files.proofs.Prelude.{texts_of, field_of}
use Rattle.at_files.proofs.LineLaws.{field_of-past, field_of-texts}
use Rattle.at_files.proofs.fields.field_of.Goals as goal

pub returns-then-i-len : goal.returns-then-i-len
returns-then-i-len c =
    let slices = c.fields.inside.slices.items in
    let is : texts_of slices ≡ c.args.fields.now = rw c.if-fields.false at c.fields.view_is in
    let inside : c.args.i < length slices = search rules in
    ap (λ slice. slice.now) c.index.ensures ∙ field_of-texts slices c.args.i c.index.result.now inside ∙ ap (λ fields. field_of fields c.args.i) is

pub returns-else-i-len : goal.returns-else-i-len
returns-else-i-len c =
    let slices = c.fields.inside.slices.items in
    let is : texts_of slices ≡ c.args.fields.now = rw c.if-fields.false at c.fields.view_is in
    let past : length slices ≤ c.args.i = search rules in
    sym (field_of-past slices c.args.i past) ∙ ap (λ fields. field_of fields c.args.i) is
