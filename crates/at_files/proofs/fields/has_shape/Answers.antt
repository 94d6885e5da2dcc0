use Rattle.std.proofs.Common.{◌≡◌, ◌==◌, length, true, refl, sym, ◌∙◌, arith}
use Rattle.at_files.proofs.Prelude.{nat_tests}
use Rattle.at_files.proofs.fields.has_shape.Goals as goal

pub returns-then-len-count : goal.returns-then-len-count
returns-then-len-count c =
    let same : length c.args.fields.now ≡ c.args.count = sym c.len.ensures ∙ c.if-len-count.true in
    let test : (length c.args.fields.now == c.args.count) ≡ true = grind (arith, nat_tests) in
    c.is_word.ensures ∙ rw (c.field_of.ensures, test) refl
