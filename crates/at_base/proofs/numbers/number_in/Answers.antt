use Rattle.std.proofs.Common.{◌≡◌, ◌∙◌, sym, ap, false, Some, arith, rules, take_all}
use Rattle.at_base.proofs.Prelude.{digits_value, digits_value_more, begins_canonical}
use Rattle.at_base.proofs.NumberLaws.{AreDigits, AreDigits-take_more, number_of-begins, number_of-digits, number_of-not_digit, number_of-too_long}
use Rattle.at_base.proofs.numbers.number_in.Goals as goal

pub returns-then-not-begins_canonically : goal.returns-then-not-begins_canonically
returns-then-not-begins_canonically c =
    let other : begins_canonical c.args.text.now ≡ false = cc in
    sym (number_of-begins c.args.text.now other)

pub returns-then-not-is_ascii_digit : goal.returns-then-not-is_ascii_digit
returns-then-not-is_ascii_digit c =
    sym (number_of-not_digit c.args.text.now c.loop-byte.byte-index c.loop-byte-test.true cc)

pub returns-in_default : goal.returns-in_default
returns-in_default c =
    let digits = c.loop-byte.invariant.0 in
    sym (number_of-too_long c.args.text.now c.loop-byte.byte-index c.loop-byte-test.true (rw digits at c.with_digit.ensures.long c.in_default.is))

pub loop-byte-preserved : goal.loop-byte-preserved
loop-byte-preserved c =
    let inside = c.loop-byte-test.true in
    let digit = sym c.if-not-is_ascii_digit.ensures.value in
    let more = digits_value_more 10 c.args.text.now c.loop-byte.byte-index inside in (
      omega (arith, c.in-Some.ensures.fits, c.loop-byte.invariant.0, more),
      search rules,
      AreDigits-take_more c.args.text.now c.loop-byte.byte-index inside c.loop-byte.invariant.2 digit,
      c.loop-byte.invariant.3,
    )

pub returns : goal.returns
returns c =
    let all = take_all c.loop-byte.byte-index c.args.text.now c.loop-byte-test.false in
    let digits : AreDigits c.args.text.now = rw all at c.loop-byte.invariant.2 in
    let value : c.loop-byte.number ≡ digits_value 10 c.args.text.now = rw all at c.loop-byte.invariant.0 in
    sym (number_of-digits c.args.text.now digits c.loop-byte.invariant.3 (omega (arith, c.loop-byte.invariant.1, value)) ∙ ap Some (sym value))
