use Rattle.std.proofs.Common.{◌≡◌, ◌<◌, ◌^◌, true, take}
use Rattle.at_base.proofs.Prelude.{digits_value, begins_canonical}
use Rattle.at_base.proofs.NumberLaws.{AreDigits}
use Rattle.at_base.proofs.numbers.number_in.Given as goal

abbrev pub invariant-loop-byte : goal.invariant-loop-byte
invariant-loop-byte l =
    (l.number ≡ digits_value 10 (take l.byte-index l.text)) × (l.number < 2 ^ 64) × AreDigits (take l.byte-index l.text)
    × (begins_canonical l.text ≡ true)
