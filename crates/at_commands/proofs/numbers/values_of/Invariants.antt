use Rattle.std.proofs.Common.{◌≡◌, ◌^◌, ◌<◌, length, take, All, Some}
use Rattle.at_commands.proofs.Prelude.{values_named, words_of}
use Rattle.at_commands.proofs.numbers.values_of.Given as goal

-- so many words are values
abbrev pub invariant-loop-word : goal.invariant-loop-word
invariant-loop-word l = record {
  named : values_named (take l.word-index (words_of l.words)) ≡ Some l.values.items;
  count : length l.values.items ≡ l.word-index;
  below : All (λ value. value < 2 ^ 32) l.values.items;
}
