use Rattle.std.proofs.Common.{◌≡◌, ◌+◌, ◌++◌, length, map, take}
use Rattle.at_follow.proofs.Prelude.{contents_of, shared_among, shared_below, shared_word}
use Rattle.at_follow.proofs.log_words.log_words.Given as goal

abbrev pub invariant-loop-account : goal.invariant-loop-account
invariant-loop-account l = record {
  words : contents_of l.words.items ≡ l.names.processes ++ map (shared_word l.names) (shared_below l.book l.account);
  counted : length (contents_of l.words.items) ≡ l.book.processes + shared_among (take l.account l.book.accounts);
}
