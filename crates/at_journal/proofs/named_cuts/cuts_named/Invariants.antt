use Rattle.std.proofs.Common.{◌≡◌, ◌<◌, [], length, take}
use Rattle.std.specs.Prelude.{All, IfSome}
use Rattle.at_journal.proofs.Prelude.{cons_option, filter_map, flat_map, place, cut_at, cut_of}
use Rattle.at_journal.proofs.named_cuts.cuts_named.Given as goal

-- the cuts of so many receipts are named
abbrev pub invariant-loop-number : goal.invariant-loop-number
invariant-loop-number l = record {
  within : All (λ x. x.number < length l.receipts) l.list.items;
  placed : All (λ x. IfSome (cut_of l.receipts x) (λ view. place view ≡ x.place)) l.list.items;
  all : flat_map (λ x. cons_option (cut_of l.receipts x) []) l.list.items ≡ filter_map (λ r. cut_at r.at) (take l.number l.receipts);
}
