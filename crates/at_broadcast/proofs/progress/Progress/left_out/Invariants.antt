use Rattle.std.proofs.Common.{◌≡◌, ◌*◌, ◌^◌, ◌≤◌, get_or, sum_by}
use Rattle.at_broadcast.proofs.Prelude.{range_with_len, amount_since, sender_of, credits_to}
use Rattle.at_broadcast.proofs.progress.Progress.left_out.Given as goal

abbrev pub invariant-loop-q : goal.invariant-loop-q
invariant-loop-q l = record {
  summed : l.sum ≡ sum_by (λ q. amount_since (get_or l.deps q 0) (credits_to (sender_of l.self-inside.senders.items q) l.account).list) (range_with_len 0 l.q);
  small : l.sum ≤ l.q * 2 ^ 98;
}
