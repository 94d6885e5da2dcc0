use Rattle.std.proofs.Common.{◌≡◌, ◌+◌, Bool, cond, ap, length, refl, sym, subst, ◌∙◌, arith}
use Rattle.at_follow.proofs.Prelude.{BookTerms, ENTRIES_MAX, IsFollowing, entries_at, log_bytes, logs_of}
use Rattle.at_follow.proofs.GivingLaws.{IsFollowing-ended, IsFollowing-own, length-entries_at, own-IsFollowing}
use Rattle.at_follow.proofs.following.follow_log.Goals as goal

pub loop-place-init : goal.loop-place-init
loop-place-init c = record { book = refl; hash = refl; so = c.requires.before }

pub overflow_cast-place : goal.overflow_cast-place
overflow_cast-place c =
    let most : ENTRIES_MAX ≡ 4294967295 = refl in
    omega (
      arith,
      most,
      c.loop-place-test.true,
      c.len-place-end.ensures,
      c.index-logs-log.result.ok,
      c.requires.few,
      length-entries_at c.args.logs.now c.args.log c.index-logs-log.result c.requires.log_in c.index-logs-log.is,
    )

pub give_entry-requires-clause-before : goal.give_entry-requires-clause-before
give_entry-requires-clause-before c = c.loop-place.invariant.so

pub give_entry-requires-clause-count : goal.give_entry-requires-clause-count
give_entry-requires-clause-count c = c.requires.count ∙ ap (λ (b : BookTerms). (logs_of b).logs) (sym c.loop-place.invariant.book)

pub give_entry-requires-clause-place_in : goal.give_entry-requires-clause-place_in
give_entry-requires-clause-place_in c = omega (
  arith,
  c.loop-place-test.true,
  c.len-place-end.ensures,
  c.index-logs-log.result.ok,
  length-entries_at c.args.logs.now c.args.log c.index-logs-log.result c.requires.log_in c.index-logs-log.is,
)

pub returns-then-not-branch : goal.returns-then-not-branch
returns-then-not-branch c =
    let k = c.loop-place.node in
    let logs = log_bytes c.args.logs.now in
    let m = c.give_entry.new.node in
    let faults = c.give_entry.new.faults.items in
    IsFollowing-own k.book c.args.node.now.book k.hash c.args.node.now.hash logs (c.args.log + 1) 0 m faults c.loop-place.invariant.book c.loop-place.invariant.hash
    (subst (λ (t : Bool). IsFollowing k.book k.hash logs (cond t c.args.log (c.args.log + 1)) (cond t (c.loop-place.place + 1) 0) m faults) c.if-not-branch.true c.in_ok-give_entry.ensures)

pub loop-place-preserved : goal.loop-place-preserved
loop-place-preserved c =
    let k = c.loop-place.node in
    let logs = log_bytes c.args.logs.now in
    let m = c.give_entry.new.node in
    let faults = c.give_entry.new.faults.items in
    let so : IsFollowing k.book k.hash logs c.args.log (c.loop-place.place + 1) m faults =
    subst (λ (t : Bool). IsFollowing k.book k.hash logs (cond t c.args.log (c.args.log + 1)) (cond t (c.loop-place.place + 1) 0) m faults) c.if-not-branch.false c.in_ok-give_entry.ensures in
    let own = own-IsFollowing k.book k.hash logs c.args.log (c.loop-place.place + 1) m faults so in
    record {
      book = own.0 ∙ c.loop-place.invariant.book;
      hash = own.1 ∙ c.loop-place.invariant.hash;
      so = IsFollowing-own k.book m.book k.hash m.hash logs c.args.log (c.loop-place.place + 1) m faults (sym own.0) (sym own.1) so;
    }

pub returns : goal.returns
returns c =
    let k = c.loop-place.node in
    let logs = log_bytes c.args.logs.now in
    let all : c.loop-place.place ≡ length (entries_at logs c.args.log) = omega (
      arith,
      c.loop-place-test.false,
      c.loop-place.auto.place-end,
      c.len-place-end.ensures,
      c.index-logs-log.result.ok,
      length-entries_at c.args.logs.now c.args.log c.index-logs-log.result c.requires.log_in c.index-logs-log.is,
    ) in
    IsFollowing-ended c.args.node.now.book c.args.node.now.hash logs c.args.log c.loop-place.place k c.loop-place.faults.items
    (IsFollowing-own k.book c.args.node.now.book k.hash c.args.node.now.hash logs c.args.log c.loop-place.place k c.loop-place.faults.items c.loop-place.invariant.book c.loop-place.invariant.hash c.loop-place.invariant.so) all
