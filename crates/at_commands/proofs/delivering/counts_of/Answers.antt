use Rattle.std.proofs.Common.{◌≡◌, ◌∙◌, ◌^◌, ◌<◌, [], get_or, length, arith}
use Rattle.at_commands.proofs.Prelude.{length-set, contents_of, get_or-contents_of, length-contents_of}
use Rattle.at_commands.proofs.Laws.FilesLoaded.{same_length}
use Rattle.at_commands.proofs.Deliveries.{counted_all, counted_next}
use Rattle.at_commands.proofs.delivering.counts_of.Goals as goal

-- a process has few messages
small : (c : goal.After-len) → c.len.result < 2 ^ 16
small c =
    let file = get_or-contents_of c.args.files.now c.loop-p.p c.index-files-p.result c.loop-p-test.true c.index-files-p.is in
    let few = c.requires.each c.loop-p.p [] (omega (arith, c.loop-p-test.true, length-contents_of c.args.files.now)) in
    omega (arith, c.len.ensures, c.index-files-p.result.ok, same_length _ _ file, few)

pub overflow_cast-len : goal.overflow_cast-len
overflow_cast-len c = omega (arith, small c)

pub set-requires-clause-small : goal.set-requires-clause-small
set-requires-clause-small c = small c

pub loop-p-preserved : goal.loop-p-preserved
loop-p-preserved c =
    let before = c.loop-p.invariant in
    let file = get_or-contents_of c.args.files.now c.loop-p.p c.index-files-p.result c.loop-p-test.true c.index-files-p.is in
    let is : c.len.result ≡ length (get_or (contents_of c.args.files.now) c.loop-p.p []) =
    omega (arith, c.len.ensures, c.index-files-p.result.ok, same_length _ _ file) in
    let within : c.loop-p.p < length c.loop-p.counts = omega (arith, c.loop-p-test.true, before.sized) in
    record {
      sized = rw c.set.ensures (length-set c.loop-p.counts c.loop-p.p c.len.result ∙ before.sized);
      set = rw c.set.ensures (counted_next c.loop-p.counts (contents_of c.args.files.now) c.loop-p.p c.len.result within is before.set);
    }

pub returns : goal.returns
returns c =
    let is = c.loop-p.invariant in
    let long = length-contents_of c.args.files.now in
    counted_all c.loop-p.counts (contents_of c.args.files.now) (omega (arith, is.sized, long))
    (λ m within. is.set m (omega (arith, within, c.loop-p-test.false, long)))
