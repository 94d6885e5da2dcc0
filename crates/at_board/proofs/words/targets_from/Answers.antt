use Rattle.std.proofs.Common.{◌≡◌, ◌*◌, ◌<◌, get_or, length, sym, ap, ◌∙◌, arith}
use Rattle.at_board.proofs.Prelude.{common_steps, length-map, TargetPair, account_in, accounts_of}
use Rattle.at_board.proofs.WordLaws.Packed.{account_in-targets_word}
use Rattle.at_board.proofs.WordLaws.Unpacked.{same_targets-get_or}
use Rattle.at_board.proofs.words.targets_from.Goals as goal

pub returns : goal.returns
returns c = λ ts packed word amounts.
    let count = c.target_count-k-end.ensures.count (accounts_of ts) packed (sym word) in
    let all : c.loop-k.k ≡ length ts = omega (
      arith,
      packed.some,
      count,
      length-map ts (λ (t : TargetPair). t.0),
      c.loop-k-test.false,
      c.loop-k.auto.k-end,
      c.loop-k.auto.k,
    ) in
    same_targets-get_or c.loop-k.targets ts packed (c.loop-k.invariant.sized ∙ all) (λ m within.
    let there : m < length (accounts_of ts) = omega (arith, within, c.loop-k.invariant.sized, all, length-map ts (λ (t : TargetPair). t.0)) in
    let account : account_in c.args.word (10 * m) ≡ get_or (accounts_of ts) m 0 =
    ap (λ w. account_in w (10 * m)) word ∙ account_in-targets_word (accounts_of ts) packed m (omega (arith, there, packed.few)) in
    c.loop-k.invariant.made m (omega (arith, within, c.loop-k.invariant.sized))
    ∙ (λ t. (account t, get_or (amounts t) m 0)))

pub loop-k-preserved : goal.loop-k-preserved
loop-k-preserved c = grind (arith, common_steps)
