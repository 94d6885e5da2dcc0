use Rattle.std.proofs.Common.{◌<◌, ◌^◌, All, List, length, ap, subst, arith}
use Rattle.at_logs.proofs.Prelude.{AreBytes, EntryMessage, HasMessageBytes}
use Rattle.at_logs.proofs.spelling.entry_bytes.Goals as goal

pub returns-clause-fits : goal.returns-clause-fits
returns-clause-fits c =
    let listed = c.messages.ensures.listed in
    record {
      counts = subst (λ l. All (λ n. n < 2 ^ 32) l) c.deps.ensures c.in_ok-put_counts.ensures.fits;
      book = subst (AreBytes 32) c.book.ensures c.in_ok-put_raw.ensures.fits;
      before = subst (AreBytes 32) c.before-2.ensures c.in_ok-put_raw-2.ensures.fits;
      some = omega (arith, ap (λ (l : List EntryMessage). length l) listed, c.messages.ensures.some);
      few = omega (arith, ap (λ (l : List EntryMessage). length l) listed, c.messages.ensures.few);
      messages = subst (λ l. All HasMessageBytes l) listed c.in_ok-put_messages.ensures.fits;
    }
