use Rattle.std.proofs.Common.{length, sym, ap, ◌∙◌}
use Rattle.at_c.proofs.Prelude.{OpenedTerms}
use Rattle.at_c.proofs.Kept.{IsStillOpen-none}
use Rattle.at_c.proofs.opened.Opened.take_back.Goals as goal

pub loop-process-init : goal.loop-process-init
loop-process-init c = record {
  open_still = IsStillOpen-none c.args.self.now;
  back = ap (λ (t : OpenedTerms). length t.passes) (sym c.self.view_is) ∙ sym (c.len-process.ensures ∙ c.self.inside.passes.ok.0);
  end = ap (λ (t : OpenedTerms). t.handed) c.self.view_is;
}
