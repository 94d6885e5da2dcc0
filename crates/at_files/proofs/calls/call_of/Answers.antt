use Rattle.std.proofs.Common.{refl, sym, ◌∙◌}
use Rattle.at_files.proofs.calls.call_of.Goals as goal

pub returns-then-version-eq2 : goal.returns-then-version-eq2
returns-then-version-eq2 c = c.named_call_of.ensures ∙ rw (sym c.version.ensures.version ∙ c.if-version-eq2.true) refl
