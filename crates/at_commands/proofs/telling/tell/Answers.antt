use Rattle.std.proofs.Common.{◌⊎◌, inl, inr, Result, Ok, Err, ◌∙◌}
use Rattle.std.specs.Prelude.{OnErr, OnOk}
use Rattle.at_commands.proofs.telling.tell.Goals as goal

-- all was written, or a fault was counted and a prefix written
all_or_prefix : {A B : Type 0} (r : Result A B) (P Q R : Type 0) → OnOk r P → OnErr r Q → OnErr r R → P ⊎ (Q × R)
all_or_prefix (Ok a) P Q R all fault prefix = inl all
all_or_prefix (Err e) P Q R all fault prefix = inr (fault, prefix)

pub returns-clause-told : goal.returns-clause-told
returns-clause-told g c = λ tells.
    let text = c.as_slice.ensures.value ∙ c.fault_text-text.ensures in
    rw (← c.file_word.ensures, ← text) (all_or_prefix c.put_all.result _ _ _ (c.put_all.ensures.all tells) c.put_all.ensures.fault (c.put_all.ensures.prefix tells))
