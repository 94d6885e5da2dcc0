use Rattle.std.proofs.Common.{◌≡◌, ℕ, Some, below_more, ap, subst, arith, refl}
use Rattle.at_report.proofs.Prelude.{process_name, IsFirstWord}
use Rattle.at_report.proofs.ReportLaws.{IsWord-process_name, one_process}
use Rattle.at_report.proofs.first_word.process_of.Goals as goal

pub returns-then-begins_with-clause-exact : goal.returns-then-begins_with-clause-exact
returns-then-begins_with-clause-exact c p within =
    let name = c.process.ensures.name in
    let here : IsFirstWord (process_name c.args.names.now c.loop-process.process) c.args.text.now = rw (← name) (c.if-begins_with.ensures.0 refl) in (
      (λ found. let same : c.loop-process.process ≡ p = cc in subst (λ (q : ℕ). IsFirstWord (process_name c.args.names.now q) c.args.text.now) same here),
      (λ first.
          ap Some (one_process c.args.book.now c.args.names.now c.args.text.now c.loop-process.process p c.accounts-accounts.ensures.checked c.requires (omega arith) within here first)),
    )

pub returns-then-begins_with-clause-words : goal.returns-then-begins_with-clause-words
returns-then-begins_with-clause-words c p within = IsWord-process_name c.args.book.now c.args.names.now p c.accounts-accounts.ensures.checked c.requires within

pub loop-process-preserved : goal.loop-process-preserved
loop-process-preserved c =
    below_more _ _ c.loop-process.invariant (λ first. let name = c.process.ensures.name in absurd (let wrong = c.if-begins_with.ensures.1 (rw name first) in cc))

pub returns-clause-exact : goal.returns-clause-exact
returns-clause-exact c p within = ((λ wrong. absurd (cc)), (λ first. absurd (c.loop-process.invariant p (omega arith) first)))

pub returns-clause-words : goal.returns-clause-words
returns-clause-words c p within = IsWord-process_name c.args.book.now c.args.names.now p c.accounts-accounts.ensures.checked c.requires within
