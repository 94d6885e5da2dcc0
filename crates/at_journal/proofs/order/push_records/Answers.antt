use Rattle.std.proofs.Common.{◌≡◌, ◌++◌, [], ◌∷◌, ◌-◌, ap, append_assoc, arith, map, sym, ◌∙◌}
use Rattle.at_journal.proofs.Prelude.{range_with_len, records_of_process, Numbered}
use Rattle.at_journal.proofs.OrderSteps.{records_of_process-more}
use Rattle.at_journal.proofs.order.push_records.Goals as goal

pub loop-number-preserved : goal.loop-number-preserved
loop-number-preserved c =
    let p = c.args.process in
    let start = c.args.order.now.items in
    let number = c.loop-number.number in
    let one : Numbered = record { process = p; number = number } in (
      c.in_ok-push.ensures.items
          ∙ (ap (λ xs. xs ++ one ∷ []) c.loop-number.invariant.0
          ∙ (append_assoc start (records_of_process p c.args.from number) (one ∷ [])
          ∙ ap (λ xs. start ++ xs) (sym (records_of_process-more p c.args.from number (omega arith))))),
      omega (arith, c.loop-number.invariant.1),
    )

pub returns : goal.returns
returns c =
    let p = c.args.process in
    let same : c.loop-number.number - c.args.from ≡ c.args.to - c.args.from = omega (arith, c.loop-number.invariant.1) in
    c.loop-number.invariant.0
    ∙ ap (λ n. c.args.order.now.items ++ map (λ i. record { process = p; number = i }) (range_with_len c.args.from n)) same
