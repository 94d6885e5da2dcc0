use Rattle.std.proofs.Common.{◌≡◌, ℕ, ◌<◌, Some, length, get_or, ap, sym, ◌∙◌, inl, inr, arith}
use Rattle.std.proofs.lemmas.Bool.{false≢true}
use Rattle.at_logs.proofs.Prelude.{cases_eq, get_or_read, CompactState, account_on_logs}
use Rattle.at_logs.proofs.restoring.SavedCore.is_settled.Goals.{else-not-same-via-then-not-same+else-is_debited, else-not-same-via-else-not-same}
use Rattle.at_logs.proofs.restoring.SavedCore.is_settled.Goals as goal

pub loop-account-preserved : goal.loop-account-preserved
loop-account-preserved c = λ p a known within owner.
    let i : ℕ = c.loop-account.account in
    let view = c.self.view_is in
    elim (cases_eq a i) as (λ _. get_or c.args.left.now a 0 ≡ get_or c.args.self.now.settled a 0) [
      | inr apart ↦ c.loop-account.invariant p a known (omega (arith, within, apart)) owner
      | inl at ↦
          elim c.else-not-same.branch [
            | else-not-same-via-then-not-same+else-is_debited w ↦
                let there : p < c.self.inside.book.logs = omega (arith, known, ap (λ (x : CompactState). x.book.logs) view) in
                let debits : (account_on_logs c.self.inside.book i).log ≡ Some p =
                ap (λ (x : CompactState). (account_on_logs x.book i).log) view ∙ (ap (λ k. (account_on_logs c.args.self.now.book k).log) (sym at) ∙ owner) in
                absurd (false≢true (sym w.if-is_debited.false ∙ w.is_debited.ensures.1 (p, (there, debits))))
            | else-not-same-via-else-not-same w ↦
                let inside : i < length c.self.inside.settled.items = omega (
                  arith,
                  within,
                  at,
                  c.loop-account-test.true,
                  c.accounts-account-end.ensures.count,
                  ap (λ (x : CompactState). length x.book.accounts) view,
                  c.requires.settled_sized,
                  ap (λ (x : CompactState). length x.settled) view,
                ) in
                ap (λ k. get_or c.args.left.now k 0) at
                ∙ (w.if-not-same.false
                ∙ (get_or_read c.self.inside.settled.items i c.index.result.now inside c.index.ensures 0
                ∙ (ap (λ (x : CompactState). get_or x.settled i 0) view ∙ ap (λ k. get_or c.args.self.now.settled k 0) (sym at))))
          ]
    ]
