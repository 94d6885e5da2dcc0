use Rattle.std.proofs.Common.{◌≡◌, ℕ, [], ◌∷◌, ap, arith, map, sym, ◌∙◌}
use Rattle.at_agree.proofs.Prelude.{map-range_with_len_more, range_with_len, terms_of, DraftAccount, most_value, own_account}
use Rattle.at_agree.proofs.CouncilDraft.{drafted_more}
use Rattle.at_agree.proofs.book.own_accounts.Goals as goal

pub loop-process-preserved : goal.loop-process-preserved
loop-process-preserved c =
    let p = c.loop-process.process in
    let x : DraftAccount = record { opening = 4294967295; owners = c.in_ok-from_array.field-0 } in
    let owner : c.in_ok-from_array.field-0.items ≡ p ∷ [] = c.in_ok-from_array.ensures.items ∙ ap (λ (q : ℕ). q ∷ []) c.from.ensures in
    let last : terms_of x ≡ own_account p = λ i. record { opening = most_value; owners = owner i } in
    drafted_more c.loop-process.accounts.items c.push.new.self.items x (map own_account (range_with_len 0 p)) (own_account p)
    c.in_ok-push.ensures.items c.loop-process.invariant last
    ∙ sym (map-range_with_len_more own_account 0 p p (omega arith))
