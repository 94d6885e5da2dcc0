use Rattle.std.proofs.Common.{◌≡◌, ◌*◌, List, [], ◌∷◌, ◌++◌, ap, append_assoc, arith, map, replicate, ◌∙◌}
use Rattle.at_agree.proofs.Prelude.{replicate-append-replicate, range_with_len, AccountTerms, terms_of, DraftAccount, joint_account, own_account, unowned_account}
use Rattle.at_agree.proofs.CouncilDraft.{drafted_more}
use Rattle.at_agree.proofs.book.draft_of.Goals as goal

pub loop-process-preserved : goal.loop-process-preserved
loop-process-preserved c =
    let owns = map own_account (range_with_len 0 c.args.size) in
    let n = c.loop-process._process in
    let x : DraftAccount = c.unowned.result in
    let last : terms_of x ≡ unowned_account = λ i. record { opening = c.unowned.ensures.opening i; owners = c.unowned.ensures.owners i } in
    drafted_more c.loop-process.accounts.items c.push.new.self.items x (owns ++ replicate n unowned_account) unowned_account
    c.in_ok-push.ensures.items c.loop-process.invariant last
    ∙ (append_assoc owns (replicate n unowned_account) (unowned_account ∷ [])
    ∙ ap (λ (ts : List AccountTerms). owns ++ ts) (replicate-append-replicate n 1 unowned_account))

pub returns : goal.returns
returns c =
    let k = c.args.size in
    let owns = map own_account (range_with_len 0 k) in
    let all : c.loop-process._process ≡ k = omega (arith, c.loop-process-test.false, c.loop-process.auto._process-end) in
    let values = owns ++ replicate k unowned_account in
    let first = c.loop-process.invariant ∙ ap (λ n. owns ++ replicate n unowned_account) all in
    let joint : DraftAccount = record { opening = 2 * c.from.result; owners = c.in_ok-all_processes.field-0 } in
    let joint_is : terms_of joint ≡ joint_account k =
    λ i. record { opening = 2 * c.from.ensures i; owners = c.in_ok-all_processes.ensures i } in
    let spent_is : terms_of c.unowned-2.result ≡ unowned_account =
    λ i. record { opening = c.unowned-2.ensures.opening i; owners = c.unowned-2.ensures.owners i } in
    let third = drafted_more c.loop-process.accounts.items c.push-2.new.self.items joint values (joint_account k) c.in_ok-push-2.ensures.items first joint_is in
    let whole = drafted_more c.push-2.new.self.items c.push-3.new.self.items c.unowned-2.result (values ++ joint_account k ∷ []) unowned_account
    c.in_ok-push-3.ensures.items third spent_is
    ∙ append_assoc values (joint_account k ∷ []) (unowned_account ∷ []) in
    λ i. record { processes = c.from-2.ensures i; own_room = 1; request_room = 1; accounts = whole i }
