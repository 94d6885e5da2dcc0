use Rattle.std.proofs.Common.{◌≡◌, ℕ, ◌+◌, ◌^◌, ◌<◌, ◌∷◌, [], List, get_or, length, take, sym, ap, subst, ◌∙◌, arith}
use Rattle.at_orders.proofs.Prelude.{length-append, length-set, get_or_default_zero, common_steps, slice_get_within, IsCallOn, Call, IsCallOn-more, payments_from}
use Rattle.std.specs.Prelude.{is_some}
use Rattle.at_orders.proofs.Counting.{before-more, counts-payment, counts-read, payments_from-few}
use Rattle.at_orders.proofs.Placing.{first-known}
use Rattle.at_orders.proofs.ground.count_before.Goals as goal
use Rattle.at_orders.proofs.ground.count_before.Goals.{then-is_some, else-is_some}

pub overflow_add-index_mut : goal.overflow_add-index_mut
overflow_add-index_mut c =
    let a : ℕ = c.first_account-account.result in
    let few = payments_from-few a c.args.file.now c.loop-call.call-index in
    let calls = c.requires.playable.few in
    let within = c.loop-call-test.true in
    let known : a < c.args.accounts = first-known c.args.accounts c.call-item.result a c.first_account-account.ensures (subst (IsCallOn c.args.accounts) (sym c.call-item.is) (c.requires.playable.known c.loop-call.call-index c.call-item.result within)) in
    let accounts = c.loop-call.invariant.accounts in
    let value = c.index_mut.ensures.value ∙ get_or_default_zero c.loop-call.counts.items a c.index_mut.result.now (omega arith) in
    let count = c.loop-call.invariant.counts a known in
    omega arith

pub loop-call-preserved : goal.loop-call-preserved
loop-call-preserved c =
    let file : List Call = c.args.file.now in
    let i : ℕ = c.loop-call.call-index in
    let call : Call = c.call-item.result in
    let account : ℕ = c.first_account-account.result in
    let within = c.loop-call-test.true in
    let accounts = c.loop-call.invariant.accounts in
    let call_is : call ≡ get_or file i call = c.call-item.is in
    let first = c.first_account-account.ensures in
    let paid = c.is_some.ensures in
    let payout = c.payout.ensures in
    let known : account < c.args.accounts = first-known c.args.accounts call account first (subst (IsCallOn c.args.accounts) (sym call_is) (c.requires.playable.known i call within)) in
    let inside : account < length c.loop-call.counts.items = omega arith in
    record {
      accounts = elim c.if-is_some.branch [
        | then-is_some w ↦ subst (λ v. length v.items ≡ c.args.accounts) (sym w.counts-is) (length-set c.loop-call.counts.items account (w.index_mut.result.now + 1) ∙ accounts)
        | else-is_some w ↦ subst (λ v. length v.items ≡ c.args.accounts) (sym w.counts-is) accounts
      ];
      counts = λ a there. elim c.if-is_some.branch [
        | then-is_some w ↦
            subst (λ v. get_or v.items a 0 ≡ payments_from a (take (i + 1) file)) (sym w.counts-is)
            (counts-payment c.loop-call.counts.items file i call account a (w.index_mut.result.now + 1) within call_is first (sym (paid ∙ ap is_some payout) ∙ w.if-is_some.true) inside
            (c.loop-call.invariant.counts a there) (ap (λ (n : ℕ). n + 1) (w.index_mut.ensures.value ∙ get_or_default_zero c.loop-call.counts.items account w.index_mut.result.now inside)))
        | else-is_some w ↦
            subst (λ v. get_or v.items a 0 ≡ payments_from a (take (i + 1) file)) (sym w.counts-is)
            (counts-read c.loop-call.counts.items file i call a within call_is (sym (paid ∙ ap is_some payout) ∙ w.if-is_some.false) (c.loop-call.invariant.counts a there))
      ];
      calls = ap (length {A = ℕ}) c.in_ok-push.ensures.items ∙ (let size = length-append c.loop-call.before.items (c.index.result.now ∷ []) in let old = c.loop-call.invariant.calls in omega arith);
      before = λ j d less there.
          ap (λ (xs : List ℕ). get_or xs j 0) c.in_ok-push.ensures.items
          ∙ before-more file c.loop-call.before.items i call c.index.result.now c.loop-call.invariant.calls c.loop-call.invariant.before
          (c.index.ensures ∙ (get_or_default_zero c.loop-call.counts.items account c.index.result.now inside ∙ c.loop-call.invariant.counts account known ∙ ap (λ (n : ℕ). payments_from n (take i file)) first)) within call_is j d less there;
    }

pub returns : goal.returns
returns c =
    let all : c.loop-call.call-index ≡ length c.args.file.now = let past = c.loop-call-test.false in omega arith in
    record {
      calls = c.loop-call.invariant.calls ∙ all;
      each = λ i call is. c.loop-call.invariant.before i call (let within = slice_get_within c.args.file.now i call is in omega arith) is;
    }

pub loop-call-init : goal.loop-call-init
loop-call-init c = grind (arith, common_steps)

pub overflow_cast-account : goal.overflow_cast-account
overflow_cast-account c = grind (arith, common_steps)

pub offset_bounds-file-call-index : goal.offset_bounds-file-call-index
offset_bounds-file-call-index c = grind (arith, common_steps)

pub index-requires : goal.index-requires
index-requires c =
    let known = first-known c.args.accounts c.call-item.result c.first_account-account.result c.first_account-account.ensures (subst (IsCallOn c.args.accounts) (sym c.call-item.is) (c.requires.playable.known c.loop-call.call-index c.call-item.result c.loop-call-test.true)) in
    let accounts = c.loop-call.invariant.accounts in
    omega arith

pub index_mut-requires : goal.index_mut-requires
index_mut-requires c =
    let known = first-known c.args.accounts c.call-item.result c.first_account-account.result c.first_account-account.ensures (subst (IsCallOn c.args.accounts) (sym c.call-item.is) (c.requires.playable.known c.loop-call.call-index c.call-item.result c.loop-call-test.true)) in
    let accounts = c.loop-call.invariant.accounts in
    omega arith

pub payout-requires : goal.payout-requires
payout-requires c =
    IsCallOn-more c.args.accounts (2 ^ 16) c.call-item.result c.requires.small
    (subst (IsCallOn c.args.accounts) (sym c.call-item.is) (c.requires.playable.known c.loop-call.call-index c.call-item.result c.loop-call-test.true))
