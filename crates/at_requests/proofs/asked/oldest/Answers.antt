use Rattle.std.proofs.Common.{◌≡◌, ◌<◌, List, length, ap, subst, ◌∙◌, arith}
use Rattle.at_requests.proofs.Prelude.{get_or_default, IsFirstBelow, request_in, OpenRequest}
use Rattle.at_requests.proofs.Ages.{IsOldestOf-IsFirstBelow, within-IsFirstBelow}
use Rattle.at_requests.proofs.asked.oldest.Goals as goal

pub returns : goal.returns
returns c =
    let list : List OpenRequest = c.asked.inside.list.items in
    let view : list ≡ c.args.asked.now = c.asked.view_is in
    let size = ap (λ (l : List OpenRequest). length l) view in
    let all : c.loop-i.i ≡ length c.args.asked.now = omega (arith, c.loop-i-test.false, c.loop-i.auto.i-end, c.len-i-end.ensures.value, size) in
    let found : IsFirstBelow c.args.asked.now c.args.done.now (length c.args.asked.now) c.loop-i.first =
    subst (λ n. IsFirstBelow c.args.asked.now c.args.done.now n c.loop-i.first) all c.loop-i.invariant in
    let within = within-IsFirstBelow c.args.asked.now c.args.done.now (length c.args.asked.now) c.unwrap.result c.loop-i.first c.unwrap.ensures found in
    let same : c.deref.result.now ≡ c.args.asked.now = c.deref.ensures.0 ∙ view in
    let inside : c.unwrap.result < length c.deref.result.now = omega (arith, within, ap (λ (l : List OpenRequest). length l) same) in
    IsOldestOf-IsFirstBelow c.args.asked.now c.args.done.now c.loop-i.first c.unwrap.result c.copy.result c.unwrap.ensures found
    (c.copy.ensures ∙ (c.index-deref-unwrap.is
    ∙ (get_or_default c.deref.result.now c.unwrap.result c.index-deref-unwrap.result _ inside ∙ ap (λ (l : List OpenRequest). request_in l c.unwrap.result) same)))
