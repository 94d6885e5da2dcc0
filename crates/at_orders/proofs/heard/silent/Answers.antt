use Rattle.at_orders.proofs.Prelude.{common_steps, get_or-replicate, length-replicate, contents_of, contents_of-pushed, Call, no_replies, AreAllHeard, Replies}
use Rattle.std.proofs.Common.{◌≡◌, ℕ, ◌+◌, ◌<◌, [], List, length, get_or, replicate, sym, subst, ap, ◌∙◌, arith}
use Rattle.at_orders.proofs.Walking.{all-heard-more, heard-none}
use Rattle.at_orders.proofs.heard.silent.Goals as goal

pub loop-process-preserved : goal.loop-process-preserved
loop-process-preserved c =
    let g = c.args.ground.now in
    let p : ℕ = c.loop-process.process in
    let replies : List Replies = c.in_ok-vec.field-0.items in
    let n : ℕ = length c.file-file.result.now in
    let all : replies ≡ replicate n no_replies =
    c.in_ok-vec.ensures.items_if_clones_equal (λ y is. is) ∙ ap (replicate n) c.none.ensures in
    let size : length replies ≡ length (get_or g.files p []) =
    ap (length {A = Replies}) all ∙ (length-replicate n no_replies ∙ ap (length {A = Call}) c.file-file.ensures.calls) in
    let none : (i : ℕ) (r : Replies) → i < length (get_or g.files p []) → get_or replies i r ≡ no_replies =
    λ i r within. ap (λ (rs : List Replies). get_or rs i r) all ∙ get_or-replicate n i no_replies r (let long = length-replicate n no_replies in let same = ap (length {A = Replies}) all in omega arith) in
    let heard = heard-none g (get_or g.files p []) p replies size none in
    subst (λ (answers : List (List Replies)). AreAllHeard g [] answers (p + 1))
    (sym (contents_of-pushed c.push.new.self.items c.loop-process.answers.items c.in_ok-vec.field-0 c.in_ok-push.ensures.items))
    (all-heard-more g [] (contents_of c.loop-process.answers.items) p replies c.loop-process.invariant heard)

pub loop-process-init : goal.loop-process-init
loop-process-init c = grind (arith, common_steps)

pub returns : goal.returns
returns c = grind (arith, common_steps)

pub file-file-requires : goal.file-file-requires
file-file-requires c = grind (arith, common_steps)
