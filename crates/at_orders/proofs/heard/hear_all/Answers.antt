use Rattle.at_orders.proofs.Prelude.{common_steps, map-set, with_items_is, with_items, Global, contents_of, get_or-contents_of, length-contents_of, BookTerms, Replies, Stage, GroundTerms, AreHeard, AreHeardInPart}
use Rattle.std.proofs.Common.{◌≡◌, ℕ, ◌+◌, ◌<◌, [], List, length, get_or, set, sym, ap, subst, ◌∙◌, arith}
use Rattle.std.specs.Prelude.{Vec}
use Rattle.at_orders.proofs.Walking.{part-all, part-more}
use Rattle.at_orders.proofs.heard.hear_all.Goals as goal

-- what was heard of a file before
before-is : (g : GroundTerms) (past stages : List Stage) (answers : List (Vec Replies Global)) (p : ℕ) (replies : Vec Replies Global)
    → AreHeardInPart g past stages (contents_of answers) p → p < length g.files → replies ≡ get_or answers p replies → AreHeard g (get_or g.files p []) past p replies.items
before-is g past stages answers p replies part within there =
    let size : length (contents_of answers) ≡ length answers = length-contents_of answers in
    let same = part.processes in
    subst (AreHeard g (get_or g.files p []) past p) (get_or-contents_of answers p replies (omega arith) there) (part.others p (omega arith) within)

pub hear-requires-clause-replies : goal.hear-requires-clause-replies
hear-requires-clause-replies c =
    let count = c.book.ensures.known.processes in
    let same = ap (λ (b : BookTerms). b.processes) c.book.ensures.book in
    let before = before-is c.args.ground.now c.requires.answers.0 c.args.stages.now c.loop-process.answers.items c.loop-process.process
    c.index_mut.result.now (c.loop-process.invariant c.requires.answers.0 c.requires.answers.1) (omega arith) c.index_mut.ensures.value in
    ap (length {A = Replies}) c.as_mut_slice.ensures.value ∙ before.calls

pub loop-process-preserved : goal.loop-process-preserved
loop-process-preserved c past all =
    let g = c.args.ground.now in
    let stages : List Stage = c.args.stages.now in
    let p : ℕ = c.loop-process.process in
    let count = c.book.ensures.known.processes in
    let same = ap (λ (b : BookTerms). b.processes) c.book.ensures.book in
    let part = c.loop-process.invariant past all in
    let before = before-is g past stages c.loop-process.answers.items p c.index_mut.result.now part (omega arith) c.index_mut.ensures.value in
    let heard = c.hear.ensures.heard past (subst (AreHeard g (get_or g.files p []) past p) (sym c.as_mut_slice.ensures.value) before) in
    let new : Vec Replies Global = with_items c.index_mut.result.now c.hear.new.replies in
    let items : new.items ≡ c.hear.new.replies = with_items_is c.index_mut.result.now c.hear.new.replies (c.hear.ensures.len ∙ c.as_mut_slice.ensures.len) in
    let written : contents_of (set c.loop-process.answers.items p new) ≡ set (contents_of c.loop-process.answers.items) p c.hear.new.replies =
    map-set (λ (v : Vec Replies Global). v.items) c.loop-process.answers.items p new ∙ ap (λ (r : List Replies). set (contents_of c.loop-process.answers.items) p r) items in
    subst (λ (answers : List (List Replies)). AreHeardInPart g past stages answers (p + 1)) (sym written)
    (part-more g past stages (contents_of c.loop-process.answers.items) p c.hear.new.replies (omega arith) part heard)

pub returns : goal.returns
returns c = record {
  heard = λ past all.
      let count = c.book.ensures.known.processes in
      let same = ap (λ (b : BookTerms). b.processes) c.book.ensures.book in
      part-all c.args.ground.now past c.args.stages.now (contents_of c.loop-process.answers.items) c.loop-process.process (omega arith) (c.loop-process.invariant past all);
}

pub loop-process-init : goal.loop-process-init
loop-process-init c = grind (arith, common_steps)

pub index_mut-requires : goal.index_mut-requires
index_mut-requires c = grind (arith, common_steps)

pub hear-requires-clause-process_in : goal.hear-requires-clause-process_in
hear-requires-clause-process_in c = grind (arith, common_steps)
