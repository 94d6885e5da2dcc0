use Rattle.std.proofs.Common.{◌≡◌, ◌<◌, ◌∷◌, [], ◌++◌, ap, get_or, length, sym, take, ◌∙◌, arith}
use Rattle.at_follow.proofs.Prelude.{Word, Words, contents_of, contents_of-push, take_all, take_more}
use Rattle.at_follow.proofs.log_words.process_words.Goals as goal

pub loop-process-preserved : goal.loop-process-preserved
loop-process-preserved c =
    let all : Words = c.args.names.now.processes in
    let p = c.loop-process.process in
    let within : p < length all = omega (arith, c.loop-process-test.true, c.processes-process-end.ensures, c.requires) in
    let word = c.extend_from_slice.new.self in
    let word_is : word.items ≡ get_or all p [] = c.in_ok-extend_from_slice.ensures.items ∙ (ap (λ (l : Word). l ++ c.process.result.now) c.new-word.ensures.items ∙ c.process.ensures.name) in
    ap contents_of c.in_ok-push.ensures.items
    ∙ (contents_of-push c.loop-process.words.items word
    ∙ (ap (λ (l : Words). l ++ word.items ∷ []) c.loop-process.invariant ∙ (ap (λ (w : Word). take p all ++ w ∷ []) word_is ∙ sym (take_more all p [] within))))

pub returns : goal.returns
returns c =
    let all : Words = c.args.names.now.processes in
    c.loop-process.invariant ∙ take_all c.loop-process.process all (omega (arith, c.loop-process-test.false, c.processes-process-end.ensures, c.requires))
