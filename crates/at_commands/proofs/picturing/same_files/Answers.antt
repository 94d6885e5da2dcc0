use Rattle.std.proofs.Common.{ℕ, ◌<◌, ◌∙◌, ◌++◌, ◌∷◌, [], List, Vec, ap, arith, get_or, length, sym, take}
use Rattle.at_commands.proofs.Prelude.{Global, take_all, take_more, contents_of, Call, contents_of-push, contents_of-pushed}
use Rattle.at_commands.proofs.picturing.same_files.Goals as goal

pub loop-calls-preserved : goal.loop-calls-preserved
loop-calls-preserved c =
    let files : List (Vec Call Global) = c.args.files.now in
    let i : ℕ = c.loop-calls.calls-index in
    let x : Vec Call Global = c.calls-item.result in
    let within : i < length files = omega arith in
    contents_of-pushed c.push.new.self.items c.loop-calls.same.items c.in_ok-file.file c.in_ok-push.ensures.items
    ∙ (ap (λ (calls : List Call). contents_of c.loop-calls.same.items ++ calls ∷ []) (c.in_ok-file.ensures ∙ c.as_slice.ensures.value)
    ∙ (ap (λ (all : List (List Call)). all ++ x.items ∷ []) c.loop-calls.invariant
    ∙ (ap (λ (file : Vec Call Global). contents_of (take i files) ++ file.items ∷ []) c.calls-item.is
    ∙ (sym (contents_of-push (take i files) (get_or files i x)) ∙ ap (λ (fs : List (Vec Call Global)). contents_of fs) (sym (take_more files i x within))))))

pub returns : goal.returns
returns c =
    let files : List (Vec Call Global) = c.args.files.now in
    c.loop-calls.invariant
    ∙ ap (λ (fs : List (Vec Call Global)). contents_of fs) (take_all c.loop-calls.calls-index files (omega (arith, c.loop-calls-test.false)))
