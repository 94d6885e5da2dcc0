use Rattle.std.proofs.Common.{◌≡◌, ℕ, ◌<◌, [], List, length, ap, get_or, ◌∙◌, sym, subst, arith}
use Rattle.at_orders.proofs.Prelude.{Global, contents_of, get_or-contents_of, length-contents_of, files_of_part, Call, GroundTerms, IsGround}
use Rattle.std.specs.Prelude.{Vec}
use Rattle.at_orders.proofs.Parting.{length-part, other-file, own-file}
use Rattle.at_orders.proofs.ground.Ground.file.Goals as goal

process-in : (g : GroundTerms) (files : List (List Call)) (parts : List ℕ) (k p : ℕ) → files_of_part files parts k ≡ g.files → IsGround g → p < g.book.processes → p < length files
process-in g files parts k p is ground within =
    let same = ap (λ (fs : List (List Call)). length fs) is in
    let size = length-part files parts k in
    let count = ground.processes in
    omega arith

pub bounds-self-inside-process : goal.bounds-self-inside-process
bounds-self-inside-process c =
    let ground : IsGround c.args.self.now = subst IsGround c.self.view_is c.self.invariant.0 in
    let g = c.self.inside in
    let is = ap (λ (x : GroundTerms). x.files) c.self.view_is in
    let all = length-contents_of g.files.now in
    let here = process-in c.args.self.now (contents_of g.files.now) g.parts.now g.part c.args.process is ground c.requires in
    let parts = c.self.invariant.2 in
    omega arith

pub bounds-self-inside-process-then-self-process : goal.bounds-self-inside-process-then-self-process
bounds-self-inside-process-then-self-process c =
    let ground : IsGround c.args.self.now = subst IsGround c.self.view_is c.self.invariant.0 in
    let g = c.self.inside in
    let is = ap (λ (x : GroundTerms). x.files) c.self.view_is in
    let all = length-contents_of g.files.now in
    let here = process-in c.args.self.now (contents_of g.files.now) g.parts.now g.part c.args.process is ground c.requires in
    omega arith

pub returns-then-self-process-clause-calls : goal.returns-then-self-process-clause-calls
returns-then-self-process-clause-calls c =
    let ground : IsGround c.args.self.now = subst IsGround c.self.view_is c.self.invariant.0 in
    let g = c.self.inside in
    let is = ap (λ (x : GroundTerms). x.files) c.self.view_is in
    let all = length-contents_of g.files.now in
    let here = process-in c.args.self.now (contents_of g.files.now) g.parts.now g.part c.args.process is ground c.requires in
    let known : c.args.process < length g.files.now = omega arith in
    let file = get_or-contents_of g.files.now c.args.process c.index-self-process.result known c.index-self-process.is in
    let own = own-file (contents_of g.files.now) g.parts.now g.part c.args.process here c.if-self-process.true in
    c.as_slice.ensures.value ∙ (ap (λ (v : Vec Call Global). v.items) (sym c.index-self-process.is) ∙ (sym file ∙ (sym own ∙ ap (λ (fs : List (List Call)). get_or fs c.args.process []) is)))

pub returns-else-self-process-clause-calls : goal.returns-else-self-process-clause-calls
returns-else-self-process-clause-calls c =
    let ground : IsGround c.args.self.now = subst IsGround c.self.view_is c.self.invariant.0 in
    let g = c.self.inside in
    let is = ap (λ (x : GroundTerms). x.files) c.self.view_is in
    let all = length-contents_of g.files.now in
    let here = process-in c.args.self.now (contents_of g.files.now) g.parts.now g.part c.args.process is ground c.requires in
    let none = other-file (contents_of g.files.now) g.parts.now g.part c.args.process here c.if-self-process.false in
    sym none ∙ ap (λ (fs : List (List Call)). get_or fs c.args.process []) is
