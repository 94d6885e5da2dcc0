use Rattle.std.proofs.Common.{◌≡◌, ◌∙◌, ℕ, ◌+◌, ◌<◌, ◌≤◌, ◌++◌, ◌∷◌, [], List, Vec, Global, ap, arith, drop, get_or, length, map, refl, subst, sym, take}
use Rattle.at_stepper.proofs.Prelude.{common_steps, length-drop, length-map, length_push, with_items_is, IsOf, Call, contents_of, BookTerms, CallerTerms, IsFile, AreBegunCallers, IsBegunCaller}
use Rattle.at_stepper.proofs.SteppingLaws.{AreBegunCallers-all, HasRoom-next, IsFile-next, IsNewPass-next, IsOf-begun, calls-next, made-next, rest_next, seen-begun}
use Rattle.at_stepper.proofs.TurnCounts.{some_of}
use Rattle.at_stepper.proofs.beginning.run_of.Goals as goal

pub new-requires-clause-stands : goal.new-requires-clause-stands
new-requires-clause-stands c =
    (IsNewPass-next c.args.memory.ledger c.args.memory.starts.items c.args.files.items (length c.loop-calls.callers.items) c.in-Some-next.start
    c.next-in-loop-calls.new.self.rest.items c.in-Some.calls c.next.new.self.rest.items
    (sym c.loop-calls.invariant.starts ∙ c.in-Some-next.ensures.items) (sym c.loop-calls.invariant.files ∙ c.in-Some.ensures.steps.0)
    c.requires.passes).stands

pub new-requires-clause-unmade : goal.new-requires-clause-unmade
new-requires-clause-unmade c =
    (IsNewPass-next c.args.memory.ledger c.args.memory.starts.items c.args.files.items (length c.loop-calls.callers.items) c.in-Some-next.start
    c.next-in-loop-calls.new.self.rest.items c.in-Some.calls c.next.new.self.rest.items
    (sym c.loop-calls.invariant.starts ∙ c.in-Some-next.ensures.items) (sym c.loop-calls.invariant.files ∙ c.in-Some.ensures.steps.0)
    c.requires.passes).past_none

pub new-requires-clause-file : goal.new-requires-clause-file
new-requires-clause-file c =
    let starts_are = sym c.loop-calls.invariant.starts ∙ c.in-Some-next.ensures.items in
    let files_are = sym c.loop-calls.invariant.files ∙ c.in-Some.ensures.steps.0 in
    let new = IsNewPass-next c.args.memory.ledger c.args.memory.starts.items c.args.files.items (length c.loop-calls.callers.items) c.in-Some-next.start
    c.next-in-loop-calls.new.self.rest.items c.in-Some.calls c.next.new.self.rest.items starts_are files_are c.requires.passes in
    subst (λ (b : BookTerms). IsFile (length b.accounts) c.in-Some.calls.items) (sym new.of_ledger.book)
    (IsFile-next c.args.memory.ledger c.args.memory.starts.items c.args.files.items (length c.loop-calls.callers.items) c.in-Some-next.start
    c.next-in-loop-calls.new.self.rest.items c.in-Some.calls c.next.new.self.rest.items starts_are files_are
    (length c.args.memory.ledger.book.accounts) c.requires.known)

pub new-requires-clause-room : goal.new-requires-clause-room
new-requires-clause-room c =
    HasRoom-next c.args.memory.ledger c.args.memory.starts.items c.args.files.items (length c.loop-calls.callers.items) c.in-Some-next.start
    c.next-in-loop-calls.new.self.rest.items c.in-Some.calls c.next.new.self.rest.items
    (sym c.loop-calls.invariant.starts ∙ c.in-Some-next.ensures.items) (sym c.loop-calls.invariant.files ∙ c.in-Some.ensures.steps.0)
    c.requires.rooms

pub loop-calls-preserved : goal.loop-calls-preserved
loop-calls-preserved c =
    let ledger = c.args.memory.ledger in
    let starts = c.args.memory.starts.items in
    let files = c.args.files.items in
    let callers = c.loop-calls.callers.items in
    let n : ℕ = length callers in
    let start = c.in-Some-next.start in
    let others = c.next-in-loop-calls.new.self.rest.items in
    let file = c.in-Some.calls in
    let left = c.next.new.self.rest.items in
    let caller : CallerTerms = c.new.result in
    let kept = c.loop-calls.invariant in
    let start_is : drop n starts ≡ start ∷ others = sym kept.starts ∙ c.in-Some-next.ensures.items in
    let file_is : drop n files ≡ file ∷ left = sym kept.files ∙ c.in-Some.ensures.steps.0 in
    let more : c.push_reserved.new.self.items ≡ callers ++ caller ∷ [] = c.push_reserved.ensures.items in
    let count : n + 1 ≡ length c.push_reserved.new.self.items =
    sym (ap (λ (cs : List CallerTerms). length cs) more ∙ length_push callers caller) in
    record {
      next = tt;
      finite = tt;
      starts = rest_next starts n start others start_is ∙ ap (λ k. drop k starts) count;
      files = rest_next files n file left file_is ∙ ap (λ k. drop k files) count;
      calls = subst (λ (cs : List CallerTerms). map (λ (x : CallerTerms). x.calls) cs ≡ take (length cs) (contents_of files)) (sym more)
          (calls-next ledger starts files n start others file left start_is file_is callers caller refl c.new.ensures kept.calls);
      made = subst (λ (cs : List CallerTerms). (p : ℕ) (f : List Call) (d : CallerTerms) → p < length cs
          → IsBegunCaller ledger p (get_or (contents_of files) p f) (get_or cs p d)) (sym more)
          (made-next ledger starts files n start others file left start_is file_is callers caller refl c.new.ensures c.requires.passes kept.made);
      room = omega (arith, kept.room, c.push_reserved.ensures.len, c.push_reserved.ensures.capacity, c.in-Some.ensures.steps.1);
    }

pub first_overview-overview-requires-clause-board : goal.first_overview-overview-requires-clause-board
first_overview-overview-requires-clause-board c d =
    let files = c.args.files.items in
    let callers = c.loop-calls.callers.items in
    let none : c.loop-calls.calls-iterator.rest.items ≡ [] = grind (arith, common_steps) in
    let all : length (contents_of files) ≤ length callers =
    omega (
      arith,
      length-map files (λ (f : Vec Call Global). f.items),
      length-drop (length callers) files,
      ap (λ (fs : List (Vec Call Global)). length fs) (sym c.loop-calls.invariant.files ∙ none),
    ) in
    let begun = AreBegunCallers-all c.args.memory.ledger (contents_of files) callers all c.loop-calls.invariant.calls c.loop-calls.invariant.made in
    let some : 0 < length (contents_of files) = omega (arith, c.requires.some, length-map files (λ (f : Vec Call Global). f.items)) in
    subst (λ (cs : List CallerTerms). IsOf (get_or cs 0 d).seat c.args.memory.ledger) (sym c.deref_mut.ensures.value)
    (IsOf-begun c.args.memory.ledger (contents_of files) callers d begun some)

pub returns : goal.returns
returns c =
    let files = c.args.files.items in
    let callers = c.loop-calls.callers.items in
    let none : c.loop-calls.calls-iterator.rest.items ≡ [] = grind (arith, common_steps) in
    let all : length (contents_of files) ≤ length callers =
    omega (
      arith,
      length-map files (λ (f : Vec Call Global). f.items),
      length-drop (length callers) files,
      ap (λ (fs : List (Vec Call Global)). length fs) (sym c.loop-calls.invariant.files ∙ none),
    ) in
    let begun = AreBegunCallers-all c.args.memory.ledger (contents_of files) callers all c.loop-calls.invariant.calls c.loop-calls.invariant.made in
    let some : 0 < length (contents_of files) = omega (arith, c.requires.some, length-map files (λ (f : Vec Call Global). f.items)) in
    let told = c.first_overview-overview.ensures in
    let d = some_of callers 0 (omega (arith, some, all)) in
    let items = with_items_is c.loop-calls.callers c.first_overview-overview.new.callers (ap (λ (cs : List CallerTerms). length cs) told.same ∙ c.deref_mut.ensures.len)
    ∙ (told.same ∙ c.deref_mut.ensures.value) in
    record {
      ledger = refl;
      callers = subst (λ (cs : List CallerTerms). AreBegunCallers c.args.memory.ledger (contents_of files) cs) (sym items) begun;
      overview = told.overview;
      unpublished = told.seen d
          ∙ (ap (λ (cs : List CallerTerms). (get_or cs 0 d).seat.knows.seen) c.deref_mut.ensures.value
          ∙ seen-begun c.args.memory.ledger (contents_of files) callers d begun some);
    }
