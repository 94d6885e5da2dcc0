use Rattle.std.proofs.Common.{◌≡◌, ◌∙◌, ◌++◌, ◌∷◌, [], List, Vec, Global, ap, append_assoc, arith, subst, sym}
use Rattle.at_stepper.proofs.Prelude.{map-append, contents_of, Receipt, PassTerms, CallerTerms, AreSplit}
use Rattle.at_stepper.proofs.SteppingLaws.{AreSplit-push}
use Rattle.at_stepper.proofs.finishing.parts.Goals as goal

pub loop-caller-preserved : goal.loop-caller-preserved
loop-caller-preserved c =
    let done = c.loop-caller.yielded in
    let caller : CallerTerms = c.in-Some.caller in
    let left = c.next.new.self.rest.items in
    let passes = c.loop-caller.passes.items in
    let lists = contents_of c.loop-caller.receipts.items in
    let pass = c.split-pass.result.0 in
    let list = c.split-pass.result.1.items in
    let told = c.split-pass.ensures in
    let kept = c.loop-caller.invariant in
    let more_passes : c.push_reserved.new.self.items ≡ passes ++ pass ∷ [] = c.push_reserved.ensures.items in
    let more_lists : contents_of c.push_reserved-in-loop-caller.new.self.items ≡ lists ++ list ∷ [] =
    ap contents_of c.push_reserved-in-loop-caller.ensures.items
    ∙ map-append (λ (v : Vec Receipt Global). v.items) c.loop-caller.receipts.items (c.split-pass.result.1 ∷ []) in
    record {
      next = tt;
      finite = tt;
      callers = kept.callers ∙ (ap (λ (cs : List CallerTerms). done ++ cs) c.in-Some.ensures.steps.0 ∙ sym (append_assoc done (caller ∷ []) left));
      split =
          subst (λ (ps : List PassTerms). AreSplit (done ++ caller ∷ []) ps (contents_of c.push_reserved-in-loop-caller.new.self.items))
          (sym (more_passes ∙ ap (λ (x : PassTerms). passes ++ x ∷ []) told.pass))
          (subst (λ (rs : List (List Receipt)). AreSplit (done ++ caller ∷ []) (passes ++ caller.pass ∷ []) rs)
          (sym (more_lists ∙ ap (λ (x : List Receipt). lists ++ x ∷ []) told.receipts))
          (AreSplit-push done passes lists caller kept.split
          (record { between = told.between; stands = told.stands; past = told.past; made = told.made; few = told.few })));
      room = omega (arith, kept.room, c.push_reserved.ensures.len, c.push_reserved.ensures.capacity, c.in-Some.ensures.steps.1);
      list_room = omega (
        arith,
        kept.list_room,
        c.push_reserved-in-loop-caller.ensures.len,
        c.push_reserved-in-loop-caller.ensures.capacity,
        c.in-Some.ensures.steps.1,
      );
    }
