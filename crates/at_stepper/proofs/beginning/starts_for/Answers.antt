use Rattle.std.proofs.Common.{◌≡◌, ◌∙◌, ℕ, ◌<◌, ◌++◌, ◌∷◌, [], List, ap, append_assoc, arith, get_or, length, length-append, subst, sym}
use Rattle.at_stepper.proofs.Prelude.{length-map, map-append, vec_capacity, contents_of, HasMemoryFor, PassTerms, passes_in, Start}
use Rattle.at_stepper.proofs.SteppingLaws.{each_push, room_of_file}
use Rattle.at_stepper.proofs.beginning.starts_for.Goals as goal

pub loop-pass-preserved : goal.loop-pass-preserved
loop-pass-preserved c =
    let files = c.args.files.now in
    let starts = c.loop-pass.starts.items in
    let pass : PassTerms = c.in-Some.pass in
    let list = c.in_ok-with_capacity.field-0 in
    let start : Start = record { pass = pass; receipts = list } in
    let left = c.next.new.self.rest.items in
    let kept = c.loop-pass.invariant in
    let told = c.in_ok-with_capacity.ensures in
    let more : c.push.new.self.items ≡ starts ++ start ∷ [] = c.in_ok-push.ensures.items in
    let next : c.args.passes.items ≡ passes_in starts ++ pass ∷ left =
    kept.passes ∙ ap (λ (ps : List PassTerms). passes_in starts ++ ps) c.in-Some.ensures.steps.0 in
    let within : length starts < length files =
    omega (
      arith,
      c.requires.count,
      ap (λ (ps : List PassTerms). length ps) next,
      length-append (passes_in starts) (pass ∷ left),
      length-map starts (λ (s : Start). s.pass),
    ) in
    let count : c.len.result ≡ length starts = omega (arith, c.len.ensures, c.loop-pass.starts.ok.0) in
    let fits = room_of_file files (length starts) c.len.result c.len-calls.result c.index-files-len.result (vec_capacity list) within count
    c.index-files-len.is c.len-calls.ensures told.capacity in
    let room : HasMemoryFor list (length (get_or (contents_of files) (length starts) [])) = (told.items, told.len, fits) in
    record {
      next = tt;
      finite = tt;
      passes =
          next
          ∙ (sym (append_assoc (passes_in starts) (pass ∷ []) left)
          ∙ ap (λ (ps : List PassTerms). ps ++ left) (sym (ap passes_in more ∙ map-append (λ (s : Start). s.pass) starts (start ∷ []))));
      room = subst (λ (all : List Start). (p : ℕ) (d : Start) → p < length all
          → HasMemoryFor (get_or all p d).receipts (length (get_or (contents_of files) p []))) (sym more)
          (each_push (λ p s. HasMemoryFor s.receipts (length (get_or (contents_of files) p []))) starts start kept.room room);
    }
