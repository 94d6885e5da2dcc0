use Rattle.at_orders.proofs.Prelude.{common_steps, take_all, contents_of, get_or-contents_of, length-contents_of, IsCallOn, Call, ArePlaces, HasFirstPlace}
use Rattle.std.proofs.Common.{◌≡◌, ℕ, [], Option, List, length, get_or, take, All, sym, subst, ◌∙◌, arith}
use Rattle.at_orders.proofs.Placing.{files-more}
use Rattle.at_orders.proofs.places.Places.new.Goals as goal

pub add_file-requires-clause-calls : goal.add_file-requires-clause-calls
add_file-requires-clause-calls c =
    let i : ℕ = c.loop-file.file-index in
    let size = length-contents_of c.args.files.now in
    let within = c.loop-file-test.true in
    let file = get_or-contents_of c.args.files.now i c.file-item.result within c.file-item.is in
    subst (λ (calls : List Call). All (IsCallOn (length c.loop-file.places.of.items)) calls) (file ∙ sym c.as_slice.ensures.value)
    (subst (λ (n : ℕ). All (IsCallOn n) (get_or (contents_of c.args.files.now) i [])) (sym c.loop-file.invariant.size) (c.requires i [] (omega arith)))

pub loop-file-preserved : goal.loop-file-preserved
loop-file-preserved c =
    let files : List (List Call) = contents_of c.args.files.now in
    let i : ℕ = c.loop-file.file-index in
    let size = length-contents_of c.args.files.now in
    let within = c.loop-file-test.true in
    let new : List (Option ℕ) = c.add_file.new.self.of.items in
    let file = get_or-contents_of c.args.files.now i c.file-item.result within c.file-item.is in
    let placed = subst (All (HasFirstPlace new)) (c.as_slice.ensures.value ∙ sym file) c.in_ok-add_file.ensures.named in
    let places = subst (λ (n : ℕ). ArePlaces n c.add_file.new.self.named.items new) c.loop-file.invariant.size c.in_ok-add_file.ensures.places in
    record {
      size = places.size;
      places = places;
      named = files-more c.loop-file.places.of.items new files i (omega arith) c.in_ok-add_file.ensures.keeps c.loop-file.invariant.named placed;
    }

pub returns-clause-named : goal.returns-clause-named
returns-clause-named c =
    let files : List (List Call) = contents_of c.args.files.now in
    let size = length-contents_of c.args.files.now in
    let whole : take c.loop-file.file-index files ≡ files = take_all c.loop-file.file-index files (let past = c.loop-file-test.false in omega arith) in
    subst (All (All (HasFirstPlace c.loop-file.places.of.items))) whole c.loop-file.invariant.named

pub loop-file-init : goal.loop-file-init
loop-file-init c = grind (arith, common_steps)

pub add_file-requires-clause-places : goal.add_file-requires-clause-places
add_file-requires-clause-places c = grind (arith, common_steps)

pub returns-clause-places : goal.returns-clause-places
returns-clause-places c = grind (arith, common_steps)

pub bounds-files-file-index : goal.bounds-files-file-index
bounds-files-file-index c = grind (arith, common_steps)

pub offset_bounds-files-file-index : goal.offset_bounds-files-file-index
offset_bounds-files-file-index c = grind (arith, common_steps)
