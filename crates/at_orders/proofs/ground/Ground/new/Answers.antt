use Rattle.std.proofs.Common.{ℕ, All, ◌∙◌, subst}
use Rattle.at_orders.proofs.Prelude.{contents_of, length-contents_of, ArePlaces, HasFirstPlace, All-nil}
use Rattle.at_orders.proofs.Parting.{all-part, part-playable}
use Rattle.at_orders.proofs.ground.Ground.new.Goals as goal

pub invariant_of-result : goal.invariant_of-result
invariant_of-result c =
    let files = contents_of c.args.files.now in
    let count = length-contents_of c.args.files.now in
    let known = part-playable c.args.book.now files c.args.parts.now c.args.part (record { playable = c.requires.files; count = count ∙ c.requires.processes }) in
    let places = c.in_ok-places.ensures.places in
    let accounts = c.accounts-accounts.ensures.count in (
      record {
        book = c.accounts-accounts.ensures.checked;
        processes = known.count;
        files = known.playable;
        places = subst (λ (n : ℕ). ArePlaces n c.in_ok-places.places.named.items c.in_ok-places.places.of.items) accounts places;
        named = all-part (All (HasFirstPlace c.in_ok-places.places.of.items)) files c.args.parts.now c.args.part c.in_ok-places.ensures.named (All-nil (HasFirstPlace c.in_ok-places.places.of.items));
      },
      c.in_ok-before.ensures,
      c.requires.parts,
    )
