use Rattle.std.proofs.Common.{◌≡◌, ℕ, true, Some, inl, inr, sym, ◌∙◌, arith}
use Rattle.at_orders.proofs.Prelude.{common_steps, is_owner, payout_of, IsTarget, PaysAt}
use Rattle.at_orders.proofs.Joining.{joining-on, paid-names, paid-of, touched-then}
use Rattle.at_orders.proofs.parts.Parts.add.Goals as goal

pub touch-requires-clause-joining : goal.touch-requires-clause-joining
touch-requires-clause-joining c =
    let b = c.args.book.now in
    let p : ℕ = c.args.process in
    let f : ℕ = c.in-Some.source in
    let pays : payout_of c.args.call.now ≡ Some (f, c.in-Some.targets) = sym c.payout.ensures ∙ c.in-Some.is in
    let can = c.requires.joining in
    let owns : is_owner b p f ≡ true = grind (arith, common_steps) in
    record { files = can.files; joining = can.joining; touches = λ a same. can.touches a (paid-of b p c.args.call.now f c.in-Some.targets a pays owns (inl same)) }

pub touch_all-requires-clause-joining : goal.touch_all-requires-clause-joining
touch_all-requires-clause-joining c =
    let b = c.args.book.now in
    let p : ℕ = c.args.process in
    let f : ℕ = c.in-Some.source in
    let pays : payout_of c.args.call.now ≡ Some (f, c.in-Some.targets) = sym c.payout.ensures ∙ c.in-Some.is in
    let can = c.requires.joining in
    let owns : is_owner b p f ≡ true = grind (arith, common_steps) in
    let one = c.touch.ensures can.files can.joining (λ a same. can.touches a (paid-of b p c.args.call.now f c.in-Some.targets a pays owns (inl same))) in
    record {
      files = can.files;
      joining = joining-on b can.files c.args.left.now p (λ (a : ℕ). f ≡ a) c.args.self.now c.touch.new.self can.joining one;
      touches = λ a target. can.touches a (paid-of b p c.args.call.now f c.in-Some.targets a pays owns (inr target));
    }

pub returns : goal.returns
returns c files joining touches =
    let b = c.args.book.now in
    let p : ℕ = c.args.process in
    let f : ℕ = c.in-Some.source in
    let ts = c.in-Some.targets in
    let pays : payout_of c.args.call.now ≡ Some (f, ts) = sym c.payout.ensures ∙ c.in-Some.is in
    let owns : is_owner b p f ≡ true = grind (arith, common_steps) in
    let one = c.touch.ensures files joining (λ a same. touches a (paid-of b p c.args.call.now f ts a pays owns (inl same))) in
    let two = c.touch_all.ensures files (joining-on b files c.args.left.now p (λ (a : ℕ). f ≡ a) c.args.self.now c.touch.new.self joining one)
    (λ a target. touches a (paid-of b p c.args.call.now f ts a pays owns (inr target))) in
    touched-then b files c.args.left.now p (λ (a : ℕ). f ≡ a) (IsTarget ts) (λ (a : ℕ). PaysAt b p a c.args.call.now) c.args.self.now c.touch.new.self c.touch_all.new.self joining one two
    (λ a paid. paid-names b p c.args.call.now f ts a pays paid)
