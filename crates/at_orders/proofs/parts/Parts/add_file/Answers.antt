use Rattle.std.proofs.Common.{◌≡◌, ℕ, ◌+◌, ◌++◌, [], ◌∷◌, List, take, sym, ap, subst, ◌∙◌, arith}
use Rattle.at_orders.proofs.Prelude.{take_all, take_more, Call, AreTouched, PaysIn}
use Rattle.at_orders.proofs.Joining.{file-more, joining-on, paid-take, touched-empty}
use Rattle.at_orders.proofs.parts.Parts.add_file.Goals as goal

pub loop-call-init : goal.loop-call-init
loop-call-init c files joining touches =
    touched-empty c.args.book.now files c.args.left.now c.args.process (PaysIn c.args.book.now c.args.process []) c.args.self.now joining (λ a pays. let h = pays.stands.1 in omega arith)

pub add-requires-clause-joining : goal.add-requires-clause-joining
add-requires-clause-joining c =
    let b = c.args.book.now in
    let p : ℕ = c.args.process in
    let can = c.requires.joining in
    let i : ℕ = c.loop-call.call-index in
    let before = c.loop-call.invariant can.files can.joining (λ a pays. can.touches a (paid-take b p c.args.file.now i a pays)) in
    record {
      files = can.files;
      joining = joining-on b can.files c.args.left.now p (PaysIn b p (take i c.args.file.now)) c.args.self.now c.loop-call.self can.joining before;
      touches = λ a pays. can.touches a (record { call = c.call-item.result; stands = (i, c.loop-call-test.true, sym c.call-item.is); pays = pays });
    }

pub loop-call-preserved : goal.loop-call-preserved
loop-call-preserved c files joining touches =
    let b = c.args.book.now in
    let p : ℕ = c.args.process in
    let i : ℕ = c.loop-call.call-index in
    let call : Call = c.call-item.result in
    let calls : List Call = take i c.args.file.now in
    let more : take (i + 1) c.args.file.now ≡ calls ++ call ∷ [] =
    take_more c.args.file.now i call c.loop-call-test.true ∙ ap (λ (x : Call). calls ++ x ∷ []) (sym c.call-item.is) in
    subst (λ (xs : List Call). AreTouched b files p (PaysIn b p xs) c.args.self.now c.add.new.self) (sym more)
    (file-more b files c.args.left.now p calls call c.args.self.now c.loop-call.self c.add.new.self c.loop-call.invariant c.add.ensures joining
    (λ a pays. touches a (subst (λ (xs : List Call). PaysIn b p xs a) (sym more) pays)))

pub returns : goal.returns
returns c files joining touches =
    let b = c.args.book.now in
    let p : ℕ = c.args.process in
    let whole : take c.loop-call.call-index c.args.file.now ≡ c.args.file.now = take_all c.loop-call.call-index c.args.file.now (let past = c.loop-call-test.false in omega arith) in
    subst (λ (xs : List Call). AreTouched b files p (PaysIn b p xs) c.args.self.now c.loop-call.self) whole
    (c.loop-call.invariant files joining (λ a pays. touches a (paid-take b p c.args.file.now c.loop-call.call-index a pays)))
