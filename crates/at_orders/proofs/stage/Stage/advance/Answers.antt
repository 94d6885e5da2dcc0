use Rattle.std.proofs.Common.{◌≡◌, ℕ, ◌+◌, List, [], get_or, length, set, ap, refl, ◌∙◌, arith}
use Rattle.at_orders.proofs.Prelude.{get_or_default_zero, common_steps, slice_get_within, Global, with_item, with_made}
use Rattle.std.specs.Prelude.{Vec}
use Rattle.at_orders.proofs.Requests.{stage_after-made}
use Rattle.at_orders.proofs.stage.Stage.advance.Goals as goal

pub overflow_add-index_mut : goal.overflow_add-index_mut
overflow_add-index_mut c =
    let g = c.args.ground.now in
    let p : ℕ = c.args.process in
    let known = c.book-known.ensures.known in
    let count = known.processes in
    let process = c.requires.process_in in
    let playable = known.files p [] (omega arith) in
    let few = playable.few in
    let within = slice_get_within (get_or g.files p []) (get_or c.args.self.now.made.items p 0) c.args.call.now c.requires.next in
    let same : c.make.new.self.made.items ≡ c.args.self.now.made.items = ap (λ (v : Vec ℕ Global). v.items) c.make.ensures.made in
    let size = ap (length {A = ℕ}) same in
    let counts = c.requires.standing.counts in
    let value = c.index_mut.ensures.value ∙ get_or_default_zero c.make.new.self.made.items p c.index_mut.result.now (omega arith) in
    let here : get_or c.make.new.self.made.items p 0 ≡ get_or c.args.self.now.made.items p 0 = ap (λ (m : List ℕ). get_or m p 0) same in
    omega arith

pub returns-clause-stage : goal.returns-clause-stage
returns-clause-stage c =
    let made : List ℕ = c.make.new.self.made.items in
    let still : made ≡ c.args.self.now.made.items = ap (λ (v : Vec ℕ Global). v.items) c.make.ensures.made in
    let counts : set made c.args.process (c.index_mut.result.now + 1) ≡ with_made made c.args.process =
    (let known = c.requires.process_in in let sized = c.make.ensures.standing.counts in ap (λ (n : ℕ). set made c.args.process (n + 1)) (c.index_mut.ensures.value ∙ get_or_default_zero made c.args.process c.index_mut.result.now (omega arith))) in
    stage_after-made c.args.ground.now c.args.self.now c.args.self.now c.make.new.self
    (record { made = with_item c.make.new.self.made c.args.process (c.index_mut.result.now + 1); balances = c.make.new.self.balances; sent = c.make.new.self.sent })
    c.args.process c.args.call.now refl refl refl still c.make.ensures.ledger counts refl refl

pub make-requires-clause-standing : goal.make-requires-clause-standing
make-requires-clause-standing c = grind (arith, common_steps)

pub returns-clause-standing : goal.returns-clause-standing
returns-clause-standing c = grind (arith, common_steps)

pub index_mut-requires : goal.index_mut-requires
index_mut-requires c = grind (arith, common_steps)

pub make-requires-clause-next : goal.make-requires-clause-next
make-requires-clause-next c = grind (arith, common_steps)

pub make-requires-clause-call_in : goal.make-requires-clause-call_in
make-requires-clause-call_in c = grind (arith, common_steps)

pub make-requires-clause-process_in : goal.make-requires-clause-process_in
make-requires-clause-process_in c = grind (arith, common_steps)
