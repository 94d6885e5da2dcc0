use Rattle.std.proofs.Common.{[], ◌∷◌, ◌++◌, sym, ap, subst, ◌∙◌, append_assoc, rules}
use Rattle.at_payments.proofs.Prelude.{BookTerms, IsPrefix, Knowledge, StaysCounted-HasCounted, HasCounted, MayAppend, Record}
use Rattle.at_payments.proofs.helping.Helping.publish.Goals as goal

pub append-requires-clause-record : goal.append-requires-clause-record
append-requires-clause-record c =
    subst (λ (r : Record). MayAppend c.args.board.now.book c.load_request-request.new.seat.knows r) (sym c.record_of_round-record.ensures) (search rules)

pub count_own-requires-clause-counted : goal.count_own-requires-clause-counted
count_own-requires-clause-counted c =
    let b : BookTerms = c.args.board.now.book in
    let v : Knowledge = c.args.seat.now.knows in
    let y : Knowledge = c.load_request-request.new.seat.knows in
    let z : Knowledge = c.append.new.seat.knows in
    let told = c.append.ensures.published in
    let loaded = c.load_request-request.ensures.loaded in
    let seen = ap (λ (t : Knowledge). t.seen) loaded.same in
    let more : IsPrefix v.seen z.seen = subst (λ list. IsPrefix list z.seen) seen (told.between ++ _ ∷ [], told.seen ∙ append_assoc y.seen told.between (_ ∷ [])) in
    let book = ap (λ (t : Knowledge). t.book) told.same ∙ (ap (λ (t : Knowledge). t.book) loaded.same ∙ c.requires.seat.book) in
    subst (λ t. HasCounted c.args.totals.now t z.seen) (sym book) (StaysCounted-HasCounted c.args.totals.now b v.seen c.requires.totals z.seen more)
