use Rattle.std.proofs.Common.{rules, ◌≡◌, ℕ, ◌<◌, length, get_or, sym, ap, subst, ◌∙◌, arith}
use Rattle.at_object.proofs.Prelude.{BookTerms, balance_after, place, prefix_of, place-IsCut-le, ArePublishedBy-IsHistory, BoardTerms, Knowledge, HasCounted, CountsCut, CountsCut-HasLooked, HasCounted-HasLooked, Told, Rest, PassTerms, AreBalancesAfter, HasLoaded, IsSnapshot, owns_of, own_part}
use Rattle.at_object.proofs.Laws.Looked.{IsPass-HasLoaded, Told-HasLoaded_still, owns_of-HasLoaded, published-HasLoaded}
use Rattle.at_object.proofs.Laws.OnePass.{IsOfOnePass-looked}
use Rattle.at_object.proofs.Laws.Totals.{AreBalancesAfter-each}
use Rattle.at_object.proofs.ledger.Ledger.balances.Goals.{After-book}
use Rattle.at_object.proofs.ledger.Ledger.balances.Goals as goal

-- the totals have counted what was seen, and of it just the cut
counted : (c : After-book) → HasCounted c.look.new.totals c.book.result.now c.look.new.seat.knows.seen
counted c =
    subst (λ t. HasCounted c.look.new.totals t c.look.new.seat.knows.seen) (sym c.book.ensures)
    (HasCounted-HasLooked c.self.inside.board.book c.pass.inside.seat.knows c.look.new.seat.knows c.pass.inside.rest.totals c.look.new.totals
    c.look.result c.look.ensures.looked)

counted_cut : (c : After-book) → CountsCut c.look.new.totals c.book.result.now c.look.new.seat.knows.seen
counted_cut c =
    subst (λ t. CountsCut c.look.new.totals t c.look.new.seat.knows.seen) (sym c.book.ensures)
    (CountsCut-HasLooked c.self.inside.board.book c.pass.inside.seat.knows c.look.new.seat.knows c.pass.inside.rest.totals c.look.new.totals
    c.look.result c.look.ensures.looked)

pub put_balances-requires-clause-counted : goal.put_balances-requires-clause-counted
put_balances-requires-clause-counted c =
    let d : After-book = (goal.at.put_balances-requires-clause-counted c).After-book in (c.look.new.seat.knows.seen, counted d, counted_cut d)

-- what the seat knew of the book is what the ledger has
known_book : (c : After-book) → c.pass.inside.seat.knows.book ≡ c.self.inside.board.book
known_book c =
    ap (λ (t : PassTerms). t.knows.book) c.pass.view_is ∙ (c.requires.pass.book ∙ sym (ap (λ (t : BoardTerms). t.book) c.self.view_is))

-- all own records are counted
own_counted : (c : After-book) → let w : Knowledge = c.look.new.seat.knows in
    get_or c.look.new.totals.upto w.first 0 ≡ (own_part w).published
own_counted c =
    let v : Knowledge = c.pass.inside.seat.knows in
    let w : Knowledge = c.look.new.seat.knows in
    let looked = c.look.ensures.looked in
    ap (λ u. get_or u w.first 0) looked.upto
    ∙ (ap (λ (t : Knowledge). get_or c.look.result t.first 0) looked.loads.same
    ∙ (looked.snapshot.own
    ∙ sym (published-HasLoaded c.self.inside.board.book v w c.known.ensures.seat c.known-2.ensures.seat (known_book c) c.look.ensures.board.book looked.loads)))

pub invariant_of-pass : goal.invariant_of-pass
invariant_of-pass c =
    let d : After-book = (goal.at.invariant_of-pass c).After-book in
    let b : BookTerms = c.self.inside.board.book in
    let v : Knowledge = c.pass.inside.seat.knows in
    let w : Knowledge = c.look.new.seat.knows in
    let was = c.pass.inside.rest in
    let now : Rest = record was { totals = c.look.new.totals; calls = c.count_look.new.self } in
    let looked = c.look.ensures.looked in
    IsOfOnePass-looked c.look.new.seat was.calls now c.count_look.ensures
    (IsPass-HasLoaded b v w c.known.ensures.seat c.known-2.ensures.seat (known_book d) c.look.ensures.board.book looked.loads was.totals now.totals was.sent
    c.pass.invariant.pass (HasCounted-HasLooked b v w was.totals now.totals c.look.result looked) (own_counted d))

-- the balances are those at the cut
pub returns-clause-seen : goal.returns-clause-seen
returns-clause-seen c =
    let d : After-book = (goal.at.returns-clause-seen c).After-book in
    let b : BookTerms = c.self.inside.board.book in
    let v : Knowledge = c.pass.inside.seat.knows in
    let w : Knowledge = c.look.new.seat.knows in
    let was = c.pass.inside.rest.totals in
    let now = c.look.new.totals in
    let looked = c.look.ensures.looked in
    let cut = c.look.result in
    let out = c.put_balances.new.out in
    let same : v ≡ c.args.pass.now.knows = ap (λ (t : PassTerms). t.knows) c.pass.view_is in
    let sized : length out ≡ length b.accounts = c.put_balances.ensures.sized ∙ ap (λ (t : BookTerms). length t.accounts) c.book.ensures in
    let each : (a : ℕ) → a < length b.accounts → get_or out a 0 ≡ balance_after b (prefix_of cut w.seen) a = λ a below.
    c.put_balances.ensures.each w.seen (counted d) (counted_cut d) a (omega (arith, below, ap (λ (t : BookTerms). length t.accounts) c.book.ensures))
    ∙ (ap (λ (t : BookTerms). balance_after t (prefix_of now.upto w.seen) a) c.book.ensures ∙ ap (λ u. balance_after b (prefix_of u w.seen) a) looked.upto) in
    record {
      cut = cut;
      snapshot = subst (λ (t : BoardTerms). IsSnapshot t.book c.args.pass.now.knows w cut) c.self.view_is
          (subst (λ (t : PassTerms). IsSnapshot b t.knows w cut) c.pass.view_is looked.snapshot);
      loads = subst (λ (t : BoardTerms). HasLoaded t.book c.args.pass.now.knows w) c.self.view_is
          (subst (λ (t : PassTerms). HasLoaded b t.knows w) c.pass.view_is looked.loads);
      balances_at = subst (λ (t : BoardTerms). AreBalancesAfter t.book (prefix_of cut w.seen) out) c.self.view_is
          (AreBalancesAfter-each b w.seen (place cut) out looked.loads.history (place-IsCut-le b.processes cut w.seen looked.snapshot.cut (ArePublishedBy-IsHistory b w.seen looked.loads.history)) sized each);
      stands = λ receipts stands.
          Told-HasLoaded_still b v w c.known.ensures.seat c.known-2.ensures.seat (known_book d) c.look.ensures.board.book looked.loads was now
          c.pass.inside.rest.sent c.pass.invariant.pass receipts
          (subst (λ (t : Knowledge). Told t.book t.first t.seen receipts) (sym same) stands);
      process_is = search rules;
      asked = search rules;
      sent = ap (λ p. owns_of p w.seen) (ap (λ (t : Knowledge). t.first) looked.loads.same)
          ∙ (owns_of-HasLoaded b v w c.known.ensures.seat c.known-2.ensures.seat (known_book d) c.look.ensures.board.book looked.loads was now
          c.pass.inside.rest.sent c.pass.invariant.pass
          ∙ ap (λ (t : Knowledge). owns_of t.first t.seen) same);
      counted = search rules;
    }
