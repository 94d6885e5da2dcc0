use Rattle.std.proofs.Common.{◌≡◌, ℕ, ◌+◌, ◌<◌, ◌≤◌, List, length, get_or, set, ap, sym, subst, ◌∙◌, arith, length-set}
use Rattle.std.proofs.lemmas.Bool.{false≢true}
use Rattle.at_logs.proofs.Prelude.{left, left-one_more_of, one_more_of-ge, ∥∥₁_map, raise, Covers, NodeTerms, Reached, ReadingState, one_more_of, read_state}
use Rattle.at_logs.proofs.HistoryLaws.{covered-le, le-one_more, validated-le}
use Rattle.at_logs.proofs.TellingLaws.{reached-within, told-le}
use Rattle.at_logs.proofs.node.Node.reaches.Goals.{then-not-covers-via-then-not-covers, then-not-covers-via-else-not-covers+then-not-has_validated}
use Rattle.at_logs.proofs.node.Node.reaches.Goals as goal

pub loop-log-init : goal.loop-log-init
loop-log-init c =
    let same : c.told-counts.result ≡ c.args.self.now.core.told = c.told-counts.ensures.counts ∙ ap (λ (n : NodeTerms). n.core.told) c.self.view_is in
    let sized : length c.told-counts.result ≡ c.args.self.now.core.book.logs = c.told-counts.ensures.counted ∙ ap (λ (n : NodeTerms). n.core.book.logs) c.self.view_is in
    record {
      sized = sized;
      below = covered-le c.told-counts.result c.args.told.now (c.covers.ensures.0 c.if-not-covers.false) (sized ∙ sym c.requires);
      untold = λ p _. omega (arith, ap (λ (l : List ℕ). get_or l p 0) same);
      reached = λ messages history. subst (λ (l : List ℕ). ∥ Reached c.args.self.now.core.book messages l ∥₁) (sym same) history.reading.told;
    }

-- one message more
raised : (counts after : List ℕ) (p count : ℕ) → count ≡ get_or counts p 0 → after ≡ set counts p (count + 1) → after ≡ one_more_of counts p
raised counts after p count same is = is ∙ ap (λ n. set counts p (n + 1)) same

pub loop-log-preserved : goal.loop-log-preserved
loop-log-preserved c =
    let counts : List ℕ = c.loop-log.counts in
    let p : ℕ = c.in-Some.log in
    let same = raised counts c.set.new.self p c.get.result c.get.ensures c.set.ensures in
    record {
      sized = ap (λ (l : List ℕ). length l) same ∙ (length-set counts p (get_or counts p 0 + 1) ∙ c.loop-log.invariant.sized);
      below = subst (λ (l : List ℕ). (q : ℕ) → get_or l q 0 ≤ get_or c.args.told.now q 0) (sym same) (le-one_more counts c.args.told.now p c.in-Some.ensures.within c.loop-log.invariant.below);
      untold = λ q within. omega (
        arith,
        ap (λ (l : List ℕ). get_or l q 0) same,
        one_more_of-ge counts p q,
        c.loop-log.invariant.untold q (omega (arith, within, ap (λ (l : List ℕ). length l) same, length-set counts p (get_or counts p 0 + 1))),
      );
      reached = λ messages history.
          let before = c.loop-log.invariant.reached messages history in
          let next = c.in-Some.ensures.some messages history before in
          subst (λ (l : List ℕ). ∥ Reached c.args.self.now.core.book messages l ∥₁) (sym same) (∥∥₁_map before (λ r. raise counts p next.message r next.next));
    }

pub loop-log-smaller : goal.loop-log-smaller
loop-log-smaller c =
    let counts : List ℕ = c.loop-log.counts in
    let p : ℕ = c.in-Some.log in
    let same = raised counts c.set.new.self p c.get.result c.get.ensures c.set.ensures in
    let logs = ap (λ (n : NodeTerms). n.core.book.logs) c.self.view_is in
    let inside : p < c.self.inside.core.book.logs = omega (arith, c.in-Some.ensures.log, logs) in
    omega (
      arith,
      ap left same,
      left-one_more_of counts p (omega (arith, c.in-Some.ensures.log, c.loop-log.invariant.sized))
          (omega (
            arith,
            c.in-Some.ensures.within,
            c.has_validated.ensures.0 c.if-not-has_validated.false p (omega (arith, inside, c.known.ensures.counted)),
            validated-le c.self.inside.core p c.known.ensures inside,
          )),
    )

pub returns-then-not-covers-clause-exact : goal.returns-then-not-covers-clause-exact
returns-then-not-covers-clause-exact c = λ messages history. (
  λ t. absurd (false≢true t),
  λ can.
      let s : ReadingState = read_state c.args.self.now messages in
      let told_is : c.told-counts.result ≡ s.told = c.told-counts.ensures.counts ∙ ap (λ (n : NodeTerms). n.core.told) c.self.view_is in
      absurd (elim c.then-not-covers.branch [
        | then-not-covers-via-then-not-covers w ↦ false≢true (sym w.if-not-covers.true ∙ c.covers.ensures.1 (subst (Covers c.args.told.now) (sym told_is) can.below))
        | then-not-covers-via-else-not-covers+then-not-has_validated w ↦
            false≢true (sym w.if-not-has_validated.true ∙ w.has_validated.ensures.1 (λ p _.
            omega (arith, told-le s.node c.args.told.now history.reading.node can.reached p, ap (λ (n : NodeTerms). get_or n.core.validated p 0) c.self.view_is)))
      ]),
)

pub returns-clause-exact : goal.returns-clause-exact
returns-clause-exact c = λ messages history.
    let s : ReadingState = read_state c.args.self.now messages in
    let reached = c.loop-log.invariant.reached messages history in
    let same = reached-within s.node c.loop-log.counts c.args.told.now history.reading.node reached c.requires c.loop-log.invariant.below (c.in_default.ensures.none messages history reached) in
    let told_is : c.told-counts.result ≡ s.told = c.told-counts.ensures.counts ∙ ap (λ (n : NodeTerms). n.core.told) c.self.view_is in (
      λ t. record { below = subst (Covers c.args.told.now) told_is (c.covers.ensures.0 c.if-not-covers.false); reached = same.0 (c.covers-2.ensures.0 t) },
      λ can. c.covers-2.ensures.1 (same.1 can.reached),
    )
