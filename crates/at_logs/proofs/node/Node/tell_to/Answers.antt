use Rattle.std.proofs.Common.{◌≡◌, ℕ, ◌<◌, List, length, get_or, refl, ap, sym, subst, ◌∙◌, arith}
use Rattle.at_logs.proofs.Prelude.{same_number_lists, Covers, IsHistoryOf, IsNextWithin, LogTerms, NodeTerms, Reached, ReadingState, one_more_of, read_state, told, whole_node}
use Rattle.at_logs.proofs.HistoryLaws.{covered-le, le-one_more}
use Rattle.at_logs.proofs.TellingLaws.{length-told, reached-within}
use Rattle.at_logs.proofs.node.Node.tell_to.Goals as goal

pub loop-log-init : goal.loop-log-init
loop-log-init c =
    let view = c.self.view_is in
    record {
      book = refl;
      validated = refl;
      below = covered-le c.args.self.now.core.told c.args.told.now c.requires.below
          (ap (λ (n : NodeTerms). length n.core.told) (sym view) ∙ (c.known.ensures.told_counted ∙ (ap (λ (n : NodeTerms). n.core.book.logs) view ∙ sym c.requires.sized)));
      history = λ messages history. (history, refl);
    }

pub next_within-requires-clause-counted : goal.next_within-requires-clause-counted
next_within-requires-clause-counted c = c.told.ensures.counted ∙ ap (λ (n : NodeTerms). n.core.book.logs) c.self-in-loop-log.view_is

pub next_within-requires-clause-sized : goal.next_within-requires-clause-sized
next_within-requires-clause-sized c = c.requires.sized ∙ sym (ap (λ (b : LogTerms). b.logs) c.loop-log.invariant.book)

pub next_within-requires-clause-untold : goal.next_within-requires-clause-untold
next_within-requires-clause-untold c =
    let told_is : c.told.result ≡ c.loop-log.self.core.told = c.told.ensures.counts ∙ ap (λ (n : NodeTerms). n.core.told) c.self-in-loop-log.view_is in
    λ q _. omega (arith, ap (λ (l : List ℕ). get_or l q 0) told_is)

pub next_within-requires-clause-validated : goal.next_within-requires-clause-validated
next_within-requires-clause-validated c = subst (λ (l : List ℕ). Covers l c.args.told.now) (sym c.loop-log.invariant.validated) c.requires.validated

pub count_told-requires-clause-validated : goal.count_told-requires-clause-validated
count_told-requires-clause-validated c =
    let k : NodeTerms = c.loop-log.self in
    let p : ℕ = c.in-Some.log in
    let told_is : c.told.result ≡ k.core.told = c.told.ensures.counts ∙ ap (λ (n : NodeTerms). n.core.told) c.self-in-loop-log.view_is in
    let inside : p < length c.args.self.now.core.validated = omega (
      arith,
      c.in-Some.ensures.log,
      ap (λ (b : LogTerms). b.logs) c.loop-log.invariant.book,
      c.known.ensures.counted,
      ap (λ (n : NodeTerms). length n.core.validated) c.self.view_is,
      ap (λ (n : NodeTerms). n.core.book.logs) c.self.view_is,
    ) in
    omega (arith, c.in-Some.ensures.within, ap (λ (l : List ℕ). get_or l p 0) told_is, c.requires.validated p inside, ap (λ (l : List ℕ). get_or l p 0) c.loop-log.invariant.validated)

pub loop-log-preserved : goal.loop-log-preserved
loop-log-preserved c =
    let k : NodeTerms = c.loop-log.self in
    let p : ℕ = c.in-Some.log in
    let limit : List ℕ = c.args.told.now in
    let told_is : c.told.result ≡ k.core.told = c.told.ensures.counts ∙ ap (λ (n : NodeTerms). n.core.told) c.self-in-loop-log.view_is in
    rw c.count_told.ensures.told (record {
      book = c.loop-log.invariant.book;
      validated = c.loop-log.invariant.validated;
      below = le-one_more k.core.told limit p (subst (λ (l : List ℕ). get_or l p 0 < get_or limit p 0) told_is c.in-Some.ensures.within) c.loop-log.invariant.below;
      history = λ messages history.
          let was = c.loop-log.invariant.history messages history in
          let reached : ∥ Reached k.core.book messages c.told.result ∥₁ = subst (λ (l : List ℕ). ∥ Reached k.core.book messages l ∥₁) (sym told_is) was.0.reading.told in
          let next = subst (λ (l : List ℕ). IsNextWithin (whole_node k.core messages) l limit p) told_is (c.in-Some.ensures.some messages was.0 reached) in (
            subst (IsHistoryOf messages) c.count_told.ensures.told (c.count_told.ensures.history messages next.message was.0 next.next),
            ap (λ (x : ReadingState). record { book = x.book; hash = x.hash; node = x.node; tails = x.tails; told = one_more_of k.core.told p }) was.1,
          );
    })

pub loop-log-smaller : goal.loop-log-smaller
loop-log-smaller c = omega (arith, c.count_told.ensures.fewer)

pub returns : goal.returns
returns c = λ messages history reached.
    let s : ReadingState = read_state c.args.self.now messages in
    let k : NodeTerms = c.loop-log.self in
    let limit : List ℕ = c.args.told.now in
    let told_is : c.told.result ≡ k.core.told = c.told.ensures.counts ∙ ap (λ (n : NodeTerms). n.core.told) c.self-in-loop-log.view_is in
    let was = c.loop-log.invariant.history messages history in
    let is_reached = was.0.reading.told in
    let logs : k.core.book ≡ s.node.book = c.loop-log.invariant.book in
    let long : length k.core.told ≡ k.core.book.logs = length-told (whole_node k.core messages) k.core.told is_reached in
    let sized : length limit ≡ k.core.book.logs = c.requires.sized ∙ sym (ap (λ (b : LogTerms). b.logs) logs) in
    let none : (p : ℕ) → ¬ IsNextWithin (whole_node k.core messages) k.core.told limit p =
    subst (λ (l : List ℕ). (p : ℕ) → ¬ IsNextWithin (whole_node k.core messages) l limit p) told_is
    (c.in_default.ensures.none messages was.0 (subst (λ (l : List ℕ). ∥ Reached k.core.book messages l ∥₁) (sym told_is) is_reached)) in
    let comes = reached-within (whole_node k.core messages) k.core.told limit was.0.reading.node is_reached sized c.loop-log.invariant.below none in
    let covered : Covers k.core.told limit = comes.1 (subst (λ (b : LogTerms). ∥ Reached b messages limit ∥₁) (sym logs) reached) in
    let equal : k.core.told ≡ limit = same_number_lists k.core.told limit (long ∙ sym sized) (λ p within. omega (arith, covered p within, c.loop-log.invariant.below p)) in
    record {
      history = was.0;
      left = was.1 ∙ ap (λ (l : List ℕ). record { book = s.book; hash = s.hash; node = s.node; tails = s.tails; told = l }) equal;
      read = λ b hash logs before. told s (read_state k messages) before was.1 was.0.reading;
    }
