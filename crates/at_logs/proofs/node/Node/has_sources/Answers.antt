use Rattle.std.proofs.Common.{◌≡◌, ℕ, List, length, get_or, refl, ap, subst, ◌∙◌, inl, inr, arith}
use Rattle.at_logs.proofs.Prelude.{cases_lt, get_or_read, EntryMessage, IsSource, entry_book, shown}
use Rattle.at_logs.proofs.node.Node.has_sources.Goals as goal

pub loop-message-preserved : goal.loop-message-preserved
loop-message-preserved c =
    let i : ℕ = c.loop-message.message-index in
    let xs : List EntryMessage = c.messages-message-items.result.now in
    let same : xs ≡ c.args.entry.now.messages = c.loop-message.invariant.same in
    record {
      same = same;
      sources = λ k d within.
          elim (cases_lt k i) as (λ _. IsSource (entry_book (shown c.args.self.now)) c.args.log c.args.entry.now.writer (get_or c.args.entry.now.messages k d).from) [
            | inl before ↦ c.loop-message.invariant.sources k d before
            | inr after ↦
                let last : i ≡ k = omega (arith, within, after) in
                let here : c.message-item.result ≡ get_or c.args.entry.now.messages k d =
                get_or_read xs i c.message-item.result c.loop-message-test.true c.message-item.is d ∙ (ap (λ (l : List EntryMessage). get_or l i d) same ∙ ap (λ j. get_or c.args.entry.now.messages j d) last) in
                subst (λ (m : EntryMessage). IsSource (entry_book (shown c.args.self.now)) c.args.log c.args.entry.now.writer m.from) here
                (subst (λ n. IsSource (entry_book (shown c.args.self.now)) c.args.log n c.message-item.result.from) c.writer.ensures (c.is_source.ensures.0 c.if-not-is_source.false))
          ];
    }

pub returns : goal.returns
returns c = (
  λ _ k d within. c.loop-message.invariant.sources k d (omega (arith, within, c.loop-message-test.false, ap (λ (l : List EntryMessage). length l) c.loop-message.invariant.same)),
  λ _. refl,
)
