-- A load of a record's word keeps the rule.
use Rattle.std.proofs.Common.{◌≡◌, ℕ, get_or, set, refl, sym, ap, subst}
use Rattle.at_board.proofs.Prelude.{none, set-get_or, set_again, Allows, Me, keeps, step, BookTerms, IsRecordWord, Ruled, loaded_word, Knowledge}
use Rattle.at_board.proofs.StepLaws.Table.{allowed_at}
use Rattle.at_board.proofs.KnowledgeLaws.Records.{IsRecordWord-Shown}

module _ {S : Type 0} where
  -- a load changes nothing, and tells what the rule gives of the word that it found
  loads_word : (slots id : ℕ) (me : Me S Knowledge) (i : ℕ)
      → Allows (λ s. Ruled me.0.book s.words s.views) slots id me i (λ n. n) (loaded_word (step slots i 0 0 none) me)
  loads_word slots id me i s holds homes found fits =
      let same_words : set s.words i (get_or s.words i 0) ≡ s.words = set-get_or s.words i 0 in
      let same_views : set s.views id me.0 ≡ s.views = set_again s.views id me.0 found in (
        me.0,
        keeps,
        tt,
        subst (λ ws. Ruled me.0.book ws (set s.views id me.0)) (sym same_words) (subst (Ruled me.0.book s.words) (sym same_views) holds),
        (
          refl,
          λ p k j known inside seen at.
              subst (IsRecordWord me.0 p k j) (sym (ap (λ t. get_or s.words t 0) at))
              (IsRecordWord-Shown me.0.book s.words holds.state me.0 p k j holds.shown (holds.knows id me.0 found) known inside seen),
        ),
      )

  pub loads_word_at : (key : BookTerms) (slots id : ℕ) (me : Me S Knowledge) (i : ℕ) → key ≡ me.0.book
      → Allows (λ s. Ruled key s.words s.views) slots id me i (λ n. n) (loaded_word (step slots i 0 0 none) me)
  loads_word_at key slots id me i is =
      allowed_at key slots id me i i (λ n. n) (λ k. loaded_word (step slots k 0 0 none) me) is refl (loads_word slots id me i)
