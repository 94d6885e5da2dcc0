-- What the steps of a table ask of the rule.
use Rattle.std.proofs.Common.{◌∙◌, ◌≡◌, ℕ, sym, subst, ◌<◌, length, get_or, set, refl, ap, arith}
use Rattle.at_board.proofs.Prelude.{none, length-set, set-get_or, Allows, Me, keeps, step, BookTerms, IsKept, with_part, own_part, Ruled, LoadsLength, loaded_length, stored_word, MayStoreWord, with_word, IsAddress, length_of, index_of, record_word, Knowledge}
use Rattle.at_board.proofs.KnowledgeLaws.Kept.{IsKept-step}
use Rattle.at_board.proofs.StepLaws.LoadLength.{LoadsLength-Ruled}
use Rattle.at_board.proofs.StepLaws.StoreRecordWord.{StoresWord-Ruled}
use Rattle.at_board.proofs.WordLaws.Addresses.{index_of-injective}

module _ {S : Type 0} where
  -- a step that the rule allows, at the key and the index that the board has
  pub allowed_at : (key : BookTerms) (slots id : ℕ) (me : Me S Knowledge) (i j : ℕ) (next : ℕ → ℕ) (then : ℕ → ℕ → Me S Knowledge → Type 0)
      → key ≡ me.0.book → i ≡ j → Allows (λ s. Ruled me.0.book s.words s.views) slots id me j next (then j)
      → Allows (λ s. Ruled key s.words s.views) slots id me i next (then i)
  allowed_at key slots id me i j next then is at allowed =
      subst (λ k. Allows (λ s. Ruled k s.words s.views) slots id me i next (then i)) (sym is)
      (subst (λ k. Allows (λ s. Ruled me.0.book s.words s.views) slots id me k next (then k)) (sym at) allowed)

-- one process has the length of an index
same_length : (b : BookTerms) (p q : ℕ) → p < b.processes → q < b.processes → index_of b (length_of p) ≡ index_of b (length_of q) → p ≡ q
same_length b p q one other same =
    let e = index_of-injective b (length_of p) (length_of q) one other same in cc

-- the length of a process stands at its number
pub index_of-length_of : (b : BookTerms) (p : ℕ) → index_of b (length_of p) ≡ p
unfolding index_of
index_of-length_of b p = omega arith

module _ {S : Type 0} where
  loads_length : (slots id : ℕ) (me : Me S Knowledge) (p : ℕ) → IsKept me.0 → p < me.0.book.processes
      → let i = index_of me.0.book (length_of p) in
      Allows (λ s. Ruled me.0.book s.words s.views) slots id me i (λ n. n) (loaded_length (step slots i 0 0 none) me)
  loads_length slots id me p kept within s holds homes found fits =
      let b : BookTerms = me.0.book in
      let i = index_of b (length_of p) in
      let done = LoadsLength-Ruled b s.words s.views id me.0 p holds kept.book.begun found (omega (arith, kept.one_part)) within in
      let same : set s.words i (get_or s.words i 0) ≡ s.words = set-get_or s.words i 0 in (
        done.0,
        keeps,
        tt,
        subst (λ ws. Ruled b ws (set s.views id done.0)) (sym same) done.1,
        (
          refl,
          IsKept-step s.words s.views id me.0 done.0 found kept (ap (λ (t : Knowledge). t.book) done.2.same)
              (ap (λ (t : Knowledge). length t.parts) done.2.same ∙ length-set me.0.parts 0 _) done.2.history done.1,
          λ q known at.
              let is : p ≡ q = same_length b p q within known at in
              subst (λ t. LoadsLength b me.0 done.0 t (get_or s.words i 0)) is done.2,
        ),
      )

  stores_word : (slots id : ℕ) (me : Me S Knowledge) (j w : ℕ) → IsKept me.0 → MayStoreWord me.0.book me.0 j
      → let i = index_of me.0.book (record_word me.0.first (own_part me.0).published j) in
      Allows (λ s. Ruled me.0.book s.words s.views) slots id me i (λ _. w) (λ _. stored_word (step slots i w 0 none) me w)
  stores_word slots id me j w kept may s holds homes found fits =
      let v : Knowledge = me.0 in
      let b : BookTerms = v.book in
      let c = (own_part v).published in
      let i = index_of b (record_word v.first c j) in
      let after : Knowledge = with_part v (with_word (own_part v) j w) in
      let done = StoresWord-Ruled b s.words s.views id v j w holds found (omega (arith, kept.one_part)) may.room may.word in (
        after,
        keeps,
        tt,
        done,
        (
          refl,
          IsKept-step (set s.words i w) s.views id v after found kept refl (length-set v.parts 0 (with_word (own_part v) j w)) kept.history done,
          λ k inside room at.
              let here : IsAddress b (record_word v.first c j) = (kept.known, may.room, may.word) in
              let there : IsAddress b (record_word v.first c k) = (kept.known, may.room, inside) in
              let e = index_of-injective b (record_word v.first c j) (record_word v.first c k) here there at in
              let is : j ≡ k = cc in
              ap (λ t. with_part v (with_word (own_part v) t w)) is,
        ),
      )

  -- the same at an index and a key that are these
  pub loads_length_at : (key : BookTerms) (slots id : ℕ) (me : Me S Knowledge) (p : ℕ) → key ≡ me.0.book → IsKept me.0 → p < me.0.book.processes
      → Allows (λ s. Ruled key s.words s.views) slots id me p (λ n. n) (loaded_length (step slots p 0 0 none) me)
  loads_length_at key slots id me p is kept within =
      allowed_at key slots id me p (index_of me.0.book (length_of p)) (λ n. n) (λ k. loaded_length (step slots k 0 0 none) me) is
      (sym (index_of-length_of me.0.book p)) (loads_length slots id me p kept within)

  pub stores_word_at : (key : BookTerms) (slots id : ℕ) (me : Me S Knowledge) (j w i : ℕ) → key ≡ me.0.book
      → i ≡ index_of me.0.book (record_word me.0.first (own_part me.0).published j) → IsKept me.0 → MayStoreWord me.0.book me.0 j
      → Allows (λ s. Ruled key s.words s.views) slots id me i (λ _. w) (λ _. stored_word (step slots i w 0 none) me w)
  stores_word_at key slots id me j w i is at kept may =
      allowed_at key slots id me i (index_of me.0.book (record_word me.0.first (own_part me.0).published j)) (λ _. w) (λ k _. stored_word (step slots k w 0 none) me w)
      is at (stores_word slots id me j w kept may)
