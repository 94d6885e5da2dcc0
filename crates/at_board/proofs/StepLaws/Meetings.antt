-- What the rule says of two seats at once.
use Rattle.std.proofs.Common.{◌≡◌, ℕ, zero, suc, List, [], ◌∷◌, length, set, sym, refl, ap, arith}
use Rattle.at_board.proofs.Prelude.{Lft, Share, Fml, ftrue, fsep, fbor, fnamed, flft, SProp, ent, sep, wand, ex, guard, upd, all, all_e, ex_i, upd_i, three_quarters, Coded, RattleType, Ptr, block_ptr, nothing, get_elem?, Mem, not-mem-nil, some-injective, Ura, ‵, raw, given, !, qed, move, drop, split, join, fsplit, fsplit3, fjoin, fjoin3, fpick, fpack, pick, learn, show, check, frame, each, assume, suffices, settle, done, use1, use2, rewrite, Logic, sem, Shift, rests, opens, shuts, enters, leaves, word, along, back, found, if_none, asks, always, Moved, moves, apart, fact, seen, roster, TableId, age, standing, inner, common, mine, State, Me, AreSeen}
use mathlib.Core.Option as maybe
use types.Kit.{◌⊛◌, some, ◌$◌, ◌∵◌}

-- what is known is set to what it was
set_as_it_was : {V : Type 0} (views : List V) (id : ℕ) (v : V) → get_elem? views id ≡ maybe.some v → set views id v ≡ views
set_as_it_was [] id v at = refl
set_as_it_was (u ∷ views) zero v at = ap (λ x. x ∷ views) (sym (some-injective u v at))
set_as_it_was (u ∷ views) (suc id) v at = ap (λ l. u ∷ l) (set_as_it_was views id v at)

module _ {M : Type 1} {𝓤 : Ura M} (𝓛 : Logic 𝓤) (R : RattleType) {V : Type 0} (cv : Coded V) (holds : State R.Denot V → Type 0) (w p : Ptr) (z : TableId) where
  open 𝓛 use {A}

  abbrev Pr : Type 2
  Pr = SProp 𝓤

  abbrev ◌⊢◌ : Pr → Pr → Type 1
  P ⊢ Q = ent 𝓤 P Q

  abbrev ◌∗◌ : Pr → Pr → Pr
  P ∗ Q = sep 𝓤 P Q

  infix 26 ◌⊢◌
  infixr 35 ◌∗◌
  abbrev ◌-∗◌ : Pr → Pr → Pr
  P -∗ Q = wand 𝓤 P Q

  abbrev ⟦◌⟧ : Fml → Pr
  ⟦ P ⟧ = sem 𝓛 P

  infixr 30 ◌-∗◌
  abbrev κ : Lft
  κ = age z

  abbrev I : Fml
  I = inner R cv.code holds w p z

  abbrev half : ℕ → V → Fml
  half id v = seen cv.code z.views_name id three_quarters v

  abbrev Fits : State R.Denot V → Type 0
  Fits s = holds s × (length s.words ≡ z.words) × (length s.homes ≡ z.slots)

  module _ (id : ℕ) (me : Me R.Denot V) (other : ℕ) (it : Me R.Denot V) where
    abbrev Seen : Type 0
    Seen = AreSeen holds id me.0 other it.0

    abbrev pub both : Fml
    both = fsep (mine R cv.code z id me) (mine R cv.code z other it)

    abbrev pub told : Fml
    told = fsep (fact Seen) both

    -- the table, with two of its seats beside it
    sees : ⟦ I ⟧ ∗ ⟦ both ⟧ ⊢ upd 𝓤 (⟦ I ⟧ ∗ ⟦ told ⟧)
    sees = let γ : ℕ = z.views_name in let Z : Pr = ⟦ I ⟧ ∗ ⟦ told ⟧ in
        qed 𝓛 (‵ I ∷ ‵ both ∷ []) ∵ fpick ! (λ s. let vs : List V = s.views in
        fsplit3 ! $ move ! (2 ∷ []) $ fpick ! (λ so. drop ! $ move ! (1 ∷ []) $ fsplit ! $ move ! (3 ∷ []) $ fsplit ! $ fsplit ! $ move ! (2 ∷ []) $ fsplit ! $ move ! (2 ∷ 0 ∷ []) $
        use2 𝓛 (given (¬ (other ≡ id)) (‵ (half id me.0) ⊛ ‵ (half other it.0))) (apart 𝓛 cv γ id other me.0 it.0) $ learn ! (λ two. split ! $ move ! (5 ∷ 0 ∷ []) $
        use2 𝓛 (given (get_elem? vs id ≡ maybe.some me.0) (raw (all 𝓤 (Moved 𝓛 cv γ 0 vs id id)))) (moves 𝓛 cv γ vs 0 id id me.0 (omega arith)) $ learn ! (λ at.
        use1 𝓛 (raw (Moved 𝓛 cv γ 0 vs id id me.0)) (all_e 𝓤 (Moved 𝓛 cv γ 0 vs id id) me.0) $ settle 𝓛 Z (‵ (roster cv.code γ 0 (set vs id me.0)) ⊛ ‵ (half id me.0)) $ split ! $
        rewrite ! 0 (λ (us : List V). ‵ (roster cv.code γ 0 us)) (set_as_it_was vs id me.0 at) refl $ move ! (0 ∷ 2 ∷ []) $
        use2 𝓛 (given (get_elem? vs other ≡ maybe.some it.0) (raw (all 𝓤 (Moved 𝓛 cv γ 0 vs other other)))) (moves 𝓛 cv γ vs 0 other other it.0 (omega arith)) $ learn ! (λ at'.
        use1 𝓛 (raw (Moved 𝓛 cv γ 0 vs other other it.0)) (all_e 𝓤 (Moved 𝓛 cv γ 0 vs other other) it.0) $ settle 𝓛 Z (‵ (roster cv.code γ 0 (set vs other it.0)) ⊛ ‵ (half other it.0)) $ split ! $
        rewrite ! 0 (λ (us : List V). ‵ (roster cv.code γ 0 us)) (set_as_it_was vs other it.0 at') refl $ suffices ! _ (upd_i 𝓤 Z) $
        move ! (2 ∷ 4 ∷ []) $ fjoin ! $ move ! (2 ∷ 3 ∷ []) $ fjoin ! $ move ! (1 ∷ 0 ∷ []) $ fjoin ! $
        nothing ! $ fpack ! Seen (λ _. ftrue) (s, so.0, two, at, at') $ fjoin ! $ move ! (2 ∷ 1 ∷ []) $ fjoin ! $
        nothing ! $ fpack ! (Fits s) (λ _. ftrue) so $ move ! (3 ∷ 1 ∷ 0 ∷ []) $ fjoin3 ! $ fpack ! (State R.Denot V) (standing R cv.code holds w p z) s $ done !)))))

    module _ (q : Share) (b o n : ℕ) where
      abbrev pub after : ℕ → Fml
      after m = fsep (word b o m) (fsep (flft κ q) told)

      pub meets : ⟦ common R cv.code holds w p z ⟧ ∗ A.lft κ q ∗ ⟦ word b o n ⟧ ∗ ⟦ both ⟧ ⊢ asks 𝓛 (block_ptr b o) (λ m. m) always after
      meets = let P : Fml = fbor κ I in let O : Pr = A.obor κ q I in let K : List (ℕ × Fml) → Pr = λ l. ex 𝓤 (found 𝓛 l b o (λ m. m) always after) in
          qed 𝓛 (‵ (common R cv.code holds w p z) ∷ ‵ (flft κ q) ∷ ‵ (word b o n) ∷ ‵ both ∷ []) ∵ fsplit ! $ drop ! $
          use1 𝓛 (some (λ (j : ℕ). ‵ (fnamed j P))) (𝓛.invs.inv_named P) $ pick ! (λ j. let L : List (ℕ × Fml) = (j, P) ∷ [] in
          let Shut : Pr = (O ∗ ⟦ I ⟧) ∗ ((A.bor κ I ∗ A.lft κ q) -∗ along 𝓛 (leaves rests) K L) in
          let Opened : Pr = (A.bor κ I ∗ A.lft κ q) ∗ ((O ∗ ⟦ I ⟧) -∗ upd 𝓤 Shut) in
          suffices ! _ (ex_i 𝓤 (λ (s : Shift). along 𝓛 s K []) (enters j P (opens κ q I (shuts κ q I (leaves rests))))) $
          suffices ! _ (upd_i 𝓤 (guard 𝓤 (¬ Mem j []) (A.named j P ∗ (⟦ P ⟧ -∗ upd 𝓤 Opened)))) $ check ! (λ m. not-mem-nil m) $ frame ! $ assume ! (‵ P) $
          suffices ! _ (upd_i 𝓤 Opened) $ join ! $ frame ! $ assume ! (raw O ⊛ ‵ I) $ split ! $ move ! (1 ∷ 3 ∷ []) $
          use2 𝓛 (raw (upd 𝓤 (⟦ I ⟧ ∗ ⟦ told ⟧))) sees $ settle 𝓛 Shut (‵ I ⊛ ‵ told) $ suffices ! _ (upd_i 𝓤 Shut) $ split ! $ move ! (2 ∷ 0 ∷ []) $ join ! $ frame ! $
          assume ! (‵ P ⊛ ‵ (flft κ q)) $ split ! $ suffices ! _ (upd_i 𝓤 (⟦ P ⟧ ∗ upd 𝓤 (K []))) $ frame ! $ suffices ! _ (upd_i 𝓤 (K [])) $
          show ! (found 𝓛 [] b o (λ m. m) always after) n $ move ! (2 ∷ []) $ frame ! $ each ! (λ (_ : always n). back 𝓛 [] b o (λ m. m) after n) (λ _.
          assume ! (‵ (word b o n)) $ suffices ! _ (ex_i 𝓤 (λ (s : Shift). along 𝓛 s (if_none 𝓛 ⟦ after n ⟧) []) rests) $ suffices ! _ (upd_i 𝓤 ⟦ after n ⟧) $ fjoin3 ! $ done !))
