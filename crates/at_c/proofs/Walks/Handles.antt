-- The machine values of a handle. Assumes `Logic`.
use Rattle.std.proofs.Common.{◌≡◌, ℕ, List, [], ◌∷◌, ◌++◌, refl, subst}
use Rattle.at_c.proofs.Prelude.{Ura, impl, tnil, dnil, ty_ptr, Val, vstruct, of_list, has_ty, WT, full_share, snd∗, via, guard_i, Fml, T, lit<, fact_use, Logic, sem, Item, Goal, Seq, Step, step, ‵, move, drop, fsplit, fjoin, fpick, fpack, feq_i, feq_l, use1, learn, given, RattleType, Valss, RawPtr, lone, Ptr, block_ptr, null_ptr, ptr_val, lies_at, Testable, nothing, layout, within, shape, Al, handle_tells, Good, Ptr-Good, dealloc_token-Testable, and_tt, Option, None, Some, ghosts, box_owns, owns_held}
use mir.Raw.{raw as bare}
use types.Kit.{◌$◌}
use Rattle.std.specs.contracts.alloc.Global as heap
use Rattle.std.proofs.alloc.Global.TheLaws as heap_laws
use Rattle.at_c.specs.contracts.handle.Handle as handle
use Rattle.at_c.specs.contracts.held.Held as held_type
use Rattle.at_c.proofs.Walks.Boxes.{both}

abbrev pub R : RattleType
R = held_type.the_row

abbrev pub Z : RattleType
Z = heap.the_row

abbrev pub LZ : denote.Param.Laws.Laws Z
LZ = heap_laws.the_row_laws

abbrev pub Held : RattleType
Held = handle.the_row

abbrev al : Al
al = record { row = Z; laws = LZ; g = ghosts; d = impl [] tnil dnil; drops = impl [] tnil dnil }

module _ {M : Type 1} {𝓤 : Ura M} {𝓛 : Logic 𝓤} {K : Type 0} {Γ : List (Item 𝓤)} {G : Goal 𝓤 𝓛.H} where
  pub handle_out : K → (d : Held.Denot) (vs : List Val)
      → ((h : Val) → vs ≡ both (ptr_val d.at) h ∷ [] → Good (layout Z) h → Seq K 𝓛 (‵ (owns_held R d.alloc d.at d.held) ∷ ‵ (Z.own_val d.alloc (h ∷ [])) ∷ Γ) G)
      → Seq K 𝓛 (‵ (Held.own_val d vs) ∷ Γ) G
  handle_out t d vs k =
      fsplit t $ fpick t (λ vss. fsplit t $ feq_l t (λ ev. fsplit t $ feq_l t (λ ep. fsplit t $ handle_tells al t d.alloc vss.1.0 (λ h ea fits. move t (1 ∷ []) $ drop t $ move t (1 ∷ []) $ k h
      (subst (λ (ws : List Val). vs ≡ vstruct (of_list (ptr_val d.at ∷ (ws ++ []))) ∷ []) ea (subst (λ (ps : List Val). vs ≡ vstruct (of_list (ps ++ (vss.1.0 ++ []))) ∷ []) ep ev)) fits))))

  pub handle_in : K → (p : Ptr) (h : Val) (a : Z.Denot) (x : Option R.Denot)
      → Step K 𝓛 (‵ (Held.own_val (record { at = p; alloc = a; held = x }) (both (ptr_val p) h ∷ [])) ∷ Γ) G (‵ (owns_held R a p x) ∷ ‵ (Z.own_val a (h ∷ [])) ∷ Γ) G
  handle_in t p h a x = step (λ s. let v : Val = both (ptr_val p) h in
      nothing t $ move t (2 ∷ 0 ∷ []) $ fjoin t $ feq_i t (List Val) (ptr_val p ∷ []) (ptr_val p ∷ []) refl $ fjoin t $ feq_i t (List Val) (v ∷ []) (v ∷ []) refl $ fjoin t $
      fpack t (Valss (RawPtr ∷ Z ∷ [])) (within (shape handle.the_type) (p, ((heap.the_field).into a, tt)) (v ∷ [])) (ptr_val p ∷ [], (h ∷ [], tt)) $ fjoin t $ s)

  pub heap_out : K → (a : Z.Denot) (vs : List Val) → ((h : Val) → vs ≡ h ∷ [] → Good (layout Z) h → Seq K 𝓛 (‵ (Z.own_val a (h ∷ [])) ∷ Γ) G) → Seq K 𝓛 (‵ (Z.own_val a vs) ∷ Γ) G
  heap_out t a vs k = handle_tells al t a vs k

  -- a pointer that isn't null has a box behind it
  pub either : K → (a : Z.Denot) (p : Ptr) (x : Option R.Denot)
      → (p ≡ null_ptr → x ≡ None → Seq K 𝓛 Γ G)
      → ((b o : ℕ) (y : R.Denot) → p ≡ block_ptr b o → x ≡ Some y → Testable (block_ptr b o) → Seq K 𝓛 (‵ (box_owns (ghosts.dealloc_token a) R (block_ptr b o) y) ∷ Γ) G)
      → Seq K 𝓛 (‵ (owns_held R a p x) ∷ Γ) G
  either t a null_ptr x none one = feq_l t (λ e. none refl e)
  either t a (block_ptr b o) x none one = fpick t (λ y. fsplit t $ feq_l t (λ e. let Owned : Fml = box_owns (ghosts.dealloc_token a) R (block_ptr b o) y in
      use1 𝓛 (given (Testable (block_ptr b o)) (‵ Owned)) (fact_use 𝓤 (Testable (block_ptr b o)) (via 𝓤 _ (snd∗ 𝓤 (sem 𝓛 (lies_at R full_share (block_ptr b o) y)) (sem 𝓛 (ghosts.dealloc_token a (bare (lone R.mir)) (block_ptr b o))))
      (dealloc_token-Testable 𝓛 a (bare (lone R.mir)) (block_ptr b o))) (guard_i 𝓤 (Testable (block_ptr b o)) (sem 𝓛 Owned))) $ learn t (λ test. one b o y refl e test)))

pub ptr_good : (p : Ptr) → T (has_ty ty_ptr (ptr_val p)) × WT (ptr_val p)
ptr_good = Ptr-Good

pub handle_good : (p : Ptr) (h : Val) → Good (layout Z) h → T (has_ty (layout Held) (both (ptr_val p) h)) × WT (both (ptr_val p) h)
handle_good (block_ptr b o) h fits = (and_tt (has_ty (layout Z) h) fits.0, (tt, (fits.1, tt)))
handle_good null_ptr h fits = (and_tt (has_ty (layout Z) h) fits.0, (record { fits = lit< tt }, (fits.1, tt)))
