-- `into_loose` reads the pointer, and has the box back where it isn't null.
use Rattle.at_c.proofs.Walks.Steps.{[], ◌∷◌, ◌++◌, List, refl, sym, subst, lit<, Val, vptr, vcons, vnil, SProp, ent, emp, id⊢, ftrue, WpFn, ‵, raw, ◌⊛◌, at_ret, ◌$◌, ◌∵◌, !, qed, by, move, keep, split, fsplit, fjoin, suffices, use0, use1, stop, fld, of_opd, lit, bin, no_more, and_then, first, branches, exec, returns, enter, alloc_all, pass_all, free_all, look_at, get, get_in, sets, sets_last, env, agg, sub, whole, live, fact, fact_i, tables, yes, RattleType, owns, types_at, type_at, plain, Ptr, null_ptr, block_ptr, ptr_val, tests_null, nothing, layout, Stays, stay_dropped, walk_of, Goes-dropped, None, Some, after, Good, Some-of, none_of, ghosts, and_tt, proved_at, leaves, ◌≡◌}
use Rattle.at_c.proofs.Walks.Boxes.{both, Loose, loose_good, loose_in}
use Rattle.at_c.proofs.Walks.Handles.{R, Z, LZ, Held, handle_out, handle_good, ptr_good, either}
use Rattle.at_c.specs.contracts.handle.Handle.into_loose.{ended, clauses}
use Rattle.at_c.specs.contracts.handle.Handle.into_loose.Key.{name as #self}
use Rattle.at_c.proofs.handle.Handle.into_loose.Statement.{statement}
use Rattle.at_c.proofs.handle.Handle.into_loose.Code as code
use Rattle.at_c.proofs.Prelude.{Option}

pub into_loose_spec : {M : Type 1} → statement M
into_loose_spec 𝓤 𝓛 𝓜 𝓡 wired =
    let H = 𝓛.H in let 𝓣 = tables 𝓤 H 𝓜 𝓡 𝓡.env in let c = clauses 𝓛 𝓜.mem 𝓡.returns in let fn = code.function in let Lr : RattleType = Loose R Z LZ ghosts in
    let hs : Stays (ended).signature.params (ended).kept = (stay_dropped (plain (λ _. Held)) yes, tt) in
    proved_at 𝓛 ended hs c 𝓜 𝓡 (Goes-dropped 𝓛 0 (plain (λ _. Held)) yes (λ κs x f. refl), tt) #self fn (code.unfolded 𝓤 H 𝓜 𝓡 wired) (λ z are.
    let κs = z.0.0 in let v = z.0.3.0 in let a = v.alloc in let Post : Val → SProp 𝓤 = (walk_of 𝓛 ended hs c).post z in let Run : List Val → SProp 𝓤 = λ ws. WpFn 𝓤 H 𝓣.C 𝓣.Λ fn ws Post in let Out : RattleType = type_at (ended).signature.result κs in
    qed 𝓛 ((‵ ftrue ⊛ ‵ (owns (types_at (ended).signature.params κs) z.0.3 z.0.4)) ∷ raw ((c κs z.0.3).requires z.1) ∷ []) ∵ split ! $ move ! (1 ∷ []) $ fsplit ! $ handle_out ! v z.0.4.0 (λ h ws fits.
    let w : Val = both (ptr_val v.at) h in let Goal : Option R.Denot → Option R.Denot → SProp 𝓤 = λ x y. fact 𝓤 (x ≡ y) in
    suffices ! (Run (w ∷ [])) (subst (λ (us : List Val). ent 𝓤 (Run (w ∷ [])) (Run us)) (sym (λ i. ws i ++ [])) (id⊢ 𝓤 (Run (w ∷ [])))) $
    either ! a v.at v.held
    (λ at_is held_is. let w₀ : Val = both (ptr_val null_ptr) h in
    suffices ! (Run (w₀ ∷ [])) (subst (λ (p : Ptr). ent 𝓤 (Run (w₀ ∷ [])) (Run (both (ptr_val p) h ∷ []))) (sym at_is) (id⊢ 𝓤 (Run (w₀ ∷ [])))) $
    enter ! 𝓣.C 𝓣.Λ fn (w₀ ∷ []) Post $ alloc_all ! (λ l. pass_all ! refl (handle_good null_ptr h fits, tt) $ let Ev = env fn.locals l in
    sets ! (of_opd ! (get_in ! (fld ! refl (stop !)) (sub ! 0 refl (whole !)))) refl (ptr_good null_ptr) $ sets ! (of_opd ! (get_in ! (fld ! refl (stop !)) (sub ! 1 refl (whole !)))) refl fits $
    sets ! (bin ! (get ! refl) (lit ! tt) tt) refl (tt, tt) $ first ! $ branches ! (get ! refl)
    (λ _. sets_last ! (agg ! (and_then ! (lit ! tt) (no_more !))) refl (tt, (record { fits = lit< tt }, tt)) $ exec ! 𝓣.C 𝓣.Λ Ev (after 4 fn.body) (at_ret Ev Post) $ sets ! (of_opd ! (get ! refl)) refl (tt, (record { fits = lit< tt }, tt)) $
    use0 𝓛 (‵ (Out.own_val None (live 0 vnil ∷ []))) (none_of 𝓛 Lr) $ use0 𝓛 (raw (Goal None v.held)) (fact_i 𝓤 (None ≡ v.held) (emp 𝓤) (sym held_is)) $ nothing ! $ nothing ! $ fjoin ! $ nothing ! $
    returns ! (look_at ! 0 refl) $ free_all ! refl $ keep ! (0 ∷ 1 ∷ 3 ∷ 2 ∷ []) $ by ! (leaves 𝓛 ended hs c z (live 0 vnil) None (tt, tt) (tt, tt))) (λ wrong. absurd wrong)))
    (λ b o x at_is held_is t. let w₁ : Val = both (vptr b o) h in let typed = loose_good R Z LZ ghosts b o h fits in let v₁ : Val = live 1 (vcons w₁ vnil) in let d : Lr.Denot = record { at = block_ptr b o; alloc = a; value = x } in
    let good : Good (layout Out) v₁ = (and_tt _ typed.0, (record { fits = lit< tt }, (typed.1, tt))) in
    suffices ! (Run (w₁ ∷ [])) (subst (λ (p : Ptr). ent 𝓤 (Run (w₁ ∷ [])) (Run (both (ptr_val p) h ∷ []))) (sym at_is) (id⊢ 𝓤 (Run (w₁ ∷ [])))) $
    enter ! 𝓣.C 𝓣.Λ fn (w₁ ∷ []) Post $ alloc_all ! (λ l. pass_all ! refl (typed, tt) $ let Ev = env fn.locals l in
    sets ! (of_opd ! (get_in ! (fld ! refl (stop !)) (sub ! 0 refl (whole !)))) refl (tt, tt) $ sets ! (of_opd ! (get_in ! (fld ! refl (stop !)) (sub ! 1 refl (whole !)))) refl fits $
    sets ! (bin ! (get ! refl) (lit ! tt) (tests_null (block_ptr b o) t)) refl (tt, tt) $ first ! $ branches ! (get ! refl) (λ wrong. absurd wrong) (λ _.
    sets ! (of_opd ! (get ! refl)) refl (tt, tt) $ sets ! (agg ! (and_then ! (get ! refl) (and_then ! (get ! refl) (no_more !)))) refl typed $ sets_last ! (agg ! (and_then ! (lit ! tt) (and_then ! (get ! refl) (no_more !)))) refl good $
    exec ! 𝓣.C 𝓣.Λ Ev (after 4 fn.body) (at_ret Ev Post) $ sets ! (of_opd ! (get ! refl)) refl good $ loose_in R Z LZ ghosts ! b o h a x $
    use1 𝓛 (‵ (Out.own_val (Some d) (v₁ ∷ []))) (Some-of 𝓛 Lr d w₁) $ use0 𝓛 (raw (Goal (Some x) v.held)) (fact_i 𝓤 (Some x ≡ v.held) (emp 𝓤) (sym held_is)) $ nothing ! $ nothing ! $ fjoin ! $ nothing ! $
    returns ! (look_at ! 0 refl) $ free_all ! refl $ keep ! (0 ∷ 1 ∷ 3 ∷ 2 ∷ []) $ by ! (leaves 𝓛 ended hs c z v₁ (Some d) (tt, tt) (tt, tt)))))))
