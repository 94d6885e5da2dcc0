-- `closed` makes a handle of the null pointer.
use Rattle.at_c.proofs.Walks.Steps.{[], ◌∷◌, ◌++◌, List, refl, sym, subst, Val, SProp, ent, emp, id⊢, ftrue, WpFn, ‵, raw, ◌⊛◌, ◌$◌, ◌∵◌, !, qed, by, move, keep, split, fsplit, fjoin, suffices, use0, lit, no_more, and_then, returns, enter, alloc_all, pass_all, free_all, look_at, get, sets, agg, fact, fact_i, tables, yes, owns, types_at, plain, null_ptr, ptr_val, nothing, Stays, stay_dropped, walk_of, Goes-dropped, None, proved_at, leaves, ◌≡◌}
use Rattle.at_c.proofs.Walks.Boxes.{both}
use Rattle.at_c.proofs.Walks.Handles.{R, Z, handle_in, heap_out, handle_good}
use Rattle.at_c.proofs.Prelude.{ended, clauses, Option, feq_i}
use Rattle.at_c.specs.contracts.handle.Handle.closed.Key.{name as #self}
use Rattle.at_c.proofs.handle.Handle.closed.Statement.{statement}
use Rattle.at_c.proofs.handle.Handle.closed.Code as code

pub closed_spec : {M : Type 1} → statement M
closed_spec 𝓤 𝓛 𝓜 𝓡 wired =
    let H = 𝓛.H in let 𝓣 = tables 𝓤 H 𝓜 𝓡 𝓡.env in let c = clauses 𝓛 𝓜.mem 𝓡.returns in let fn = code.function in
    let hs : Stays (ended).signature.params (ended).kept = (stay_dropped (plain (λ _. Z)) yes, tt) in
    proved_at 𝓛 ended hs c 𝓜 𝓡 (Goes-dropped 𝓛 0 (plain (λ _. Z)) yes (λ κs x f. refl), tt) #self fn (code.unfolded 𝓤 H 𝓜 𝓡 wired) (λ z are.
    let κs = z.0.0 in let a = z.0.3.0 in let Post : Val → SProp 𝓤 = (walk_of 𝓛 ended hs c).post z in let Run : List Val → SProp 𝓤 = λ ws. WpFn 𝓤 H 𝓣.C 𝓣.Λ fn ws Post in let nil : Option R.Denot = None in
    qed 𝓛 ((‵ ftrue ⊛ ‵ (owns (types_at (ended).signature.params κs) z.0.3 z.0.4)) ∷ raw ((c κs z.0.3).requires z.1) ∷ []) ∵ split ! $ move ! (1 ∷ []) $ fsplit ! $ heap_out ! a z.0.4.0 (λ h ws fits.
    let w : Val = both (ptr_val null_ptr) h in
    suffices ! (Run (h ∷ [])) (subst (λ (us : List Val). ent 𝓤 (Run (h ∷ [])) (Run us)) (sym (λ i. ws i ++ [])) (id⊢ 𝓤 (Run (h ∷ [])))) $
    enter ! 𝓣.C 𝓣.Λ fn (h ∷ []) Post $ alloc_all ! (λ l. pass_all ! refl (fits, tt) $
    sets ! (agg ! (and_then ! (lit ! tt) (and_then ! (get ! refl) (no_more !)))) refl (handle_good null_ptr h fits) $
    feq_i ! (Option R.Denot) nil nil refl $ handle_in ! null_ptr h a nil $
    use0 𝓛 (raw (fact 𝓤 (nil ≡ nil))) (fact_i 𝓤 (nil ≡ nil) (emp 𝓤) refl) $ nothing ! $ nothing ! $ fjoin ! $ nothing ! $
    returns ! (look_at ! 0 refl) $ free_all ! refl $ keep ! (0 ∷ 1 ∷ 3 ∷ 2 ∷ []) $ by ! (leaves 𝓛 ended hs c z w (record { at = null_ptr; alloc = a; held = nil }) (tt, tt) (tt, tt)))))
