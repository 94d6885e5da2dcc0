-- `meet` loads a word of its own. At that step the table's rule is seen, and nothing of the table changes.
use Rattle.at_board.proofs.Prelude.{ℕ, List, [], sym, refl, lit<, a_type, dcons, dnil, Val, vunit, vptr, inst_fn, emp, mean, at_ret, by, keep, split3, use0, use3, feq_i, stop, lit, unit_lit, of_opd, no_more, and_then, first, blocks, exec, Calls-last, returns, enter, alloc_all, pass_all, free_all, look_at, get, sets, lands_last, env, agg, tables, yes, owns, types_at, plain, param, bounded, Stays, stay_dropped, walk_of, Goes-dropped, fact_i, via, RefOf, mut_vals, mut_Tells, shr_vals, shr_Tells, closes, stay_ref, Goes-ref, unhide, hidden_shr, lent_out, Tuple, shr_bor-open, obor_close, tokens_halve, addr, fpick, from, take_at, give_at, fm, seq_cst, finds, loads, proved, HandData, TableId, age, mine, Me, AreSeen, ended, clauses}
use Rattle.atomic_table.proofs.Names.{◌≡◌, ◌∷◌, named, SProp, Lft, Fml, ftrue, fsep, flft, ‵, raw, ◌⊛◌, given, ◌$◌, ◌∵◌, !, qed, move, drop, split, join, fsplit, fsplit3, fjoin, fjoin3, learn, use1, rewrite, RattleType, Ptr, block_ptr, nothing, fact, Coded, opens}
use Rattle.std.proofs.VecSteps.Shapes.{after as rest_after}
use Rattle.std.proofs.raw_atomic.Calls.{found}
use Rattle.std.proofs.raw_atomic.Walks.{leaves}
use Rattle.std.specs.contracts.marker.PhantomData as marker
use Rattle.atomic_table.specs.contracts.shared.Seat as seat
use Rattle.atomic_table.specs.contracts.shared.Shared as table
use Rattle.at_board.proofs.StepLaws.Meetings.{after, meets}
use Rattle.at_board.specs.contracts.meet.meet.Key.{name as #self}
use Rattle.at_board.proofs.meet.meet.Statement.{statement}
use Rattle.at_board.proofs.meet.meet.Code as code

pub meet_spec : {M : Type 1} → statement M
unfolding Rattle.atomic_table.specs.Seated.seal
meet_spec 𝓤 𝓛 𝓜 𝓡 wired S V K P _ _ _ _ g d _ =
    let H = 𝓛.H in let 𝓣 = tables 𝓤 H 𝓜 𝓡 𝓡.env in
    let R : RattleType = param 0 S in let W : RattleType = param 1 V in let X : RattleType = param 2 K in let Y : RattleType = param 3 P in
    let En = ended S V K P g d in let c = clauses S V K P g d 𝓛 𝓜.mem 𝓡.returns in
    let inst = bounded (a_type ∷ a_type ∷ a_type ∷ a_type ∷ []) (S, (V, (K, (P, tt)))) (dcons d dnil) in let fn = inst_fn inst code.function in
    let Row : RattleType = table.the_row R W X Y g in let Sr : RattleType = seat.the_row R W in
    let shared = RefOf (0 ∷ []) tt (plain (λ _. Row)) (λ _. tt) in let sitter = plain (λ _. Sr) in
    let hs : Stays En.signature.params En.kept = (stay_dropped shared yes, (stay_ref (1 ∷ []) tt sitter, (stay_ref (2 ∷ []) tt sitter, tt))) in
    proved 𝓛 En hs c 𝓜 𝓡 (Goes-dropped 𝓛 7 shared yes (λ κs x f. refl), (Goes-ref 𝓛 7 1 tt sitter, (Goes-ref 𝓛 7 2 tt sitter, tt)))
    (#self inst) fn (code.unfolded 𝓤 H 𝓜 𝓡 wired (S, (V, (K, (P, tt)))) d) (λ κs. (shr_vals, (mut_vals, (mut_vals, tt))))
    (λ κs. (shr_Tells (named 0) κs.0 Row, (mut_Tells (named 1) κs.1.0 Sr, (mut_Tells (named 2) κs.1.1.0 Sr, tt)))) (λ κs qs bounds a gh are.
    -- the table, the one seat and the other, with where their references point
    let t : Row.Denot = a.0.now in let z : TableId = t.table_id in let α : Lft = age z in let cv : Coded V.Denot = W.coded in
    let w : Ptr = t.words in let p : Ptr = t.slots in let holds = g.holds t.key in let κ : Lft = κs.0 in let b : ℕ = a.0.ref_ptr.0 in let o : ℕ = a.0.ref_ptr.1 in
    let h : Sr.Denot = a.1.0.now in let v : Me S.Denot V.Denot = h.me in let b₁ : ℕ = a.1.0.ref_ptr.0 in let o₁ : ℕ = a.1.0.ref_ptr.1 in
    let k : Sr.Denot = a.1.1.0.now in let u : Me S.Denot V.Denot = k.me in let b₂ : ℕ = a.1.1.0.ref_ptr.0 in let o₂ : ℕ = a.1.1.0.ref_ptr.1 in
    let y : (walk_of 𝓛 En hs c).Ghost = ((κs, qs, bounds, a, (vptr b o ∷ [], (vptr b₁ o₁ ∷ [], (vptr b₂ o₂ ∷ [], tt)))), gh) in
    let Post : Val → SProp 𝓤 = (walk_of 𝓛 En hs c).post y in
    let others : Fml = fsep (flft κs.1.1.1.0 qs.1.1.1.0) (fsep (flft κs.1.1.1.1.0 qs.1.1.1.1.0) (fsep (flft κs.1.1.1.1.1.0 qs.1.1.1.1.1.0) (fsep (flft κs.1.1.1.1.1.1.0 qs.1.1.1.1.1.1.0) ftrue))) in
    qed 𝓛 (((‵ (flft κs.0 qs.0) ⊛ ‵ (flft κs.1.0 qs.1.0) ⊛ ‵ (flft κs.1.1.0 qs.1.1.0) ⊛ ‵ others) ⊛ ‵ (owns (types_at En.signature.params κs) a y.0.4))
    ∷ raw (fact 𝓤 _) ∷ raw (fact 𝓤 _) ∷ raw (fact 𝓤 _) ∷ raw (fact 𝓤 _) ∷ given (h.table_id ≡ z) (‵ ftrue) ∷ given (k.table_id ≡ z) (‵ ftrue) ∷ []) ∵
    keep ! (5 ∷ 6 ∷ 0 ∷ []) $ learn ! (λ first_is. drop ! $ learn ! (λ second_is. drop ! $ split ! $ split3 ! $ move ! (2 ∷ []) $ split ! $
    move ! (4 ∷ []) $ fsplit3 ! $ fsplit ! $ move ! (2 ∷ []) $ fsplit3 ! $ move ! (5 ∷ []) $ fsplit ! $ fsplit3 ! $
    keep ! (8 ∷ 11 ∷ 5 ∷ 6 ∷ 12 ∷ 10 ∷ 1 ∷ 2 ∷ 9 ∷ []) $ nothing ! $ drop ! $
    enter ! 𝓣.C 𝓣.Λ fn (vptr b o ∷ vptr b₁ o₁ ∷ vptr b₂ o₂ ∷ []) Post $ alloc_all ! (λ l. pass_all ! refl ((tt, tt), ((tt, tt), ((tt, tt), tt))) $
    -- [the table and its token; the one seat, in three entries; the other tokens; the other seat; the locals]
    let Ev = env fn.locals l in
    use1 𝓛 (‵ (hidden_shr (HandData R W X Y g) κ (w, (p, (tt, tt))) b o) ⊛ ‵ (base.Fml.fhide (table.the_lent R W X Y g t (block_ptr b o) κ)))
    (lent_out 𝓛 (table.struct R W X Y g) (table.the_codes S.Denot V.Denot K.Denot P.Denot R.coded W.coded X.coded Y.coded (marker.the_row (Tuple (Y ∷ W ∷ X ∷ []))).coded)
    (table.the_heap R W X Y g) (table.the_lent R W X Y g) κ t b o) $
    split ! $ move ! (1 ∷ []) $ unhide ! $ fsplit ! $ move ! (0 ∷ 3 ∷ []) $ shr_bor-open ! tt (tokens_halve 𝓛 α) (λ s.
    let out : ℕ → Fml = after 𝓛 R cv holds w p z h.id v k.id u s (l 4) 0 0 in
    -- [what closes the table's token; a share of it; the table; its fields; the seats and tokens as before]
    move ! (8 ∷ 9 ∷ 10 ∷ []) $ opens ! tt Sr b₂ o₂ (λ ts₂. move ! (1 ∷ []) $ fsplit ! $ rewrite ! 1 (λ (x : TableId). ‵ (mine R cv.code x k.id u)) second_is refl $
    move ! (10 ∷ 11 ∷ 12 ∷ []) $ opens ! tt Sr b₁ o₁ (λ ts₁. move ! (1 ∷ []) $ fsplit ! $ rewrite ! 1 (λ (x : TableId). ‵ (mine R cv.code x h.id v)) first_is refl $
    move ! (1 ∷ 7 ∷ []) $ fjoin ! $
    -- [both seats; the fields, the cell and the open borrow of the one and of the other; the table as before]
    sets ! (of_opd ! (lit ! tt)) refl (tt, record { fits = lit< tt }) $ first ! $ blocks ! $ sets ! (addr ! (from ! (stop !))) refl (tt, tt) $
    take_at ! 4 $ join ! $ move ! (13 ∷ 12 ∷ 0 ∷ []) $
    use3 𝓛 (raw (𝓣.C _ (vptr (l 4) 0 ∷ seq_cst ∷ []) (λ x. mean 𝓛 (found out x))))
    (via 𝓤 _ (meets 𝓛 R cv holds w p z h.id v k.id u s (l 4) 0 0) (loads 𝓛 𝓜 𝓡 (code.calls-std::sync::atomic::raw::load 𝓡.env wired) (block_ptr (l 4) 0) out)) $
    sets ! (agg ! (and_then ! (lit ! tt) (no_more !))) refl (tt, (record { fits = lit< tt }, tt)) $
    Calls-last ! (fm 𝓛 𝓜 𝓡) (found out) (and_then ! (get ! refl) (and_then ! (get ! refl) (no_more !))) (λ x. finds ! out (λ n fits.
    lands_last ! refl (tt, record { fits = fits }) $ exec ! 𝓣.C 𝓣.Λ Ev (rest_after 2 fn.body) (at_ret Ev Post) $ sets ! (of_opd ! (unit_lit !)) refl (tt, tt) $
    -- the word is the local's again, and the table's token is whole
    fsplit3 ! $ give_at ! 4 $ move ! (12 ∷ 0 ∷ []) $ obor_close ! tt $ drop ! $ move ! (1 ∷ []) $ fsplit ! $ fpick ! (λ so. drop ! $ fsplit ! $
    rewrite ! 0 (λ (x : TableId). ‵ (mine R cv.code x h.id v)) (sym first_is) refl $ rewrite ! 1 (λ (x : TableId). ‵ (mine R cv.code x k.id u)) (sym second_is) refl $
    -- both references as they were
    move ! (3 ∷ 0 ∷ []) $ fjoin ! $ move ! (3 ∷ 0 ∷ 4 ∷ 5 ∷ 6 ∷ []) $ closes ! tt Sr h ts₁ b₁ o₁ $ feq_i ! (List Val) (vptr b₁ o₁ ∷ []) (vptr b₁ o₁ ∷ []) refl $ fjoin3 ! $
    move ! (4 ∷ 2 ∷ []) $ fjoin ! $ move ! (4 ∷ 0 ∷ 5 ∷ 6 ∷ 7 ∷ []) $ closes ! tt Sr k ts₂ b₂ o₂ $ feq_i ! (List Val) (vptr b₂ o₂ ∷ []) (vptr b₂ o₂ ∷ []) refl $ fjoin3 ! $
    nothing ! $ move ! (1 ∷ 0 ∷ []) $ fjoin ! $ move ! (2 ∷ 0 ∷ []) $ fjoin ! $ nothing ! $ fjoin ! $
    move ! (1 ∷ 5 ∷ []) $ join ! $ move ! (2 ∷ 0 ∷ []) $ join ! $ move ! (2 ∷ 0 ∷ []) $ join ! $
    -- the three facts that are ensured
    let Seen : Type 0 = AreSeen holds h.id v.0 k.id u.0 in
    use0 𝓛 (raw (fact 𝓤 Seen)) (fact_i 𝓤 Seen (emp 𝓤) so) $ use0 𝓛 (raw (fact 𝓤 (k ≡ k))) (fact_i 𝓤 (k ≡ k) (emp 𝓤) refl) $ join ! $
    use0 𝓛 (raw (fact 𝓤 (h ≡ h))) (fact_i 𝓤 (h ≡ h) (emp 𝓤) refl) $ join ! $
    feq_i ! (List Val) (vunit ∷ []) (vunit ∷ []) refl $ returns ! (look_at ! 0 refl) $ free_all ! refl $
    keep ! (2 ∷ 3 ∷ 0 ∷ 1 ∷ []) $ by ! (leaves 𝓛 En hs c y vunit tt (tt, (h, (k, tt))) (tt, (tt, (tt, tt))))))))))))))
