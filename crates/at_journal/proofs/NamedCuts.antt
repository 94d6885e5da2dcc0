-- Cuts that are named by their places and calls, and put where none is held.
use Rattle.std.proofs.Common.{◌≡◌, ◌≢◌, ℕ, ◌+◌, ◌<◌, List, [], ◌∷◌, ◌++◌, length, get_or, take, refl, sym, ap, subst, ◌∙◌, inl, inr, append-nil}
use Rattle.std.specs.Prelude.{All, IfSome, Option, Some, None}
use Rattle.at_journal.proofs.Prelude.{cons_option, filter_map, flat_map, flat_map-append, get_or_default, take_more, All-push, Contains-append_left, Contains-push_cases, filter_map-append, place, cut_at, receipt_at, Receipt, AreAdded, AreByPlace, cut_of, named_by, CutAt}
use Rattle.at_journal.proofs.CutLists.{AreAdded-none}

-- the cuts of the first n receipts are named
pub record NameFirst (receipts : List Receipt) (list : List CutAt) (n : ℕ) : Type 0 where
  pub within : All (λ x. x.number < length receipts) list
  pub placed : All (λ x. IfSome (cut_of receipts x) (λ view. place view ≡ x.place)) list
  pub all : flat_map (λ x. cons_option (cut_of receipts x) []) list ≡ filter_map (λ r. cut_at r.at) (take n receipts)

-- a receipt more, which stands at this cut
named-cut : (receipts : List Receipt) (list : List CutAt) (n : ℕ) (r : Receipt) (cut : Option (List ℕ)) → n < length receipts
    → cut_at (receipt_at receipts n).at ≡ cut → get_or receipts n r ≡ r → cut_at r.at ≡ cut
    → NameFirst receipts list n → NameFirst receipts (list ++ named_by n cut) (n + 1)
named-cut receipts list n r None within is here same so =
    let more : filter_map (λ r. cut_at r.at) (take (n + 1) receipts) ≡ filter_map (λ r. cut_at r.at) (take n receipts) ++ cons_option (cut_at r.at) [] =
    ap (filter_map (λ (q : Receipt). cut_at q.at)) (take_more receipts n r within)
    ∙ (filter_map-append (λ (q : Receipt). cut_at q.at) (take n receipts) (get_or receipts n r ∷ [])
    ∙ ap (λ (q : Receipt). filter_map (λ (q : Receipt). cut_at q.at) (take n receipts) ++ cons_option (cut_at q.at) []) here) in
    let same_all : filter_map (λ r. cut_at r.at) (take (n + 1) receipts) ≡ filter_map (λ r. cut_at r.at) (take n receipts) =
    more ∙ (ap (λ (o : Option (List ℕ)). filter_map (λ (q : Receipt). cut_at q.at) (take n receipts) ++ cons_option o []) same ∙ append-nil _) in
    subst (λ (l : List CutAt). NameFirst receipts l (n + 1)) (sym (append-nil list))
    (record { within = so.within; placed = so.placed; all = so.all ∙ sym same_all })
named-cut receipts list n r (Some view) within is here same so =
    let x : CutAt = record { place = place view; number = n } in
    let more : filter_map (λ r. cut_at r.at) (take (n + 1) receipts) ≡ filter_map (λ r. cut_at r.at) (take n receipts) ++ view ∷ [] =
    ap (filter_map (λ (q : Receipt). cut_at q.at)) (take_more receipts n r within)
    ∙ (filter_map-append (λ (q : Receipt). cut_at q.at) (take n receipts) (get_or receipts n r ∷ [])
    ∙ (ap (λ (q : Receipt). filter_map (λ (q : Receipt). cut_at q.at) (take n receipts) ++ cons_option (cut_at q.at) []) here
    ∙ ap (λ (o : Option (List ℕ)). filter_map (λ (q : Receipt). cut_at q.at) (take n receipts) ++ cons_option o []) same)) in
    record {
      within = All-push (λ (y : CutAt). y.number < length receipts) list x so.within within;
      placed = All-push (λ (y : CutAt). IfSome (cut_of receipts y) (λ v. place v ≡ y.place)) list x so.placed
          (subst (λ (o : Option (List ℕ)). IfSome o (λ v. place v ≡ place view)) (sym is) refl);
      all =
          flat_map-append (λ (y : CutAt). cons_option (cut_of receipts y) []) list (x ∷ [])
          ∙ (ap (λ (vs : List (List ℕ)). vs ++ (cons_option (cut_of receipts x) [] ++ [])) so.all
          ∙ (ap (λ (o : Option (List ℕ)). filter_map (λ (q : Receipt). cut_at q.at) (take n receipts) ++ (cons_option o [] ++ [])) is ∙ sym more));
    }

pub NameFirst-more : (receipts : List Receipt) (list : List CutAt) (n : ℕ) (d : Receipt) → n < length receipts
    → NameFirst receipts list n → NameFirst receipts (list ++ named_by n (cut_at (get_or receipts n d).at)) (n + 1)
NameFirst-more receipts list n d within so =
    let r : Receipt = get_or receipts n d in
    named-cut receipts list n r (cut_at r.at) within (ap (λ (q : Receipt). cut_at q.at) (get_or_default receipts n _ d within))
    (get_or_default receipts n r d within) refl so

-- a cut that is held at its place, in a table that stays as it is
AreByPlace-held : (total : ℕ) (views : List (List ℕ)) (cuts : List (Option (List ℕ))) (view : List ℕ) → AreByPlace total views cuts
    → get_or cuts (place view) None ≢ None → AreByPlace total (views ++ view ∷ []) cuts
AreByPlace-held total views cuts view so held = record {
  sized = so.sized;
  held = λ k other is. (Contains-append_left views (view ∷ []) other (so.held k other is).0, (so.held k other is).1);
  all = λ other there inside nothing.
      elim (Contains-push_cases views view other there) as (λ _. ⊥) [
        | inl before ↦ so.all other before inside nothing
        | inr this ↦ held (ap (λ (v : List ℕ). get_or cuts (place v) None) this ∙ nothing)
      ];
}

pub AreAdded-held : (cuts : List (Option (List ℕ))) (cut : Option (List ℕ)) (k : ℕ) → IfSome cut (λ view. place view ≡ k)
    → get_or cuts k None ≢ None → AreAdded (cons_option cut []) cuts cuts
AreAdded-held cuts None k placed held = AreAdded-none cuts
AreAdded-held cuts (Some view) k placed held =
    λ total views so. AreByPlace-held total views cuts view so (λ nothing. held (ap (λ n. get_or cuts n None) (sym placed) ∙ nothing))
