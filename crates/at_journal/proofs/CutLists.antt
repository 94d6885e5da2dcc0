-- Lists of held cuts.
use Rattle.std.proofs.Common.{◌≡◌, ℕ, ◌+◌, ◌<◌, ◌≤◌, List, [], ◌∷◌, ◌++◌, length, get_or, map, replicate, sum, take, ap, arith, inl, inr, subst, append-nil, append_assoc, ◌∙◌, refl, sym, zero, suc}
use Rattle.std.specs.Prelude.{Option, Some, None}
use Rattle.at_journal.proofs.Prelude.{cases_eq, cases_lt, get_or-set_at, none-some, same_Some, set, Contains, filter_map, flat_map, get_or-replicate, get_or-set_other, get_or_past, length-replicate, length-set, take_all, take_more, Contains-append_cases, Contains-append_left, Contains-append_right, Contains-push, Contains-push_cases, place, ClosingTerms, log_lengths, cut_at, AreAdded, AreByPlace, AreHeld}

-- the views of all records
abbrev pub record_views : ClosingTerms → List (List ℕ)
record_views c = flat_map (λ log. map (λ x. x.view) log) c.logs

-- the cuts of all receipts
abbrev pub receipt_cuts : ClosingTerms → List (List ℕ)
receipt_cuts c = flat_map (λ receipts. filter_map (λ r. cut_at r.at) receipts) c.receipts

-- no view, and no cut at any place
AreByPlace-nil : (total : ℕ) → AreByPlace total [] (replicate total None)
AreByPlace-nil total =
    let nothing : Option (List ℕ) = None in
    let size = length-replicate total nothing in
    record {
      sized = size;
      held = λ k view is.
          elim (cases_lt k total) as (λ _. Contains [] view × (place view ≡ k)) [
            | inl within ↦ absurd (none-some view (sym (get_or-replicate total k nothing nothing within) ∙ is))
            | inr beyond ↦ absurd (none-some view (sym (get_or_past (replicate total nothing) k nothing (omega (arith, beyond, size))) ∙ is))
          ];
      all = λ view there. absurd (omega (arith, there.1));
    }

pub AreByPlace-nones : {X : Type 0} (counts_of : Option X → Option (List ℕ)) (total : ℕ) (cuts : List (Option X)) → counts_of None ≡ None
    → cuts ≡ replicate total None → AreByPlace total [] (map counts_of cuts)
AreByPlace-nones {X} counts_of total cuts same are =
    subst (AreByPlace total []) (sym (ap (map counts_of) are ∙ nones total)) (AreByPlace-nil total)
  where
    nones : (n : ℕ) → map counts_of (replicate n None) ≡ replicate n None
    nones zero = refl
    nones (suc n) = (λ t. same t ∷ nones n t)

-- a view more, at its place
AreByPlace-set : (total : ℕ) (views : List (List ℕ)) (cuts : List (Option (List ℕ))) (view : List ℕ) → AreByPlace total views cuts → place view < total
    → AreByPlace total (views ++ view ∷ []) (set cuts (place view) (Some view))
AreByPlace-set total views cuts view so below =
    let within : place view < length cuts = omega (arith, below, so.sized) in
    record {
      sized = length-set cuts (place view) (Some view) ∙ so.sized;
      held = λ k other is.
          elim (cases_eq k (place view)) as (λ _. Contains (views ++ view ∷ []) other × (place other ≡ k)) [
            | inl here ↦
                let same : view ≡ other = same_Some view other (sym (get_or-set_at cuts (place view) k (Some view) None here within) ∙ is) in
                (subst (Contains (views ++ view ∷ [])) same (Contains-push views view), ap place (sym same) ∙ sym here)
            | inr apart ↦
                let before = so.held k other (sym (get_or-set_other cuts (place view) k (Some view) None apart) ∙ is) in
                (Contains-append_left views (view ∷ []) other before.0, before.1)
          ];
      all = λ other there inside nothing.
          elim (cases_eq (place other) (place view)) as (λ _. ⊥) [
            | inl here ↦ none-some view (sym nothing ∙ get_or-set_at cuts (place view) (place other) (Some view) None here within)
            | inr apart ↦
                elim (Contains-push_cases views view other there) as (λ _. ⊥) [
                  | inl before ↦ so.all other before inside (sym (get_or-set_other cuts (place view) (place other) (Some view) None apart) ∙ nothing)
                  | inr this ↦ apart (ap place (sym this))
                ]
          ];
    }

-- or behind all places
AreByPlace-beyond : (total : ℕ) (views : List (List ℕ)) (cuts : List (Option (List ℕ))) (view : List ℕ) → AreByPlace total views cuts → total ≤ place view
    → AreByPlace total (views ++ view ∷ []) cuts
AreByPlace-beyond total views cuts view so beyond = record {
  sized = so.sized;
  held = λ k other is. (Contains-append_left views (view ∷ []) other (so.held k other is).0, (so.held k other is).1);
  all = λ other there inside nothing.
      elim (Contains-push_cases views view other there) as (λ _. ⊥) [
        | inl before ↦ so.all other before inside nothing
        | inr this ↦ omega (arith, inside, beyond, ap place this)
      ];
}

-- a cut is put at its place
pub AreAdded-set : (cuts : List (Option (List ℕ))) (view : List ℕ) → place view < length cuts → AreAdded (view ∷ []) cuts (set cuts (place view) (Some view))
AreAdded-set cuts view within total views so = AreByPlace-set total views cuts view so (omega (arith, within, so.sized))

-- or has no place
pub AreAdded-beyond : (cuts : List (Option (List ℕ))) (view : List ℕ) → length cuts ≤ place view → AreAdded (view ∷ []) cuts cuts
AreAdded-beyond cuts view beyond total views so = AreByPlace-beyond total views cuts view so (omega (arith, beyond, so.sized))

pub AreAdded-none : (cuts : List (Option (List ℕ))) → AreAdded [] cuts cuts
AreAdded-none cuts total views so = subst (λ all. AreByPlace total all cuts) (sym (append-nil views)) so

-- the views of one element more
pub AreAdded-more : {X : Type 0} (views_of : List X → List (List ℕ)) (xs : List X) (i : ℕ) (d : X) (start old new : List (Option (List ℕ)))
    → ((ys zs : List X) → views_of (ys ++ zs) ≡ views_of ys ++ views_of zs) → i < length xs → AreAdded (views_of (take i xs)) start old
    → AreAdded (views_of (get_or xs i d ∷ [])) old new → AreAdded (views_of (take (i + 1) xs)) start new
AreAdded-more views_of xs i d start old new joined within before more total views so =
    let next : views_of (take (i + 1) xs) ≡ views_of (take i xs) ++ views_of (get_or xs i d ∷ []) =
    ap views_of (take_more xs i d within) ∙ joined (take i xs) (get_or xs i d ∷ []) in
    subst (λ all. AreByPlace total all new)
    (append_assoc views (views_of (take i xs)) (views_of (get_or xs i d ∷ [])) ∙ ap (λ all. views ++ all) (sym next))
    (more total (views ++ views_of (take i xs)) (before total views so))

pub AreAdded-all : {X : Type 0} (views_of : List X → List (List ℕ)) (xs : List X) (i : ℕ) (start old : List (Option (List ℕ))) → length xs ≤ i
    → AreAdded (views_of (take i xs)) start old → AreAdded (views_of xs) start old
AreAdded-all views_of xs i start old all so = subst (λ ys. AreAdded (views_of ys) start old) (take_all i xs all) so

Contains-swapped : {X : Type 0} (xs ys : List X) (x : X) → Contains (xs ++ ys) x → Contains (ys ++ xs) x
Contains-swapped xs ys x there =
    elim (Contains-append_cases xs ys x there) as (λ _. Contains (ys ++ xs) x) [
      | inl first ↦ Contains-append_right ys xs x first
      | inr second ↦ Contains-append_left ys xs x second
    ]

-- the views of the records, the cuts of the receipts, and the lengths of the logs, which count all
pub AreHeld-views_first : (c : ClosingTerms) (cuts : List (Option (List ℕ))) → AreByPlace (sum (log_lengths c)) (record_views c ++ receipt_cuts c) cuts
    → AreHeld c cuts
AreHeld-views_first c cuts so = AreByPlace-beyond (sum (log_lengths c)) (record_views c ++ receipt_cuts c) cuts (log_lengths c) so (omega arith)

-- in whichever order
pub AreHeld-by_place : (c : ClosingTerms) (cuts : List (Option (List ℕ))) → AreByPlace (sum (log_lengths c)) (receipt_cuts c ++ record_views c) cuts → AreHeld c cuts
AreHeld-by_place c cuts so =
    AreHeld-views_first c cuts (record {
      sized = so.sized;
      held = λ k view is. (Contains-swapped (receipt_cuts c) (record_views c) view (so.held k view is).0, (so.held k view is).1);
      all = λ view there. so.all view (Contains-swapped (record_views c) (receipt_cuts c) view there);
    })
