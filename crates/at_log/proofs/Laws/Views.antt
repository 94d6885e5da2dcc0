-- The views of records, in the journal's order: each stands before its record.
use Rattle.std.proofs.Common.{◌≡◌, ℕ, ◌+◌, ◌<◌, ◌≤◌, zero, suc, List, [], ◌∷◌, length, get_or, map, take, refl, sym, ap, subst, ◌∙◌, arith, inl, inr}
use Rattle.at_log.proofs.Prelude.{cases_lt, get_or-map, get_or_default, length-map, Contains-append_left, Contains-append_right, Contains, flat_map, BookTerms, IsPosition, count_of-take_more_own, count_of-take-le, get_or-publications_of, IsCut-take, position-IsCut, publication_at, place, count_of, no_publication, HasView, Publication, ClosingTerms, log_of, log_published, published_by, held_cuts, journal_order}
use Rattle.at_log.proofs.Laws.OrderPremises.{HasViews}
use Rattle.at_log.proofs.Laws.Order.{ArePublishedBy-journal_order, IsCut-held, no_record, publications_of-journal_order}

-- an element of one of some lists is in all of them together
Contains-flat_map : {X Y : Type 0} (g : X → List Y) (ks : List X) (i : ℕ) (d : X) (y : Y) → i < length ks → Contains (g (get_or ks i d)) y
    → Contains (flat_map g ks) y
Contains-flat_map g [] i d y within there = absurd (omega arith)
Contains-flat_map g (k ∷ ks) zero d y within there = Contains-append_left (g k) (flat_map g ks) y there
Contains-flat_map g (k ∷ ks) (suc i) d y within there =
    Contains-append_right (g k) (flat_map g ks) y (Contains-flat_map g ks i d y (omega arith) there)

Contains-map : {X Y : Type 0} (f : X → Y) (xs : List X) (i : ℕ) (d : X) → i < length xs → Contains (map f xs) (f (get_or xs i d))
Contains-map f xs i d within = (i, omega (arith, within, length-map xs f), get_or-map f xs i d (f (get_or xs i d)) within)

-- the view of a record is held
pub Contains-view : (c : ClosingTerms) (process i : ℕ) → process < length c.logs → i < length (log_of c process)
    → Contains (held_cuts c) (publication_at (log_published c process) i).view
Contains-view c process i known within =
    let log = log_of c process in
    let is : (publication_at (log_published c process) i).view ≡ (get_or log i no_record).view =
    ap (λ (x : Publication). x.view) (get_or-map (published_by process) log i no_record no_publication within) in
    subst (Contains (held_cuts c)) (sym is)
    (Contains-append_left _ _ (get_or log i no_record).view
    (Contains-append_left _ _ (get_or log i no_record).view
    (Contains-flat_map (λ l. map (λ x. x.view) l) c.logs process [] (get_or log i no_record).view known
    (Contains-map (λ x. x.view) log i no_record within))))

-- the publication at a position of the order is its process's next one there
pub publication-journal_order : (c : ClosingTerms) (m : ℕ) → m < length (journal_order c)
    → let p = (publication_at (journal_order c) m).process in
    publication_at (log_published c p) (count_of p (take m (journal_order c))) ≡ publication_at (journal_order c) m
publication-journal_order c m within =
    let order = journal_order c in
    let p = (publication_at order m).process in
    let known : p < length c.logs = ArePublishedBy-journal_order c m no_publication within in
    ap (λ xs. publication_at xs (count_of p (take m order))) (sym (publications_of-journal_order c p known))
    ∙ get_or-publications_of p m order no_publication within refl

-- and its process has it
pub count_of-journal_order : (c : ClosingTerms) (m : ℕ) → m < length (journal_order c)
    → let p = (publication_at (journal_order c) m).process in
    count_of p (take m (journal_order c)) < length (log_of c p)
count_of-journal_order c m within =
    let order = journal_order c in
    let p = (publication_at order m).process in
    let known : p < length c.logs = ArePublishedBy-journal_order c m no_publication within in
    omega (
      arith,
      count_of-take_more_own p m order no_publication within refl,
      count_of-take-le p (m + 1) order,
      ap length (publications_of-journal_order c p known),
      length-map (log_of c p) (published_by p),
    )

-- each publication stands behind its view
pub HasView-journal_order : (b : BookTerms) (c : ClosingTerms) (m : ℕ) → HasViews b c → m < length (journal_order c)
    → HasView b (take m (journal_order c)) (publication_at (journal_order c) m)
HasView-journal_order b c m has within =
    let order = journal_order c in
    let x : Publication = publication_at order m in
    let p = x.process in
    let i = count_of p (take m order) in
    let known : p < length c.logs = ArePublishedBy-journal_order c m no_publication within in
    let process : p < b.processes = omega (arith, known, has.logs) in
    let is = publication-journal_order c m within in
    let counted = count_of-journal_order c m within in
    let held : Contains (held_cuts c) x.view =
    subst (λ (y : Publication). Contains (held_cuts c) y.view) is (Contains-view c p i known counted) in
    let own : get_or x.view p 0 ≡ i = ap (λ (y : Publication). get_or y.view p 0) (sym is) ∙ has.views p i counted in
    let cut = IsCut-held b c x.view has.cuts has.logs held in
    let position : IsPosition p i order m = record {
      within = within;
      own = λ d. ap (λ (y : Publication). y.process) (get_or_default order m d no_publication within);
      before = refl;
    } in
    let before : place x.view ≤ m =
    elim (cases_lt m (place x.view)) as (λ _. place x.view ≤ m) [
      | inl late ↦ absurd (omega (arith, position-IsCut b.processes x.view order p i m cut process position late, own))
      | inr early ↦ early
    ] in
    record { process = process; cut = IsCut-take b.processes x.view order m cut before; own = own }
