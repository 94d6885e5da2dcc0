-- The held cuts of what a ledger leaves: each is a cut of the state's list, so they are a chain.
use Rattle.std.proofs.Common.{◌≡◌, ℕ, ◌<◌, ◌≤◌, ◌⊎◌, zero, suc, List, [], ◌∷◌, ◌++◌, length, get_or, map, take, refl, sym, ap, subst, ◌∙◌, arith, inl, inr, sum}
use Rattle.std.specs.Prelude.{Option, Some, None}
use Rattle.at_log.proofs.Prelude.{cases_lt, ext_get_or, get_or-map, get_or_default, get_or_past, length-map, All-append, All-cons, All-contains, All-map, All-nil, All-weaker, Contains-append_left, Contains-append_right, All, Contains, cons_option, filter_map, flat_map, Covers, BookTerms, count_of-take_mono, get_or-counts, length-counts, sum-counts, IsCut-IsPrefix, IsCut-counts, get_or-IsCut, length-IsCut, place-IsCut-le, ArePublishedBy-IsHistory, ArePublishedBy-take, IsPrefix-take, BoardState, publication_at, IsCut, place, ArePublishedBy, count_of, counts, no_publication, Publication, ClosingTerms, log_lengths, log_of, log_published, published_by, receipts_of, AreChained, cut_at, held_cuts, IsPlaced, read, not_owner, full, short, done, round, receipt_at, At, Receipt, IsLeft}
use Rattle.at_log.proofs.Laws.Order.{All-flat_map}
use Rattle.at_log.proofs.Laws.Picks.{filter_map-at}
use Rattle.at_log.proofs.Laws.PublicationKeys.{get_or-log_lengths}
use Rattle.at_log.proofs.SameRecords.{StandsIn-publications_of}

All-cons_option : {Y : Type 0} (Q : Y → Type 0) (o : Option Y) (ys : List Y) → ((y : Y) → o ≡ Some y → Q y) → All Q ys → All Q (cons_option o ys)
All-cons_option Q None ys first rest = rest
All-cons_option Q (Some y) ys first rest = All-cons Q y ys (first y refl) rest

-- all that is picked from a list
All-filter_map : {X Y : Type 0} (Q : Y → Type 0) (pick : X → Option Y) (xs : List X)
    → ((i : ℕ) (d : X) (y : Y) → i < length xs → pick (get_or xs i d) ≡ Some y → Q y) → All Q (filter_map pick xs)
All-filter_map Q pick [] each = All-nil Q
All-filter_map Q pick (x ∷ xs) each =
    All-cons_option Q (pick x) (filter_map pick xs) (λ y is. each zero x y (omega arith) is)
    (All-filter_map Q pick xs (λ i d y within is. each (suc i) d y (omega arith) is))

-- an element of one of some lists is in all of them together
Contains-flat_map : {X Y : Type 0} (g : X → List Y) (ks : List X) (i : ℕ) (d : X) (y : Y) → i < length ks → Contains (g (get_or ks i d)) y
    → Contains (flat_map g ks) y
Contains-flat_map g [] i d y within there = absurd (omega arith)
Contains-flat_map g (k ∷ ks) zero d y within there = Contains-append_left (g k) (flat_map g ks) y there
Contains-flat_map g (k ∷ ks) (suc i) d y within there =
    Contains-append_right (g k) (flat_map g ks) y (Contains-flat_map g ks i d y (omega arith) there)

-- the cuts of all records, and of all receipts
abbrev record_cuts : ClosingTerms → List (List ℕ)
record_cuts c = flat_map (λ log. map (λ x. x.view) log) c.logs

abbrev receipt_cuts : ClosingTerms → List (List ℕ)
receipt_cuts c = flat_map (λ receipts. filter_map (λ r. cut_at r.at) receipts) c.receipts

-- the cut of a receipt is held
pub Contains-receipt : (c : ClosingTerms) (p i : ℕ) (view : List ℕ) → p < length c.receipts → i < length (receipts_of c p)
    → (receipt_at (receipts_of c p) i).at ≡ At.Cut view → Contains (held_cuts c) view
Contains-receipt c p i view known within at =
    let pick : Receipt → Option (List ℕ) = λ r. cut_at r.at in
    let none : Receipt = receipt_at [] 0 in
    let found = filter_map-at pick (receipts_of c p) i none view view within (ap cut_at at) in
    Contains-append_left (record_cuts c ++ receipt_cuts c) (log_lengths c ∷ []) view
    (Contains-append_right (record_cuts c) (receipt_cuts c) view
    (Contains-flat_map (λ receipts. filter_map pick receipts) c.receipts p [] view known (_, found.0, found.1)))

-- a larger cut covers a smaller one
Covers-cut : (n : ℕ) (view other : List ℕ) (xs : List Publication) → IsCut n view xs → IsCut n other xs → place view ≤ place other → Covers other view
Covers-cut n view other xs one two less = λ p within.
    let known : p < n = omega (arith, within, length-IsCut n other xs two) in
    omega (arith, get_or-IsCut n view xs p one known, get_or-IsCut n other xs p two known, count_of-take_mono p (place view) (place other) xs less)

-- a receipt at a cut has that one, and one elsewhere has none
same_cut : (view other : List ℕ) (r : Receipt) → r.at ≡ At.Cut other → cut_at r.at ≡ Some view → other ≡ view
same_cut view other r at is =
    let same : Some other ≡ Some view = sym (ap cut_at at) ∙ is in
    cc same

no_cut : (view : List ℕ) (r : Receipt) (at : At) → r.at ≡ at → cut_at at ≡ None → cut_at r.at ≡ Some view → ⊥
no_cut view r at here without is =
    let both : None ≡ Some view = sym without ∙ (sym (ap cut_at here) ∙ is) in
    cc both

-- the cut of a placed receipt is a cut of the list
cut-IsPlaced : (b : BookTerms) (p : ℕ) (list : List Publication) (earlier : List Receipt) (r : Receipt) (view : List ℕ) → IsPlaced b p list earlier r
    → cut_at r.at ≡ Some view → IsCut b.processes view list
cut-IsPlaced b p list earlier r view (read account amount call reply at) is =
    subst (λ t. IsCut b.processes t list) (same_cut view at.view r at.at is) at.cut
cut-IsPlaced b p list earlier r view (not_owner source targets call owner reply at) is = absurd (no_cut view r At.Previous at refl is)
cut-IsPlaced b p list earlier r view (full source targets call owner room reply at) is = absurd (no_cut view r At.Previous at refl is)
cut-IsPlaced b p list earlier r view (short source amount targets may single reply at less) is =
    subst (λ t. IsCut b.processes t list) (same_cut view at.view r at.at is) at.cut
cut-IsPlaced b p list earlier r view (done source targets may single reply at) is =
    absurd (no_cut view r (At.Own at.number) at.at refl is)
cut-IsPlaced b p list earlier r view (round source targets may shared at) is =
    absurd (no_cut view r (At.Round at.round at.decision.place) at.at refl is)

module _ (b : BookTerms) (s : BoardState) (c : ClosingTerms) (left : IsLeft b s c) where
  -- each record is of a process of the book
  known_by : ArePublishedBy b.processes s.published
  known_by = ArePublishedBy-IsHistory b s.published left.history

  -- only a process of the book has a log
  pub log_of-within : (p i : ℕ) → i < length (log_of c p) → p < b.processes
  log_of-within p i within =
      elim (cases_lt p (length c.logs)) as (λ _. p < b.processes) [
        | inl known ↦ omega (arith, known, left.logs)
        | inr beyond ↦ absurd (omega (arith, within, ap length (get_or_past c.logs p [] beyond)))
      ]

  -- and its log is all that it has in the list
  pub length-log_of : (p : ℕ) → p < b.processes → length (log_of c p) ≡ count_of p s.published
  length-log_of p known = sym (length-map (log_of c p) (published_by p)) ∙ ap length (left.log p known)

  -- a record of a log stands in the list, behind so many of its process
  pub record IsRecordAt (p i m : ℕ) : Type 0 where
    pub within : m < length s.published
    pub is : publication_at s.published m ≡ publication_at (log_published c p) i
    pub process_is : (publication_at s.published m).process ≡ p
    pub before : count_of p (take m s.published) ≡ i

  pub record_at : (p i : ℕ) → i < length (log_of c p) → (m : ℕ) × IsRecordAt p i m
  record_at p i within =
      let known = log_of-within p i within in
      let found = StandsIn-publications_of p i s.published (omega (arith, within, length-log_of p known)) in (
        found.0,
        record {
          within = found.1;
          is = found.2 ∙ ap (λ (t : List Publication). publication_at t i) (sym (left.log p known));
          process_is = found.3;
          before = found.4;
        },
      )

  -- the view of a record is a cut of the list, and has the record's number
  pub IsCut-view : (m : ℕ) → m < length s.published → IsCut b.processes (publication_at s.published m).view s.published
  IsCut-view m within =
      IsCut-IsPrefix b.processes (publication_at s.published m).view (take m s.published) s.published (left.history.views m within).cut
      (ArePublishedBy-take b.processes m s.published known_by) (IsPrefix-take m s.published)

  pub view-log_published : (p i : ℕ) → i < length (log_of c p) → get_or (publication_at (log_published c p) i).view p 0 ≡ i
  view-log_published p i within =
      let found = record_at p i within in
      let x : Publication = publication_at s.published found.0 in
      let own : get_or x.view x.process 0 ≡ count_of x.process (take found.0 s.published) = (left.history.views found.0 found.1.within).own in
      ap (λ (y : Publication). get_or y.view p 0) (sym found.1.is)
      ∙ (subst (λ q. get_or x.view q 0 ≡ count_of q (take found.0 s.published)) found.1.process_is own ∙ found.1.before)

  -- a cut of the state's list
  abbrev IsStateCut : List ℕ → Type 0
  IsStateCut view = IsCut b.processes view s.published

  -- the cuts of each kind
  views_cuts : All IsStateCut (record_cuts c)
  views_cuts =
      All-flat_map IsStateCut (λ log. map (λ x. x.view) log) c.logs (λ p d known.
      subst (λ log. All IsStateCut (map (λ x. x.view) log)) (get_or_default c.logs p [] d known)
      (All-map IsStateCut (λ x. x.view) (log_of c p) (λ i e within.
      let found = record_at p i within in
      let x : Publication = publication_at s.published found.0 in
      let view_is : x.view ≡ (get_or (log_of c p) i e).view =
      ap (λ (y : Publication). y.view) (found.1.is ∙ get_or-map (published_by p) (log_of c p) i e no_publication within) in
      subst IsStateCut view_is (IsCut-view found.0 found.1.within))))

  receipts_cuts : All IsStateCut (receipt_cuts c)
  receipts_cuts =
      All-flat_map IsStateCut (λ receipts. filter_map (λ r. cut_at r.at) receipts) c.receipts (λ p d known.
      subst (λ receipts. All IsStateCut (filter_map (λ r. cut_at r.at) receipts)) (get_or_default c.receipts p [] d known)
      (All-filter_map IsStateCut (λ r. cut_at r.at) (receipts_of c p) (λ i e view within is.
      let none : Receipt = receipt_at [] 0 in
      let told = left.told p (omega (arith, known, left.receipts)) in
      cut-IsPlaced b p s.published (take i (receipts_of c p)) (receipt_at (receipts_of c p) i) view (told.placed i within)
      (ap (λ (r : Receipt). cut_at r.at) (get_or_default (receipts_of c p) i none e within) ∙ is))))

  -- the lengths of the logs are the counts of the list
  pub log_lengths-counts : log_lengths c ≡ counts b.processes s.published
  log_lengths-counts =
      let sized : length (log_lengths c) ≡ b.processes = length-map c.logs length ∙ left.logs in
      ext_get_or 0 (log_lengths c) (counts b.processes s.published) (sized ∙ sym (length-counts b.processes s.published))
      (λ p within.
      let known : p < b.processes = omega (arith, within, sized) in
      get_or-log_lengths c p (omega (arith, known, left.logs))
      ∙ (length-log_of p known ∙ sym (get_or-counts b.processes s.published p 0 known)))

  ends_cut : IsStateCut (log_lengths c)
  ends_cut = subst IsStateCut (sym log_lengths-counts) (IsCut-counts b.processes s.published known_by)

  -- each held cut is a cut of the list
  held_cuts-left : All IsStateCut (held_cuts c)
  held_cuts-left =
      All-append IsStateCut (record_cuts c ++ receipt_cuts c) (log_lengths c ∷ [])
      (All-append IsStateCut (record_cuts c) (receipt_cuts c) views_cuts receipts_cuts)
      (All-cons IsStateCut (log_lengths c) [] ends_cut (All-nil IsStateCut))

  pub IsCut-left : (view : List ℕ) → Contains (held_cuts c) view → IsCut b.processes view s.published
  IsCut-left view held = All-contains IsStateCut (held_cuts c) view held_cuts-left held

  pub AreChained-left : AreChained b c
  AreChained-left = record {
    sized =
        All-weaker IsStateCut (λ view. length view ≡ b.processes) (λ view cut. length-IsCut b.processes view s.published cut)
        (held_cuts c) held_cuts-left;
    chain = λ view other one two.
        elim (cases_lt (place view) (place other)) as (λ _. Covers view other ⊎ Covers other view) [
          | inl below ↦ inr (Covers-cut b.processes view other s.published (IsCut-left view one) (IsCut-left other two) (omega arith))
          | inr above ↦ inl (Covers-cut b.processes other view s.published (IsCut-left other two) (IsCut-left view one) above)
        ];
    ends = λ view held.
        Covers-cut b.processes view (log_lengths c) s.published (IsCut-left view held) ends_cut
        (omega (
          arith,
          place-IsCut-le b.processes view s.published (IsCut-left view held) known_by,
          ap sum log_lengths-counts,
          sum-counts b.processes s.published known_by,
        ));
  }
