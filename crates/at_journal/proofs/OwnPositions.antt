-- The positions of the records of a process.
use Rattle.std.proofs.Common.{◌≡◌, ℕ, ◌+◌, ◌<◌, ◌≤◌, ◌==◌, zero, suc, Bool, cond, List, [], ◌∷◌, ◌++◌, length, filter, get_or, replicate, take, sym, ap, subst, append-nil, ◌∙◌, arith, inl, inr}
use Rattle.at_journal.proofs.Prelude.{cases_eq, cases_lt, eq-eqb, ne_eqb, get_or-set_at, set, get_or-replicate, get_or-set_other, get_or_append_left, get_or_push, length-map, length-replicate, length-set, length_push, take_all, take_more, filter-append, range_with_len, count_of-push_other, count_of-take_more_own, position-below, publications_of-nil, publication_at, count_of, no_publication, Publication, range_with_len-more, ClosingTerms, log_published, own_position, own_position-at, AreRecords, no_number, published_in, HasOwnPositions, positions_of, Numbered}
use Rattle.at_journal.proofs.NamedLaws.{process-published_in}

-- a record of a process stands where so many of the process stand before it
own_position-is : (p m : ℕ) (list : List Publication) → m < length list → (publication_at list m).process ≡ p
    → own_position p (count_of p (take m list)) list ≡ m
own_position-is p m list within own =
    let number = count_of p (take m list) in
    let less : number < count_of p list =
    omega (arith, position-below p m (length list) list no_publication within own within, ap (count_of p) (take_all (length list) list (omega arith))) in
    let so = own_position-at p number list less in
    let k = own_position p number list in
    elim (cases_lt k m) as (λ _. k ≡ m) [
      | inl early ↦ absurd (omega (arith, position-below p k m list no_publication so.within so.own early, so.before))
      | inr late ↦
          elim (cases_lt m k) as (λ _. k ≡ m) [
            | inl later ↦ absurd (omega (arith, position-below p m k list no_publication within own later, so.before))
            | inr same ↦ omega (arith, late, same)
          ]
    ]

-- whether the record at a position is the process's
abbrev is_own_at : ℕ → List Numbered → ℕ → Bool
is_own_at p order m = (get_or order m no_number).process == p

-- its positions below a limit
abbrev positions : ℕ → List Numbered → ℕ → List ℕ
positions p order k = filter (is_own_at p order) (range_with_len 0 k)

positions-more : (p : ℕ) (order : List Numbered) (k : ℕ) → positions p order (k + 1) ≡ positions p order k ++ cond (is_own_at p order k) (k ∷ []) []
positions-more p order k =
    let from_zero : 0 + k ≡ k = omega arith in
    ap (filter (is_own_at p order)) (range_with_len-more 0 k ∙ ap (λ j. range_with_len 0 k ++ j ∷ []) from_zero)
    ∙ filter-append (is_own_at p order) (range_with_len 0 k) (k ∷ [])

-- a record more
pub positions-own : (p : ℕ) (order : List Numbered) (k : ℕ) → (get_or order k no_number).process ≡ p
    → filter (λ m. (get_or order m no_number).process == p) (range_with_len 0 (k + 1)) ≡ filter (λ m. (get_or order m no_number).process == p) (range_with_len 0 k) ++ k ∷ []
positions-own p order k own =
    positions-more p order k
    ∙ ap (λ t. filter (λ m. (get_or order m no_number).process == p) (range_with_len 0 k) ++ cond t (k ∷ []) []) (eq-eqb (get_or order k no_number).process p own)

pub positions-other : (p : ℕ) (order : List Numbered) (k : ℕ) → ((get_or order k no_number).process ≡ p → ⊥)
    → filter (λ m. (get_or order m no_number).process == p) (range_with_len 0 (k + 1)) ≡ filter (λ m. (get_or order m no_number).process == p) (range_with_len 0 k)
positions-other p order k other =
    positions-more p order k
    ∙ (ap (λ t. filter (λ m. (get_or order m no_number).process == p) (range_with_len 0 k) ++ cond t (k ∷ []) []) (ne_eqb (get_or order k no_number).process p other)
    ∙ append-nil (filter (λ m. (get_or order m no_number).process == p) (range_with_len 0 k)))

-- those of each of so many processes below a limit
pub record HasFound (processes : ℕ) (order : List Numbered) (k : ℕ) (lists : List (List ℕ)) : Type 0 where
  pub sized : length lists ≡ processes
  pub each : (p : ℕ) → p < processes → get_or lists p [] ≡ filter (λ m. (get_or order m no_number).process == p) (range_with_len 0 k)

pub HasFound-none : (processes : ℕ) (order : List Numbered) → HasFound processes order 0 (replicate processes [])
HasFound-none processes order =
    let none : List ℕ = [] in
    record { sized = length-replicate processes none; each = λ p known. get_or-replicate processes p none none known }

-- a record more
pub HasFound-more : (processes : ℕ) (order : List Numbered) (k p : ℕ) (lists : List (List ℕ)) → HasFound processes order k lists → p < processes
    → (get_or order k no_number).process ≡ p → HasFound processes order (k + 1) (set lists p (get_or lists p [] ++ k ∷ []))
HasFound-more processes order k p lists so known own =
    let more = get_or lists p [] ++ k ∷ [] in
    record {
      sized = length-set lists p more ∙ so.sized;
      each = λ q inside.
          elim (cases_eq q p) as (λ _. get_or (set lists p more) q [] ≡ positions q order (k + 1)) [
            | inl here ↦
                get_or-set_at lists p q more [] here (omega (arith, known, so.sized))
                ∙ (ap (λ xs. xs ++ k ∷ []) (so.each p known) ∙ (sym (positions-own p order k own) ∙ ap (λ r. positions r order (k + 1)) (sym here)))
            | inr apart ↦ get_or-set_other lists p q more [] apart ∙ (so.each q inside ∙ sym (positions-other q order k (λ is. apart (sym is ∙ own))))
          ];
    }

module _ (p : ℕ) (order : List Numbered) (list : List Publication) (same : (m : ℕ) → m < length order → (publication_at list m).process ≡ (get_or order m no_number).process)
    (sized : length list ≡ length order) where
  -- the positions among the first records
  record HasFirst (k : ℕ) (found : List ℕ) : Type 0 where
    counted : length found ≡ count_of p (take k list)
    own : (i : ℕ) → i < length found → get_or found i 0 ≡ own_position p i list

  HasFirst-positions : (k : ℕ) → k ≤ length order → HasFirst k (positions p order k)
  HasFirst-positions zero within = record {
    counted = sym (ap length (publications_of-nil p));
    own = λ i inside. absurd (omega (arith, inside));
  }
  HasFirst-positions (suc k) within =
      let next : k + 1 ≡ suc k = omega arith in
      let so = HasFirst-positions k (omega arith) in
      let inside : k < length list = omega (arith, within, sized) in
      let process_is = same k (omega (arith, within)) in
      subst (λ n. HasFirst n (positions p order n)) next (elim (cases_eq (get_or order k no_number).process p) as (λ _. HasFirst (k + 1) (positions p order (k + 1))) [
        | inl own ↦
            let before = positions p order k in
            let counts = count_of-take_more_own p k list no_publication inside (process_is ∙ own) in
            subst (HasFirst (k + 1)) (sym (positions-own p order k own))
            (record {
              counted = omega (arith, length_push before k, so.counted, counts);
              own = λ i small.
                  elim (cases_lt i (length before)) as (λ _. get_or (before ++ k ∷ []) i 0 ≡ own_position p i list) [
                    | inl early ↦ get_or_append_left before (k ∷ []) 0 i early ∙ so.own i early
                    | inr last ↦
                        let i_is : length before ≡ i = omega (arith, last, small, length_push before k) in
                        get_or_push before k 0 i i_is
                        ∙ (sym (own_position-is p k list inside (process_is ∙ own)) ∙ ap (λ j. own_position p j list) (sym so.counted ∙ i_is))
                  ];
            })
        | inr apart ↦
            let counts : count_of p (take (k + 1) list) ≡ count_of p (take k list) =
            ap (count_of p) (take_more list k no_publication inside) ∙ count_of-push_other p (take k list) (publication_at list k) (λ e. apart (sym process_is ∙ e)) in
            subst (HasFirst (k + 1)) (sym (positions-other p order k apart)) (record { counted = so.counted ∙ sym counts; own = so.own })
      ])

-- the positions of a process's records in an order
pub HasOwnPositions-positions_of : (p : ℕ) (c : ClosingTerms) (order : List Numbered) (list : List Publication) → published_in c order ≡ list → AreRecords c order
    → HasOwnPositions p list (positions_of p order)
HasOwnPositions-positions_of p c order list are records =
    let size : length list ≡ length order = ap length (sym are) ∙ length-map order (λ (x : Numbered). publication_at (log_published c x.process) x.number) in
    let so = HasFirst-positions p order list (λ m within. ap (λ xs. (publication_at xs m).process) (sym are) ∙ process-published_in c order m records within) size
    (length order) (omega arith) in
    record {
      counted = so.counted ∙ ap (count_of p) (take_all (length order) list (omega (arith, size)));
      own = so.own;
    }
