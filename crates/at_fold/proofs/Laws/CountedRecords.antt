-- The records that are counted: which of each process, and how they change.
use Rattle.std.proofs.Common.{◌≡◌, ℕ, ◌+◌, ◌<◌, ◌≤◌, ◌==◌, zero, suc, true, List, [], ◌∷◌, ◌++◌, length, get_or, take, set, refl, sym, ap, subst, ◌∙◌, arith, inl, inr, ◌⊎◌, get_or-set_other, get_or-set_same, length-set}
use Rattle.at_fold.proofs.Prelude.{cases_eq, cases_lt, eqb-true, append-nil, length-take, take-append-le, take_more, length-flat_map, All-append, All-contains_itself, All-filter, All-get_or, All-head, All-tail, All-take, All-weaker, filter_passes, sum_by-cons, All, Contains, flat_map, range_with_len, sum_by, Covers, BookTerms, IsBook, log_room_of, get_or-counts, length-counts, publications_of-append, publications_of-nil, publications_of-other, publications_of-own, publications_of-take, get_or-IsCut, length-IsCut, sum-log_room_of, HasSameRecords, publication_at, IsCut, prefix_of, place, IsHistory, ArePublishedBy, IsPrefix, count_of, counts, no_publication, publications_of, Publication, counted_records}

-- each of them is the process's
pub publications_of-process : (p : ℕ) (xs : List Publication) → All (λ x. x.process ≡ p) (publications_of p xs)
unfolding publications_of
publications_of-process p xs =
    All-weaker (λ x. (x.process == p) ≡ true) (λ x. x.process ≡ p) (λ x e. eqb-true x.process p e)
    (publications_of p xs) (filter_passes (λ x. x.process == p) xs)

publications_of-all : (p : ℕ) (xs : List Publication) → All (λ x. x.process ≡ p) xs → publications_of p xs ≡ xs
publications_of-all p [] all = publications_of-nil p
publications_of-all p (x ∷ xs) all =
    let own = All-head (λ (y : Publication). y.process ≡ p) x xs all in
    subst (λ q. publications_of q (x ∷ xs) ≡ x ∷ publications_of q xs) own (publications_of-own x xs)
    ∙ ap (λ ys. x ∷ ys) (publications_of-all p xs (All-tail (λ (y : Publication). y.process ≡ p) x xs all))

publications_of-none : (p q : ℕ) (xs : List Publication) → (q ≡ p → ⊥) → All (λ x. x.process ≡ q) xs → publications_of p xs ≡ []
publications_of-none p q [] apart all = publications_of-nil p
publications_of-none p q (x ∷ xs) apart all =
    let other = All-head (λ (y : Publication). y.process ≡ q) x xs all in
    publications_of-other p x xs (λ e. apart (sym other ∙ e))
    ∙ publications_of-none p q xs apart (All-tail (λ (y : Publication). y.process ≡ q) x xs all)

-- the records of one process that are counted
abbrev pub part : List ℕ → List Publication → ℕ → List Publication
part upto list p = take (get_or upto p 0) (publications_of p list)

part-process : (upto : List ℕ) (list : List Publication) (p : ℕ) → All (λ x. x.process ≡ p) (part upto list p)
part-process upto list p =
    All-take (λ (x : Publication). x.process ≡ p) (get_or upto p 0) (publications_of p list) (publications_of-process p list)

parts-outside : (upto : List ℕ) (list : List Publication) (p a n : ℕ) → (p < a) ⊎ (a + n ≤ p)
    → publications_of p (flat_map (part upto list) (range_with_len a n)) ≡ []
parts-outside upto list p a zero outside = publications_of-nil p
parts-outside upto list p a (suc n) outside =
    let apart : a ≡ p → ⊥ = λ e. elim outside [ inl below ↦ omega arith | inr above ↦ omega arith ] in
    let rest = flat_map (part upto list) (range_with_len (a + 1) n) in
    publications_of-append p (part upto list a) rest
    ∙ (ap (λ t. t ++ publications_of p rest) (publications_of-none p a (part upto list a) apart (part-process upto list a))
    ∙ parts-outside upto list p (a + 1) n (elim outside as (λ _. (p < a + 1) ⊎ (a + 1 + n ≤ p)) [ inl below ↦ inl (omega arith) | inr above ↦ inr (omega arith) ]))

parts-inside : (upto : List ℕ) (list : List Publication) (p a n : ℕ) → a ≤ p → p < a + n
    → publications_of p (flat_map (part upto list) (range_with_len a n)) ≡ part upto list p
parts-inside upto list p a zero above below = absurd (omega arith)
parts-inside upto list p a (suc n) above below =
    let rest = flat_map (part upto list) (range_with_len (a + 1) n) in
    publications_of-append p (part upto list a) rest
    ∙ elim (cases_eq a p) as (λ _. publications_of p (part upto list a) ++ publications_of p rest ≡ part upto list p) [
      | inl same ↦
          ap (λ t. publications_of p (part upto list a) ++ t) (parts-outside upto list p (a + 1) n (inl (omega arith)))
          ∙ (append-nil (publications_of p (part upto list a))
          ∙ (subst (λ q. publications_of q (part upto list a) ≡ part upto list a) same (publications_of-all a (part upto list a) (part-process upto list a))
          ∙ ap (part upto list) same))
      | inr apart ↦
          ap (λ t. t ++ publications_of p rest) (publications_of-none p a (part upto list a) apart (part-process upto list a))
          ∙ parts-inside upto list p (a + 1) n (omega arith) (omega arith)
    ]

-- the counted records of a process are its first ones
pub publications_of-counted_records : (p : ℕ) (upto : List ℕ) (list : List Publication) → p < length upto
    → publications_of p (counted_records upto list) ≡ take (get_or upto p 0) (publications_of p list)
unfolding counted_records
publications_of-counted_records p upto list within = parts-inside upto list p 0 (length upto) (omega arith) (omega arith)

pub publications_of-counted_records_past : (p : ℕ) (upto : List ℕ) (list : List Publication) → length upto ≤ p
    → publications_of p (counted_records upto list) ≡ []
unfolding counted_records
publications_of-counted_records_past p upto list past = parts-outside upto list p 0 (length upto) (inr (omega arith))

-- lists with the counted records of each process have the same records
pub HasSameRecords-counted_records : (upto : List ℕ) (list xs : List Publication)
    → ((p : ℕ) → p < length upto → publications_of p xs ≡ take (get_or upto p 0) (publications_of p list))
    → ((p : ℕ) → length upto ≤ p → publications_of p xs ≡ [])
    → HasSameRecords xs (counted_records upto list)
HasSameRecords-counted_records upto list xs known past p =
    elim (cases_lt p (length upto)) as (λ _. publications_of p xs ≡ publications_of p (counted_records upto list)) [
      | inl below ↦ known p below ∙ sym (publications_of-counted_records p upto list below)
      | inr above ↦ past p above ∙ sym (publications_of-counted_records_past p upto list above)
    ]

-- one more record of a process
pub HasSameRecords-more : (upto : List ℕ) (list : List Publication) (p : ℕ) → p < length upto → get_or upto p 0 < count_of p list
    → HasSameRecords (counted_records upto list ++ publication_at (publications_of p list) (get_or upto p 0) ∷ [])
    (counted_records (set upto p (get_or upto p 0 + 1)) list)
HasSameRecords-more upto list p inside within =
    let u : ℕ = get_or upto p 0 in
    let x : Publication = publication_at (publications_of p list) u in
    let own : x.process ≡ p = All-get_or (λ (y : Publication). y.process ≡ p) (publications_of p list) u no_publication within (publications_of-process p list) in
    let sized : length (set upto p (u + 1)) ≡ length upto = length-set upto p (u + 1) in
    let split = λ (q : ℕ). publications_of-append q (counted_records upto list) (x ∷ []) in
    let other = λ (q : ℕ) (apart : q ≡ p → ⊥). publications_of-other q x [] (λ e. apart (sym e ∙ own)) ∙ publications_of-nil q in
    HasSameRecords-counted_records (set upto p (u + 1)) list (counted_records upto list ++ x ∷ [])
    (λ q known. elim (cases_eq q p) as (λ _. publications_of q (counted_records upto list ++ x ∷ []) ≡ take (get_or (set upto p (u + 1)) q 0) (publications_of q list)) [
      | inl same ↦
          subst (λ k. publications_of k (counted_records upto list ++ x ∷ []) ≡ take (get_or (set upto p (u + 1)) k 0) (publications_of k list)) (sym same)
          (split p
          ∙ (ap (λ t. t ++ publications_of p (x ∷ [])) (publications_of-counted_records p upto list inside)
          ∙ (ap (λ t. take u (publications_of p list) ++ t)
          (subst (λ k. publications_of k (x ∷ []) ≡ x ∷ publications_of k []) own (publications_of-own x []) ∙ ap (λ t. x ∷ t) (publications_of-nil p))
          ∙ (sym (take_more (publications_of p list) u no_publication within)
          ∙ ap (λ k. take k (publications_of p list)) (sym (get_or-set_same upto p (u + 1) 0 inside))))))
      | inr apart ↦
          split q
          ∙ (ap (λ t. publications_of q (counted_records upto list) ++ t) (other q apart)
          ∙ (append-nil (publications_of q (counted_records upto list))
          ∙ (publications_of-counted_records q upto list (omega (arith, known, sized))
          ∙ ap (λ k. take k (publications_of q list)) (sym (get_or-set_other upto p q (u + 1) 0 apart)))))
    ])
    (λ q past.
    let apart : q ≡ p → ⊥ = λ e. omega (arith, e, past, sized, inside) in
    split q
    ∙ (ap (λ t. publications_of q (counted_records upto list) ++ t) (other q apart)
    ∙ (append-nil (publications_of q (counted_records upto list)) ∙ publications_of-counted_records_past q upto list (omega (arith, past, sized)))))

-- a cut's prefix has the records that the cut counts
pub HasSameRecords-prefix_of : (n : ℕ) (view : List ℕ) (list : List Publication) → IsCut n view list → ArePublishedBy n list
    → HasSameRecords (prefix_of view list) (counted_records view list)
HasSameRecords-prefix_of n view list cut known =
    let sized = length-IsCut n view list cut in
    HasSameRecords-counted_records view list (prefix_of view list)
    (λ p within.
    publications_of-take p (place view) list
    ∙ ap (λ i. take i (publications_of p list)) (sym (get_or-IsCut n view list p cut (omega (arith, within, sized)))))
    (λ p past. nothing p (prefix_of view list) (All-take (λ (x : Publication). x.process < n) (place view) list known) (omega (arith, past, sized)))
  where
    nothing : (p : ℕ) (xs : List Publication) → All (λ x. x.process < n) xs → n ≤ p → publications_of p xs ≡ []
    nothing p [] all past = publications_of-nil p
    nothing p (x ∷ xs) all past =
        let here = All-head (λ (y : Publication). y.process < n) x xs all in
        publications_of-other p x xs (λ e. omega (arith, e, here, past)) ∙ nothing p xs (All-tail (λ (y : Publication). y.process < n) x xs all) past

-- a longer list has the same records there
pub counted_records-IsPrefix : (n : ℕ) (upto : List ℕ) (list more : List Publication) → length upto ≡ n → Covers (counts n list) upto → IsPrefix list more
    → counted_records upto more ≡ counted_records upto list
unfolding counted_records
counted_records-IsPrefix n upto list more sized covered (rest, longer) = parts_same 0 (length upto) (omega (arith, sized))
  where
    parts_same : (a k : ℕ) → a + k ≤ n → flat_map (part upto more) (range_with_len a k) ≡ flat_map (part upto list) (range_with_len a k)
    parts_same a zero within = refl
    parts_same a (suc k) within =
        let here : part upto more a ≡ part upto list a =
        ap (take (get_or upto a 0)) (ap (publications_of a) longer ∙ publications_of-append a list rest)
        ∙ take-append-le (get_or upto a 0) (publications_of a list) (publications_of a rest)
        (omega (arith, covered a (omega (arith, within, length-counts n list)), get_or-counts n list a 0 (omega (arith, within)))) in
        ap (λ t. t ++ flat_map (part upto more) (range_with_len (a + 1) k)) here
        ∙ ap (λ t. part upto list a ++ t) (parts_same (a + 1) k (omega (arith, within)))

-- the counted records are in the list
pub All-counted_records : (upto : List ℕ) (list : List Publication) → All (Contains list) (counted_records upto list)
unfolding counted_records publications_of
All-counted_records upto list = all_parts 0 (length upto)
  where
    all_parts : (a k : ℕ) → All (Contains list) (flat_map (part upto list) (range_with_len a k))
    all_parts a zero = λ i d within. absurd (omega (arith, within))
    all_parts a (suc k) =
        All-append (Contains list) (part upto list a) (flat_map (part upto list) (range_with_len (a + 1) k))
        (All-take (Contains list) (get_or upto a 0) (publications_of a list)
        (All-filter (λ x. x.process == a) (Contains list) list (All-contains_itself list)))
        (all_parts (a + 1) k)

-- there are no more of them than all logs have room for
pub length-counted_records-le : (b : BookTerms) (upto : List ℕ) (list : List Publication) → IsBook b → IsHistory b list → length upto ≡ b.processes
    → length (counted_records upto list) ≤ 131072
unfolding counted_records
length-counted_records-le b upto list book history sized =
    let fewer = terms_le 0 (length upto) (omega (arith, sized)) in
    omega (
      arith,
      length-flat_map (part upto list) (range_with_len 0 (length upto)),
      fewer,
      ap (λ n. sum_by (log_room_of b) (range_with_len 0 n)) sized,
      sum-log_room_of b book.begun,
    )
  where
    terms_le : (a k : ℕ) → a + k ≤ b.processes
        → sum_by (λ p. length (part upto list p)) (range_with_len a k) ≤ sum_by (log_room_of b) (range_with_len a k)
    terms_le a zero within = omega arith
    terms_le a (suc k) within =
        omega (
          arith,
          sum_by-cons (λ p. length (part upto list p)) a (range_with_len (a + 1) k),
          sum_by-cons (log_room_of b) a (range_with_len (a + 1) k),
          length-take (get_or upto a 0) (publications_of a list),
          history.room a (omega (arith, within)),
          terms_le (a + 1) k (omega (arith, within)),
        )
