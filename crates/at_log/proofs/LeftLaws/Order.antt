-- The own records and the requests of a process stay in order: in a longer list, with one more own record, and with one more request.
use Rattle.std.proofs.Common.{◌≡◌, ◌≢◌, ℕ, ◌+◌, ◌<◌, ◌≤◌, ◌⊎◌, ◌==◌, ◌&&◌, Bool, true, Some, List, [], ◌∷◌, ◌++◌, length, take, sym, ap, subst, ◌∙◌, arith, inl, inr}
use Rattle.at_log.proofs.Prelude.{and_from, cases_eq, cases_lt, eq-eqb, or_left, append-nil, get_or_append_left, get_or_at, length-append, take-take, take_all, list_any-append, count_by_more_yes, sum_by-take-le, count_by, list_any, slot_in, BookTerms, HasSlot, account_of, count_of-push_own, IsPrefix-take_mono, IsPrefix-trans, take-IsPrefix, take-IsPrefix-le, one_if, owns_of-IsPrefix, publication_at, request_at, is_own, settles, place, prefix_of, IsPrefix, count_of, no_publication, is_settled, owns_of, Publication, Request, AreInOrder, AreTwo, HasAskedFor, IsOwnAt}
use Rattle.at_log.proofs.LeftLaws.Keys.{publication_at-IsPrefix}

-- what is settled stays so
pub is_settled-IsPrefix : (a slot number : ℕ) (list more : List Publication) → IsPrefix list more → is_settled a slot number list ≡ true
    → is_settled a slot number more ≡ true
is_settled-IsPrefix a slot number list more before settled =
    let test : Publication → Bool = λ y. settles a slot number y.entry in
    ap (list_any test) before.1
    ∙ (list_any-append test list before.0 ∙ or_left (list_any test list) (list_any test before.0) settled)

-- a longer list begins with a list where so many of its first records are at least all of that list's
pub IsPrefix-take_from_le : (n : ℕ) (list more : List Publication) → IsPrefix list more → length list ≤ n → IsPrefix list (take n more)
IsPrefix-take_from_le n list more before enough =
    subst (λ t. IsPrefix t (take n more)) (take-IsPrefix list more before) (IsPrefix-take_mono (length list) n more enough)

-- so many of its first records begin with so many of the list's
pub IsPrefix-take_both : (n : ℕ) (list more : List Publication) → IsPrefix list more → IsPrefix (take n list) (take n more)
IsPrefix-take_both n list more before =
    elim (cases_lt n (length list)) as (λ _. IsPrefix (take n list) (take n more)) [
      | inl below ↦ ([], take-IsPrefix-le n list more (omega arith) before ∙ sym (append-nil (take n list)))
      | inr above ↦
          subst (λ t. IsPrefix t (take n more)) (sym (take_all n list above)) (IsPrefix-take_from_le n list more before above)
    ]

-- an own record of the process in a list that has no more of them than its beginning stands there
pub own-within : (p : ℕ) (list more : List Publication) (m : ℕ) → IsPrefix list more → owns_of p more ≡ owns_of p list → IsOwnAt p more m
    → m < length list
own-within p list more m before same at =
    let test : Publication → Bool = λ x. (x.process == p) && is_own x.entry in
    let f : Publication → ℕ = λ x. one_if (test x) in
    let yes : test (publication_at more m) ≡ true =
    and_from ((publication_at more m).process == p) (is_own (publication_at more m).entry)
    (eq-eqb (publication_at more m).process p at.process_is) at.own in
    elim (cases_lt m (length list)) as (λ _. m < length list) [
      | inl below ↦ below
      | inr above ↦
          absurd (omega (
            arith,
            same,
            count_by_more_yes test more m no_publication at.within yes,
            sum_by-take-le f more (m + 1),
            sum_by-take-le f (take m more) (length list),
            ap (count_by test) (take-take (length list) m more above),
            ap (count_by test) (take-IsPrefix list more before),
          ))
    ]

-- an own record of a list that begins with another stands in that one, if it is within
pub IsOwnAt-IsPrefix : (p : ℕ) (list more : List Publication) (m : ℕ) → IsPrefix list more → m < length list → IsOwnAt p more m → IsOwnAt p list m
IsOwnAt-IsPrefix p list more m before within at =
    let same : publication_at more m ≡ publication_at list m = publication_at-IsPrefix m list more before within in
    record {
      within = within;
      process_is = subst (λ (x : Publication). x.process ≡ p) same at.process_is;
      own = subst (λ (x : Publication). is_own x.entry ≡ true) same at.own;
    }

module _ (b : BookTerms) (p : ℕ) (list more : List Publication) (before : IsPrefix list more) where
  -- of an own record that stood before, what was settled at its view is
  is_settled-view : (a slot number m : ℕ) → m < length list
      → is_settled a slot number (prefix_of (publication_at list m).view list) ≡ true
      → is_settled a slot number (prefix_of (publication_at more m).view more) ≡ true
  is_settled-view a slot number m within settled =
      let same : publication_at more m ≡ publication_at list m = publication_at-IsPrefix m list more before within in
      ap (λ (x : Publication). is_settled a slot number (prefix_of x.view more)) same
      ∙ is_settled-IsPrefix a slot number (prefix_of (publication_at list m).view list) (prefix_of (publication_at list m).view more)
      (IsPrefix-take_both (place (publication_at list m).view) list more before) settled

  -- what was settled at a request's `since` is
  is_settled-since : (a slot number since : ℕ) → is_settled a slot number (take since list) ≡ true
      → is_settled a slot number (take since more) ≡ true
  is_settled-since a slot number since settled =
      is_settled-IsPrefix a slot number (take since list) (take since more) (IsPrefix-take_both since list more before) settled

  requests-IsPrefix : (rows : ℕ → ℕ → List Request) → AreInOrder b p list rows → (a slot number c place other : ℕ)
      → HasAskedFor b p rows a slot number → HasAskedFor b p rows c place other → AreTwo a number c other
      → (is_settled a slot number (take (request_at (rows c place) other).since more) ≡ true)
      ⊎ (is_settled c place other (take (request_at (rows a slot) number).since more) ≡ true)
  requests-IsPrefix rows order a slot number c place other one two apart =
      let first = (request_at (rows a slot) number).since in
      let second = (request_at (rows c place) other).since in
      elim (order.requests a slot number c place other one two apart) as
      (λ _. (is_settled a slot number (take second more) ≡ true) ⊎ (is_settled c place other (take first more) ≡ true)) [
        | inl early ↦ inl (is_settled-since a slot number second early)
        | inr late ↦ inr (is_settled-since c place other first late)
      ]

  -- in order in a longer list, where each own record there stood before or has a view that begins with all that stood, and then
  -- each request was settled
  pub AreInOrder-own : (rows : ℕ → ℕ → List Request)
      → ((m : ℕ) → IsOwnAt p more m → (m < length list) ⊎ (IsPrefix list (prefix_of (publication_at more m).view more)
      × ((a slot number : ℕ) → HasAskedFor b p rows a slot number → is_settled a slot number list ≡ true)))
      → AreInOrder b p list rows → AreInOrder b p more rows
  AreInOrder-own rows each order = record {
    owns = λ m a slot number own asked.
        let since = (request_at (rows a slot) number).since in
        let view = (publication_at more m).view in
        elim (each m own) as (λ _. (m < since) ⊎ (is_settled a slot number (prefix_of view more) ≡ true)) [
          | inl within ↦
              elim (order.owns m a slot number (IsOwnAt-IsPrefix p list more m before within own) asked) as
              (λ _. (m < since) ⊎ (is_settled a slot number (prefix_of view more) ≡ true)) [
                | inl early ↦ inl early
                | inr settled ↦ inr (is_settled-view a slot number m within settled)
              ]
          | inr new ↦ inr (is_settled-IsPrefix a slot number list (prefix_of view more) new.0 (new.1 a slot number asked))
        ];
    requests = requests-IsPrefix rows order;
  }

-- in order in a longer list that has no more own records
pub AreInOrder-IsPrefix : (b : BookTerms) (p : ℕ) (list more : List Publication) (rows : ℕ → ℕ → List Request) → IsPrefix list more
    → owns_of p more ≡ owns_of p list → AreInOrder b p list rows → AreInOrder b p more rows
AreInOrder-IsPrefix b p list more rows before same order =
    AreInOrder-own b p list more before rows (λ m own. inl (own-within p list more m before same own)) order

-- or no more records at all of the process
pub AreInOrder-count_of : (b : BookTerms) (p : ℕ) (list more : List Publication) (rows : ℕ → ℕ → List Request) → IsPrefix list more
    → count_of p more ≡ count_of p list → AreInOrder b p list rows → AreInOrder b p more rows
AreInOrder-count_of b p list more rows before same order =
    AreInOrder-IsPrefix b p list more rows before (owns_of-IsPrefix p list more before (sym same)) order

-- in order after an own record that was published with a view that begins with all that stood before, where each request is settled
pub AreInOrder-paid : (b : BookTerms) (p : ℕ) (list lead more : List Publication) (x : Publication) (rows : ℕ → ℕ → List Request)
    → IsPrefix list lead → more ≡ lead ++ x ∷ [] → x.process ≡ p → count_of p more ≡ count_of p list + 1
    → IsPrefix list (prefix_of x.view more)
    → ((a slot number : ℕ) → HasAskedFor b p rows a slot number → is_settled a slot number list ≡ true)
    → AreInOrder b p list rows → AreInOrder b p more rows
AreInOrder-paid b p list lead more x rows before is process counted begins settled order =
    let leads : IsPrefix lead more = (x ∷ [], is) in
    let pushed : count_of p (lead ++ x ∷ []) ≡ count_of p lead + 1 =
    subst (λ t. count_of t (lead ++ x ∷ []) ≡ count_of t lead + 1) process (count_of-push_own lead x) in
    let same : owns_of p lead ≡ owns_of p list =
    owns_of-IsPrefix p list lead before (omega (arith, counted, pushed, ap (count_of p) is)) in
    AreInOrder-own b p list more (IsPrefix-trans list lead more before leads) rows
    (λ m own.
    elim (cases_lt m (length lead)) as (λ _. (m < length list) ⊎ (IsPrefix list (prefix_of (publication_at more m).view more)
    × ((a slot number : ℕ) → HasAskedFor b p rows a slot number → is_settled a slot number list ≡ true))) [
      | inl within ↦ inl (own-within p list lead m before same (IsOwnAt-IsPrefix p lead more m leads within own))
      | inr past ↦
          let last : length lead ≡ m = omega (arith, past, own.within, ap length is, length-append lead (x ∷ [])) in
          let here : publication_at more m ≡ x = ap (λ t. publication_at t m) is ∙ get_or_at lead x [] no_publication m last in
          inr (subst (λ (y : Publication). IsPrefix list (prefix_of y.view more)) (sym here) begins, settled)
    ])
    order

-- the same rows, given otherwise: it is enough that they are the same where the process has its slots
pub AreInOrder-rows : (b : BookTerms) (p : ℕ) (list : List Publication) (rows now : ℕ → ℕ → List Request)
    → ((a slot : ℕ) → HasSlot b p a slot → now a slot ≡ rows a slot) → AreInOrder b p list rows → AreInOrder b p list now
AreInOrder-rows b p list rows now same order =
    let before : (a slot number : ℕ) → HasAskedFor b p now a slot number → HasAskedFor b p rows a slot number = λ a slot number asked.
    record {
      slot_in = asked.slot_in;
      within = omega (arith, asked.within, ap (λ (row : List Request). length row) (same a slot asked.slot_in));
    } in
    let back : (a slot number : ℕ) → HasSlot b p a slot → (request_at (rows a slot) number).since ≡ (request_at (now a slot) number).since =
    λ a slot number has. ap (λ row. (request_at row number).since) (sym (same a slot has)) in
    record {
      owns = λ m a slot number own asked.
          subst (λ since. (m < since) ⊎ (is_settled a slot number (prefix_of (publication_at list m).view list) ≡ true))
          (back a slot number asked.slot_in) (order.owns m a slot number own (before a slot number asked));
      requests = λ a slot number c place other one two apart.
          subst (λ since. (is_settled a slot number (take since list) ≡ true)
          ⊎ (is_settled c place other (take (request_at (now a slot) number).since list) ≡ true)) (back c place other two.slot_in)
          (subst (λ since. (is_settled a slot number (take (request_at (rows c place) other).since list) ≡ true)
          ⊎ (is_settled c place other (take since list) ≡ true)) (back a slot number one.slot_in)
          (order.requests a slot number c place other (before a slot number one) (before c place other two) apart));
    }

-- one more request

-- the process had asked for this before, with the same request
record IsOldRequest (b : BookTerms) (p : ℕ) (rows now : ℕ → ℕ → List Request) (c slot number : ℕ) : Type 0 where
  asked : HasAskedFor b p rows c slot number
  same : request_at (now c slot) number ≡ request_at (rows c slot) number

-- it is the new request, behind its row
record IsNewRequest (rows now : ℕ → ℕ → List Request) (a : ℕ) (r : Request) (c slot number : ℕ) : Type 0 where
  account : c ≡ a
  last : number ≡ length (rows c slot)
  is : request_at (now c slot) number ≡ r

old_or_new : (b : BookTerms) (p a : ℕ) (rows now : ℕ → ℕ → List Request) (r : Request) (c slot number : ℕ)
    → ((s : ℕ) → now a s ≡ rows a s ++ r ∷ []) → ((k s : ℕ) → k ≢ a → now k s ≡ rows k s) → HasAskedFor b p now c slot number
    → IsOldRequest b p rows now c slot number ⊎ IsNewRequest rows now a r c slot number
old_or_new b p a rows now r c slot number one elsewhere asked =
    elim (cases_eq c a) as (λ _. IsOldRequest b p rows now c slot number ⊎ IsNewRequest rows now a r c slot number) [
      | inl same ↦
          let row : now c slot ≡ rows c slot ++ r ∷ [] =
          subst (λ k. now k slot ≡ rows k slot ++ r ∷ []) (sym same) (one slot) in
          elim (cases_lt number (length (rows c slot))) as (λ _. IsOldRequest b p rows now c slot number ⊎ IsNewRequest rows now a r c slot number) [
            | inl below ↦
                inl (record {
                  asked = record { slot_in = asked.slot_in; within = below };
                  same = ap (λ row. request_at row number) row ∙ get_or_append_left (rows c slot) (r ∷ []) _ number below;
                })
            | inr above ↦
                let last : number ≡ length (rows c slot) =
                omega (arith, above, asked.within, ap length row, length-append (rows c slot) (r ∷ [])) in
                inr (record {
                  account = same;
                  last = last;
                  is = ap (λ row. request_at row number) row ∙ get_or_at (rows c slot) r [] _ number (sym last);
                })
          ]
      | inr apart ↦
          let row : now c slot ≡ rows c slot = elsewhere c slot apart in
          inl (record {
            asked = record { slot_in = asked.slot_in; within = omega (arith, asked.within, ap length row) };
            same = ap (λ row. request_at row number) row;
          })
    ]

-- the new request is one
not_two_new : (b : BookTerms) (p a : ℕ) (rows now : ℕ → ℕ → List Request) (r : Request) (c slot number d place other : ℕ) → HasSlot b p c slot
    → HasSlot b p d place → IsNewRequest rows now a r c slot number → IsNewRequest rows now a r d place other → AreTwo c number d other → ⊥
not_two_new b p a rows now r c slot number d place other mine theirs one two apart =
    let account : c ≡ d = one.account ∙ sym two.account in
    let slots : Some slot ≡ Some place = sym mine.owner ∙ (ap (λ k. slot_in (account_of b k) p) account ∙ theirs.owner) in
    let same : slot ≡ place = cc slots in
    apart (account, one.last ∙ ((λ t. length (rows (account t) (same t))) ∙ sym two.last))

-- in order after one more request, whose `since` counts all that stood before, where each earlier request is settled
pub AreInOrder-asked : (b : BookTerms) (p a : ℕ) (list more : List Publication) (rows now : ℕ → ℕ → List Request) (r : Request) → IsPrefix list more
    → owns_of p more ≡ owns_of p list → ((slot : ℕ) → now a slot ≡ rows a slot ++ r ∷ [])
    → ((c slot : ℕ) → c ≢ a → now c slot ≡ rows c slot) → length list ≤ r.since
    → ((c slot number : ℕ) → HasAskedFor b p rows c slot number → is_settled c slot number list ≡ true)
    → AreInOrder b p list rows → AreInOrder b p more now
AreInOrder-asked b p a list more rows now r before same one elsewhere late settled order =
    let later : AreInOrder b p more rows = AreInOrder-IsPrefix b p list more rows before same order in
    let cases : (c slot number : ℕ) → HasAskedFor b p now c slot number → IsOldRequest b p rows now c slot number ⊎ IsNewRequest rows now a r c slot number =
    λ c slot number asked. old_or_new b p a rows now r c slot number one elsewhere asked in
    let at_new : (c slot number d place other : ℕ) → IsOldRequest b p rows now c slot number → IsNewRequest rows now a r d place other
    → is_settled c slot number (take (request_at (now d place) other).since more) ≡ true =
    λ c slot number d place other old new.
    let enough : length list ≤ (request_at (now d place) other).since = omega (arith, late, ap (λ (t : Request). t.since) new.is) in
    is_settled-IsPrefix c slot number list (take (request_at (now d place) other).since more)
    (IsPrefix-take_from_le (request_at (now d place) other).since list more before enough) (settled c slot number old.asked) in
    record {
      owns = λ m c slot number own asked.
          let since = (request_at (now c slot) number).since in
          let view = (publication_at more m).view in
          elim (cases c slot number asked) as (λ _. (m < since) ⊎ (is_settled c slot number (prefix_of view more) ≡ true)) [
            | inl old ↦
                subst (λ (t : Request). (m < t.since) ⊎ (is_settled c slot number (prefix_of view more) ≡ true)) (sym old.same)
                (later.owns m c slot number own old.asked)
            | inr new ↦
                inl (omega (arith, own-within p list more m before same own, late, ap (λ (t : Request). t.since) new.is))
          ];
      requests = λ c slot number d place other first second apart.
          let settled_at : ℕ → ℕ → Type 0 = λ i j.
          (is_settled c slot number (take j more) ≡ true) ⊎ (is_settled d place other (take i more) ≡ true) in
          let one_since = (request_at (now c slot) number).since in
          let other_since = (request_at (now d place) other).since in
          elim (cases c slot number first) as (λ _. settled_at one_since other_since) [
            | inl old ↦ elim (cases d place other second) as (λ _. settled_at one_since other_since) [
              | inl too ↦
                  subst (λ (t : Request). settled_at one_since t.since) (sym too.same)
                  (subst (λ (t : Request). settled_at t.since (request_at (rows d place) other).since) (sym old.same)
                  (later.requests c slot number d place other old.asked too.asked apart))
              | inr new ↦ inl (at_new c slot number d place other old new)
            ]
            | inr new ↦ elim (cases d place other second) as (λ _. settled_at one_since other_since) [
              | inl old ↦ inr (at_new d place other c slot number old new)
              | inr too ↦ absurd (not_two_new b p a rows now r c slot number d place other first.slot_in second.slot_in new too apart)
            ]
          ];
    }
