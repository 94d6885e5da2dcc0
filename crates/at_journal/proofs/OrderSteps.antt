-- The order of the publications, cut by cut.
use Rattle.std.proofs.Common.{◌≡◌, ℕ, ◌+◌, ◌-◌, ◌<◌, ◌≤◌, List, [], ◌++◌, length, map, get_or, replicate, sum, refl, sym, ap, subst, append-nil, ◌∷◌, ◌∙◌, arith, inl, inr}
use Rattle.at_journal.proofs.Prelude.{Contains, flat_map, range_with_len, cases_lt, length-map, length-replicate, map-append, All-append, Contains-get_or, get_or-map-range_with_len, get_or-range_with_len, length-map-range_with_len, length-range_with_len, map-range_with_len_more, BookTerms, get_or-zeros, publication_at, place, Publication, All-flat_map, flat_map-values, get_or-log_lengths, publication_key-above, publication_key-at_least, publication_key-le, publication_key-le_all, publication_key-mono, ClosingTerms, log_lengths, log_of, log_published, AreChained, held_cuts, journal_order, numbers_at, publication_key, published_at, AreNested, AreRecords, AreWithin, published_in, records_between, records_of_process, Numbered}
use Rattle.at_journal.proofs.KeyRuns.{flat_map-none}
use Rattle.at_journal.proofs.LineKeys.{filter-key, reach, reach-above, reach-below, reach-is, reach-le}
use Rattle.at_journal.proofs.OrderedLaws.{flat_map-range_more, flat_map-same}

-- how many records of a process have smaller keys
abbrev pub listed : ClosingTerms → ℕ → ℕ → ℕ
listed c k p = reach (publication_key c p) k (length (log_of c p))

sorted_keys : (c : ClosingTerms) (p : ℕ) → (i j : ℕ) → i ≤ j → j < length (log_of c p) → publication_key c p i ≤ publication_key c p j
sorted_keys c p i j before within = publication_key-mono c p i j before

-- those of a key come next
numbers_at-range : (c : ClosingTerms) (k p : ℕ) → numbers_at c k p ≡ range_with_len (listed c k p) (listed c (k + 1) p - listed c k p)
numbers_at-range c k p = filter-key (publication_key c p) k (length (log_of c p)) (sorted_keys c p)

-- a cut counts those with keys of at most its place
listed-cut : (c : ClosingTerms) (view : List ℕ) (p : ℕ) → AreWithin c → AreNested c → Contains (held_cuts c) view → p < length c.logs
    → listed c (place view + 1) p ≡ get_or view p 0
listed-cut c view p within nested held known =
    let logs : length (log_lengths c) ≡ length c.logs = length-map c.logs length in
    let b : BookTerms = record { processes = length c.logs; own_room = 0; request_room = 0; accounts = [] } in
    let chained : AreChained b c = record {
      sized = λ i d inside. (within (get_or (held_cuts c) i d) (Contains-get_or (held_cuts c) i d inside)).0;
      chain = nested;
      ends = λ other there. (within other there).1;
    } in
    reach-is (publication_key c p) (place view + 1) (length (log_of c p)) (get_or view p 0)
    (omega (arith, (within view held).1 p (omega (arith, known, logs)), get_or-log_lengths c p known))
    (λ i counted. omega (arith, publication_key-le c view p i held counted))
    (λ i beyond inside. omega (arith, publication_key-above b c view p i chained refl held known beyond inside))

-- no record has a key at which no cut stands
listed-none : (c : ClosingTerms) (k p : ℕ) → k < sum (log_lengths c) → ((view : List ℕ) → Contains (held_cuts c) view → place view ≡ k → ⊥)
    → listed c (k + 1) p ≡ listed c k p
listed-none c k p below none =
    let key : ℕ → ℕ = publication_key c p in
    let n = length (log_of c p) in
    reach-is key (k + 1) n (listed c k p) (reach-le key k n) (λ i first. omega (arith, reach-below key k n (sorted_keys c p) i first)) (λ i from within.
    let late : k ≤ key i = reach-above key k n (sorted_keys c p) i from within in
    publication_key-at_least c p i (k + 1) (omega (arith, below)) (λ view held counted.
    elim (cases_lt k (place view)) as (λ _. k + 1 ≤ place view) [
      | inl later ↦ omega (arith, later)
      | inr here ↦ absurd (none view held (omega (arith, here, late, publication_key-le c view p i held counted)))
    ]))

-- none has key 0, as a cut that counts a record has a place above it
listed-zero : (c : ClosingTerms) (p : ℕ) → listed c 0 p ≡ 0
listed-zero c p = reach-is (publication_key c p) 0 (length (log_of c p)) 0 (omega arith) (λ i below. absurd (omega (arith, below))) (λ i from within. omega arith)

-- all have keys of at most the number of all
listed-all : (c : ClosingTerms) (p : ℕ) → listed c (sum (log_lengths c) + 1) p ≡ length (log_of c p)
listed-all c p =
    let n = length (log_of c p) in
    reach-is (publication_key c p) (sum (log_lengths c) + 1) n n (omega arith) (λ i within. omega (arith, publication_key-le_all c p i))
    (λ i beyond within. absurd (omega (arith, beyond, within)))

-- one record more
pub records_of_process-more : (p from number : ℕ) → from ≤ number → records_of_process p from (number + 1) ≡ records_of_process p from number ++ record { process = p; number = number } ∷ []
records_of_process-more p from number before =
    let one : ℕ → Numbered = λ i. record { process = p; number = i } in
    let more : number + 1 - from ≡ (number - from) + 1 = omega (arith, before) in
    ap (λ n. map one (range_with_len from n)) more ∙ map-range_with_len_more one from (number - from) number (omega (arith, before))

-- the publications that records of a process name
published_in-records_of_process : (c : ClosingTerms) (p from to : ℕ)
    → map (λ (x : Numbered). publication_at (log_published c x.process) x.number) (records_of_process p from to) ≡ map (publication_at (log_published c p)) (range_with_len from (to - from))
published_in-records_of_process c p from to = numbers (range_with_len from (to - from))
  where
    numbers : (ks : List ℕ) → map (λ (x : Numbered). publication_at (log_published c x.process) x.number) (map (λ i. record { process = p; number = i }) ks)
        ≡ map (publication_at (log_published c p)) ks
    numbers [] = refl
    numbers (k ∷ ks) = ap (λ ys. publication_at (log_published c p) k ∷ ys) (numbers ks)

-- the records of a key
published_in-records_between : (c : ClosingTerms) (k : ℕ) (from to : ℕ → ℕ) → ((p : ℕ) → p < length c.logs → from p ≡ listed c k p)
    → ((p : ℕ) → p < length c.logs → to p ≡ listed c (k + 1) p) → published_in c (records_between (length c.logs) from to) ≡ published_at c k
published_in-records_between c k from to first next =
    let n = length c.logs in
    let named : Numbered → Publication = λ x. publication_at (log_published c x.process) x.number in
    sym (flat_map-values named (λ p. records_of_process p (from p) (to p)) (range_with_len 0 n))
    ∙ flat_map-same (λ p. map named (records_of_process p (from p) (to p))) (λ p. map (publication_at (log_published c p)) (numbers_at c k p)) 0 n
    (λ p low high.
    let known : p < n = omega (arith, high) in
    published_in-records_of_process c p (from p) (to p)
    ∙ ((λ t. map (publication_at (log_published c p)) (range_with_len (first p known t) (next p known t - first p known t)))
    ∙ ap (map (publication_at (log_published c p))) (sym (numbers_at-range c k p))))

-- they are records of their logs
AreRecords-records_between : (c : ClosingTerms) (from to : ℕ → ℕ) → ((p : ℕ) → p < length c.logs → to p ≤ length (log_of c p))
    → AreRecords c (records_between (length c.logs) from to)
AreRecords-records_between c from to within =
    let n = length c.logs in
    let IsRecord : Numbered → Type 0 = λ x. (x.process < n) × (x.number < length (log_of c x.process)) in
    All-flat_map IsRecord (λ p. records_of_process p (from p) (to p)) (range_with_len 0 n) (λ j d inside.
    let p = get_or (range_with_len 0 n) j d in
    let known : p < n = omega (arith, inside, length-range_with_len 0 n, get_or-range_with_len 0 n j d (omega (arith, inside, length-range_with_len 0 n))) in
    λ i e there.
    let one : ℕ → Numbered = λ m. record { process = p; number = m } in
    let few : i < to p - from p = omega (arith, there, length-map-range_with_len one (from p) (to p - from p)) in
    subst IsRecord (sym (get_or-map-range_with_len one (from p) (to p - from p) i (from p + i) e few (omega arith)))
    (known, omega (arith, few, within p known)))

-- the order up to a key, and how many records of each process it has
pub record HasOrder (c : ClosingTerms) (k : ℕ) (order : List Numbered) (counts : List ℕ) : Type 0 where
  pub published : published_in c order ≡ flat_map (published_at c) (range_with_len 0 k)
  pub records : AreRecords c order
  pub size : length counts ≡ length c.logs
  pub counted : (p : ℕ) → p < length c.logs → get_or counts p 0 ≡ listed c k p

pub HasOrder-zeros : (c : ClosingTerms) → HasOrder c 0 [] (replicate (length c.logs) 0)
HasOrder-zeros c = record {
  published = refl;
  records = λ i d within. absurd (omega (arith, within));
  size = length-replicate (length c.logs) 0;
  counted = λ p known. get_or-zeros (length c.logs) p ∙ sym (listed-zero c p);
}

-- the records of a key more
published_in-more : (c : ClosingTerms) (k : ℕ) (order more : List Numbered) → published_in c order ≡ flat_map (published_at c) (range_with_len 0 k)
    → published_in c more ≡ published_at c k → published_in c (order ++ more) ≡ flat_map (published_at c) (range_with_len 0 (k + 1))
published_in-more c k order more before at =
    map-append (λ (x : Numbered). publication_at (log_published c x.process) x.number) order more
    ∙ ((λ t. before t ++ at t) ∙ sym (flat_map-range_more (published_at c) k))

-- a cut at the next place gives those that it counts more
pub HasOrder-cut : (c : ClosingTerms) (k : ℕ) (order : List Numbered) (counts view : List ℕ) → AreWithin c → AreNested c
    → Contains (held_cuts c) view → place view ≡ k → HasOrder c k order counts
    → HasOrder c (k + 1) (order ++ records_between (length c.logs) (λ p. get_or counts p 0) (λ p. get_or view p 0)) view
HasOrder-cut c k order counts view within nested held at so =
    let from : ℕ → ℕ = λ p. get_or counts p 0 in
    let to : ℕ → ℕ = λ p. get_or view p 0 in
    let more = records_between (length c.logs) from to in
    let next : (p : ℕ) → p < length c.logs → get_or view p 0 ≡ listed c (k + 1) p =
    λ p known. sym (listed-cut c view p within nested held known) ∙ ap (λ m. listed c (m + 1) p) at in
    record {
      published = published_in-more c k order more so.published (published_in-records_between c k from to so.counted next);
      records = All-append (λ x. (x.process < length c.logs) × (x.number < length (log_of c x.process))) order more so.records
          (AreRecords-records_between c from to
          (λ p known. omega (arith, next p known, reach-le (publication_key c p) (k + 1) (length (log_of c p)))));
      size = (within view held).0;
      counted = next;
    }

-- where no cut stands nothing comes
pub HasOrder-none : (c : ClosingTerms) (k : ℕ) (order : List Numbered) (counts : List ℕ) → k < sum (log_lengths c)
    → ((view : List ℕ) → Contains (held_cuts c) view → place view ≡ k → ⊥) → HasOrder c k order counts → HasOrder c (k + 1) order counts
HasOrder-none c k order counts below none so =
    let n = length c.logs in
    let same : (p : ℕ) → listed c (k + 1) p ≡ listed c k p = λ p. listed-none c k p below none in
    let nothing : published_at c k ≡ [] =
    flat_map-none (λ p. map (publication_at (log_published c p)) (numbers_at c k p)) 0 n (λ p from to.
    let zero_more : listed c (k + 1) p - listed c k p ≡ 0 = omega (arith, same p) in
    ap (map (publication_at (log_published c p))) (numbers_at-range c k p ∙ ap (range_with_len (listed c k p)) zero_more)) in
    record {
      published = so.published
          ∙ (sym (append-nil (flat_map (published_at c) (range_with_len 0 k)))
          ∙ (ap (λ ys. flat_map (published_at c) (range_with_len 0 k) ++ ys) (sym nothing) ∙ sym (flat_map-range_more (published_at c) k)));
      records = so.records;
      size = so.size;
      counted = λ p known. so.counted p known ∙ sym (same p);
    }

-- and the rest comes last
pub published_in-last : (c : ClosingTerms) (order : List Numbered) (counts : List ℕ) → HasOrder c (sum (log_lengths c)) order counts
    → published_in c (order ++ records_between (length c.logs) (λ p. get_or counts p 0) (λ p. length (log_of c p))) ≡ journal_order c
unfolding journal_order
published_in-last c order counts so =
    let from : ℕ → ℕ = λ p. get_or counts p 0 in
    let to : ℕ → ℕ = λ p. length (log_of c p) in
    published_in-more c (sum (log_lengths c)) order (records_between (length c.logs) from to) so.published
    (published_in-records_between c (sum (log_lengths c)) from to so.counted (λ p known. sym (listed-all c p)))

pub AreRecords-last : (c : ClosingTerms) (k : ℕ) (order : List Numbered) (counts : List ℕ) → HasOrder c k order counts
    → AreRecords c (order ++ records_between (length c.logs) (λ p. get_or counts p 0) (λ p. length (log_of c p)))
AreRecords-last c k order counts so =
    let from : ℕ → ℕ = λ p. get_or counts p 0 in
    let to : ℕ → ℕ = λ p. length (log_of c p) in
    All-append (λ x. (x.process < length c.logs) × (x.number < length (log_of c x.process))) order (records_between (length c.logs) from to) so.records
    (AreRecords-records_between c from to (λ p known. omega arith))
