-- No log grows past its room: a process has room for its own records, and publishes each round of an account once.
use Rattle.std.proofs.Common.{◌≡◌, ℕ, ◌+◌, ◌<◌, ◌≤◌, ◌==◌, ◌&&◌, zero, suc, ltb, Bool, true, false, List, [], ◌∷◌, ◌++◌, length, take, refl, sym, ap, subst, ◌∙◌, arith, inl, inr}
use Rattle.at_history.proofs.Prelude.{and_parts, cases_Bool, cases_eq, cases_lt, eq-eqb, eqb-true, le-ltb, lt-ltb, ltb-false, ltb-true, ne_eqb, take-take, take_all, length-filter_more, sum_by-le, sum_by_more, sum_by, no_account, rounds_room, rounds_room_of, BookTerms, account_of, log_room_of, publication_at, is_own, is_round_on, place, prefix_of, IsShownDecision, IsHistory, IsShownEntry, count_of, no_publication, publications_of, firsts, owns_of, repeats, rounds, HasView, IsSoundRound, Entry, Own, Round, Publication}
use Rattle.at_history.proofs.Laws.Counts.{count_of-take_more_own, count_of-take_mono, position-below_from_count}
use Rattle.at_history.proofs.Laws.Cuts.{get_or-IsCut}
use Rattle.at_history.proofs.Laws.Histories.{IsNextAtMost-IsHistory}
use Rattle.at_history.proofs.Laws.Prefixes.{take-publication_at}
use Rattle.at_history.proofs.Laws.Rounds.{IsInitial, IsNextAtMost, one_if, published, repeats-round, rounds-push_next, sum_by-firsts_repeat, rounds-take_mono}
use Rattle.at_history.proofs.Laws.RoundsDecided.{IsInitial-IsNextAtMost, place-HasView-le}
use Rattle.at_history.proofs.Laws.Sums.{sum_by-add}

-- whether a record is a process's, of a round of an account
abbrev rounds_by : ℕ → ℕ → Publication → ℕ
rounds_by p a x = one_if ((x.process == p) && is_round_on a x.entry)

-- a round's record adds the round, if it isn't there yet
rounds-IsShownEntry : (b : BookTerms) (p q a : ℕ) (v : List ℕ) (prefix ys : List Publication) (e : Entry) → ((c : ℕ) → IsInitial c ys)
    → IsNextAtMost ys e → IsShownEntry b p prefix e → is_round_on a e ≡ true → rounds a prefix < rounds a (ys ++ published q v e ∷ [])
rounds-IsShownEntry b p q a v prefix ys (Own from targets) initial next law on = cc on
rounds-IsShownEntry b p q a v prefix ys (Round c r d targets) initial next law on =
    let x = published q v (Round c r d targets) in
    let grown : rounds c prefix < rounds c (ys ++ x ∷ []) =
    elim (cases_Bool (repeats x (firsts ys))) as (λ _. rounds c prefix < rounds c (ys ++ x ∷ [])) [
      | inl again ↦
          let below = ltb-true r (rounds c ys) (sym (repeats-round q v c r d targets ys (initial c)) ∙ again) in
          omega (arith, law.0.next, below, sum_by-firsts_repeat (λ y. one_if (is_round_on c y.entry)) ys x again)
      | inr new ↦
          let at : rounds c ys ≡ r = omega (arith, next, ltb-false r (rounds c ys) (sym (repeats-round q v c r d targets ys (initial c)) ∙ new)) in
          omega (arith, law.0.next, at, rounds-push_next q v c r d targets ys (initial c) at)
    ] in
    subst (λ t. rounds t prefix < rounds t (ys ++ x ∷ [])) (eqb-true c a on) grown

-- the prefix of a record's view has all earlier records of its process
count_of-HasView : (b : BookTerms) (xs : List Publication) (m : ℕ) → IsHistory b xs → m < length xs
    → let x : Publication = publication_at xs m in count_of x.process (take (place x.view) xs) ≡ count_of x.process (take m xs)
count_of-HasView b xs m history within =
    let x : Publication = publication_at xs m in
    let view = history.views m within in
    let same = ap (count_of x.process) (take-take (place x.view) m xs (place-HasView-le b xs m history.views within)) in
    omega (arith, same, view.own, get_or-IsCut b.processes x.view (take m xs) x.process view.cut view.process)

-- where a prefix has all of a process's records in another one, it has a round of an account for each of those that are of its rounds
sum_by-rounds_by-le : (b : BookTerms) (xs : List Publication) (p a m j : ℕ) → IsHistory b xs → m ≤ length xs
    → count_of p (take m xs) ≤ count_of p (take j xs) → sum_by (rounds_by p a) (take m xs) ≤ rounds a (take j xs)
sum_by-rounds_by-le b xs p a zero j history within counted = omega arith
sum_by-rounds_by-le b xs p a (suc m) j history within counted =
    let x : Publication = publication_at xs m in
    let f : Publication → ℕ = rounds_by p a in
    let here : m < length xs = omega arith in
    let e : suc m ≡ m + 1 = omega arith in
    let more = ap (λ k. sum_by f (take k xs)) e ∙ sum_by_more f xs m no_publication here in
    let count = ap (λ k. count_of p (take k xs)) e in
    elim (cases_Bool ((x.process == p) && is_round_on a x.entry)) as (λ _. sum_by f (take (suc m) xs) ≤ rounds a (take j xs)) [
      | inl is ↦
          let parts = and_parts (x.process == p) (is_round_on a x.entry) is in
          let process : x.process ≡ p = eqb-true x.process p parts.0 in
          let seen = subst (λ t. count_of t (take (place x.view) xs) ≡ count_of t (take m xs)) process (count_of-HasView b xs m history here) in
          let earlier = sum_by-rounds_by-le b xs p a m (place x.view) history (omega arith) (omega (arith, seen)) in
          let grown = rounds-IsShownEntry b x.process x.process a x.view (prefix_of x.view xs) (take m xs) x.entry
          (IsInitial-IsNextAtMost xs m (λ i inside. IsNextAtMost-IsHistory b xs i history inside) (omega arith))
          (IsNextAtMost-IsHistory b xs m history here) (history.entries m here) parts.1 in
          let taken = ap (rounds a) (take-publication_at xs m here) in
          let own = count_of-take_more_own p m xs no_publication here process in
          let after : m < j = position-below_from_count p m j xs (omega (arith, counted, count, own)) in
          omega (arith, more, ap one_if is, earlier, grown, taken, rounds-take_mono a (m + 1) j xs (omega arith))
      | inr not ↦
          let rest = sum_by-rounds_by-le b xs p a m j history (omega arith) (omega (arith, counted, count_of-take_mono p m (suc m) xs (omega arith))) in
          omega (arith, more, ap one_if not, rest)
    ]

-- a round of an account that a process owns
rounds_room_of-IsShownEntry : (b : BookTerms) (p a : ℕ) (prefix xs : List Publication) (e : Entry) → IsShownEntry b p prefix e
    → IsShownDecision b xs e → is_round_on a e ≡ true → rounds a prefix < rounds_room_of b.request_room p (account_of b a)
rounds_room_of-IsShownEntry b p a prefix xs (Own from targets) law decision on = cc on
rounds_room_of-IsShownEntry b p a prefix xs (Round c r d targets) law decision on =
    let room : rounds c prefix < rounds_room_of b.request_room p (account_of b c) = rw law.0.owner (omega (arith, law.0.next, decision.room)) in
    subst (λ t. rounds t prefix < rounds_room_of b.request_room p (account_of b t)) (eqb-true c a on) room

-- a process has no more records of an account's rounds than there are rounds
sum_by-rounds_by-room : (b : BookTerms) (xs : List Publication) (p a m : ℕ) → IsHistory b xs → m ≤ length xs
    → sum_by (rounds_by p a) (take m xs) ≤ rounds_room_of b.request_room p (account_of b a)
sum_by-rounds_by-room b xs p a zero history within = omega arith
sum_by-rounds_by-room b xs p a (suc m) history within =
    let x : Publication = publication_at xs m in
    let f : Publication → ℕ = rounds_by p a in
    let room = rounds_room_of b.request_room p (account_of b a) in
    let here : m < length xs = omega arith in
    let e : suc m ≡ m + 1 = omega arith in
    let more = ap (λ k. sum_by f (take k xs)) e ∙ sum_by_more f xs m no_publication here in
    elim (cases_Bool ((x.process == p) && is_round_on a x.entry)) as (λ _. sum_by f (take (suc m) xs) ≤ room) [
      | inl is ↦
          let parts = and_parts (x.process == p) (is_round_on a x.entry) is in
          let process : x.process ≡ p = eqb-true x.process p parts.0 in
          let seen = subst (λ t. count_of t (take (place x.view) xs) ≡ count_of t (take m xs)) process (count_of-HasView b xs m history here) in
          let earlier = sum_by-rounds_by-le b xs p a m (place x.view) history (omega arith) (omega (arith, seen)) in
          let below = subst (λ t. rounds a (prefix_of x.view xs) < rounds_room_of b.request_room t (account_of b a)) process
          (rounds_room_of-IsShownEntry b x.process a (prefix_of x.view xs) xs x.entry (history.entries m here) (history.decisions m here) parts.1) in
          omega (arith, more, ap one_if is, earlier, below)
      | inr not ↦ omega (arith, more, ap one_if not, sum_by-rounds_by-room b xs p a m history (omega arith))
    ]

-- a process's record of a round of one of the first accounts
abbrev rounds_below : ℕ → ℕ → Publication → ℕ
rounds_below p zero x = 0
rounds_below p (suc k) x = rounds_below p k x + rounds_by p k x

rounds_below-rounds_by : (p k a : ℕ) (x : Publication) → a < k → rounds_by p a x ≤ rounds_below p k x
rounds_below-rounds_by p zero a x within = absurd (omega arith)
rounds_below-rounds_by p (suc k) a x within =
    elim (cases_eq a k) as (λ _. rounds_by p a x ≤ rounds_below p (suc k) x) [
      | inl same ↦ omega (arith, ap (λ t. rounds_by p t x) same)
      | inr other ↦ omega (arith, rounds_below-rounds_by p k a x (omega arith))
    ]

-- a record is an own one or of a round
one_if-process : (b : BookTerms) (p q : ℕ) (v : List ℕ) (prefix : List Publication) (e : Entry) → IsShownEntry b q prefix e
    → one_if (q == p) ≤ one_if ((q == p) && is_own e) + rounds_below p (length b.accounts) (published q v e)
one_if-process b p q v prefix (Own from targets) law = own (q == p) (rounds_below p (length b.accounts) (published q v (Own from targets)))
  where
    own : (t : Bool) (n : ℕ) → one_if t ≤ one_if (t && true) + n
    own true n = omega arith
    own false n = omega arith
one_if-process b p q v prefix (Round c r d targets) law =
    let x = published q v (Round c r d targets) in
    round (q == p) (c == c) (rounds_below p (length b.accounts) x) (eq-eqb c c refl) (rounds_below-rounds_by p (length b.accounts) c x law.0.account_in)
  where
    round : (t s : Bool) (n : ℕ) → s ≡ true → one_if (t && s) ≤ n → one_if t ≤ one_if (t && false) + n
    round true true n is less = omega (arith, less)
    round true false n is less = cc is
    round false s n is less = omega arith

-- a process's records are its own ones and those of rounds
count_of-owns_of : (b : BookTerms) (xs : List Publication) (p m : ℕ) → IsHistory b xs → m ≤ length xs
    → count_of p (take m xs) ≤ owns_of p (take m xs) + sum_by (rounds_below p (length b.accounts)) (take m xs)
unfolding publications_of
count_of-owns_of b xs p zero history within = omega arith
count_of-owns_of b xs p (suc m) history within =
    let x : Publication = publication_at xs m in
    let f : Publication → ℕ = λ y. one_if ((y.process == p) && is_own y.entry) in
    let g : Publication → ℕ = rounds_below p (length b.accounts) in
    let here : m < length xs = omega arith in
    let e : suc m ≡ m + 1 = omega arith in
    omega (
      arith,
      ap (λ k. count_of p (take k xs)) e ∙ length-filter_more (λ (y : Publication). y.process == p) xs m no_publication here,
      ap (λ k. sum_by f (take k xs)) e ∙ sum_by_more f xs m no_publication here,
      ap (λ k. sum_by g (take k xs)) e ∙ sum_by_more g xs m no_publication here,
      one_if-process b p x.process x.view (prefix_of x.view xs) x.entry (history.entries m here),
      count_of-owns_of b xs p m history (omega arith),
    )

-- where each account has room for its records, and one of them for one more, so have the first ones together
sum_by-rounds_below : (b : BookTerms) (xs : List Publication) (p c k : ℕ) → k ≤ length b.accounts
    → ((a : ℕ) → a < length b.accounts → sum_by (rounds_by p a) xs + one_if (c == a) ≤ rounds_room_of b.request_room p (account_of b a))
    → sum_by (rounds_below p k) xs + one_if (ltb c k) ≤ sum_by (rounds_room_of b.request_room p) (take k b.accounts)
sum_by-rounds_below b xs p c zero within each =
    omega (arith, sum_by-le (λ (y : Publication). 0) 0 xs (λ i d inside. omega arith), ap one_if (le-ltb c 0 (omega arith)))
sum_by-rounds_below b xs p c (suc k) within each =
    let room = rounds_room_of b.request_room p in
    let e : suc k ≡ k + 1 = omega arith in
    omega (
      arith,
      sum_by-add (rounds_below p k) (rounds_by p k) xs,
      sum_by-rounds_below b xs p c k (omega arith) each,
      each k (omega arith),
      ltb-suc c k,
      ap (λ n. sum_by room (take n b.accounts)) e ∙ sum_by_more room b.accounts k no_account (omega arith),
    )
  where
    ltb-suc : (c k : ℕ) → one_if (ltb c (suc k)) ≤ one_if (ltb c k) + one_if (c == k)
    ltb-suc c k = elim (cases_lt c (suc k)) as (λ _. one_if (ltb c (suc k)) ≤ one_if (ltb c k) + one_if (c == k)) [
      | inl below ↦ elim (cases_eq c k) as (λ _. one_if (ltb c (suc k)) ≤ one_if (ltb c k) + one_if (c == k)) [
        | inl same ↦ omega (arith, ap one_if (lt-ltb c (suc k) below), ap one_if (eq-eqb c k same))
        | inr apart ↦ omega (arith, ap one_if (lt-ltb c (suc k) below), ap one_if (lt-ltb c k (omega arith)))
      ]
      | inr above ↦ omega (arith, ap one_if (le-ltb c (suc k) above))
    ]

-- all of a process's records, where its records of each account's rounds have room
count_of-room : (b : BookTerms) (xs : List Publication) (p c : ℕ) → IsHistory b xs
    → ((a : ℕ) → a < length b.accounts → sum_by (rounds_by p a) xs + one_if (c == a) ≤ rounds_room_of b.request_room p (account_of b a))
    → count_of p xs + one_if (ltb c (length b.accounts)) ≤ owns_of p xs + sum_by (rounds_room_of b.request_room p) b.accounts
count_of-room b xs p c history each =
    let n = length b.accounts in
    let all : take (length xs) xs ≡ xs = take_all (length xs) xs (omega arith) in
    omega (
      arith,
      subst (λ t. count_of p t ≤ owns_of p t + sum_by (rounds_below p n) t) all (count_of-owns_of b xs p (length xs) history (omega arith)),
      sum_by-rounds_below b xs p c n (omega arith) each,
      ap (sum_by (rounds_room_of b.request_room p)) (take_all n b.accounts (omega arith)),
    )

-- each account's room, before a new record
sum_by-rounds_by-le_room : (b : BookTerms) (xs : List Publication) (p a : ℕ) → IsHistory b xs
    → sum_by (rounds_by p a) xs ≤ rounds_room_of b.request_room p (account_of b a)
sum_by-rounds_by-le_room b xs p a history =
    subst (λ t. sum_by (rounds_by p a) t ≤ rounds_room_of b.request_room p (account_of b a)) (take_all (length xs) xs (omega arith))
    (sum_by-rounds_by-room b xs p a (length xs) history (omega arith))

-- the log has room for an own record
pub count_of-own_room : (b : BookTerms) (xs : List Publication) (p : ℕ) → IsHistory b xs → owns_of p xs < b.own_room → count_of p xs < log_room_of b p
count_of-own_room b xs p history own =
    let n = length b.accounts in
    omega (arith, own, count_of-room b xs p n history (λ a within. omega (arith, sum_by-rounds_by-le_room b xs p a history, ap one_if (ne_eqb n a (λ e. omega arith)))))

-- and for a record of the next round of an account
pub count_of-round_room : (b : BookTerms) (xs : List Publication) (x : Publication) (c r : ℕ) → IsHistory b xs → HasView b xs x
    → IsSoundRound b x.process (prefix_of x.view xs) c r → r < rounds_room b.request_room (account_of b c)
    → count_of x.process xs < log_room_of b x.process
count_of-round_room b xs x c r history view sound room =
    let p = x.process in
    let n = length b.accounts in
    let all : take (length xs) xs ≡ xs = take_all (length xs) xs (omega arith) in
    let seen = get_or-IsCut b.processes x.view xs p view.cut view.process in
    let before = sum_by-rounds_by-le b xs p c (length xs) (place x.view) history (omega arith)
    (omega (arith, ap (count_of p) all, seen, view.own)) in
    let owned : r < rounds_room_of b.request_room p (account_of b c) = rw sound.owner room in
    let each : (a : ℕ) → a < n → sum_by (rounds_by p a) xs + one_if (c == a) ≤ rounds_room_of b.request_room p (account_of b a) =
    λ a within. elim (cases_eq c a) as (λ _. sum_by (rounds_by p a) xs + one_if (c == a) ≤ rounds_room_of b.request_room p (account_of b a)) [
      | inl same ↦
          let here : sum_by (rounds_by p c) xs + 1 ≤ rounds_room_of b.request_room p (account_of b c) =
          omega (arith, before, ap (sum_by (rounds_by p c)) all, sound.next, owned) in
          let there = subst (λ t. sum_by (rounds_by p t) xs + 1 ≤ rounds_room_of b.request_room p (account_of b t)) same here in
          omega (arith, there, ap one_if (eq-eqb c a same))
      | inr apart ↦ omega (arith, sum_by-rounds_by-le_room b xs p a history, ap one_if (ne_eqb c a apart))
    ] in
    omega (arith, history.own_room p, count_of-room b xs p c history each, ap one_if (lt-ltb c n sound.account_in))
