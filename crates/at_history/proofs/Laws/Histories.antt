-- Histories: a sound state's list is one. Where one of its requests is unsettled, its account has room for one more round.
use Rattle.std.proofs.Common.{◌≡◌, ℕ, ◌+◌, ◌*◌, ◌-◌, ◌<◌, ◌≤◌, ◌==◌, ◌&&◌, ◌||◌, zero, suc, ltb, Bool, true, false, List, [], ◌∷◌, ◌++◌, length, take, refl, sym, ap, subst, ◌∙◌, arith, inl, inr, ◌↔◌}
use Rattle.at_history.proofs.Prelude.{and_from, and_parts, cases_Bool, cases_eq, cases_lt, eq-eqb, eqb-true, le-ltb, lt-ltb, ltb-false, ne_eqb, or_left, or_right, get_or-take, get_or_default, length-take, All-from_get_or, Any-from_list_any, list_any_more, sum_by-le, list_any, sum_by, Decision, rounds_room, slots_of, BookTerms, account_of, IsBegun, log_room_of, amount_of, IsCovered, publication_at, BoardState, decision_at, request_at, is_round_on, names, settles, place, prefix_of, IsShownDecision, IsHistory, IsShownEntry, AgreeOnRound, no_publication, ArePublishedBy, count_of, firsts, is_settled, named, repeats, rounds, AreTargets, IsSoundDecision, IsSoundEntry, Sound, Entry, Own, Round, Publication}
use Rattle.at_history.proofs.Laws.Counts.{position_of}
use Rattle.at_history.proofs.Laws.HasRuns.{HasRuns-Sound}
use Rattle.at_history.proofs.Laws.Prefixes.{take-publication_at}
use Rattle.at_history.proofs.Laws.Rooms.{rounds_room-slots_of, length-ArePublishedBy}
use Rattle.at_history.proofs.Laws.Rounds.{IsInitial, IsNextAtMost, firsts-nil, one_if, published, repeats-round, sum_by-firsts_new, sum_by-firsts_repeat, sum_by-firsts-take_mono, rounds-take_mono}
use Rattle.at_history.proofs.Laws.RoundsDecided.{IsInitial-IsNextAtMost, place-HasView-le, ArePublishedBy-HasRuns, AreDecided-take, decided_for}
use Rattle.at_history.proofs.Laws.Runs.{AreRuns-HasRuns}
use Rattle.at_history.proofs.Laws.Sums.{sum_by-add}

-- a weight that is nowhere larger grows no more, with one more publication
sum_by-firsts_less : (f g : Publication → ℕ) (xs : List Publication) (x : Publication) → f x ≤ g x
    → sum_by f (firsts (xs ++ x ∷ [])) + sum_by g (firsts xs) ≤ sum_by f (firsts xs) + sum_by g (firsts (xs ++ x ∷ []))
sum_by-firsts_less f g xs x less =
    elim (cases_Bool (repeats x (firsts xs))) as (λ _. sum_by f (firsts (xs ++ x ∷ [])) + sum_by g (firsts xs) ≤ sum_by f (firsts xs) + sum_by g (firsts (xs ++ x ∷ []))) [
      | inl again ↦ omega (arith, sum_by-firsts_repeat f xs x again, sum_by-firsts_repeat g xs x again)
      | inr new ↦ omega (arith, sum_by-firsts_new f xs x new, sum_by-firsts_new g xs x new)
    ]

sum_by-firsts-take_less_add : (f g : Publication → ℕ) (xs : List Publication) (m n : ℕ) → m + n ≤ length xs
    → ((i : ℕ) → i < length xs → f (publication_at xs i) ≤ g (publication_at xs i))
    → sum_by f (firsts (take (m + n) xs)) + sum_by g (firsts (take m xs)) ≤ sum_by f (firsts (take m xs)) + sum_by g (firsts (take (m + n) xs))
sum_by-firsts-take_less_add f g xs m zero within less =
    let e : m + zero ≡ m = omega arith in
    omega (arith, ap (λ k. sum_by f (firsts (take k xs))) e, ap (λ k. sum_by g (firsts (take k xs))) e)
sum_by-firsts-take_less_add f g xs m (suc n) within less =
    let e : m + suc n ≡ m + n + 1 = omega arith in
    let more = take-publication_at xs (m + n) (omega arith) in
    omega (
      arith,
      ap (λ k. sum_by f (firsts (take k xs))) e,
      ap (λ k. sum_by g (firsts (take k xs))) e,
      ap (λ t. sum_by f (firsts t)) more,
      ap (λ t. sum_by g (firsts t)) more,
      sum_by-firsts_less f g (take (m + n) xs) (publication_at xs (m + n)) (less (m + n) (omega arith)),
      sum_by-firsts-take_less_add f g xs m n (omega arith) less,
    )

-- and between two prefixes
sum_by-firsts-take_less : (f g : Publication → ℕ) (xs : List Publication) (m k : ℕ) → m ≤ k → k ≤ length xs
    → ((i : ℕ) → i < length xs → f (publication_at xs i) ≤ g (publication_at xs i))
    → sum_by f (firsts (take k xs)) + sum_by g (firsts (take m xs)) ≤ sum_by f (firsts (take m xs)) + sum_by g (firsts (take k xs))
sum_by-firsts-take_less f g xs m k before within less =
    let e : m + (k - m) ≡ k = omega arith in
    omega (
      arith,
      sum_by-firsts-take_less_add f g xs m (k - m) (omega arith) less,
      ap (λ t. sum_by f (firsts (take t xs))) e,
      ap (λ t. sum_by g (firsts (take t xs))) e,
    )

-- an entry that names a slot is of a round
names-is_round_on : (a slot : ℕ) (e : Entry) → one_if (names a slot e) ≤ one_if (is_round_on a e)
names-is_round_on a slot (Own from targets) = omega arith
names-is_round_on a slot (Round account round d targets) = and_less (account == a) (d.slot == slot)
  where
    and_less : (s t : Bool) → one_if (s && t) ≤ one_if s
    and_less true true = omega arith
    and_less true false = omega arith
    and_less false t = omega arith

named-rounds_between : (a slot m k : ℕ) (xs : List Publication) → m ≤ k → k ≤ length xs → rounds a (take m xs) ≡ rounds a (take k xs)
    → named a slot (take m xs) ≡ named a slot (take k xs)
named-rounds_between a slot m k xs before within same =
    let f : Publication → ℕ = λ y. one_if (names a slot y.entry) in
    let g : Publication → ℕ = λ y. one_if (is_round_on a y.entry) in
    omega (
      arith,
      sum_by-firsts-take_less f g xs m k before within (λ i inside. names-is_round_on a slot (publication_at xs i).entry),
      sum_by-firsts-take_mono f xs m k before,
      same,
    )

-- where as many rounds of an account stand, as many name a slot
pub named-rounds : (a slot m k : ℕ) (xs : List Publication) → m ≤ length xs → k ≤ length xs → rounds a (take m xs) ≡ rounds a (take k xs)
    → named a slot (take m xs) ≡ named a slot (take k xs)
named-rounds a slot m k xs one other same =
    elim (cases_lt m k) as (λ _. named a slot (take m xs) ≡ named a slot (take k xs)) [
      | inl below ↦ named-rounds_between a slot m k xs (omega arith) other same
      | inr above ↦ sym (named-rounds_between a slot k m xs above one (sym same))
    ]

-- the rounds of a history

IsNextAtMost-IsShownEntry : (b : BookTerms) (p : ℕ) (prefix xs : List Publication) (e : Entry) → IsShownEntry b p prefix e
    → ((a : ℕ) → rounds a prefix ≤ rounds a xs) → IsNextAtMost xs e
IsNextAtMost-IsShownEntry b p prefix xs (Own from targets) law more = tt
IsNextAtMost-IsShownEntry b p prefix xs (Round a r d targets) law more = omega (arith, more a, law.0.next)

pub IsNextAtMost-IsHistory : (b : BookTerms) (xs : List Publication) (m : ℕ) → IsHistory b xs → m < length xs
    → IsNextAtMost (take m xs) (publication_at xs m).entry
IsNextAtMost-IsHistory b xs m history within =
    let x : Publication = publication_at xs m in
    IsNextAtMost-IsShownEntry b x.process (prefix_of x.view xs) (take m xs) x.entry (history.entries m within)
    (λ a. rounds-take_mono a (place x.view) m xs (place-HasView-le b xs m history.views within))

-- a new record of a round settles the next request of its slot
settles-new : (b : BookTerms) (xs : List Publication) (m a slot p : ℕ) (v : List ℕ) (e : Entry) → m ≤ length xs
    → ((c : ℕ) → IsInitial c (take m xs)) → IsNextAtMost (take m xs) e → IsShownDecision b xs e
    → repeats (published p v e) (firsts (take m xs)) ≡ false → names a slot e ≡ true
    → settles a slot (named a slot (take m xs)) e ≡ true
settles-new b xs m a slot p v (Own from targets) within initial next law new is = cc is
settles-new b xs m a slot p v (Round c r d targets) within initial next law new is =
    let n = named a slot (take m xs) in
    let parts = and_parts (c == a) (d.slot == slot) is in
    let account : c ≡ a = eqb-true c a parts.0 in
    let slot_is : d.slot ≡ slot = eqb-true d.slot slot parts.1 in
    let at : rounds c (take m xs) ≡ r =
    omega (arith, next, ltb-false r (rounds c (take m xs)) (sym (repeats-round p v c r d targets (take m xs) (initial c)) ∙ new)) in
    let same : named c d.slot (take m xs) ≡ n = λ i. named (account i) (slot_is i) (take m xs) in
    let number : d.number ≡ n = sym law.number ∙ (named-rounds c d.slot d.place m xs law.place within (law.next ∙ sym at) ∙ same) in
    and_from (c == a) ((d.slot == slot) && (d.number == n)) parts.0
    (and_from (d.slot == slot) (d.number == n) parts.1 (eq-eqb d.number n number))

-- the rounds that name a slot settle its first requests
pub is_settled-named : (b : BookTerms) (xs : List Publication) (m a slot number : ℕ) → IsHistory b xs → m ≤ length xs
    → number < named a slot (take m xs) → is_settled a slot number (take m xs) ≡ true
is_settled-named b xs zero a slot number history within below =
    absurd (omega (arith, below, ap (sum_by (λ (y : Publication). one_if (names a slot y.entry))) firsts-nil))
is_settled-named b xs (suc m) a slot number history within below =
    let x : Publication = publication_at xs m in
    let f : Publication → ℕ = λ y. one_if (names a slot y.entry) in
    let test : Publication → Bool = λ y. settles a slot number y.entry in
    let e : suc m ≡ m + 1 = omega arith in
    let counted = ap (λ k. sum_by f (firsts (take k xs))) e ∙ ap (λ t. sum_by f (firsts t)) (take-publication_at xs m (omega arith)) in
    let settled : is_settled a slot number (take (suc m) xs) ≡ (list_any test (take m xs) || test x) =
    ap (λ k. list_any test (take k xs)) e ∙ list_any_more test xs m no_publication (omega arith) in
    elim (cases_lt number (named a slot (take m xs))) as (λ _. is_settled a slot number (take (suc m) xs) ≡ true) [
      | inl early ↦ settled ∙ or_left (list_any test (take m xs)) (test x) (is_settled-named b xs m a slot number history (omega arith) early)
      | inr late ↦ elim (cases_Bool (repeats x (firsts (take m xs)))) as (λ _. is_settled a slot number (take (suc m) xs) ≡ true) [
        | inl again ↦ absurd (omega (arith, below, late, counted, sum_by-firsts_repeat f (take m xs) x again))
        | inr new ↦ elim (cases_Bool (names a slot x.entry)) as (λ _. is_settled a slot number (take (suc m) xs) ≡ true) [
          | inl on ↦
              let here : named a slot (take m xs) ≡ number = omega (arith, below, late, counted, sum_by-firsts_new f (take m xs) x new, ap one_if on) in
              let next : settles a slot (named a slot (take m xs)) x.entry ≡ true =
              settles-new b xs m a slot x.process x.view x.entry (omega arith)
              (IsInitial-IsNextAtMost xs m (λ i inside. IsNextAtMost-IsHistory b xs i history inside) (omega arith))
              (IsNextAtMost-IsHistory b xs m history (omega arith)) (history.decisions m (omega arith)) new on in
              settled ∙ or_right (list_any test (take m xs)) (test x) (subst (λ j. settles a slot j x.entry ≡ true) here next)
          | inr off ↦ absurd (omega (arith, below, late, counted, sum_by-firsts_new f (take m xs) x new, ap one_if off))
        ]
      ]
    ]

number-settles : (b : BookTerms) (xs : List Publication) (e : Entry) (a slot number : ℕ) → IsShownDecision b xs e → settles a slot number e ≡ true
    → number < b.request_room
number-settles b xs (Own from targets) a slot number law is = cc is
number-settles b xs (Round account round d targets) a slot number law is =
    let parts = and_parts (account == a) ((d.slot == slot) && (d.number == number)) is in
    let names = and_parts (d.slot == slot) (d.number == number) parts.1 in
    omega (arith, law.number_in, eqb-true d.number number names.1)

-- the board has room for a settled request
number-is_settled : (b : BookTerms) (xs : List Publication) (m a slot number : ℕ) → IsHistory b xs → is_settled a slot number (take m xs) ≡ true
    → number < b.request_room
number-is_settled b xs m a slot number history settled =
    let found = Any-from_list_any (λ (y : Publication). settles a slot number y.entry) (take m xs) settled in
    let i = found.0 in
    let inside : (i < m) × (i < length xs) = (omega (arith, found.2, length-take m xs), omega (arith, found.2, length-take m xs)) in
    let x : Publication = publication_at xs i in
    let here : found.1 ≡ x = sym found.3 ∙ (get_or-take m xs i found.1 inside.0 ∙ get_or_default xs i found.1 no_publication inside.1) in
    number-settles b xs x.entry a slot number (history.decisions i inside.1)
    (subst (λ (y : Publication). settles a slot number y.entry ≡ true) here found.4)

-- so no more rounds name a slot than there is room for
pub named-le : (b : BookTerms) (xs : List Publication) (m a slot : ℕ) → IsHistory b xs → m ≤ length xs → named a slot (take m xs) ≤ b.request_room
named-le b xs m a slot history within =
    elim (cases_lt b.request_room (named a slot (take m xs))) as (λ _. named a slot (take m xs) ≤ b.request_room) [
      | inl past ↦
          absurd (omega (
            arith,
            number-is_settled b xs m a slot b.request_room history (is_settled-named b xs m a slot b.request_room history within past),
          ))
      | inr fits ↦ fits
    ]

-- and no more than the number of a request of the slot that is unsettled
pub named-unsettled : (b : BookTerms) (xs : List Publication) (m a slot number : ℕ) → IsHistory b xs → m ≤ length xs
    → is_settled a slot number (take m xs) ≡ false → named a slot (take m xs) ≤ number
named-unsettled b xs m a slot number history within unsettled =
    elim (cases_lt number (named a slot (take m xs))) as (λ _. named a slot (take m xs) ≤ number) [
      | inl past ↦
          let both : true ≡ false = sym (is_settled-named b xs m a slot number history within past) ∙ unsettled in absurd (cc both)
      | inr fits ↦ fits
    ]

-- how many of the first slots an entry names
abbrev named_slots : ℕ → ℕ → Entry → ℕ
named_slots a zero e = 0
named_slots a (suc k) e = named_slots a k e + one_if (names a k e)

named_slots-names : (a k slot : ℕ) (e : Entry) → slot < k → one_if (names a slot e) ≤ named_slots a k e
named_slots-names a zero slot e within = absurd (omega arith)
named_slots-names a (suc k) slot e within =
    elim (cases_eq slot k) as (λ _. one_if (names a slot e) ≤ named_slots a (suc k) e) [
      | inl same ↦ omega (arith, ap (λ s. one_if (names a s e)) same)
      | inr other ↦ omega (arith, named_slots-names a k slot e (omega arith))
    ]

-- a round names one of the account's slots
is_round_on-named_slots : (b : BookTerms) (p : ℕ) (prefix : List Publication) (e : Entry) (a : ℕ) → IsShownEntry b p prefix e
    → one_if (is_round_on a e) ≤ named_slots a (slots_of (account_of b a)) e
is_round_on-named_slots b p prefix (Own from targets) a law = omega arith
is_round_on-named_slots b p prefix (Round c r d targets) a law =
    let e : Entry = Round c r d targets in
    let k = slots_of (account_of b a) in
    elim (cases_eq c a) as (λ _. one_if (c == a) ≤ named_slots a k e) [
      | inl same ↦
          let within : d.slot < k = subst (λ t. d.slot < slots_of (account_of b t)) same law.3 in
          let on = eq-eqb c a same in
          let names_it : names a d.slot e ≡ true = and_from (c == a) (d.slot == d.slot) on (eq-eqb d.slot d.slot refl) in
          omega (arith, named_slots-names a k d.slot e within, ap one_if on, ap one_if names_it)
      | inr apart ↦ omega (arith, ap one_if (ne_eqb c a apart))
    ]

-- where each slot is named at most so often, and one of them less often, so are the first ones together
sum_by-named_slots : (a k slot q : ℕ) (ys : List Publication) → ((s : ℕ) → sum_by (λ y. one_if (names a s y.entry)) ys + one_if (slot == s) ≤ q)
    → sum_by (λ y. named_slots a k y.entry) ys + one_if (ltb slot k) ≤ k * q
sum_by-named_slots a zero slot q ys each =
    omega (arith, sum_by-le (λ (y : Publication). 0) 0 ys (λ i d within. omega arith), ap one_if (le-ltb slot 0 (omega arith)))
sum_by-named_slots a (suc k) slot q ys each =
    let split = sum_by-add (λ (y : Publication). named_slots a k y.entry) (λ y. one_if (names a k y.entry)) ys in
    let rest = sum_by-named_slots a k slot q ys each in
    omega (arith, split, rest, each k, one_more slot k)
  where
    one_more : (slot k : ℕ) → one_if (ltb slot (suc k)) ≤ one_if (ltb slot k) + one_if (slot == k)
    one_more slot k = elim (cases_lt slot (suc k)) as (λ _. one_if (ltb slot (suc k)) ≤ one_if (ltb slot k) + one_if (slot == k)) [
      | inl below ↦ elim (cases_eq slot k) as (λ _. one_if (ltb slot (suc k)) ≤ one_if (ltb slot k) + one_if (slot == k)) [
        | inl same ↦ omega (arith, ap one_if (lt-ltb slot (suc k) below), ap one_if (eq-eqb slot k same))
        | inr apart ↦ omega (arith, ap one_if (lt-ltb slot (suc k) below), ap one_if (lt-ltb slot k (omega arith)))
      ]
      | inr above ↦ omega (arith, ap one_if (le-ltb slot (suc k) above))
    ]

-- where a request is unsettled, not all rounds of its account stand
pub rounds-unsettled : (b : BookTerms) (xs : List Publication) (m a slot number : ℕ) → IsHistory b xs → m ≤ length xs
    → slot < slots_of (account_of b a) → number < b.request_room → is_settled a slot number (take m xs) ≡ false
    → rounds a (take m xs) < rounds_room b.request_room (account_of b a)
rounds-unsettled b xs m a slot number history within slot_in number_in unsettled =
    let k = slots_of (account_of b a) in
    let q = b.request_room in
    let f : Publication → ℕ = λ y. one_if (is_round_on a y.entry) in
    let g : Publication → ℕ = λ y. named_slots a k y.entry in
    let all = sum_by-firsts-take_less f g xs 0 m (omega arith) within (λ i inside.
    let x : Publication = publication_at xs i in
    is_round_on-named_slots b x.process (prefix_of x.view xs) x.entry a (history.entries i inside)) in
    let each : (s : ℕ) → named a s (take m xs) + one_if (slot == s) ≤ q = λ s.
    elim (cases_eq slot s) as (λ _. named a s (take m xs) + one_if (slot == s) ≤ q) [
      | inl same ↦
          let fewer = subst (λ t. named a t (take m xs) ≤ number) same (named-unsettled b xs m a slot number history within unsettled) in
          omega (arith, fewer, number_in, ap one_if (eq-eqb slot s same))
      | inr apart ↦ omega (arith, named-le b xs m a s history within, ap one_if (ne_eqb slot s apart))
    ] in
    omega (
      arith,
      all,
      ap (sum_by f) firsts-nil,
      ap (sum_by g) firsts-nil,
      sum_by-named_slots a k slot q (firsts (take m xs)) each,
      ap one_if (lt-ltb slot k slot_in),
      rounds_room-slots_of q (account_of b a),
    )

-- each publication of a history is of a process of the book
pub ArePublishedBy-IsHistory : (b : BookTerms) (list : List Publication) → IsHistory b list → ArePublishedBy b.processes list
ArePublishedBy-IsHistory b list history =
    All-from_get_or (λ x. x.process < b.processes) list no_publication (λ i within. (history.views i within).process)

-- the publications of a history are of processes of the book
pub process-IsHistory : (b : BookTerms) (list : List Publication) (p i : ℕ) → IsHistory b list → i < count_of p list → p < b.processes
process-IsHistory b list p i history within =
    let at = position_of p i list within in
    subst (λ t. t < b.processes) (at.1.own no_publication) (history.views at.0 at.1.within).process

IsShownEntry-Sound : (b : BookTerms) (s : BoardState) (p : ℕ) (prefix : List Publication) (e : Entry) → Sound b s
    → IsSoundEntry b s p prefix e → IsShownEntry b p prefix e
IsShownEntry-Sound b s p prefix (Own from targets) sound law = law
IsShownEntry-Sound b s p prefix (Round a r d targets) sound law =
    let decision : IsSoundDecision b s a r d = subst (IsSoundDecision b s a r) law.1.decision (sound.decisions a r law.1.decided) in
    let known : AreTargets b targets = subst (AreTargets b) law.1.same_targets (sound.requests a d.slot d.number decision.announced).targets in
    (law.0, known, decision.range, decision.slot_in)

-- at the place of a decision as many rounds name its slot as the number that it names
pub named-decided : (b : BookTerms) (s : BoardState) (a r : ℕ) → Sound b s → r < length (s.cells a) → let d : Decision = decision_at (s.cells a) r in
    named a d.slot (take d.place s.published) ≡ d.number
named-decided b s a r sound within =
    let d : Decision = decision_at (s.cells a) r in
    let law : IsSoundDecision b s a r d = sound.decisions a r within in
    omega (
      arith,
      (AreDecided-take b s d.place (HasRuns-Sound b s sound) law.place a).named_so d.slot,
      ap (λ n. decided_for d.slot n (s.cells a)) law.next,
      sound.numbers a r within,
    )

IsShownDecision-Sound : (b : BookTerms) (s : BoardState) (p : ℕ) (prefix : List Publication) (e : Entry) → Sound b s
    → IsSoundEntry b s p prefix e → IsShownDecision b s.published e
IsShownDecision-Sound b s p prefix (Own from targets) sound law = tt
IsShownDecision-Sound b s p prefix (Round a r d targets) sound law =
    let so = law.1 in
    let decision : IsSoundDecision b s a r d = subst (IsSoundDecision b s a r) so.decision (sound.decisions a r so.decided) in
    record {
      room = decision.room;
      number_in = omega (arith, decision.announced, sound.row_room a d.slot);
      place = decision.place;
      next = decision.next;
      number = subst (λ (t : Decision). named a t.slot (take t.place s.published) ≡ t.number) so.decision (named-decided b s a r sound so.decided);
      ok = subst (λ t. (d.ok ≡ true) ↔ IsCovered b (take d.place s.published) a (amount_of t)) so.same_targets decision.ok;
    }

AgreeOnRound-Sound : (b : BookTerms) (s : BoardState) (p q : ℕ) (prefix other : List Publication) (e f : Entry)
    → IsSoundEntry b s p prefix e → IsSoundEntry b s q other f → AgreeOnRound e f
AgreeOnRound-Sound b s p q prefix other (Round a r d targets) (Round k l f aims) one two = λ account round.
    let decision : d ≡ f = sym one.1.decision ∙ ((λ i. decision_at (s.cells (account i)) (round i)) ∙ two.1.decision) in (
      decision,
      sym one.1.same_targets ∙ ((λ i. (request_at (s.rows (account i) (decision i).slot) (decision i).number).targets) ∙ two.1.same_targets),
    )
AgreeOnRound-Sound b s p q prefix other (Own from targets) f one two = tt
AgreeOnRound-Sound b s p q prefix other (Round a r d targets) (Own from aims) one two = tt

pub IsHistory-Sound : (b : BookTerms) (s : BoardState) → ((p : ℕ) → p < b.processes → count_of p s.published ≤ log_room_of b p) → Sound b s → IsBegun b
    → IsHistory b s.published
IsHistory-Sound b s room sound begun = record {
  views = sound.views;
  entries = λ m within.
      let x : Publication = publication_at s.published m in
      IsShownEntry-Sound b s x.process (prefix_of x.view s.published) x.entry sound (sound.entries m within);
  decisions = λ m within.
      let x : Publication = publication_at s.published m in
      IsShownDecision-Sound b s x.process (prefix_of x.view s.published) x.entry sound (sound.entries m within);
  agree = λ m k within inside.
      let x : Publication = publication_at s.published m in
      let y : Publication = publication_at s.published k in
      AgreeOnRound-Sound b s x.process y.process (prefix_of x.view s.published) (prefix_of y.view s.published) x.entry y.entry
      (sound.entries m within) (sound.entries k inside);
  own_room = sound.own_room;
  room = room;
  few = length-ArePublishedBy b s.published begun (ArePublishedBy-HasRuns b s (HasRuns-Sound b s sound)) room;
  runs = AreRuns-HasRuns b s (HasRuns-Sound b s sound) begun;
}
