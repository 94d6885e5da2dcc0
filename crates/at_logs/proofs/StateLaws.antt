-- What holds of a state, whatever it is kept of, after each step; and the room for credits.
use Rattle.std.proofs.Common.{true, ◌≡◌, ◌≢◌, ℕ, zero, suc, ◌+◌, ◌-◌, ◌<◌, ◌≤◌, ◌^◌, ◌↔◌, not, List, [], ◌∷◌, ◌++◌, length, get_or, map, set, drop, replicate, sum_by, take, Option, None, Some, Result, Ok, Err, slice_get, refl, ap, sym, subst, ◌∙◌, inl, inr, arith, length-drop, length-set, get_or-set_same, get_or-set_other}
use Rattle.at_logs.proofs.Prelude.{IsNode, backlog_told, delivered-process, drop-drop, get_or-drop, whole_node, All, eqb-true, same_Some, one_more_of-ge, one_more_of-le, All-append, All-from_recursion, recursion_from_All, cases_eq, cases_lt, range_with_len, range-one, drop-append-le, length-append, length-moved, length-replicate, slice_get_within, slice_get-get_or, sum_by-append, sum_by-drop_more, AreTargetsOn, BacklogState, CompactState, Covers, HasCreditRoom, IsBacklog, IsCompact, IsCreditOf, IsKeptOf, LogAccount, get_or-replicate, get_or-zeros, new_backlog, new_state, sum-map, range-sum, IsLogBook, IsMessageOn, IsPayable, IsStuck, IsStuckIn, IsValid, differ, IsNextMade, ValidatesFrom, get_or-le-sum_by, MessageList, SettlesFrom, message_of, LogTerms, MESSAGES_MAX, Message, Payout, RoomyBacklog, TargetPair, account_on_logs, amount_if, amount_of, backlog_credited, backlog_of, OnErr, OnOk, get_or_past, length-map, set-get_or, state_of, take_at, backlog_settled, backlog_with, credit_below, credit_to, credits_of, get_or-moved, is_below, is_log, kept_of, moved, named_among, needed, next_message, no_backlog, one_more_of, room_of, sum-moved, waiting_of}
use Rattle.at_logs.proofs.CreditLaws.{each-credits_of, each-filter, no-credit_to, split-credit_to, sum-below-le, sum-credits_of}
use Rattle.at_logs.proofs.RoomLaws.{backlog_of-kept_of, kept_of-set, no_roomy}
use Rattle.at_logs.proofs.CompactLaws.{covers-settled}
use Rattle.at_logs.proofs.KeptLaws.{AreNextDeps-next, IsKeptOf-raised, IsKeptOf-settled, backlog-other, backlog-same}

-- ---- more messages of a log

pub IsCompact-extended : (c : CompactState) (p : ℕ) (more : List Message) → IsCompact c → p < c.book.logs → All (IsMessageOn c.book.logs (length c.book.accounts)) more
    → get_or c.told p 0 + length (backlog_of c.backlogs p).messages + length more ≤ MESSAGES_MAX
    → IsCompact (record c { backlogs = set c.backlogs p (backlog_with (backlog_of c.backlogs p) more) })
IsCompact-extended c p more is known named few =
    let old : BacklogState = backlog_of c.backlogs p in
    let new : BacklogState = backlog_with old more in
    let inside : p < length c.backlogs = omega (arith, known, is.sized) in
    let after : CompactState = record c { backlogs = set c.backlogs p new } in
    record {
      book = is.book;
      counted = is.counted;
      told_counted = is.told_counted;
      sized = length-set c.backlogs p new ∙ is.sized;
      settled_sized = is.settled_sized;
      balanced = is.balanced;
      total = is.total;
      backlogs = λ q q_in. elim (cases_eq q p) as (λ _. IsBacklog after q (backlog_of after.backlogs q)) [
        | inl same ↦
            subst (λ i. IsBacklog after i (backlog_of after.backlogs i)) (sym same)
            (subst (IsBacklog after p) (sym (backlog-same c.backlogs p new inside)) (record {
              told = (is.backlogs p known).told;
              within = omega (arith, (is.backlogs p known).within, length-append old.messages more);
              few = omega (arith, few, length-append old.messages more);
              known = All-append (IsMessageOn c.book.logs (length c.book.accounts)) old.messages more (is.backlogs p known).known named;
              sized = (is.backlogs p known).sized;
              credits = (is.backlogs p known).credits;
            }))
        | inr apart ↦
            let was = is.backlogs q q_in in
            subst (IsBacklog after q) (sym (backlog-other c.backlogs p q new apart))
            (record { told = was.told; within = was.within; few = was.few; known = was.known; sized = was.sized; credits = was.credits })
      ];
      split = λ q a q_in a_in owner. elim (cases_eq q p) as (λ _. get_or c.settled a 0 + sum_by (credit_to a) (backlog_of after.backlogs q).credits ≡ get_or c.balances a 0) [
        | inl same ↦
            subst (λ i. get_or c.settled a 0 + sum_by (credit_to a) (backlog_of after.backlogs i).credits ≡ get_or c.balances a 0) (sym same)
            (ap (λ (l : BacklogState). get_or c.settled a 0 + sum_by (credit_to a) l.credits) (backlog-same c.backlogs p new inside)
            ∙ is.split p a known a_in (owner ∙ ap (λ i. Some i) same))
        | inr apart ↦
            ap (λ (l : BacklogState). get_or c.settled a 0 + sum_by (credit_to a) l.credits) (backlog-other c.backlogs p q new apart) ∙ is.split q a q_in a_in owner
      ];
    }

-- one log alone needs more room
pub needed-one : (c after : CompactState) (p q more : ℕ) → after.book ≡ c.book → q < c.book.logs
    → sum_by (λ (m : Message). named_among c.book p m.targets) (waiting_of after q) ≡ sum_by (λ (m : Message). named_among c.book p m.targets) (waiting_of c q) + more
    → ((i : ℕ) → i ≢ q → waiting_of after i ≡ waiting_of c i) → needed after p ≡ needed c p + more
needed-one c after p q more book known here others =
    ap (λ (b : LogTerms). sum_by (λ i. sum_by (λ (m : Message). named_among b p m.targets) (waiting_of after i)) (range_with_len 0 b.logs)) book
    ∙ range-one (λ i. sum_by (λ (m : Message). named_among c.book p m.targets) (waiting_of c i)) (λ i. sum_by (λ (m : Message). named_among c.book p m.targets) (waiting_of after i))
    0 c.book.logs q more (omega arith) (omega (arith, known)) here (λ i apart. ap (λ (l : List Message). sum_by (λ (m : Message). named_among c.book p m.targets) l) (others i apart))

pub needed-extended : (c : CompactState) (q : ℕ) (more : List Message) (p : ℕ) → IsCompact c → q < c.book.logs
    → needed (record c { backlogs = set c.backlogs q (backlog_with (backlog_of c.backlogs q) more) }) p ≡ needed c p + sum_by (λ (m : Message). named_among c.book p m.targets) more
needed-extended c q more p is known =
    let old : BacklogState = backlog_of c.backlogs q in
    let new : BacklogState = backlog_with old more in
    let inside : q < length c.backlogs = omega (arith, known, is.sized) in
    let n : ℕ = get_or c.validated q 0 - get_or c.told q 0 in
    let within : n ≤ length old.messages = omega (arith, (is.backlogs q known).within, (is.backlogs q known).told) in
    needed-one c (record c { backlogs = set c.backlogs q new }) p q (sum_by (λ (m : Message). named_among c.book p m.targets) more) refl known
    (ap (λ (l : BacklogState). sum_by (λ (m : Message). named_among c.book p m.targets) (drop n l.messages)) (backlog-same c.backlogs q new inside)
    ∙ (ap (λ (l : List Message). sum_by (λ (m : Message). named_among c.book p m.targets) l) (drop-append-le n old.messages more within)
    ∙ sum_by-append (λ (m : Message). named_among c.book p m.targets) (drop n old.messages) more))
    (λ i apart. ap (λ (l : BacklogState). drop (get_or c.validated i 0 - get_or c.told i 0) l.messages) (backlog-other c.backlogs q i new apart))

-- ---- credits of a log are settled

pub IsCompact-settled : (c : CompactState) (p : ℕ) (deps settled : List ℕ) → IsCompact c → p < c.book.logs → length deps ≡ c.book.logs → length settled ≡ length c.settled
    → ((a : ℕ) → a < length c.settled → get_or settled a 0 ≡ get_or c.settled a 0 + sum_by (credit_below a deps) (backlog_of c.backlogs p).credits)
    → IsCompact (record c { settled = settled; backlogs = set c.backlogs p (backlog_settled (backlog_of c.backlogs p) deps) })
IsCompact-settled c p deps settled is known sized long added =
    let old : BacklogState = backlog_of c.backlogs p in
    let new : BacklogState = backlog_settled old deps in
    let inside : p < length c.backlogs = omega (arith, known, is.sized) in
    let after : CompactState = record c { settled = settled; backlogs = set c.backlogs p new } in
    record {
      book = is.book;
      counted = is.counted;
      told_counted = is.told_counted;
      sized = length-set c.backlogs p new ∙ is.sized;
      settled_sized = long ∙ is.settled_sized;
      balanced = is.balanced;
      total = is.total;
      backlogs = λ q q_in. elim (cases_eq q p) as (λ _. IsBacklog after q (backlog_of after.backlogs q)) [
        | inl same ↦
            subst (λ i. IsBacklog after i (backlog_of after.backlogs i)) (sym same)
            (subst (IsBacklog after p) (sym (backlog-same c.backlogs p new inside)) (record {
              told = (is.backlogs p known).told;
              within = (is.backlogs p known).within;
              few = (is.backlogs p known).few;
              known = (is.backlogs p known).known;
              sized = sized;
              credits = All-from_recursion (IsCreditOf c.book p) new.credits
                  (each-filter (IsCreditOf c.book p) (λ x. not (is_below deps x)) old.credits (recursion_from_All (IsCreditOf c.book p) old.credits (is.backlogs p known).credits));
            }))
        | inr apart ↦
            let was = is.backlogs q q_in in
            subst (IsBacklog after q) (sym (backlog-other c.backlogs p q new apart))
            (record { told = was.told; within = was.within; few = was.few; known = was.known; sized = was.sized; credits = was.credits })
      ];
      split = λ q a q_in a_in owner. elim (cases_eq q p) as (λ _. get_or settled a 0 + sum_by (credit_to a) (backlog_of after.backlogs q).credits ≡ get_or c.balances a 0) [
        | inl same ↦
            subst (λ i. get_or settled a 0 + sum_by (credit_to a) (backlog_of after.backlogs i).credits ≡ get_or c.balances a 0) (sym same)
            (ap (λ (l : BacklogState). get_or settled a 0 + sum_by (credit_to a) l.credits) (backlog-same c.backlogs p new inside)
            ∙ omega (arith, added a (omega (arith, a_in, is.settled_sized)), split-credit_to a deps old.credits, is.split p a known a_in (owner ∙ ap (λ i. Some i) same)))
        | inr apart ↦
            ap (λ (l : BacklogState). get_or settled a 0 + sum_by (credit_to a) l.credits) (backlog-other c.backlogs p q new apart)
            ∙ omega (
              arith,
              added a (omega (arith, a_in, is.settled_sized)),
              sum-below-le a deps old.credits,
              no-credit_to a old.credits (λ k d w at. apart (alone q p (sym owner ∙ (ap (λ i. (account_on_logs c.book i).log) (sym at) ∙ ((is.backlogs p known).credits k d w).owner)))),
              is.split q a q_in a_in owner,
            )
      ];
    } where
      alone : (q p : ℕ) → Some q ≡ Some p → q ≡ p
      alone q p e = cc

-- no more room is needed where the messages are the same
pub needed-settled : (c : CompactState) (q : ℕ) (deps settled : List ℕ) (p : ℕ) → IsCompact c → q < c.book.logs
    → needed (record c { settled = settled; backlogs = set c.backlogs q (backlog_settled (backlog_of c.backlogs q) deps) }) p ≡ needed c p
needed-settled c q deps settled p is known =
    let old : BacklogState = backlog_of c.backlogs q in
    let new : BacklogState = backlog_settled old deps in
    let inside : q < length c.backlogs = omega (arith, known, is.sized) in
    omega (
      arith,
      needed-one c (record c { settled = settled; backlogs = set c.backlogs q new }) p q 0 refl known
          (ap (λ (l : BacklogState). sum_by (λ (m : Message). named_among c.book p m.targets) (drop (get_or c.validated q 0 - get_or c.told q 0) l.messages)) (backlog-same c.backlogs q new inside) ∙ omega arith)
          (λ i apart. ap (λ (l : BacklogState). drop (get_or c.validated i 0 - get_or c.told i 0) l.messages) (backlog-other c.backlogs q i new apart)),
    )

-- ---- a message is validated

pub IsCompact-raised : (c : CompactState) (p : ℕ) (m : Message) (settled : List ℕ) (backlogs : List BacklogState) → IsCompact c → p < c.book.logs → next_message c p ≡ Some m
    → IsMessageOn c.book.logs (length c.book.accounts) m → (account_on_logs c.book m.from).log ≡ Some p → amount_of m.targets ≤ get_or c.settled m.from 0
    → length settled ≡ length c.settled → length backlogs ≡ length c.backlogs
    → ((a : ℕ) → a < length c.settled → get_or settled a 0 + amount_if m.from a (amount_of m.targets) ≡ get_or c.settled a 0)
    → ((q : ℕ) → q < c.book.logs → backlog_of backlogs q ≡ backlog_credited c.book q (backlog_of c.backlogs q) p (get_or c.validated p 0) m.targets)
    → IsCompact (record { book = c.book; validated = one_more_of c.validated p; told = c.told; settled = settled; balances = moved c.balances m.from m.targets; backlogs = backlogs })
IsCompact-raised c p m settled backlogs is known next on owner_is enough long many paid credited = record {
  book = is.book;
  counted = length-set c.validated p (v + 1) ∙ is.counted;
  told_counted = is.told_counted;
  sized = many ∙ is.sized;
  settled_sized = long ∙ is.settled_sized;
  balanced = length-moved c.balances m.from m.targets ∙ is.balanced;
  total = sum-moved c.balances m.from m.targets from_in to_in covered ∙ is.total;
  backlogs = λ q q_in. subst (IsBacklog after q) (sym (credited q q_in)) (record {
    told = told_le q q_in;
    within = within_le q q_in;
    few = (is.backlogs q q_in).few;
    known = (is.backlogs q q_in).known;
    sized = (is.backlogs q q_in).sized;
    credits = All-append (IsCreditOf c.book q) (backlog_of c.backlogs q).credits (credits_of c.book q p v m.targets) (is.backlogs q q_in).credits
        (All-from_recursion (IsCreditOf c.book q) (credits_of c.book q p v m.targets) (each-credits_of (IsCreditOf c.book q) c.book q p v m.targets
        (recursion_from_All (λ (t : TargetPair). is_log q (account_on_logs c.book t.0).log ≡ true → IsCreditOf c.book q (record { account = t.0; log = p; number = v; amount = t.1 })) m.targets
        (λ k d w is_q. record { account = on.targets k d w; log = known; owner = from_is_log q (account_on_logs c.book (get_or m.targets k d).0).log is_q }))));
  });
  split = λ q a q_in a_in owner.
      ap (λ (l : BacklogState). get_or settled a 0 + sum_by (credit_to a) l.credits) (credited q q_in)
      ∙ omega (
        arith,
        sum_by-append (credit_to a) (backlog_of c.backlogs q).credits (credits_of c.book q p v m.targets),
        sum-credits_of c.book q a p v m.targets owner,
        paid a (omega (arith, a_in, is.settled_sized)),
        get_or-moved c.balances m.from m.targets a from_in to_in covered,
        is.split q a q_in a_in owner,
      );
} where
  v : ℕ
  v = get_or c.validated p 0

  after : CompactState
  after = record { book = c.book; validated = one_more_of c.validated p; told = c.told; settled = settled; balances = moved c.balances m.from m.targets; backlogs = backlogs }

  from_in : m.from < length c.balances
  from_in = omega (arith, on.source, is.balanced)

  to_in : AreTargetsOn (length c.balances) m.targets
  to_in = subst (λ n. AreTargetsOn n m.targets) (sym is.balanced) on.targets

  covered : amount_of m.targets ≤ get_or c.balances m.from 0
  covered = omega (arith, enough, is.split p m.from known on.source owner_is)

  from_is_log : (q : ℕ) (o : Option ℕ) → is_log q o ≡ true → o ≡ Some q
  from_is_log q None e = cc
  from_is_log q (Some r) e = ap (λ i. Some i) (eqb-true r q e)

  -- the next message is one of the log
  below : v - get_or c.told p 0 < length (backlog_of c.backlogs p).messages
  below = slice_get_within (backlog_of c.backlogs p).messages (v - get_or c.told p 0) m next

  told_le : (q : ℕ) → q < c.book.logs → get_or c.told q 0 ≤ get_or (one_more_of c.validated p) q 0
  told_le q q_in = omega (arith, (is.backlogs q q_in).told, one_more_of-ge c.validated p q)

  within_le : (q : ℕ) → q < c.book.logs → get_or (one_more_of c.validated p) q 0 ≤ get_or c.told q 0 + length (backlog_of c.backlogs q).messages
  within_le q q_in = elim (cases_eq q p) as (λ _. get_or (one_more_of c.validated p) q 0 ≤ get_or c.told q 0 + length (backlog_of c.backlogs q).messages) [
    | inl same ↦
        subst (λ i. get_or (one_more_of c.validated p) i 0 ≤ get_or c.told i 0 + length (backlog_of c.backlogs i).messages) (sym same)
        (omega (arith, one_more_of-le c.validated p, below, (is.backlogs p known).told))
    | inr apart ↦ omega (arith, get_or-set_other c.validated p q (v + 1) 0 apart, (is.backlogs q q_in).within)
  ]

-- and less room is needed
pub needed-raised : (c : CompactState) (q : ℕ) (m : Message) (settled balances : List ℕ) (backlogs : List BacklogState) (p : ℕ) → IsCompact c → q < c.book.logs → next_message c q ≡ Some m
    → ((i : ℕ) → (backlog_of backlogs i).messages ≡ (backlog_of c.backlogs i).messages)
    → needed (record { book = c.book; validated = one_more_of c.validated q; told = c.told; settled = settled; balances = balances; backlogs = backlogs }) p + named_among c.book p m.targets ≡ needed c p
needed-raised c q m settled balances backlogs p is known next same =
    sym (needed-one (record { book = c.book; validated = one_more_of c.validated q; told = c.told; settled = settled; balances = balances; backlogs = backlogs }) c p q
    (named_among c.book p m.targets) refl known here (λ i apart.
    ap (λ n. drop (n - get_or c.told i 0) (backlog_of c.backlogs i).messages) (sym (get_or-set_other c.validated q i (v + 1) 0 apart))
    ∙ ap (λ (l : List Message). drop (get_or (one_more_of c.validated q) i 0 - get_or c.told i 0) l) (sym (same i))))
  where
    v : ℕ
    v = get_or c.validated q 0

    xs : List Message
    xs = (backlog_of c.backlogs q).messages

    below : v - get_or c.told q 0 < length xs
    below = slice_get_within xs (v - get_or c.told q 0) m next

    there : get_or xs (v - get_or c.told q 0) m ≡ m
    there = same_Some (get_or xs (v - get_or c.told q 0) m) m (sym (slice_get-get_or xs (v - get_or c.told q 0) m below) ∙ next)

    up : get_or (one_more_of c.validated q) q 0 - get_or c.told q 0 ≡ v - get_or c.told q 0 + 1
    up = omega (arith, get_or-set_same c.validated q (v + 1) 0 (omega (arith, known, is.counted)), (is.backlogs q known).told)

    here : sum_by (λ (m : Message). named_among c.book p m.targets) (waiting_of c q)
        ≡ sum_by (λ (m : Message). named_among c.book p m.targets) (drop (get_or (one_more_of c.validated q) q 0 - get_or c.told q 0) (backlog_of backlogs q).messages) + named_among c.book p m.targets
    here = omega (
      arith,
      sum_by-drop_more (λ (m : Message). named_among c.book p m.targets) xs (v - get_or c.told q 0) m below,
      ap (λ (m : Message). named_among c.book p m.targets) there,
      ap (λ n. sum_by (λ (m : Message). named_among c.book p m.targets) (drop n (backlog_of backlogs q).messages)) up,
      ap (λ (l : List Message). sum_by (λ (m : Message). named_among c.book p m.targets) (drop (v - get_or c.told q 0 + 1) l)) (same q),
    )

-- ---- the room

pub written : (n : ℕ) (new old : List RoomyBacklog) → length new ≡ length old → length old ≡ n → take n (new ++ drop (length new) old) ≡ new
written n new old long is = take_at new (drop (length new) old) n (long ∙ is)

-- what holds of what a node keeps
abbrev pub IsKept : LogTerms → List ℕ → List ℕ → List ℕ → List ℕ → List RoomyBacklog → Type 0
IsKept b validated told settled balances all = IsCompact (state_of b validated told settled balances all) × HasCreditRoom (state_of b validated told settled balances all) all

-- there is more room
pub roomier : (b : LogTerms) (validated told settled balances : List ℕ) (old new : List RoomyBacklog) → kept_of new ≡ kept_of old → ((p : ℕ) → room_of old p ≤ room_of new p)
    → IsKept b validated told settled balances old → IsKept b validated told settled balances new
roomier b validated told settled balances old new same more is = (
  subst (λ (l : List BacklogState). IsCompact (record { book = b; validated = validated; told = told; settled = settled; balances = balances; backlogs = l })) (sym same) is.0,
  λ p known. omega (
    arith,
    ap (λ (l : List BacklogState). needed (record { book = b; validated = validated; told = told; settled = settled; balances = balances; backlogs = l }) p) same,
    is.1 p known,
    more p,
  ),
)

-- the room of one log
pub room_of-set : (all : List RoomyBacklog) (i : ℕ) (new : RoomyBacklog) → i < length all → new.room ≡ (get_or all i no_roomy).room → (p : ℕ) → room_of (set all i new) p ≡ room_of all p
room_of-set all i new inside same p = elim (cases_eq p i) as (λ _. room_of (set all i new) p ≡ room_of all p) [
  | inl at ↦
      subst (λ k. room_of (set all i new) k ≡ room_of all k) (sym at)
      (ap (λ (l : RoomyBacklog). l.room) (get_or-set_same all i new no_roomy inside) ∙ same)
  | inr apart ↦ ap (λ (l : RoomyBacklog). l.room) (get_or-set_other all i p new no_roomy apart)
]

-- more messages of a log, where there is room for their credits
pub IsKept-extended : {A E : Type 0} (r : Result A E) (b : LogTerms) (validated told settled balances : List ℕ) (old all : List RoomyBacklog) (p : ℕ) (more : List Message) (new : RoomyBacklog)
    → IsKept b validated told settled balances old → p < b.logs → length all ≡ length old → All (IsMessageOn b.logs (length b.accounts)) more
    → get_or told p 0 + length (backlog_of (kept_of old) p).messages + length more ≤ MESSAGES_MAX
    → kept_of all ≡ kept_of old → ((q : ℕ) → room_of old q ≤ room_of all q)
    → ((q : ℕ) → q < b.logs → room_of old q + sum_by (λ (m : Message). named_among b q m.targets) more ≤ room_of all q)
    → OnOk r (new ≡ record (get_or all p no_roomy) { kept = backlog_with (get_or all p no_roomy).kept more }) → OnErr r (new ≡ get_or all p no_roomy)
    → IsKept b validated told settled balances (set all p new)
IsKept-extended (Err e) b validated told settled balances old all p more new is known long on few same any room ok err =
    subst (λ (l : List RoomyBacklog). IsKept b validated told settled balances l) (sym (ap (set all p) err ∙ set-get_or all p no_roomy))
    (roomier b validated told settled balances old all same any is)
IsKept-extended (Ok x) b validated told settled balances old all p more new is known long on few same any room ok err =
    let before : CompactState = state_of b validated told settled balances old in
    let inside : p < length all = omega (arith, known, is.0.sized, long, length-map old (λ (l : RoomyBacklog). l.kept)) in
    let kept : new.kept ≡ backlog_with (backlog_of (kept_of old) p) more =
    ap (λ (l : RoomyBacklog). l.kept) ok ∙ ap (λ (l : BacklogState). backlog_with l more) (sym (backlog_of-kept_of all p) ∙ ap (λ (l : List BacklogState). backlog_of l p) same) in
    let after : kept_of (set all p new) ≡ set (kept_of old) p (backlog_with (backlog_of (kept_of old) p) more) =
    kept_of-set all p new ∙ (ap (λ (l : List BacklogState). set l p new.kept) same ∙ ap (set (kept_of old) p) kept) in (
      subst (λ (l : List BacklogState). IsCompact (record { book = b; validated = validated; told = told; settled = settled; balances = balances; backlogs = l })) (sym after)
          (IsCompact-extended before p more is.0 known on few),
      λ q q_in. omega (
        arith,
        ap (λ (l : List BacklogState). needed (record { book = b; validated = validated; told = told; settled = settled; balances = balances; backlogs = l }) q) after,
        needed-extended before p more q is.0 known,
        is.1 q q_in,
        room q q_in,
        room_of-set all p new inside (ap (λ (l : RoomyBacklog). l.room) ok) q,
      ),
    )

-- credits of a log are settled
pub IsKept-settled : (b : LogTerms) (validated told settled balances : List ℕ) (all : List RoomyBacklog) (p : ℕ) (deps after : List ℕ) (new : RoomyBacklog)
    → IsKept b validated told settled balances all → p < b.logs → length deps ≡ b.logs → length after ≡ length settled
    → ((a : ℕ) → a < length settled → get_or after a 0 ≡ get_or settled a 0 + sum_by (credit_below a deps) (backlog_of (kept_of all) p).credits)
    → new ≡ record (get_or all p no_roomy) { kept = backlog_settled (get_or all p no_roomy).kept deps } → IsKept b validated told after balances (set all p new)
IsKept-settled b validated told settled balances all p deps after new is known sized long added new_is =
    let before : CompactState = state_of b validated told settled balances all in
    let inside : p < length all = omega (arith, known, is.0.sized, length-map all (λ (l : RoomyBacklog). l.kept)) in
    let kept : kept_of (set all p new) ≡ set (kept_of all) p (backlog_settled (backlog_of (kept_of all) p) deps) =
    kept_of-set all p new
    ∙ ap (set (kept_of all) p) (ap (λ (l : RoomyBacklog). l.kept) new_is ∙ ap (λ (l : BacklogState). backlog_settled l deps) (sym (backlog_of-kept_of all p))) in (
      subst (λ (l : List BacklogState). IsCompact (record { book = b; validated = validated; told = told; settled = after; balances = balances; backlogs = l })) (sym kept)
          (IsCompact-settled before p deps after is.0 known sized long added),
      λ q q_in. omega (
        arith,
        ap (λ (l : List BacklogState). needed (record { book = b; validated = validated; told = told; settled = after; balances = balances; backlogs = l }) q) kept,
        needed-settled before p deps after q is.0 known,
        is.1 q q_in,
        room_of-set all p new inside (ap (λ (l : RoomyBacklog). l.room) new_is) q,
      ),
    )

-- a message is validated, and its credits have used their room
pub IsKept-raised : (b : LogTerms) (validated told settled balances : List ℕ) (all : List RoomyBacklog) (p : ℕ) (m : Message) (after : List ℕ) (new : List RoomyBacklog)
    → IsKept b validated told settled balances all → p < b.logs → next_message (state_of b validated told settled balances all) p ≡ Some m → IsMessageOn b.logs (length b.accounts) m
    → (account_on_logs b m.from).log ≡ Some p → amount_of m.targets ≤ get_or settled m.from 0 → length after ≡ length settled → length new ≡ length all
    → ((a : ℕ) → a < length settled → get_or after a 0 + amount_if m.from a (amount_of m.targets) ≡ get_or settled a 0)
    → ((q : ℕ) → q < b.logs → backlog_of (kept_of new) q ≡ backlog_credited b q (backlog_of (kept_of all) q) p (get_or validated p 0) m.targets)
    → ((q : ℕ) → q < b.logs → room_of new q + named_among b q m.targets ≡ room_of all q)
    → IsKept b (one_more_of validated p) told after (moved balances m.from m.targets) new
IsKept-raised b validated told settled balances all p m after new is known next on owner enough long many paid credited room =
    let before : CompactState = state_of b validated told settled balances all in
    let size : length all ≡ b.logs = sym (length-map all (λ (l : RoomyBacklog). l.kept)) ∙ is.0.sized in
    let same : (i : ℕ) → (backlog_of (kept_of new) i).messages ≡ (backlog_of (kept_of all) i).messages =
    λ i. elim (cases_lt i b.logs) as (λ _. (backlog_of (kept_of new) i).messages ≡ (backlog_of (kept_of all) i).messages) [
      | inl inside ↦ ap (λ (l : BacklogState). l.messages) (credited i inside)
      | inr past ↦
          ap (λ (l : BacklogState). l.messages) (get_or_past (kept_of new) i no_backlog (omega (arith, past, size, many, length-map new (λ (l : RoomyBacklog). l.kept)))
          ∙ sym (get_or_past (kept_of all) i no_backlog (omega (arith, past, size, length-map all (λ (l : RoomyBacklog). l.kept)))))
    ] in (
      IsCompact-raised before p m after (kept_of new) is.0 known next on owner enough long
          (length-map new (λ (l : RoomyBacklog). l.kept) ∙ (many ∙ sym (length-map all (λ (l : RoomyBacklog). l.kept)))) paid credited,
      λ q q_in. omega (arith, needed-raised before p m after (moved balances m.from m.targets) (kept_of new) q is.0 known next same, is.1 q q_in, room q q_in),
    )

-- what is shown then
pub extended_view : {A E : Type 0} (r : Result A E) (b : LogTerms) (validated told settled balances : List ℕ) (old all : List RoomyBacklog) (p : ℕ) (more : List Message) (new : RoomyBacklog)
    → kept_of all ≡ kept_of old → OnOk r (new ≡ record (get_or all p no_roomy) { kept = backlog_with (get_or all p no_roomy).kept more })
    → OnOk r (state_of b validated told settled balances (set all p new)
    ≡ record { book = b; validated = validated; told = told; settled = settled; balances = balances; backlogs = set (kept_of old) p (backlog_with (backlog_of (kept_of old) p) more) })
extended_view (Err e) b validated told settled balances old all p more new same ok = tt
extended_view (Ok x) b validated told settled balances old all p more new same ok =
    ap (λ (l : List BacklogState). record { book = b; validated = validated; told = told; settled = settled; balances = balances; backlogs = l })
    (kept_of-set all p new
    ∙ (ap (λ (l : List BacklogState). set l p new.kept) same
    ∙ ap (set (kept_of old) p) (ap (λ (l : RoomyBacklog). l.kept) ok ∙ ap (λ (l : BacklogState). backlog_with l more) (sym (backlog_of-kept_of all p) ∙ ap (λ (l : List BacklogState). backlog_of l p) same))))

pub unextended_view : {A E : Type 0} (r : Result A E) (b : LogTerms) (validated told settled balances : List ℕ) (old all : List RoomyBacklog) (p : ℕ) (new : RoomyBacklog)
    → kept_of all ≡ kept_of old → OnErr r (new ≡ get_or all p no_roomy) → OnErr r (state_of b validated told settled balances (set all p new) ≡ state_of b validated told settled balances old)
unextended_view (Ok x) b validated told settled balances old all p new same err = tt
unextended_view (Err e) b validated told settled balances old all p new same err =
    ap (λ (l : List BacklogState). record { book = b; validated = validated; told = told; settled = settled; balances = balances; backlogs = l })
    (ap kept_of (ap (set all p) err ∙ set-get_or all p no_roomy) ∙ same)

pub rewritten : (n : ℕ) (new old : List ℕ) → length new ≡ length old → length old ≡ n → take n (new ++ drop (length new) old) ≡ new
rewritten n new old long is = take_at new (drop (length new) old) n (long ∙ is)

-- ---- what is kept is kept of the same messages, once credits of a log are settled up to the `deps` of its next message

-- where the next message that is kept stands among all
pub stands : (messages : List MessageList) (c : CompactState) (p : ℕ) (m : Message) → IsKeptOf messages c → IsCompact c → p < c.book.logs → next_message c p ≡ Some m
    → message_of messages p (get_or c.validated p 0) ≡ Some m
stands messages c p m is compact known next =
    let at : get_or c.told p 0 + (get_or c.validated p 0 - get_or c.told p 0) ≡ get_or c.validated p 0 = omega (arith, (compact.backlogs p known).told) in
    ap (message_of messages p) (sym at) ∙ (is.waiting p (get_or c.validated p 0 - get_or c.told p 0) known ∙ next)

pub next_known : (c : CompactState) (p : ℕ) (m : Message) → IsCompact c → p < c.book.logs → next_message c p ≡ Some m → IsMessageOn c.book.logs (length c.book.accounts) m
next_known c p m is known next =
    let xs : List Message = (backlog_of c.backlogs p).messages in
    let n : ℕ = get_or c.validated p 0 - get_or c.told p 0 in
    let below : n < length xs = slice_get_within xs n m next in
    subst (IsMessageOn c.book.logs (length c.book.accounts)) (same_Some (get_or xs n m) m (sym (slice_get-get_or xs n m below) ∙ next)) ((is.backlogs p known).known n m below)

pub settled_from : (c : CompactState) (p : ℕ) (deps after : List ℕ) (backlogs : List BacklogState) → IsCompact c → p < c.book.logs → length deps ≡ c.book.logs
    → ((a : ℕ) → a < length c.settled → get_or after a 0 ≡ get_or c.settled a 0 + sum_by (credit_below a deps) (backlog_of c.backlogs p).credits)
    → backlogs ≡ set c.backlogs p (backlog_settled (backlog_of c.backlogs p) deps) → (t : Payout) → t.log ≡ p → IsNextMade c t deps
    → SettlesFrom c (record c { settled = after; backlogs = backlogs }) × IsNextMade (record c { settled = after; backlogs = backlogs }) t deps
settled_from c p deps after backlogs is known sized added backlogs_are t at ready = (
  record { book = refl; validated = refl; told = refl; messages = same; kept = kept },
  record {
    message = ready.message;
    log = ready.log;
    next = ap (λ (l : List Message). slice_get l (get_or c.validated t.log 0 - get_or c.told t.log 0)) (same t.log) ∙ ready.next;
    source = ready.source;
    targets = ready.targets;
    read = ready.read;
    owner = ready.owner;
    own = ready.own;
    covered = ready.covered;
  },
) where
  new : BacklogState
  new = backlog_settled (backlog_of c.backlogs p) deps

  same : (q : ℕ) → (backlog_of backlogs q).messages ≡ (backlog_of c.backlogs q).messages
  same q =
      ap (λ (l : List BacklogState). (backlog_of l q).messages) backlogs_are
      ∙ elim (cases_eq q p) as (λ _. (backlog_of (set c.backlogs p (backlog_settled (backlog_of c.backlogs p) deps)) q).messages ≡ (backlog_of c.backlogs q).messages) [
        | inl e ↦
            subst (λ i. (backlog_of (set c.backlogs p (backlog_settled (backlog_of c.backlogs p) deps)) i).messages ≡ (backlog_of c.backlogs i).messages) (sym e)
            (ap (λ (l : BacklogState). l.messages) (backlog-same c.backlogs p (backlog_settled (backlog_of c.backlogs p) deps) (omega (arith, known, is.sized))))
        | inr apart ↦ ap (λ (l : BacklogState). l.messages) (backlog-other c.backlogs p q (backlog_settled (backlog_of c.backlogs p) deps) apart)
      ]

  m : Message
  m = ready.message

  next : next_message c p ≡ Some ready.message
  next = ap (λ i. next_message c i) (sym at) ∙ ready.next

  kept : (messages : List MessageList) → IsKeptOf messages c → IsKeptOf messages (record c { settled = after; backlogs = backlogs })
  kept messages k =
      subst (λ (l : List BacklogState). IsKeptOf messages (record c { settled = after; backlogs = l })) (sym backlogs_are)
      (subst (λ (d : List ℕ). IsKeptOf messages (record c { settled = after; backlogs = set c.backlogs p (backlog_settled (backlog_of c.backlogs p) d) })) (sym ready.read)
      (IsKeptOf-settled messages c p ready.message after k known is.sized (λ i d w. ((is.backlogs p known).credits i d w).owner) (stands messages c p ready.message k is known next)
      (sym (ap (λ (l : List ℕ). length l) ready.read) ∙ sized) (ap (λ i. get_or ready.message.deps i 0) (sym at) ∙ (ready.own ∙ ap (λ i. get_or c.validated i 0) at)) ready.covered
      (λ a a_in. added a (omega (arith, a_in, is.settled_sized)) ∙ ap (λ (d : List ℕ). get_or c.settled a 0 + sum_by (credit_below a d) (backlog_of c.backlogs p).credits) ready.read)))

-- ---- a message that is valid next is validated

-- what is settled and the balance cover it
pub record CanMove (c : CompactState) (t : Payout) : Type 0 where
  pub log : t.log < c.book.logs
  pub from_settled : t.from < length c.settled
  pub from_in : t.from < length c.balances
  pub targets : AreTargetsOn (length c.book.accounts) t.targets
  pub covered : amount_of t.targets ≤ get_or c.balances t.from 0
  pub fits : get_or c.balances t.from 0 < 2 ^ 64
  pub validated : get_or c.validated t.log 0 < MESSAGES_MAX
  pub named : (p : ℕ) → needed (record c { validated = one_more_of c.validated t.log }) p + named_among c.book p t.targets ≡ needed c p

pub can_move : (c : CompactState) (t : Payout) → IsCompact c → IsPayable c t → CanMove c t
can_move c t is pay =
    let m : Message = pay.ready.message in
    let on = next_known c t.log m is pay.ready.log pay.ready.next in
    let from_in : t.from < length c.balances = omega (arith, pay.ready.source, on.source, is.balanced) in
    let owner : (account_on_logs c.book t.from).log ≡ Some t.log = ap (λ a. (account_on_logs c.book a).log) pay.ready.source ∙ pay.ready.owner in
    record {
      log = pay.ready.log;
      from_settled = omega (arith, pay.ready.source, on.source, is.settled_sized);
      from_in = from_in;
      targets = subst (λ (l : List TargetPair). AreTargetsOn (length c.book.accounts) l) (sym pay.ready.targets) on.targets;
      covered = omega (arith, pay.covers, is.split t.log t.from pay.ready.log (omega (arith, from_in, is.balanced)) owner);
      fits = omega (arith, get_or-le-sum_by (λ n. n) c.balances t.from 0 from_in, is.total, is.book.total);
      validated = omega (
        arith,
        slice_get_within (backlog_of c.backlogs t.log).messages (get_or c.validated t.log 0 - get_or c.told t.log 0) m pay.ready.next,
        (is.backlogs t.log pay.ready.log).few,
        (is.backlogs t.log pay.ready.log).told,
      );
      named = λ p. ap (λ (l : List TargetPair). needed (record c { validated = one_more_of c.validated t.log }) p + named_among c.book p l) pay.ready.targets
          ∙ needed-raised c t.log m c.settled c.balances c.backlogs p is pay.ready.log pay.ready.next (λ i. refl);
    }

-- the values that are written
pub record HasMoved (c : CompactState) (t : Payout) (counts after sums : List ℕ) (all : List RoomyBacklog) : Type 0 where
  pub validated : counts ≡ one_more_of c.validated t.log
  pub settled : (a : ℕ) → a < length c.settled → get_or after a 0 + amount_if t.from a (amount_of t.targets) ≡ get_or c.settled a 0
  pub long : length after ≡ length c.settled
  pub balances : sums ≡ moved c.balances t.from t.targets
  pub credited : (q : ℕ) → q < c.book.logs → backlog_of (kept_of all) q ≡ backlog_credited c.book q (backlog_of c.backlogs q) t.log (get_or c.validated t.log 0) t.targets
  pub many : length (kept_of all) ≡ length c.backlogs

-- the same of the message
paid_by : (c : CompactState) (t : Payout) (m : Message) (settled : List ℕ) → t.from ≡ m.from → t.targets ≡ m.targets
    → ((a : ℕ) → a < length c.settled → get_or settled a 0 + amount_if t.from a (amount_of t.targets) ≡ get_or c.settled a 0)
    → (a : ℕ) → a < length c.settled → get_or settled a 0 + amount_if m.from a (amount_of m.targets) ≡ get_or c.settled a 0
paid_by c t m settled from targets paid a known =
    omega (arith, paid a known, ap (λ f. amount_if f a (amount_of t.targets)) from, ap (λ (l : List TargetPair). amount_if m.from a (amount_of l)) targets)

moved_by : (balances : List ℕ) (t : Payout) (m : Message) → t.from ≡ m.from → t.targets ≡ m.targets → moved balances t.from t.targets ≡ moved balances m.from m.targets
moved_by balances t m from targets = ap (λ f. moved balances f t.targets) from ∙ ap (λ (l : List TargetPair). moved balances m.from l) targets

pub IsKept-moved : (b : LogTerms) (validated told settled balances : List ℕ) (old all : List RoomyBacklog) (t : Payout) (counts after sums : List ℕ)
    → IsKept b validated told settled balances old → IsPayable (state_of b validated told settled balances old) t
    → HasMoved (state_of b validated told settled balances old) t counts after sums all → ((p : ℕ) → p < b.logs → room_of all p + named_among b p t.targets ≡ room_of old p)
    → IsKept b counts told after sums all
IsKept-moved b validated told settled balances old all t counts after sums is pay has room =
    let c : CompactState = state_of b validated told settled balances old in
    let m : Message = pay.ready.message in
    let on = next_known c t.log m is.0 pay.ready.log pay.ready.next in
    subst (λ (l : List ℕ). IsKept b l told after sums all) (sym has.validated)
    (subst (λ (l : List ℕ). IsKept b (one_more_of validated t.log) told after l all) (sym (has.balances ∙ moved_by balances t m pay.ready.source pay.ready.targets))
    (IsKept-raised b validated told settled balances old t.log m after all is pay.ready.log pay.ready.next on pay.ready.owner
    (omega (arith, pay.covers, ap (λ (l : List TargetPair). amount_of l) pay.ready.targets, ap (λ f. get_or settled f 0) pay.ready.source)) has.long
    (omega (arith, has.many, length-map all (λ (l : RoomyBacklog). l.kept), length-map old (λ (l : RoomyBacklog). l.kept)))
    (paid_by c t m after pay.ready.source pay.ready.targets has.settled)
    (λ q known. has.credited q known ∙ ap (λ (l : List TargetPair). backlog_credited b q (backlog_of (kept_of old) q) t.log (get_or validated t.log 0) l) pay.ready.targets)
    (λ q known. omega (arith, room q known, ap (λ (l : List TargetPair). named_among b q l) pay.ready.targets))))

pub validated_from : (c : CompactState) (t : Payout) (counts after sums : List ℕ) (all : List RoomyBacklog) → IsCompact c → IsPayable c t → HasMoved c t counts after sums all
    → ValidatesFrom c (record { book = c.book; validated = counts; told = c.told; settled = after; balances = sums; backlogs = kept_of all })
validated_from c t counts after sums all is pay has = record { book = refl; told = refl; messages = same; kept = kept } where
  m : Message
  m = pay.ready.message

  same : (q : ℕ) → (backlog_of (kept_of all) q).messages ≡ (backlog_of c.backlogs q).messages
  same q = elim (cases_lt q c.book.logs) as (λ _. (backlog_of (kept_of all) q).messages ≡ (backlog_of c.backlogs q).messages) [
    | inl inside ↦ ap (λ (l : BacklogState). l.messages) (has.credited q inside)
    | inr past ↦
        ap (λ (l : BacklogState). l.messages)
        (get_or_past (kept_of all) q no_backlog (omega (arith, past, has.many, is.sized)) ∙ sym (get_or_past c.backlogs q no_backlog (omega (arith, past, is.sized))))
  ]

  kept : (messages : List MessageList) → IsKeptOf messages c
      → IsKeptOf messages (record { book = c.book; validated = counts; told = c.told; settled = after; balances = sums; backlogs = kept_of all })
  kept messages k =
      subst (λ (l : List ℕ). IsKeptOf messages (record { book = c.book; validated = l; told = c.told; settled = after; balances = sums; backlogs = kept_of all })) (sym has.validated)
      (subst (λ (l : List ℕ). IsKeptOf messages (record { book = c.book; validated = one_more_of c.validated t.log; told = c.told; settled = after; balances = l; backlogs = kept_of all }))
      (sym (has.balances ∙ moved_by c.balances t pay.ready.message pay.ready.source pay.ready.targets))
      (IsKeptOf-raised messages c t.log pay.ready.message after (kept_of all) k pay.ready.log (pay.valid messages k) (next_known c t.log pay.ready.message is pay.ready.log pay.ready.next)
      (λ a known. paid_by c t pay.ready.message after pay.ready.source pay.ready.targets has.settled a (omega (arith, known, is.settled_sized)))
      (λ q known. has.credited q known ∙ ap (λ (l : List TargetPair). backlog_credited c.book q (backlog_of c.backlogs q) t.log (get_or c.validated t.log 0) l) pay.ready.targets)))

-- ---- no next message is valid

pub stuck_none : (c : CompactState) (p : ℕ) → IsCompact c → p < c.book.logs → next_message c p ≡ None → IsStuck c p
stuck_none c p is known none messages k m valid =
    let at : get_or c.told p 0 + (get_or c.validated p 0 - get_or c.told p 0) ≡ get_or c.validated p 0 = omega (arith, (is.backlogs p known).told) in
    differ m (sym none ∙ (sym (k.waiting p (get_or c.validated p 0 - get_or c.told p 0) known) ∙ (ap (message_of messages p) at ∙ valid.delivered)))

-- the message that is valid is the next one
pub valid_next : (c : CompactState) (p : ℕ) (m x : Message) (messages : List MessageList) → IsCompact c → p < c.book.logs → next_message c p ≡ Some m → IsKeptOf messages c
    → IsValid c.book messages c.validated p x → m ≡ x
valid_next c p m x messages is known next k valid = same_Some m x (sym (stands messages c p m k is known next) ∙ valid.delivered)

-- it isn't made there
pub stuck_unmade : (c : CompactState) (p : ℕ) (m : Message) → IsCompact c → p < c.book.logs → next_message c p ≡ Some m
    → ¬ (((account_on_logs c.book m.from).log ≡ Some p) × ((get_or m.deps p 0 ≡ get_or c.validated p 0) × Covers c.validated m.deps)) → IsStuck c p
stuck_unmade c p m is known next unmade messages k x valid =
    let same : m ≡ x = valid_next c p m x messages is known next k valid in
    unmade (subst (λ (m : Message). ((account_on_logs c.book m.from).log ≡ Some p) × ((get_or m.deps p 0 ≡ get_or c.validated p 0) × Covers c.validated m.deps)) (sym same)
    (valid.owner, (valid.own, valid.covered)))

-- where all that its `deps` have is settled, it is valid exactly where what is settled covers it
pub valid_settled : (c : CompactState) (t : Payout) (deps : List ℕ) → IsCompact c → (r : IsNextMade c t deps) → Covers (backlog_of c.backlogs t.log).settled_at deps
    → (messages : List MessageList) → IsKeptOf messages c → (amount_of t.targets ≤ get_or c.settled t.from 0) ↔ IsValid c.book messages c.validated t.log r.message
valid_settled c t deps is r all messages k =
    let m : Message = r.message in
    let on = next_known c t.log m is r.log r.next in
    let there = stands messages c t.log m k is r.log r.next in
    let same = covers-settled c.book messages c.validated c.settled t.log (backlog_of c.backlogs t.log).credits (backlog_of c.backlogs t.log).settled_at m.deps m.from (amount_of m.targets)
    (k.settled t.log r.log) (AreNextDeps-next messages c t.log m k r.log there on.deps r.own r.covered)
    (subst (λ (d : List ℕ). Covers (backlog_of c.backlogs t.log).settled_at d) r.read all) on.source r.owner in (
      λ enough. record {
        delivered = there;
        owner = r.owner;
        own = r.own;
        covered = r.covered;
        balance = same.0 (omega (arith, enough, ap (λ (l : List TargetPair). amount_of l) r.targets, ap (λ f. get_or c.settled f 0) r.source));
      },
      λ valid. omega (arith, same.1 valid.balance, ap (λ (l : List TargetPair). amount_of l) r.targets, ap (λ f. get_or c.settled f 0) r.source),
    )

-- so the log is stuck where it doesn't
pub stuck_short : (c : CompactState) (t : Payout) (deps : List ℕ) → IsCompact c → IsNextMade c t deps → Covers (backlog_of c.backlogs t.log).settled_at deps
    → get_or c.settled t.from 0 < amount_of t.targets → IsStuck c t.log
stuck_short c t deps is r all short messages k x valid =
    let same : r.message ≡ x = valid_next c t.log r.message x messages is r.log r.next k valid in
    absurd (omega (arith, short, (valid_settled c t deps is r all messages k).1 (subst (IsValid c.book messages c.validated t.log) (sym same) valid)))

-- ---- when nothing was read

pub kept_of-replicate : (n : ℕ) (l : RoomyBacklog) → kept_of (replicate n l) ≡ replicate n l.kept
kept_of-replicate zero l = refl
kept_of-replicate (suc n) l = ap (λ (x : List BacklogState). l.kept ∷ x) (kept_of-replicate n l)

drop_nil : (n : ℕ) → drop {A = Message} n [] ≡ []
drop_nil zero = refl
drop_nil (suc n) = refl

pub IsCompact-new : (b : LogTerms) → IsLogBook b → IsCompact (new_state b)
IsCompact-new b book = record {
  book = book;
  counted = length-replicate {A = ℕ} b.logs 0;
  told_counted = length-replicate {A = ℕ} b.logs 0;
  sized = length-replicate b.logs (new_backlog b.logs);
  settled_sized = length-map b.accounts (λ (t : LogAccount). t.opening);
  balanced = length-map b.accounts (λ (t : LogAccount). t.opening);
  total = sum-map (λ (t : LogAccount). t.opening) b.accounts;
  backlogs = λ p known.
      let zero_here = get_or-zeros b.logs p in
      subst (IsBacklog (new_state b) p) (sym (get_or-replicate b.logs p (new_backlog b.logs) no_backlog known)) (record {
        told = omega arith;
        within = omega (arith, zero_here);
        few = omega (arith, zero_here);
        known = λ k d w. absurd (omega (arith, w));
        sized = length-replicate {A = ℕ} b.logs 0;
        credits = λ k d w. absurd (omega (arith, w));
      });
  split = λ p a known a_in owner.
      ap (λ (l : BacklogState). get_or (new_state b).settled a 0 + sum_by (credit_to a) l.credits) (get_or-replicate b.logs p (new_backlog b.logs) no_backlog known) ∙ omega arith;
}

pub IsKept-new : (b : LogTerms) → IsLogBook b
    → IsKept b (replicate b.logs 0) (replicate b.logs 0) (map (λ (t : LogAccount). t.opening) b.accounts) (map (λ (t : LogAccount). t.opening) b.accounts)
    (replicate b.logs (record { kept = new_backlog b.logs; room = 0 }))
IsKept-new b book = (
  subst (λ (l : List BacklogState). IsCompact (record (new_state b) { backlogs = l })) (sym same) (IsCompact-new b book),
  λ p known. omega (arith, ap (λ (l : List BacklogState). needed (record (new_state b) { backlogs = l }) p) same, none p),
) where
  same : kept_of (replicate b.logs (record { kept = new_backlog b.logs; room = 0 })) ≡ replicate b.logs (new_backlog b.logs)
  same = kept_of-replicate b.logs (record { kept = new_backlog b.logs; room = 0 })

  none : (p : ℕ) → needed (new_state b) p ≡ 0
  none p =
      let one : ℕ → ℕ = λ q. sum_by (λ (m : Message). named_among b p m.targets) (waiting_of (new_state b) q) in
      let zeros : (q : ℕ) → q < b.logs → one q ≡ 0 = λ q q_in.
      ap (λ (l : BacklogState). sum_by (λ (m : Message). named_among b p m.targets) (drop (get_or (new_state b).validated q 0 - get_or (new_state b).told q 0) l.messages))
      (get_or-replicate b.logs q (new_backlog b.logs) no_backlog q_in)
      ∙ ap (λ (l : List Message). sum_by (λ (m : Message). named_among b p m.targets) l) (drop_nil (get_or (new_state b).validated q 0 - get_or (new_state b).told q 0)) in
      let double = range-sum one one one 0 b.logs (λ q low high. omega (arith, zeros q (omega (arith, high)))) in
      omega (arith, double)

-- ---- one step after the other

pub settles_none : (c : CompactState) → SettlesFrom c c
settles_none c = record { book = refl; validated = refl; told = refl; messages = λ p. refl; kept = λ messages is. is }

pub settles_then : (a b c : CompactState) → SettlesFrom a b → SettlesFrom b c → SettlesFrom a c
settles_then a b c one two = record {
  book = two.book ∙ one.book;
  validated = two.validated ∙ one.validated;
  told = two.told ∙ one.told;
  messages = λ p. two.messages p ∙ one.messages p;
  kept = λ messages is. two.kept messages (one.kept messages is);
}

pub validates_none : (c : CompactState) → ValidatesFrom c c
validates_none c = record { book = refl; told = refl; messages = λ p. refl; kept = λ messages is. is }

pub validates_settled : (a b c : CompactState) → ValidatesFrom a b → SettlesFrom b c → ValidatesFrom a c
validates_settled a b c one two = record {
  book = two.book ∙ one.book;
  told = two.told ∙ one.told;
  messages = λ p. two.messages p ∙ one.messages p;
  kept = λ messages is. two.kept messages (one.kept messages is);
}

pub validates_then : (a b c : CompactState) → ValidatesFrom a b → ValidatesFrom b c → ValidatesFrom a c
validates_then a b c one two = record {
  book = two.book ∙ one.book;
  told = two.told ∙ one.told;
  messages = λ p. two.messages p ∙ one.messages p;
  kept = λ messages is. two.kept messages (one.kept messages is);
}

-- what is stuck once credits are settled was stuck before
pub stuck_before : (old new : CompactState) (p : ℕ) → SettlesFrom old new → IsStuck new p → IsStuck old p
stuck_before old new p step stuck messages k m valid =
    stuck messages (step.kept messages k) m
    (subst (λ (b : LogTerms). IsValid b messages new.validated p m) (sym step.book) (subst (λ (l : List ℕ). IsValid old.book messages l p m) (sym step.validated) valid))

pub stuck_after : (start old new : CompactState) (p : ℕ) → ValidatesFrom start old → SettlesFrom old new → IsStuck old p → IsStuckIn start new p
stuck_after start old new p earlier step stuck messages k m valid =
    stuck messages (earlier.kept messages k) m
    (subst (λ (b : LogTerms). IsValid b messages old.validated p m) step.book (subst (λ (l : List ℕ). IsValid new.book messages l p m) step.validated valid))

-- ---- a message is told, and let go

pub IsCompact-told : (c : CompactState) (p : ℕ) → IsCompact c → p < c.book.logs → get_or c.told p 0 < get_or c.validated p 0
    → IsCompact (record c { told = one_more_of c.told p; backlogs = set c.backlogs p (backlog_told (backlog_of c.backlogs p) 1) })
IsCompact-told c p is known below =
    let old : BacklogState = backlog_of c.backlogs p in
    let new : BacklogState = backlog_told old 1 in
    let inside : p < length c.backlogs = omega (arith, known, is.sized) in
    let counted : p < length c.told = omega (arith, known, is.told_counted) in
    let told : get_or (one_more_of c.told p) p 0 ≡ get_or c.told p 0 + 1 = get_or-set_same c.told p (get_or c.told p 0 + 1) 0 counted in
    let after : CompactState = record c { told = one_more_of c.told p; backlogs = set c.backlogs p new } in
    let here = is.backlogs p known in
    record {
      book = is.book;
      counted = is.counted;
      told_counted = length-set c.told p (get_or c.told p 0 + 1) ∙ is.told_counted;
      sized = length-set c.backlogs p new ∙ is.sized;
      settled_sized = is.settled_sized;
      balanced = is.balanced;
      total = is.total;
      backlogs = λ q q_in. elim (cases_eq q p) as (λ _. IsBacklog after q (backlog_of after.backlogs q)) [
        | inl same ↦
            subst (λ i. IsBacklog after i (backlog_of after.backlogs i)) (sym same)
            (subst (IsBacklog after p) (sym (backlog-same c.backlogs p new inside)) (record {
              told = omega (arith, told, below);
              within = omega (arith, told, here.within, below, length-drop 1 old.messages);
              few = omega (arith, told, here.few, here.within, below, length-drop 1 old.messages);
              known = λ k d w. subst (IsMessageOn c.book.logs (length c.book.accounts)) (sym (get_or-drop 1 old.messages k d)) (here.known (1 + k) d (omega (arith, w, length-drop 1 old.messages)));
              sized = here.sized;
              credits = here.credits;
            }))
        | inr apart ↦
            let was = is.backlogs q q_in in
            let same : get_or (one_more_of c.told p) q 0 ≡ get_or c.told q 0 = get_or-set_other c.told p q (get_or c.told p 0 + 1) 0 apart in
            subst (IsBacklog after q) (sym (backlog-other c.backlogs p q new apart)) (record {
              told = omega (arith, same, was.told);
              within = omega (arith, same, was.within);
              few = omega (arith, same, was.few);
              known = was.known;
              sized = was.sized;
              credits = was.credits;
            })
      ];
      split = λ q a q_in a_in owner. elim (cases_eq q p) as (λ _. get_or c.settled a 0 + sum_by (credit_to a) (backlog_of after.backlogs q).credits ≡ get_or c.balances a 0) [
        | inl same ↦
            subst (λ i. get_or c.settled a 0 + sum_by (credit_to a) (backlog_of after.backlogs i).credits ≡ get_or c.balances a 0) (sym same)
            (ap (λ (l : BacklogState). get_or c.settled a 0 + sum_by (credit_to a) l.credits) (backlog-same c.backlogs p new inside) ∙ is.split p a known a_in (owner ∙ ap (λ i. Some i) same))
        | inr apart ↦
            ap (λ (l : BacklogState). get_or c.settled a 0 + sum_by (credit_to a) l.credits) (backlog-other c.backlogs p q new apart) ∙ is.split q a q_in a_in owner
      ];
    }

pub needed-told : (c : CompactState) (q p : ℕ) → IsCompact c → q < c.book.logs → get_or c.told q 0 < get_or c.validated q 0
    → needed (record c { told = one_more_of c.told q; backlogs = set c.backlogs q (backlog_told (backlog_of c.backlogs q) 1) }) p ≡ needed c p
needed-told c q p is known below =
    let old : BacklogState = backlog_of c.backlogs q in
    let new : BacklogState = backlog_told old 1 in
    let inside : q < length c.backlogs = omega (arith, known, is.sized) in
    let told : get_or (one_more_of c.told q) q 0 ≡ get_or c.told q 0 + 1 = get_or-set_same c.told q (get_or c.told q 0 + 1) 0 (omega (arith, known, is.told_counted)) in
    let n : ℕ = get_or c.validated q 0 - get_or (one_more_of c.told q) q 0 in
    let at : 1 + n ≡ get_or c.validated q 0 - get_or c.told q 0 = omega (arith, told, below) in
    omega (
      arith,
      needed-one c (record c { told = one_more_of c.told q; backlogs = set c.backlogs q new }) p q 0 refl known
          (ap (λ (l : BacklogState). sum_by (λ (m : Message). named_among c.book p m.targets) (drop n l.messages)) (backlog-same c.backlogs q new inside)
          ∙ (ap (λ (l : List Message). sum_by (λ (m : Message). named_among c.book p m.targets) l) (drop-drop n 1 old.messages ∙ ap (λ k. drop k old.messages) at) ∙ omega arith))
          (λ i apart.
          ap (λ (l : BacklogState). drop (get_or c.validated i 0 - get_or (one_more_of c.told q) i 0) l.messages) (backlog-other c.backlogs q i new apart)
          ∙ ap (λ k. drop (get_or c.validated i 0 - k) (backlog_of c.backlogs i).messages) (get_or-set_other c.told q i (get_or c.told q 0 + 1) 0 apart)),
    )

pub IsKept-told : (b : LogTerms) (validated told settled balances : List ℕ) (all : List RoomyBacklog) (p : ℕ) (new : RoomyBacklog) → IsKept b validated told settled balances all → p < b.logs
    → get_or told p 0 < get_or validated p 0 → new ≡ record (get_or all p no_roomy) { kept = backlog_told (get_or all p no_roomy).kept 1 }
    → IsKept b validated (one_more_of told p) settled balances (set all p new)
IsKept-told b validated told settled balances all p new is known below new_is =
    let before : CompactState = state_of b validated told settled balances all in
    let inside : p < length all = omega (arith, known, is.0.sized, length-map all (λ (l : RoomyBacklog). l.kept)) in
    let kept : kept_of (set all p new) ≡ set (kept_of all) p (backlog_told (backlog_of (kept_of all) p) 1) =
    kept_of-set all p new
    ∙ ap (set (kept_of all) p) (ap (λ (l : RoomyBacklog). l.kept) new_is ∙ ap (λ (l : BacklogState). backlog_told l 1) (sym (backlog_of-kept_of all p))) in (
      subst (λ (l : List BacklogState). IsCompact (record { book = b; validated = validated; told = one_more_of told p; settled = settled; balances = balances; backlogs = l })) (sym kept)
          (IsCompact-told before p is.0 known below),
      λ q q_in. omega (
        arith,
        ap (λ (l : List BacklogState). needed (record { book = b; validated = validated; told = one_more_of told p; settled = settled; balances = balances; backlogs = l }) q) kept,
        needed-told before p q is.0 known below,
        is.1 q q_in,
        room_of-set all p new inside (ap (λ (l : RoomyBacklog). l.room) new_is) q,
      ),
    )

-- ---- what is kept where no next message is valid is a node

pub IsNode-kept : (messages : List MessageList) (old c : CompactState) → IsKeptOf messages old → IsKeptOf messages c → ((p : ℕ) → p < c.book.logs → IsStuckIn old c p)
    → IsNode (whole_node c messages)
IsNode-kept messages old c before is stuck = record {
  steady = is.steady;
  done = λ p m valid. stuck p (omega (arith, delivered-process messages p (get_or c.validated p 0) m valid.delivered, is.steady.sized)) messages before m valid;
}
