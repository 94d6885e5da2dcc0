-- A state keeps what it needs of its messages: when it begins, and after each step.
use Rattle.std.proofs.Common.{◌≡◌, ◌≢◌, ℕ, zero, suc, ◌+◌, ◌-◌, ◌<◌, ◌≤◌, List, [], ◌∷◌, ◌++◌, length, get_or, map, set, drop, replicate, sum_by, Option, None, Some, slice_get, refl, ap, sym, subst, ◌∙◌, inl, inr, arith, get_or-set_same, get_or-set_other}
use Rattle.at_logs.proofs.Prelude.{All, cases_eq, cases_lt, get_or-replicate, get_or-zeros, length-append, length-replicate, none-start, slice_get-get_or, slice_get_past, AreNextDeps, BacklogState, CompactState, Covers, HasRisingDeps, IsKeptOf, IsLogBook, IsMessageOn, IsSettledFrom, IsSteady, IsSteady-IsProgress, IsProgress-new, IsValid, LogAccount, LogTerms, Message, MessageList, account_on_logs, amount_if, amount_of, backlog_credited, backlog_of, backlog_settled, backlog_told, backlog_with, came, credit_below, list_of, message, message_of, message_of-listed, message_of-unlisted, messages_of-new, moved, new_backlog, new_state, no_backlog, no_messages, nothing, one_more_of, same_number_lists, went, whole_node, with_messages, MESSAGES_MAX}
use Rattle.at_logs.proofs.CreditLaws.{no-credit_to, sum-below-le}
use Rattle.at_logs.proofs.CompactLaws.{Covers-settled, IsSettledFrom-folded, IsSettledFrom-other, IsSettledFrom-raised, IsSettledFrom-with_messages, IsSteady-raised, IsSteady-with_messages}
use Rattle.at_logs.proofs.SameLogsLaws.{slice_get-left, slice_get-right}

-- one backlog is another
pub backlog-same : (backlogs : List BacklogState) (p : ℕ) (new : BacklogState) → p < length backlogs → backlog_of (set backlogs p new) p ≡ new
backlog-same backlogs p new within = get_or-set_same backlogs p new no_backlog within

pub backlog-other : (backlogs : List BacklogState) (p q : ℕ) (new : BacklogState) → q ≢ p → backlog_of (set backlogs p new) q ≡ backlog_of backlogs q
backlog-other backlogs p q new apart = get_or-set_other backlogs p q new no_backlog apart

slice_get-drop : (n : ℕ) (xs : List Message) (k : ℕ) → slice_get (drop n xs) k ≡ slice_get xs (n + k)
slice_get-drop zero xs k = let at : 0 + k ≡ k = omega arith in ap (slice_get xs) (sym at)
slice_get-drop (suc n) [] k = refl
slice_get-drop (suc n) (x ∷ xs) k =
    let at : suc n + k ≡ suc (n + k) = omega arith in
    slice_get-drop n xs k ∙ ap (slice_get (x ∷ xs)) (sym at)

-- ---- more messages of a log are read

-- none stands behind those that are kept
pub unread-kept : (messages : List MessageList) (c : CompactState) (p k : ℕ) → IsKeptOf messages c → p < c.book.logs → get_or c.told p 0 + length (backlog_of c.backlogs p).messages ≤ k
    → message_of messages p k ≡ None
unread-kept messages c p k is known past =
    let i : ℕ = k - get_or c.told p 0 in
    let at : get_or c.told p 0 + i ≡ k = omega (arith, past) in
    ap (message_of messages p) (sym at) ∙ (is.waiting p i known ∙ slice_get_past (backlog_of c.backlogs p).messages i (omega (arith, past, at)))

waiting-stored : (messages : List MessageList) (p told : ℕ) (old more : List Message) (k : ℕ) → p < length messages → told + length old + length more ≤ length (list_of messages p)
    → ((i : ℕ) → message_of messages p (told + i) ≡ slice_get old i) → message_of (with_messages messages p (told + length old) more) p (told + k) ≡ slice_get (old ++ more) k
waiting-stored messages p told old more k listed room was =
    elim (cases_lt k (length old)) as (λ _. message_of (with_messages messages p (told + length old) more) p (told + k) ≡ slice_get (old ++ more) k) [
      | inl before ↦
          message_of-unlisted messages p (told + length old) more p (told + k) listed (λ _ low. absurd (omega (arith, low, before)))
          ∙ (was k ∙ sym (slice_get-left old more k before))
      | inr past ↦
          let i : ℕ = k - length old in
          let at : length old + i ≡ k = omega (arith, past) in
          let place : told + length old + i ≡ told + k = omega (arith, at) in
          elim (cases_lt i (length more)) as (λ _. message_of (with_messages messages p (told + length old) more) p (told + k) ≡ slice_get (old ++ more) k) [
            | inl within ↦
                let d : Message = get_or more i (record { from = 0; targets = []; reference = []; deps = [] }) in
                ap (message_of (with_messages messages p (told + length old) more) p) (sym place)
                ∙ (message_of-listed messages p (told + length old) more i d listed room within
                ∙ (sym (slice_get-get_or more i d within) ∙ (sym (slice_get-right old more i) ∙ ap (slice_get (old ++ more)) at)))
            | inr beyond ↦
                message_of-unlisted messages p (told + length old) more p (told + k) listed (λ _ _. omega (arith, place, beyond))
                ∙ (was k
                ∙ (slice_get_past old k past ∙ sym (slice_get_past (old ++ more) k (omega (arith, at, beyond, length-append old more)))))
          ]
    ]

pub IsKeptOf-stored : (messages : List MessageList) (c : CompactState) (p : ℕ) (more : List Message) → IsKeptOf messages c → p < c.book.logs → length c.backlogs ≡ c.book.logs
    → get_or c.validated p 0 ≤ get_or c.told p 0 + length (backlog_of c.backlogs p).messages
    → get_or c.told p 0 + length (backlog_of c.backlogs p).messages + length more ≤ MESSAGES_MAX
    → HasRisingDeps (with_messages messages p (get_or c.told p 0 + length (backlog_of c.backlogs p).messages) more)
    → IsKeptOf (with_messages messages p (get_or c.told p 0 + length (backlog_of c.backlogs p).messages) more)
    (record c { backlogs = set c.backlogs p (backlog_with (backlog_of c.backlogs p) more) })
IsKeptOf-stored messages c p more is known sized within room rising =
    let old : BacklogState = backlog_of c.backlogs p in
    let number : ℕ = get_or c.told p 0 + length old.messages in
    let listed : p < length messages = omega (arith, known, is.steady.sized) in
    let counted : p < length c.validated = omega (arith, known, is.steady.counted) in
    let in_backlogs : p < length c.backlogs = omega (arith, known, sized) in
    let unread : (k : ℕ) → number ≤ k → message_of messages p k ≡ None = λ k past. unread-kept messages c p k is known past in
    let after : List BacklogState = set c.backlogs p (backlog_with old more) in
    record {
      steady = IsSteady-with_messages (whole_node c messages) p number more is.steady known within;
      rising = rising;
      waiting = λ q k q_in. elim (cases_eq q p) as (λ _. message_of (with_messages messages p number more) q (get_or c.told q 0 + k) ≡ slice_get (backlog_of after q).messages k) [
        | inl same ↦
            subst (λ i. message_of (with_messages messages p number more) i (get_or c.told i 0 + k) ≡ slice_get (backlog_of after i).messages k) (sym same)
            (waiting-stored messages p (get_or c.told p 0) old.messages more k listed (omega (arith, room, is.steady.lists p known)) (λ i. is.waiting p i known)
            ∙ ap (λ (l : BacklogState). slice_get l.messages k) (sym (backlog-same c.backlogs p (backlog_with old more) in_backlogs)))
        | inr apart ↦
            message_of-unlisted messages p number more q (get_or c.told q 0 + k) listed (λ same _. absurd (apart same))
            ∙ (is.waiting q k q_in ∙ ap (λ (l : BacklogState). slice_get l.messages k) (sym (backlog-other c.backlogs p q (backlog_with old more) apart)))
      ];
      settled = λ q q_in. elim (cases_eq q p) as (λ _. IsSettledFrom c.book (with_messages messages p number more) c.validated c.settled q (backlog_of after q).credits (backlog_of after q).settled_at) [
        | inl same ↦
            subst (λ i. IsSettledFrom c.book (with_messages messages p number more) c.validated c.settled i (backlog_of after i).credits (backlog_of after i).settled_at) (sym same)
            (subst (λ (l : BacklogState). IsSettledFrom c.book (with_messages messages p number more) c.validated c.settled p l.credits l.settled_at) (sym (backlog-same c.backlogs p (backlog_with old more) in_backlogs))
            (IsSettledFrom-with_messages c.book messages c.validated c.settled p old.credits old.settled_at p number more listed counted within unread (is.settled p known)))
        | inr apart ↦
            subst (λ (l : BacklogState). IsSettledFrom c.book (with_messages messages p number more) c.validated c.settled q l.credits l.settled_at) (sym (backlog-other c.backlogs p q (backlog_with old more) apart))
            (IsSettledFrom-with_messages c.book messages c.validated c.settled q (backlog_of c.backlogs q).credits (backlog_of c.backlogs q).settled_at p number more listed counted within unread (is.settled q q_in))
      ];
    }

-- ---- credits are settled

-- the `deps` of the next message of a log are counts at which it can be made
pub AreNextDeps-next : (messages : List MessageList) (c : CompactState) (p : ℕ) (m : Message) → IsKeptOf messages c → p < c.book.logs
    → message_of messages p (get_or c.validated p 0) ≡ Some m → length m.deps ≡ c.book.logs → get_or m.deps p 0 ≡ get_or c.validated p 0 → Covers c.validated m.deps
    → AreNextDeps c.book c.validated p (backlog_of c.backlogs p).settled_at m.deps
AreNextDeps-next messages c p m is known there sized own covered = record {
  sized = sized;
  own = own;
  within = covered;
  settled = Covers-settled messages p (get_or c.validated p 0) (get_or c.validated p 0) (backlog_of c.backlogs p).settled_at m is.rising (is.settled p known).up_to (omega arith) there;
}

alone : (q p : ℕ) → Some q ≡ Some p → q ≡ p
alone q p e = cc

pub IsKeptOf-settled : (messages : List MessageList) (c : CompactState) (p : ℕ) (m : Message) (after : List ℕ) → IsKeptOf messages c → p < c.book.logs → length c.backlogs ≡ c.book.logs
    → All (λ x. (account_on_logs c.book x.account).log ≡ Some p) (backlog_of c.backlogs p).credits
    → message_of messages p (get_or c.validated p 0) ≡ Some m → length m.deps ≡ c.book.logs → get_or m.deps p 0 ≡ get_or c.validated p 0 → Covers c.validated m.deps
    → ((a : ℕ) → a < length c.book.accounts → get_or after a 0 ≡ get_or c.settled a 0 + sum_by (credit_below a m.deps) (backlog_of c.backlogs p).credits)
    → IsKeptOf messages (record c { settled = after; backlogs = set c.backlogs p (backlog_settled (backlog_of c.backlogs p) m.deps) })
IsKeptOf-settled messages c p m after is known sized owned there long own covered added =
    let old : BacklogState = backlog_of c.backlogs p in
    let in_backlogs : p < length c.backlogs = omega (arith, known, sized) in
    let new : BacklogState = backlog_settled old m.deps in
    let backlogs : List BacklogState = set c.backlogs p new in
    record {
      steady = is.steady;
      rising = is.rising;
      waiting = λ q k q_in. elim (cases_eq q p) as (λ _. message_of messages q (get_or c.told q 0 + k) ≡ slice_get (backlog_of backlogs q).messages k) [
        | inl same ↦
            subst (λ i. message_of messages i (get_or c.told i 0 + k) ≡ slice_get (backlog_of backlogs i).messages k) (sym same)
            (is.waiting p k known ∙ ap (λ (l : BacklogState). slice_get l.messages k) (sym (backlog-same c.backlogs p new in_backlogs)))
        | inr apart ↦ is.waiting q k q_in ∙ ap (λ (l : BacklogState). slice_get l.messages k) (sym (backlog-other c.backlogs p q new apart))
      ];
      settled = λ q q_in. elim (cases_eq q p) as (λ _. IsSettledFrom c.book messages c.validated after q (backlog_of backlogs q).credits (backlog_of backlogs q).settled_at) [
        | inl same ↦
            subst (λ i. IsSettledFrom c.book messages c.validated after i (backlog_of backlogs i).credits (backlog_of backlogs i).settled_at) (sym same)
            (subst (λ (l : BacklogState). IsSettledFrom c.book messages c.validated after p l.credits l.settled_at) (sym (backlog-same c.backlogs p new in_backlogs))
            (IsSettledFrom-folded c.book messages c.validated c.settled after p old.credits old.settled_at m.deps (AreNextDeps-next messages c p m is known there long own covered)
            (message (get_or c.validated p 0) m (omega arith) there (λ i. omega arith)) added (is.settled p known)))
        | inr apart ↦
            subst (λ (l : BacklogState). IsSettledFrom c.book messages c.validated after q l.credits l.settled_at) (sym (backlog-other c.backlogs p q new apart))
            (IsSettledFrom-other c.book messages c.validated c.settled after q (backlog_of c.backlogs q).credits (backlog_of c.backlogs q).settled_at
            (λ a a_in owner. omega (
              arith,
              added a a_in,
              sum-below-le a m.deps old.credits,
              no-credit_to a old.credits (λ k d w same. apart (alone q p (sym owner ∙ (ap (λ i. (account_on_logs c.book i).log) (sym same) ∙ owned k d w)))),
            )) (is.settled q q_in))
      ];
    }

-- ---- a message is validated

pub IsKeptOf-raised : (messages : List MessageList) (c : CompactState) (p : ℕ) (m : Message) (settled : List ℕ) (backlogs : List BacklogState) → IsKeptOf messages c → p < c.book.logs
    → IsValid c.book messages c.validated p m → IsMessageOn c.book.logs (length c.book.accounts) m
    → ((a : ℕ) → a < length c.book.accounts → get_or settled a 0 + amount_if m.from a (amount_of m.targets) ≡ get_or c.settled a 0)
    → ((q : ℕ) → q < c.book.logs → backlog_of backlogs q ≡ backlog_credited c.book q (backlog_of c.backlogs q) p (get_or c.validated p 0) m.targets)
    → IsKeptOf messages (record { book = c.book; validated = one_more_of c.validated p; told = c.told; settled = settled; balances = moved c.balances m.from m.targets; backlogs = backlogs })
IsKeptOf-raised messages c p m settled backlogs is known valid on paid credited = record {
  steady = IsSteady-raised (whole_node c messages) p m is.steady valid known on;
  rising = is.rising;
  waiting = λ q k q_in. is.waiting q k q_in ∙ ap (λ (l : BacklogState). slice_get l.messages k) (sym (credited q q_in));
  settled = λ q q_in.
      subst (λ (l : BacklogState). IsSettledFrom c.book messages (one_more_of c.validated p) settled q l.credits l.settled_at) (sym (credited q q_in))
      (IsSettledFrom-raised c.book messages c.validated c.settled settled q (backlog_of c.backlogs q).credits (backlog_of c.backlogs q).settled_at p m is.steady.sized is.steady.counted known
      valid.delivered valid.owner paid (is.settled q q_in));
}

-- ---- messages are told, and let go

pub IsKeptOf-told : (messages : List MessageList) (c : CompactState) (told : List ℕ) (backlogs : List BacklogState) → IsKeptOf messages c
    → ((q : ℕ) → q < c.book.logs → get_or c.told q 0 ≤ get_or told q 0)
    → ((q : ℕ) → q < c.book.logs → backlog_of backlogs q ≡ backlog_told (backlog_of c.backlogs q) (get_or told q 0 - get_or c.told q 0))
    → IsKeptOf messages (record { book = c.book; validated = c.validated; told = told; settled = c.settled; balances = c.balances; backlogs = backlogs })
IsKeptOf-told messages c told backlogs is more left = record {
  steady = is.steady;
  rising = is.rising;
  waiting = λ q k q_in.
      let n : ℕ = get_or told q 0 - get_or c.told q 0 in
      let at : get_or told q 0 + k ≡ get_or c.told q 0 + (n + k) = omega (arith, more q q_in) in
      ap (message_of messages q) at
      ∙ (is.waiting q (n + k) q_in
      ∙ (sym (slice_get-drop n (backlog_of c.backlogs q).messages k) ∙ ap (λ (l : BacklogState). slice_get l.messages k) (sym (left q q_in))));
  settled = λ q q_in.
      subst (λ (l : BacklogState). IsSettledFrom c.book messages c.validated c.settled q l.credits l.settled_at) (sym (left q q_in)) (is.settled q q_in);
}

-- ---- when nothing was read

pub IsKeptOf-new : (b : LogTerms) → IsLogBook b → IsKeptOf (replicate b.logs no_messages) (new_state b)
IsKeptOf-new b book = record {
  steady = steady;
  rising = λ p number later m next _ there _ i within. absurd (none-start b b.logs p number m there);
  waiting = λ p k known. unread p (get_or (replicate b.logs 0) p 0 + k) (message_of messages p (get_or (replicate b.logs 0) p 0 + k)) refl
      ∙ ap (λ (l : BacklogState). slice_get l.messages k) (sym (get_or-replicate b.logs p (new_backlog b.logs) no_backlog known));
  settled = λ p known.
      subst (λ (l : BacklogState). IsSettledFrom b messages (replicate b.logs 0) (new_state b).settled p l.credits l.settled_at) (sym (get_or-replicate b.logs p (new_backlog b.logs) no_backlog known))
      (record {
        sized = length-replicate b.logs 0;
        up_to = nothing (λ q. get_or-zeros b.logs q);
        within = λ i _. omega arith;
        left = λ k d w. absurd (omega (arith, w));
        earlier = λ k d w. absurd (omega (arith, w));
        balance = λ a deps a_in owner next.
            let zeros : deps ≡ replicate b.logs 0 = same_zeros deps b.logs next.sized (λ i inside. omega (arith, next.within i (omega (arith, inside, next.sized, length-replicate {A = ℕ} b.logs 0)), get_or-zeros b.logs i)) in
            subst (λ (l : List ℕ). get_or (new_state b).settled a 0 + 0 + went messages l a ≡ came b messages l a) (sym zeros) (omega (arith, steady.balance a a_in));
      });
} where
  messages : List MessageList
  messages = replicate b.logs no_messages

  steady : IsSteady (whole_node (new_state b) (replicate b.logs no_messages))
  steady =
      subst (λ (l : List MessageList). IsSteady (record { book = b; messages = l; validated = replicate b.logs 0; balances = map (λ (t : LogAccount). t.opening) b.accounts }))
      (messages_of-new b.logs (length b.accounts)) (IsSteady-IsProgress b _ _ _ (IsProgress-new b book))

  unread : (p k : ℕ) (o : Option Message) → message_of messages p k ≡ o → message_of messages p k ≡ None
  unread p k None is = is
  unread p k (Some m) is = absurd (none-start b b.logs p k m is)

  same_zeros : (deps : List ℕ) (n : ℕ) → length deps ≡ n → ((i : ℕ) → i < n → get_or deps i 0 ≤ 0) → deps ≡ replicate n 0
  same_zeros deps n long low = same_number_lists deps (replicate n 0) (long ∙ sym (length-replicate n 0)) (λ i inside. omega (arith, low i (omega (arith, inside, long)), get_or-zeros n i))
