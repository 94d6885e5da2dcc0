-- What is kept of messages, once more are read, credits are settled, and one more is validated.
use Rattle.std.proofs.Common.{◌≡◌, ◌≢◌, ℕ, ◌+◌, ◌<◌, ◌≤◌, pos, ◌≤ℤ◌, ◌↔◌, Bool, true, false, not, cond, ltb, List, [], ◌∷◌, ◌++◌, length, get_or, set, filter, sum_by, Option, None, Some, refl, ap, sym, subst, ◌∙◌, inl, inr, arith, length-set, get_or-set_same, get_or-set_other}
use Rattle.at_logs.proofs.Prelude.{AllByRecursion, All-append, All-from_recursion, recursion_from_All, cases_eq, cases_lt, differ, get_or_past, le_prop, le-ltb, lt-ltb, ltb-false, ltb-true, set-get_or, set-set, ∥∥₁_elim, ∥∥₁_map, AreNextDeps, AreTargetsOn, Covers, Credit, HasRisingDeps, IsMessageOn, IsSettledFrom, IsSettledUpTo, IsSteady, IsValid, LogTerms, Message, MessageList, NodeState, TargetPair, account_on_logs, amount_if, amount_if-other, amount_of, balance_at, balance_at-covers, came, covers-from_balance_at, credit_below, credits_of, get_or-moved, is_below, is_log, length-moved, list_of, list_of-other, list_of-same, message, message_credit, message_debit, message_of, message_of-unlisted, moved, nothing, one_more_of, one_more_of-ge, raise, sum-moved, sum_by-append, sum_of_first, sum_of_first-le, sum_of_first-one_more_of, sum_of_first-with_place, went, went-deps, with_message, with_messages}
use Rattle.at_logs.proofs.CreditLaws.{all-below, each-credits_of, each-filter, none-below, same-below, split-below, sum-credits_of}
use Rattle.at_logs.proofs.ReadingLaws.{Reached-with_messages}

-- ---- all messages, when more stand behind those that are counted

length-with_messages : (messages : List MessageList) (p number : ℕ) (more : List Message) → length (with_messages messages p number more) ≡ length messages
length-with_messages messages p number [] = refl
length-with_messages messages p number (m ∷ more) =
    length-with_messages (with_message messages p number m) p (number + 1) more ∙ length-set messages p (set (list_of messages p) number (Some m))

long-with_message : (messages : List MessageList) (p number q : ℕ) (m : Message) → p < length messages
    → length (list_of (with_message messages p number m) q) ≡ length (list_of messages q)
long-with_message messages p number q m listed =
    elim (cases_eq q p) as (λ _. length (list_of (with_message messages p number m) q) ≡ length (list_of messages q)) [
      | inl same ↦
          subst (λ i. length (list_of (with_message messages p number m) i) ≡ length (list_of messages i)) (sym same)
          (ap (λ (l : MessageList). length l) (list_of-same messages p number (Some m) listed) ∙ length-set (list_of messages p) number (Some m))
      | inr apart ↦ ap (λ (l : MessageList). length l) (list_of-other messages p number q (Some m) apart)
    ]

long-with_messages : (messages : List MessageList) (p number : ℕ) (more : List Message) (q : ℕ) → p < length messages
    → length (list_of (with_messages messages p number more) q) ≡ length (list_of messages q)
long-with_messages messages p number [] q listed = refl
long-with_messages messages p number (m ∷ more) q listed =
    long-with_messages (with_message messages p number m) p (number + 1) more q (omega (arith, listed, length-set messages p (set (list_of messages p) number (Some m))))
    ∙ long-with_message messages p number q m listed

pub sum_of_first-with_messages : (weight : Option Message → ℕ) (messages : List MessageList) (counts : List ℕ) (p number : ℕ) (more : List Message) → p < length messages
    → get_or counts p 0 ≤ number → sum_of_first weight (with_messages messages p number more) counts ≡ sum_of_first weight messages counts
sum_of_first-with_messages weight messages counts p number [] listed after = refl
sum_of_first-with_messages weight messages counts p number (m ∷ more) listed after =
    sum_of_first-with_messages weight (with_message messages p number m) counts p (number + 1) more
    (omega (arith, listed, length-set messages p (set (list_of messages p) number (Some m)))) (omega (arith, after))
    ∙ sum_of_first-with_place weight messages counts p number (Some m) listed after

pub IsSteady-with_messages : (s : NodeState) (p number : ℕ) (more : List Message) → IsSteady s → p < s.book.logs → get_or s.validated p 0 ≤ number
    → IsSteady (record { book = s.book; messages = with_messages s.messages p number more; validated = s.validated; balances = s.balances })
IsSteady-with_messages s p number more is known after =
    let listed : p < length s.messages = omega (arith, known, is.sized) in
    record {
      book = is.book;
      sized = length-with_messages s.messages p number more ∙ is.sized;
      lists = λ q within. long-with_messages s.messages p number more q listed ∙ is.lists q within;
      counted = is.counted;
      reached = ∥∥₁_map is.reached (λ r. Reached-with_messages s.book s.messages s.validated p number more listed known after r);
      balanced = is.balanced;
      balance = λ a within. omega (
        arith,
        is.balance a within,
        sum_of_first-with_messages (message_credit a) s.messages s.validated p number more listed after,
        sum_of_first-with_messages (message_debit a) s.messages s.validated p number more listed after,
      );
      total = is.total;
    }

-- one more is validated
pub IsSteady-raised : (s : NodeState) (p : ℕ) (m : Message) → IsSteady s → IsValid s.book s.messages s.validated p m → p < s.book.logs
    → IsMessageOn s.book.logs (length s.book.accounts) m
    → IsSteady (record { book = s.book; messages = s.messages; validated = one_more_of s.validated p; balances = moved s.balances m.from m.targets })
IsSteady-raised s p m is valid known on =
    let listed : p < length s.messages = omega (arith, known, is.sized) in
    let counted : p < length s.validated = omega (arith, known, is.counted) in
    let from_in : m.from < length s.balances = omega (arith, on.source, is.balanced) in
    let to_in : AreTargetsOn (length s.balances) m.targets = subst (λ n. AreTargetsOn n m.targets) (sym is.balanced) on.targets in
    let covered : amount_of m.targets ≤ get_or s.balances m.from 0 = ∥∥₁_elim is.reached le_prop (λ r. omega (
      arith,
      covers-from_balance_at s.book s.messages m.deps m.from (amount_of m.targets) valid.balance,
      went-deps s.book s.messages s.validated m.deps p m.from is.sized r valid.owner valid.own valid.covered,
      sum_of_first-le (message_credit m.from) s.messages m.deps s.validated refl (λ q inside. valid.covered q (omega (arith, inside, is.sized, is.counted))),
      is.balance m.from on.source,
    )) in
    record {
      book = is.book;
      sized = is.sized;
      lists = is.lists;
      counted = length-set s.validated p (get_or s.validated p 0 + 1) ∙ is.counted;
      reached = ∥∥₁_map is.reached (λ r. raise s.validated p m r valid);
      balanced = length-moved s.balances m.from m.targets ∙ is.balanced;
      balance = λ a within.
          let credits = sum_of_first-one_more_of (message_credit a) s.messages s.validated p refl listed counted
          ∙ ap (λ x. sum_of_first (message_credit a) s.messages s.validated + message_credit a x) valid.delivered in
          let debits = sum_of_first-one_more_of (message_debit a) s.messages s.validated p refl listed counted
          ∙ ap (λ x. sum_of_first (message_debit a) s.messages s.validated + message_debit a x) valid.delivered in
          omega (arith, credits, debits, is.balance a within, get_or-moved s.balances m.from m.targets a from_in to_in covered);
      total = sum-moved s.balances m.from m.targets from_in to_in covered ∙ is.total;
    }

-- ---- counts one lower

sum_of_first-lowered : (weight : Option Message → ℕ) (messages : List MessageList) (deps : List ℕ) (p v : ℕ) → weight None ≡ 0 → p < length messages → p < length deps
    → get_or deps p 0 ≡ v + 1 → sum_of_first weight messages deps ≡ sum_of_first weight messages (set deps p v) + weight (message_of messages p v)
sum_of_first-lowered weight messages deps p v none listed counted is =
    let lower : List ℕ = set deps p v in
    let here : get_or lower p 0 ≡ v = get_or-set_same deps p v 0 counted in
    let raised : one_more_of lower p ≡ deps =
    set-set deps p v (get_or lower p 0 + 1) ∙ (ap (λ n. set deps p (n + 1)) here ∙ (ap (set deps p) (sym is) ∙ set-get_or deps p 0)) in
    ap (λ (l : List ℕ). sum_of_first weight messages l) (sym raised)
    ∙ (sum_of_first-one_more_of weight messages lower p none listed (omega (arith, counted, length-set deps p v))
    ∙ ap (λ k. sum_of_first weight messages lower + weight (message_of messages p k)) here)

-- ---- what is settled

-- the `deps` of a message that comes next, or later, count what is settled
pub Covers-settled : (messages : List MessageList) (p validated number : ℕ) (settled_at : List ℕ) (m : Message) → HasRisingDeps messages → IsSettledUpTo messages p validated settled_at
    → validated ≤ number → message_of messages p number ≡ Some m → Covers m.deps settled_at
Covers-settled messages p validated number settled_at m rising (nothing none) later there i within = omega (arith, none i)
Covers-settled messages p validated number settled_at m rising (message k x low stands cover) later there i within =
    omega (arith, cover i, rising p k number x m (omega (arith, low, later)) stands there i within)

-- more stand behind
IsSettledUpTo-with_messages : (messages : List MessageList) (q validated : ℕ) (deps : List ℕ) (p number : ℕ) (more : List Message) → p < length messages
    → ((k : ℕ) → number ≤ k → message_of messages p k ≡ None) → IsSettledUpTo messages q validated deps → IsSettledUpTo (with_messages messages p number more) q validated deps
IsSettledUpTo-with_messages messages q validated deps p number more listed unread (nothing none) = nothing none
IsSettledUpTo-with_messages messages q validated deps p number more listed unread (message k m low there cover) =
    message k m low (message_of-unlisted messages p number more q k listed
    (λ same above. absurd (differ m (sym (ap (λ i. message_of messages i k) same ∙ unread k above) ∙ there))) ∙ there) cover

pub IsSettledFrom-with_messages : (b : LogTerms) (messages : List MessageList) (validated settled : List ℕ) (q : ℕ) (credits : List Credit) (settled_at : List ℕ) (p number : ℕ) (more : List Message)
    → p < length messages → p < length validated → get_or validated p 0 ≤ number → ((k : ℕ) → number ≤ k → message_of messages p k ≡ None)
    → IsSettledFrom b messages validated settled q credits settled_at → IsSettledFrom b (with_messages messages p number more) validated settled q credits settled_at
IsSettledFrom-with_messages b messages validated settled q credits settled_at p number more listed counted after unread is = record {
  sized = is.sized;
  up_to = IsSettledUpTo-with_messages messages q (get_or validated q 0) settled_at p number more listed unread is.up_to;
  within = is.within;
  left = is.left;
  earlier = is.earlier;
  balance = λ a deps known owner next. omega (
    arith,
    is.balance a deps known owner next,
    sum_of_first-with_messages (message_credit a) messages deps p number more listed (omega (arith, next.within p counted, after)),
    sum_of_first-with_messages (message_debit a) messages deps p number more listed (omega (arith, next.within p counted, after)),
  );
}

-- nothing changes of the accounts that the log debits
pub IsSettledFrom-other : (b : LogTerms) (messages : List MessageList) (validated settled after : List ℕ) (q : ℕ) (credits : List Credit) (settled_at : List ℕ)
    → ((a : ℕ) → a < length b.accounts → (account_on_logs b a).log ≡ Some q → get_or after a 0 ≡ get_or settled a 0)
    → IsSettledFrom b messages validated settled q credits settled_at → IsSettledFrom b messages validated after q credits settled_at
IsSettledFrom-other b messages validated settled after q credits settled_at same is = record {
  sized = is.sized;
  up_to = is.up_to;
  within = is.within;
  left = is.left;
  earlier = is.earlier;
  balance = λ a deps known owner next. omega (arith, is.balance a deps known owner next, same a known owner);
}

-- credits below counts at which the next message can be made are settled
pub IsSettledFrom-folded : (b : LogTerms) (messages : List MessageList) (validated settled after : List ℕ) (p : ℕ) (credits : List Credit) (settled_at deps : List ℕ)
    → AreNextDeps b validated p settled_at deps → IsSettledUpTo messages p (get_or validated p 0) deps
    → ((a : ℕ) → a < length b.accounts → get_or after a 0 ≡ get_or settled a 0 + sum_by (credit_below a deps) credits)
    → IsSettledFrom b messages validated settled p credits settled_at → IsSettledFrom b messages validated after p (filter (λ x. not (is_below deps x)) credits) deps
IsSettledFrom-folded b messages validated settled after p credits settled_at deps next up_to added is = record {
  sized = next.sized;
  up_to = up_to;
  within = next.within;
  left = All-from_recursion (λ (x : Credit). get_or deps x.log 0 ≤ x.number) (filter (λ x. not (is_below deps x)) credits) (unbelow credits);
  earlier = All-from_recursion (λ (x : Credit). x.number < get_or validated x.log 0) (filter (λ x. not (is_below deps x)) credits)
      (each-filter (λ (x : Credit). x.number < get_or validated x.log 0) (λ x. not (is_below deps x)) credits
      (recursion_from_All (λ (x : Credit). x.number < get_or validated x.log 0) credits is.earlier));
  balance = λ a more known owner more_next. omega (
    arith,
    added a known,
    split-below a deps more credits (λ k d within. above more more_next.sized more_next.settled (get_or credits k d)),
    is.balance a more known owner (record {
      sized = more_next.sized;
      own = more_next.own;
      within = more_next.within;
      settled = λ i inside. omega (arith, more_next.settled i inside, next.settled i (omega (arith, inside, more_next.sized, next.sized)));
    }),
  );
} where
  above : (more : List ℕ) → length more ≡ b.logs → Covers more deps → (x : Credit) → is_below deps x ≡ true → is_below more x ≡ true
  above more sized covers x below =
      let low : x.number < get_or deps x.log 0 = ltb-true _ _ below in
      elim (cases_lt x.log (length more)) as (λ _. is_below more x ≡ true) [
        | inl inside ↦ lt-ltb _ _ (omega (arith, low, covers x.log inside))
        | inr past ↦ absurd (omega (arith, low, get_or_past deps x.log 0 (omega (arith, past, sized, next.sized))))
      ]

  unbelow : (list : List Credit) → AllByRecursion (λ (x : Credit). get_or deps x.log 0 ≤ x.number) (filter (λ x. not (is_below deps x)) list)
  unbelow [] = tt
  unbelow (x ∷ list) = chosen (is_below deps x) (filter (λ x. not (is_below deps x)) list) (λ e. ltb-false _ _ e) (unbelow list) where
    chosen : (t : Bool) (rest : List Credit) → (t ≡ false → get_or deps x.log 0 ≤ x.number) → AllByRecursion (λ (x : Credit). get_or deps x.log 0 ≤ x.number) rest
        → AllByRecursion (λ (x : Credit). get_or deps x.log 0 ≤ x.number) (cond (not t) (x ∷ rest) rest)
    chosen true rest is others = others
    chosen false rest is others = (is refl, others)

alone : (q p : ℕ) → Some q ≡ Some p → q ≡ p
alone q p e = cc

-- one more message is validated, of this log or another
pub IsSettledFrom-raised : (b : LogTerms) (messages : List MessageList) (validated settled after : List ℕ) (q : ℕ) (credits : List Credit) (settled_at : List ℕ) (p : ℕ) (m : Message)
    → length messages ≡ b.logs → length validated ≡ b.logs → p < b.logs → message_of messages p (get_or validated p 0) ≡ Some m → (account_on_logs b m.from).log ≡ Some p
    → ((a : ℕ) → a < length b.accounts → get_or after a 0 + amount_if m.from a (amount_of m.targets) ≡ get_or settled a 0)
    → IsSettledFrom b messages validated settled q credits settled_at
    → IsSettledFrom b messages (one_more_of validated p) after q (credits ++ credits_of b q p (get_or validated p 0) m.targets) settled_at
IsSettledFrom-raised b messages validated settled after q credits settled_at p m sized counts known there owner_is paid is = record {
  sized = is.sized;
  up_to = later is.up_to;
  within = λ i inside. omega (arith, is.within i (omega (arith, inside, length-set validated p (v + 1))), one_more_of-ge validated p i);
  left = All-append (λ (x : Credit). get_or settled_at x.log 0 ≤ x.number) credits new is.left
      (All-from_recursion (λ (x : Credit). get_or settled_at x.log 0 ≤ x.number) new (each (λ (x : Credit). get_or settled_at x.log 0 ≤ x.number) (λ a amount. is.within p counted)));
  earlier = All-append (λ (x : Credit). x.number < get_or (one_more_of validated p) x.log 0) credits new
      (λ k d w. omega (arith, is.earlier k d w, one_more_of-ge validated p (get_or credits k d).log))
      (All-from_recursion (λ (x : Credit). x.number < get_or (one_more_of validated p) x.log 0) new
      (each (λ (x : Credit). x.number < get_or (one_more_of validated p) x.log 0) (λ a amount. omega (arith, raised))));
  balance = λ a deps a_in owner next.
      elim (cases_lt (get_or deps p 0) (v + 1)) as (λ _. get_or after a 0 + sum_by (credit_below a deps) (credits ++ new) + went messages deps a ≡ came b messages deps a) [
        | inl low ↦ not_counted a deps a_in owner next low
        | inr high ↦ is_counted a deps a_in owner next (omega (arith, high, raised, next.within p (omega (arith, counted, length-set validated p (v + 1)))))
      ];
} where
  v : ℕ
  v = get_or validated p 0

  new : List Credit
  new = credits_of b q p (get_or validated p 0) m.targets

  counted : p < length validated
  counted = omega (arith, known, counts)

  raised : get_or (one_more_of validated p) p 0 ≡ get_or validated p 0 + 1
  raised = get_or-set_same validated p (get_or validated p 0 + 1) 0 counted

  other : (i : ℕ) → i ≢ p → get_or (one_more_of validated p) i 0 ≡ get_or validated i 0
  other i apart = get_or-set_other validated p i (get_or validated p 0 + 1) 0 apart

  later : IsSettledUpTo messages q (get_or validated q 0) settled_at → IsSettledUpTo messages q (get_or (one_more_of validated p) q 0) settled_at
  later (nothing none) = nothing none
  later (message k x low stands cover) = message k x (omega (arith, low, one_more_of-ge validated p q)) stands cover

  each : (P : Credit → Type 0) → ((a amount : ℕ) → P (record { account = a; log = p; number = get_or validated p 0; amount = amount })) → AllByRecursion P new
  each P all =
      each-credits_of P b q p (get_or validated p 0) m.targets
      (recursion_from_All (λ (t : TargetPair). is_log q (account_on_logs b t.0).log ≡ true → P (record { account = t.0; log = p; number = get_or validated p 0; amount = t.1 })) m.targets
      (λ k d w _. all (get_or m.targets k d).0 (get_or m.targets k d).1))

  not_counted : (a : ℕ) (deps : List ℕ) → a < length b.accounts → (account_on_logs b a).log ≡ Some q → AreNextDeps b (one_more_of validated p) q settled_at deps → get_or deps p 0 < v + 1
      → get_or after a 0 + sum_by (credit_below a deps) (credits ++ new) + went messages deps a ≡ came b messages deps a
  not_counted a deps a_in owner next low =
      let apart : q ≢ p = λ same. omega (arith, low, next.own, raised, ap (λ i. get_or deps i 0) same, ap (λ i. get_or (one_more_of validated p) i 0) same) in
      let free : a ≢ m.from = λ same. apart (alone q p (sym owner ∙ (ap (λ i. (account_on_logs b i).log) same ∙ owner_is))) in
      let before : AreNextDeps b validated q settled_at deps = record {
        sized = next.sized;
        own = next.own ∙ other q apart;
        within = λ i inside. elim (cases_eq i p) as (λ _. get_or deps i 0 ≤ get_or validated i 0) [
          | inl same ↦ subst (λ i. get_or deps i 0 ≤ get_or validated i 0) (sym same) (omega (arith, low))
          | inr far ↦ omega (arith, other i far, next.within i (omega (arith, inside, length-set validated p (v + 1))))
        ];
        settled = next.settled;
      } in
      let none = none-below a deps new (All-from_recursion (λ (x : Credit). is_below deps x ≡ false) new (each (λ (x : Credit). is_below deps x ≡ false) (λ _ _. le-ltb _ _ (omega (arith, low))))) in
      omega (arith, is.balance a deps a_in owner before, sum_by-append (credit_below a deps) credits new, none, paid a a_in, amount_if-other m.from a (amount_of m.targets) free)

  is_counted : (a : ℕ) (deps : List ℕ) → a < length b.accounts → (account_on_logs b a).log ≡ Some q → AreNextDeps b (one_more_of validated p) q settled_at deps → get_or deps p 0 ≡ v + 1
      → get_or after a 0 + sum_by (credit_below a deps) (credits ++ new) + went messages deps a ≡ came b messages deps a
  is_counted a deps a_in owner next top =
      let lower : List ℕ = set deps p v in
      let inside_deps : p < length deps = omega (arith, known, next.sized) in
      let here : get_or lower p 0 ≡ v = get_or-set_same deps p v 0 inside_deps in
      let far_is : (i : ℕ) → i ≢ p → get_or lower i 0 ≡ get_or deps i 0 = λ i far. get_or-set_other deps p i v 0 far in
      let before : AreNextDeps b validated q settled_at lower = record {
        sized = length-set deps p v ∙ next.sized;
        own = elim (cases_eq q p) as (λ _. get_or lower q 0 ≡ get_or validated q 0) [
          | inl same ↦ subst (λ i. get_or lower i 0 ≡ get_or validated i 0) (sym same) here
          | inr far ↦ far_is q far ∙ (next.own ∙ other q far)
        ];
        within = λ i inside. elim (cases_eq i p) as (λ _. get_or lower i 0 ≤ get_or validated i 0) [
          | inl same ↦ subst (λ i. get_or lower i 0 ≤ get_or validated i 0) (sym same) (omega (arith, here))
          | inr far ↦ omega (arith, far_is i far, other i far, next.within i (omega (arith, inside, length-set validated p (v + 1))))
        ];
        settled = λ i inside. elim (cases_eq i p) as (λ _. get_or settled_at i 0 ≤ get_or lower i 0) [
          | inl same ↦ subst (λ i. get_or settled_at i 0 ≤ get_or lower i 0) (sym same) (omega (arith, here, is.within p counted))
          | inr far ↦ omega (arith, far_is i far, next.settled i (omega (arith, inside, length-set deps p v)))
        ];
      } in
      let same : sum_by (credit_below a deps) credits ≡ sum_by (credit_below a lower) credits = same-below a deps lower credits (λ k d w.
      elim (cases_eq (get_or credits k d).log p) as (λ _. is_below deps (get_or credits k d) ≡ is_below lower (get_or credits k d)) [
        | inl at ↦
            let early = is.earlier k d w in
            let below : get_or validated (get_or credits k d).log 0 ≡ v = ap (λ i. get_or validated i 0) at in
            lt-ltb _ _ (omega (arith, early, below, ap (λ i. get_or deps i 0) at, top)) ∙ sym (lt-ltb _ _ (omega (arith, early, below, ap (λ i. get_or lower i 0) at, here)))
        | inr far ↦ ap (λ n. ltb (get_or credits k d).number n) (sym (far_is (get_or credits k d).log far))
      ]) in
      let all = all-below a deps new (All-from_recursion (λ (x : Credit). is_below deps x ≡ true) new (each (λ (x : Credit). is_below deps x ≡ true) (λ _ _. lt-ltb _ _ (omega (arith, top))))) in
      let listed : p < length messages = omega (arith, known, sized) in
      omega (
        arith,
        is.balance a lower a_in owner before,
        sum_by-append (credit_below a deps) credits new,
        same,
        all,
        sum-credits_of b q a p v m.targets owner,
        paid a a_in,
        sum_of_first-lowered (message_credit a) messages deps p v refl listed inside_deps top,
        ap (message_credit a) there,
        sum_of_first-lowered (message_debit a) messages deps p v refl listed inside_deps top,
        ap (message_debit a) there,
      )

-- where what is settled counts all of the next message's `deps`, it covers an amount exactly where the balance at `deps` does
pub covers-settled : (b : LogTerms) (messages : List MessageList) (validated settled : List ℕ) (p : ℕ) (credits : List Credit) (settled_at deps : List ℕ) (account amount : ℕ)
    → IsSettledFrom b messages validated settled p credits settled_at → AreNextDeps b validated p settled_at deps → Covers settled_at deps → account < length b.accounts
    → (account_on_logs b account).log ≡ Some p → (amount ≤ get_or settled account 0) ↔ (pos amount ≤ℤ balance_at b messages deps account)
covers-settled b messages validated settled p credits settled_at deps account amount is next all known owner =
    let none : sum_by (credit_below account deps) credits ≡ 0 = none-below account deps credits (λ k d w. unbelow (get_or credits k d) (is.left k d w)) in
    let balance = is.balance account deps known owner next in (
      λ enough. balance_at-covers b messages deps account amount (omega (arith, enough, none, balance)),
      λ enough. omega (arith, covers-from_balance_at b messages deps account amount enough, none, balance),
    )
  where
    unbelow : (x : Credit) → get_or settled_at x.log 0 ≤ x.number → is_below deps x ≡ false
    unbelow x left = elim (cases_lt x.log (length settled_at)) as (λ _. is_below deps x ≡ false) [
      | inl inside ↦ le-ltb _ _ (omega (arith, left, all x.log inside))
      | inr past ↦ le-ltb _ _ (omega (arith, get_or_past deps x.log 0 (omega (arith, past, is.sized, next.sized))))
    ]
