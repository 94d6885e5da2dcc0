-- One entry more of a log is read.
use Rattle.std.proofs.Common.{◌≡◌, ◌≢◌, ℕ, zero, suc, ◌+◌, ◌-◌, ◌<◌, ◌≤◌, ◌⊎◌, IsSome, List, [], ◌∷◌, length, get_or, set, replicate, Option, None, Some, refl, add-one, ap, sym, subst, ◌∙◌, inl, inr, arith, length-set, get_or-set_same, get_or-set_other}
use Rattle.std.specs.Prelude.{is_some}
use Rattle.at_logs.proofs.Prelude.{All, cases_eq, cases_lt, le_prop, ∥∥₁_elim, ∥∥₁_map, get_or-map-range_with_len, get_or-replicate, get_or-zeros, get_or_past, differ, HasRisingDeps, length-map-range_with_len, length-replicate, one_more_of-ge, one_more_of-le, same_Some, BookTerms, Covers, ComesNext, EntryTerms, IsCounted, IsCounted-Reached, IsMessageOn, Reached, Reached-with_place, after-Reached, list_of, with_message, raise, zeros, LogTerms, MessageList, message_in_log, message_of, message_of-listed, message_of-unlisted, messages_in_log, no_messages, with_messages, IsNode, NodeState, starting_state, one_more_of, Message, none-start, IsReading, IsTail, ReadingState, Tail, log_account, logs_of, no_tail, opened_node, tail_after, tail_of}

pub length-messages_in_log : (e : EntryTerms) (log : ℕ) → length (messages_in_log e log) ≡ length e.messages
length-messages_in_log e log = length-map-range_with_len (message_in_log e log) 0 (length e.messages)

-- where nothing of the log changes
pub IsTail-same : (n after : NodeState) (p : ℕ) (t : Tail) → after.book ≡ n.book → ((number : ℕ) → message_of after.messages p number ≡ message_of n.messages p number)
    → IsTail n p t → IsTail after p t
IsTail-same n after p t book same is =
    let logs : after.book.logs ≡ n.book.logs = ap (λ (b : LogTerms). b.logs) book in
    record {
      counted = is.counted ∙ sym logs;
      read = λ number below. subst (λ (o : Option Message). IsSome o) (sym (same number)) (is.read number below);
      unread = λ number low. same number ∙ is.unread number low;
      first = λ none. is.first none ∙ ap (λ k. replicate k 0) (sym logs);
      later = λ number m next found. is.later number m next (sym (same number) ∙ found);
      named = λ number m found. subst (λ (b : LogTerms). IsMessageOn b.logs (length b.accounts) m) (sym book) (is.named number m (sym (same number) ∙ found));
      own = λ number m found. is.own number m (sym (same number) ∙ found);
      others = λ number m found. is.others number m (sym (same number) ∙ found);
    }

-- where bytes are passed over
pub IsTail-passed : (n : NodeState) (p entries : ℕ) (hash : List ℕ) (t : Tail) → IsTail n p t
    → IsTail n p (record { entries = entries; messages = t.messages; deps = t.deps; hash = hash })
IsTail-passed n p entries hash t is = record { counted = is.counted; read = is.read; unread = is.unread; first = is.first; later = is.later; named = is.named; own = is.own; others = is.others }

-- the `deps` of an entry are no more than those of its messages
le-in_log : (e : EntryTerms) (p i q : ℕ) → p < length e.deps → get_or e.deps q 0 ≤ get_or (message_in_log e p i).deps q 0
le-in_log e p i q within =
    elim (cases_eq q p) as (λ _. get_or e.deps q 0 ≤ get_or (message_in_log e p i).deps q 0) [
      | inl same ↦
          omega (arith, ap (λ k. get_or e.deps k 0) same, ap (λ k. get_or (message_in_log e p i).deps k 0) same, get_or-set_same e.deps p (get_or e.deps p 0 + i) 0 within)
      | inr apart ↦ omega (arith, get_or-set_other e.deps p q (get_or e.deps p 0 + i) 0 apart)
    ]

-- the own count of a message of an entry, and the others
own-in_log : (e : EntryTerms) (p i : ℕ) → p < length e.deps → get_or (message_in_log e p i).deps p 0 ≡ get_or e.deps p 0 + i
own-in_log e p i within = get_or-set_same e.deps p (get_or e.deps p 0 + i) 0 within

other-in_log : (e : EntryTerms) (p i q : ℕ) → q ≢ p → get_or (message_in_log e p i).deps q 0 ≡ get_or e.deps q 0
other-in_log e p i q apart = get_or-set_other e.deps p q (get_or e.deps p 0 + i) 0 apart

-- the `deps` of the next entry are no less than those before
le-next : (t : Tail) (p : ℕ) (e : EntryTerms) → ComesNext t p e → length t.deps ≡ length e.deps → (q : ℕ) → get_or t.deps q 0 ≤ get_or e.deps q 0
le-next t p e next long q = elim (cases_lt q (length e.deps)) as (λ _. get_or t.deps q 0 ≤ get_or e.deps q 0) [
  | inl within ↦ next.kept q within
  | inr past ↦ omega (arith, get_or_past t.deps q 0 (omega (arith, past, long)))
]

-- a message of the log is one of the entry
record IsOfEntry (t : Tail) (e : EntryTerms) (p number : ℕ) (m : Message) : Type 0 where
  pub position : ℕ
  pub within : position < length e.messages
  pub place : t.messages + position ≡ number
  pub same : message_in_log e p position ≡ m

-- once an entry was read, a message of the log is one of it, or was there
found-read : (n : NodeState) (p : ℕ) (e : EntryTerms) (t : Tail) (number : ℕ) (m : Message) → IsNode n → p < n.book.logs → ComesNext t p e
    → message_of (with_messages n.messages p t.messages (messages_in_log e p)) p number ≡ Some m → (message_of n.messages p number ≡ Some m) ⊎ IsOfEntry t e p number m
found-read n p e t number m node known next found =
    let listed : p < length n.messages = omega (arith, known, node.steady.sized) in
    let more : List Message = messages_in_log e p in
    let long : length more ≡ length e.messages = length-messages_in_log e p in
    elim (cases_lt number t.messages) as (λ _. (message_of n.messages p number ≡ Some m) ⊎ IsOfEntry t e p number m) [
      | inl below ↦ inl (sym (message_of-unlisted n.messages p t.messages more p number listed (λ _ low. absurd (omega (arith, low, below)))) ∙ found)
      | inr above ↦
          let i : ℕ = number - t.messages in
          let at : t.messages + i ≡ number = omega (arith, above) in
          elim (cases_lt i (length more)) as (λ _. (message_of n.messages p number ≡ Some m) ⊎ IsOfEntry t e p number m) [
            | inl within ↦
                let inside : i < length e.messages = omega (arith, within, long) in
                let there : Some (get_or more i m) ≡ Some m =
                sym (message_of-listed n.messages p t.messages more i m listed (omega (arith, node.steady.lists p known, next.room, long)) within)
                ∙ (ap (message_of (with_messages n.messages p t.messages more) p) at ∙ found) in
                inr (record {
                  position = i;
                  within = inside;
                  place = at;
                  same = sym (get_or-map-range_with_len (message_in_log e p) 0 (length e.messages) i i m inside (omega arith)) ∙ same_Some (get_or more i m) m there;
                })
            | inr past ↦ inl (sym (message_of-unlisted n.messages p t.messages more p number listed (λ _ _. omega (arith, at, past))) ∙ found)
          ]
    ]

own-of_entry : (t : Tail) (e : EntryTerms) (p number : ℕ) (m : Message) → ComesNext t p e → p < length e.deps → IsOfEntry t e p number m → get_or m.deps p 0 ≡ number
own-of_entry t e p number m next within one =
    omega (arith, ap (λ (x : Message). get_or x.deps p 0) one.same, own-in_log e p one.position within, next.own, one.place)

other-of_entry : (t : Tail) (e : EntryTerms) (p number q : ℕ) (m : Message) → q ≢ p → IsOfEntry t e p number m → get_or m.deps q 0 ≡ get_or e.deps q 0
other-of_entry t e p number q m apart one = ap (λ (x : Message). get_or x.deps q 0) (sym one.same) ∙ other-in_log e p one.position q apart

-- the `deps` of a log's messages still don't fall
pub HasRisingDeps-read : (n : NodeState) (p : ℕ) (e : EntryTerms) (t : Tail) → IsNode n → IsTail n p t → p < n.book.logs → ComesNext t p e → length e.deps ≡ n.book.logs
    → HasRisingDeps n.messages → HasRisingDeps (with_messages n.messages p t.messages (messages_in_log e p))
HasRisingDeps-read n p e t node is known next deps rising q number later m x order there after i inside =
    elim (cases_eq q p) as (λ _. get_or m.deps i 0 ≤ get_or x.deps i 0) [
      | inr apart ↦
          let same = λ (k : ℕ). message_of-unlisted n.messages p t.messages (messages_in_log e p) q k (omega (arith, known, node.steady.sized)) (λ at _. absurd (apart at)) in
          rising q number later m x order (sym (same number) ∙ there) (sym (same later) ∙ after) i inside
      | inl at ↦
          let all : List MessageList = with_messages n.messages p t.messages (messages_in_log e p) in
          by_log (found-read n p e t number m node known next (ap (λ k. message_of all k number) (sym at) ∙ there))
          (found-read n p e t later x node known next (ap (λ k. message_of all k later) (sym at) ∙ after))
    ] where
      within : p < length e.deps
      within = omega (arith, deps, known)

      by_log : (message_of n.messages p number ≡ Some m) ⊎ IsOfEntry t e p number m → (message_of n.messages p later ≡ Some x) ⊎ IsOfEntry t e p later x → get_or m.deps i 0 ≤ get_or x.deps i 0
      by_log (inl a) (inl b) = rising p number later m x order a b i inside
      by_log (inr a) (inl b) = absurd (differ x (sym (is.unread later (omega (arith, order, a.place))) ∙ b))
      by_log (inl a) (inr b) = elim (cases_eq i p) as (λ _. get_or m.deps i 0 ≤ get_or x.deps i 0) [
        | inl same ↦
            subst (λ k. get_or m.deps k 0 ≤ get_or x.deps k 0) (sym same) (omega (arith, is.own number m a, own-of_entry t e p later x next within b, order))
        | inr apart ↦
            omega (arith, is.others number m a i apart, le-next t p e next (is.counted ∙ sym deps) i, other-of_entry t e p later i x apart b)
      ]
      by_log (inr a) (inr b) = elim (cases_eq i p) as (λ _. get_or m.deps i 0 ≤ get_or x.deps i 0) [
        | inl same ↦
            subst (λ k. get_or m.deps k 0 ≤ get_or x.deps k 0) (sym same) (omega (arith, own-of_entry t e p number m next within a, own-of_entry t e p later x next within b, order))
        | inr apart ↦ omega (arith, other-of_entry t e p number i m apart a, other-of_entry t e p later i x apart b)
      ]

-- where an entry is read
pub IsTail-read : (n after : NodeState) (p : ℕ) (bytes : List ℕ) (e : EntryTerms) (t : Tail) → IsNode n → IsTail n p t → p < n.book.logs → after.book ≡ n.book
    → after.messages ≡ with_messages n.messages p t.messages (messages_in_log e p) → ComesNext t p e → length e.deps ≡ n.book.logs → 1 ≤ length e.messages
    → All (IsMessageOn n.book.logs (length n.book.accounts)) (messages_in_log e p) → IsTail after p (tail_after t bytes e)
IsTail-read n after p bytes e t node is known book messages next deps some named =
    let logs : after.book.logs ≡ n.book.logs = ap (λ (b : LogTerms). b.logs) book in
    let listed : p < length n.messages = omega (arith, known, node.steady.sized) in
    let more : List Message = messages_in_log e p in
    let long : length more ≡ length e.messages = length-messages_in_log e p in
    record {
      counted = deps ∙ sym logs;
      read = λ number below. subst (λ (l : List MessageList). IsSome (message_of l p number)) (sym messages)
          (elim (cases_lt number t.messages) as (λ _. IsSome (message_of (with_messages n.messages p t.messages more) p number)) [
            | inl earlier ↦
                subst (λ (o : Option Message). IsSome o) (sym (message_of-unlisted n.messages p t.messages more p number listed (λ _ low. absurd (omega (arith, low, earlier))))) (is.read number earlier)
            | inr later ↦ read_new number later (omega (arith, below))
          ]);
      unread = λ number low.
          ap (λ (l : List MessageList). message_of l p number) messages
          ∙ (message_of-unlisted n.messages p t.messages more p number listed (λ _ _. omega (arith, low, long)) ∙ is.unread number (omega (arith, low)));
      first = λ none. absurd (omega (arith, none, some));
      later = λ number m top found q.
          let i : ℕ = number - t.messages in
          let at : t.messages + i ≡ number = omega (arith, top, some) in
          let within : i < length e.messages = omega (arith, top, some) in
          let there : Some (get_or more i m) ≡ Some m =
          sym (message_of-listed n.messages p t.messages more i m listed (omega (arith, node.steady.lists p known, next.room, long)) (omega (arith, within, long)))
          ∙ (ap (message_of (with_messages n.messages p t.messages more) p) at
          ∙ (sym (ap (λ (l : List MessageList). message_of l p number) messages) ∙ found)) in
          let is : message_in_log e p i ≡ m = sym (get_or-map-range_with_len (message_in_log e p) 0 (length e.messages) i i m within (omega arith)) ∙ same_Some (get_or more i m) m there in
          omega (arith, le-in_log e p i q (omega (arith, deps, known)), ap (λ (x : Message). get_or x.deps q 0) is);
      named = λ number m found.
          subst (λ (b : LogTerms). IsMessageOn b.logs (length b.accounts) m) (sym book)
          (elim (cases_lt number t.messages) as (λ _. IsMessageOn n.book.logs (length n.book.accounts) m) [
            | inl below ↦ is.named number m (sym (message_of-unlisted n.messages p t.messages more p number listed (λ _ low. absurd (omega (arith, low, below)))) ∙ (sym (ap (λ (l : List MessageList). message_of l p number) messages) ∙ found))
            | inr above ↦ named_new number m above (sym (ap (λ (l : List MessageList). message_of l p number) messages) ∙ found)
          ]);
      own = λ number m found. by_own number m (found-read n p e t number m node known next (sym (ap (λ (l : List MessageList). message_of l p number) messages) ∙ found));
      others = λ number m found q apart. by_other number m q apart (found-read n p e t number m node known next (sym (ap (λ (l : List MessageList). message_of l p number) messages) ∙ found));
    } where
      by_own : (number : ℕ) (m : Message) → (message_of n.messages p number ≡ Some m) ⊎ IsOfEntry t e p number m → get_or m.deps p 0 ≡ number
      by_own number m (inl old) = is.own number m old
      by_own number m (inr new) = own-of_entry t e p number m next (omega (arith, deps, known)) new

      by_other : (number : ℕ) (m : Message) (q : ℕ) → q ≢ p → (message_of n.messages p number ≡ Some m) ⊎ IsOfEntry t e p number m → get_or m.deps q 0 ≤ get_or e.deps q 0
      by_other number m q apart (inl old) = omega (arith, is.others number m old q apart, le-next t p e next (is.counted ∙ sym deps) q)
      by_other number m q apart (inr new) = omega (arith, other-of_entry t e p number q m apart new)

      read_new : (number : ℕ) → t.messages ≤ number → number < t.messages + length e.messages → IsSome (message_of (with_messages n.messages p t.messages (messages_in_log e p)) p number)
      read_new number above below =
          let listed : p < length n.messages = omega (arith, known, node.steady.sized) in
          let more : List Message = messages_in_log e p in
          let i : ℕ = number - t.messages in
          let at : t.messages + i ≡ number = omega (arith, above) in
          let room : t.messages + length more ≤ length (list_of n.messages p) = omega (arith, node.steady.lists p known, next.room, length-messages_in_log e p) in
          ap is_some
          (ap (message_of (with_messages n.messages p t.messages more) p) (sym at)
          ∙ message_of-listed n.messages p t.messages more i (message_in_log e p i) listed room (omega (arith, at, below, length-messages_in_log e p)))

      named_new : (number : ℕ) (m : Message) → t.messages ≤ number → message_of (with_messages n.messages p t.messages (messages_in_log e p)) p number ≡ Some m
          → IsMessageOn n.book.logs (length n.book.accounts) m
      named_new number m above found =
          let listed : p < length n.messages = omega (arith, known, node.steady.sized) in
          let more : List Message = messages_in_log e p in
          let i : ℕ = number - t.messages in
          let at : t.messages + i ≡ number = omega (arith, above) in
          elim (cases_lt i (length more)) as (λ _. IsMessageOn n.book.logs (length n.book.accounts) m) [
            | inl within ↦
                let room : t.messages + length more ≤ length (list_of n.messages p) = omega (arith, node.steady.lists p known, next.room, length-messages_in_log e p) in
                let there : Some (get_or more i m) ≡ Some m =
                sym (message_of-listed n.messages p t.messages more i m listed room within)
                ∙ (ap (message_of (with_messages n.messages p t.messages more) p) at ∙ found) in
                subst (IsMessageOn n.book.logs (length n.book.accounts)) (same_Some (get_or more i m) m there) (named i m within)
            | inr past ↦
                let none : message_of n.messages p number ≡ Some m =
                sym (message_of-unlisted n.messages p t.messages more p number listed (λ _ _. omega (arith, at, past))) ∙ found in
                is.named number m none
          ]

-- a new tail of one log
pub IsReading-set : (s : ReadingState) (log : ℕ) (t : Tail) (after : NodeState) → IsReading s → IsNode after → after.book ≡ s.node.book → log < s.node.book.logs
    → ((p number : ℕ) → ¬ (p ≡ log) → message_of after.messages p number ≡ message_of s.node.messages p number) → IsTail after log t
    → ∥ Reached after.book after.messages s.told ∥₁
    → IsReading (record { book = s.book; hash = s.hash; node = after; tails = set s.tails log t; told = s.told })
IsReading-set s log t after is node book known same new told =
    let logs : after.book.logs ≡ s.node.book.logs = ap (λ (b : LogTerms). b.logs) book in
    record {
      node = node;
      book = book ∙ is.book;
      sized = length-set s.tails log t ∙ (is.sized ∙ sym logs);
      tails = λ p within. elim (cases_eq p log) as (λ _. IsTail after p (get_or (set s.tails log t) p (no_tail 0))) [
        | inl e ↦ subst (λ k. IsTail after k (get_or (set s.tails log t) k (no_tail 0))) (sym e)
            (subst (IsTail after log) (sym (get_or-set_same s.tails log t (no_tail 0) (omega (arith, known, is.sized)))) new)
        | inr apart ↦ subst (IsTail after p) (sym (get_or-set_other s.tails log p t (no_tail 0) apart))
            (IsTail-same s.node after p (tail_of s p) book (λ number. same p number apart) (is.tails p (omega (arith, within, logs))))
      ];
      told = told;
    }

-- what is reached stays so after messages that aren't counted
pub Reached-with_messages : (b : LogTerms) (messages : List MessageList) (counts : List ℕ) (p number : ℕ) (more : List Message) → p < length messages → p < b.logs
    → get_or counts p 0 ≤ number → Reached b messages counts → Reached b (with_messages messages p number more) counts
Reached-with_messages b messages counts p number [] listed known after r = r
Reached-with_messages b messages counts p number (m ∷ more) listed known after r =
    Reached-with_messages b (with_message messages p number m) counts p (number + 1) more
    (omega (arith, listed, length-set messages p (set (list_of messages p) number (Some m)))) known (omega (arith, after))
    (Reached-with_place b messages counts p number (Some m) listed known after r)

-- an entry is read
pub IsReading-read : (s : ReadingState) (log : ℕ) (bytes : List ℕ) (e : EntryTerms) (after : NodeState) → IsReading s → IsNode after → after.book ≡ s.node.book → log < s.node.book.logs
    → after.messages ≡ with_messages s.node.messages log (tail_of s log).messages (messages_in_log e log) → ComesNext (tail_of s log) log e → length e.deps ≡ s.node.book.logs → 1 ≤ length e.messages
    → All (IsMessageOn s.node.book.logs (length s.node.book.accounts)) (messages_in_log e log)
    → IsReading (record { book = s.book; hash = s.hash; node = after; tails = set s.tails log (tail_after (tail_of s log) bytes e); told = s.told })
IsReading-read s log bytes e after is node book known messages next deps some named =
    IsReading-set s log (tail_after (tail_of s log) bytes e) after is node book known
    (λ p number apart. ap (λ (l : List MessageList). message_of l p number) messages
    ∙ message_of-unlisted s.node.messages log (tail_of s log).messages (messages_in_log e log) p number (omega (arith, known, is.node.steady.sized)) (λ same _. absurd (apart same)))
    (IsTail-read s.node after log bytes e (tail_of s log) is.node (is.tails log known) known book messages next deps some named) told
  where
    told : ∥ Reached after.book after.messages s.told ∥₁
    told =
        subst (λ (b : LogTerms). ∥ Reached b after.messages s.told ∥₁) (sym book)
        (subst (λ (l : List MessageList). ∥ Reached s.node.book l s.told ∥₁) (sym messages)
        (∥∥₁_map is.told (λ r. Reached-with_messages s.node.book s.node.messages s.told log (tail_of s log).messages (messages_in_log e log)
        (omega (arith, known, is.node.steady.sized)) known
        (after-Reached s.node.book s.node.messages s.told r log (tail_of s log).messages ((is.tails log known).unread (tail_of s log).messages (omega arith))) r)))

-- bytes are passed over
pub IsReading-passed : (s : ReadingState) (log entries : ℕ) (hash : List ℕ) → IsReading s → log < s.node.book.logs
    → IsReading (record { book = s.book; hash = s.hash; node = s.node; tails = set s.tails log (record { entries = entries; messages = (tail_of s log).messages; deps = (tail_of s log).deps; hash = hash }); told = s.told })
IsReading-passed s log entries hash is known =
    IsReading-set s log (record { entries = entries; messages = (tail_of s log).messages; deps = (tail_of s log).deps; hash = hash }) s.node is is.node refl known
    (λ p number apart. refl) (IsTail-passed s.node log entries hash (tail_of s log) (is.tails log known)) is.told

-- a node that has read nothing
pub IsReading-opened_node : (b : BookTerms) (hash : List ℕ) → IsNode (starting_state (logs_of b)) → IsReading (opened_node b hash)
IsReading-opened_node b hash node = record {
  node = node;
  book = refl;
  sized = length-replicate logs (no_tail logs);
  tails = λ p within. subst (IsTail (starting_state (logs_of b)) p) (sym (get_or-replicate logs p (no_tail logs) (no_tail 0) within)) (record {
    counted = length-replicate {A = ℕ} logs 0;
    read = λ number below. absurd (omega (arith, below));
    unread = λ number low. none p number (message_of (replicate logs no_messages) p number) refl;
    first = λ _. refl;
    later = λ number m next found. absurd (omega (arith, next));
    named = λ number m found. absurd (none-start (logs_of b) (logs_of b).logs p number m found);
    own = λ number m found. absurd (none-start (logs_of b) (logs_of b).logs p number m found);
    others = λ number m found. absurd (none-start (logs_of b) (logs_of b).logs p number m found);
  });
  told = ∣ zeros ∣₁;
} where
  logs : ℕ
  logs = (logs_of b).logs

  none : (p number : ℕ) (o : Option Message) → message_of (replicate (logs_of b).logs no_messages) p number ≡ o → message_of (replicate (logs_of b).logs no_messages) p number ≡ None
  none p number None is = is
  none p number (Some m) is = absurd (none-start (logs_of b) (logs_of b).logs p number m is)

-- counts that are reached cover the `deps` of each message that they count
Covers-counted : (b : LogTerms) (messages : List MessageList) (counts : List ℕ) → Reached b messages counts → (q number : ℕ) (x : Message)
    → number < get_or counts q 0 → message_of messages q number ≡ Some x → Covers counts x.deps
Covers-counted b messages _ zeros q number x below found k within = absurd (omega (arith, get_or-zeros b.logs q))
Covers-counted b messages _ (raise counts p m before valid) q number x below found k within =
    let inside : k < length counts = omega (arith, within, length-set counts p (get_or counts p 0 + 1)) in
    elim (cases_lt number (get_or counts q 0)) as (λ _. get_or x.deps k 0 ≤ get_or (one_more_of counts p) k 0) [
      | inl counted ↦ omega (arith, Covers-counted b messages counts before q number x counted found k inside, one_more_of-ge counts p k)
      | inr new ↦
          elim (cases_eq q p) as (λ _. get_or x.deps k 0 ≤ get_or (one_more_of counts p) k 0) [
            | inl same ↦
                let top : get_or (one_more_of counts p) q 0 ≤ get_or counts p 0 + 1 = omega (arith, ap (λ i. get_or (one_more_of counts p) i 0) same, one_more_of-le counts p) in
                let at : number ≡ get_or counts p 0 = omega (arith, new, below, top, ap (λ i. get_or counts i 0) same) in
                let is : Some x ≡ Some m = sym found ∙ (ap (λ i. message_of messages i number) same ∙ (ap (λ i. message_of messages p i) at ∙ valid.delivered)) in
                omega (arith, ap (λ (y : Message). get_or y.deps k 0) (same_Some x m is), valid.covered k inside, one_more_of-ge counts p k)
            | inr apart ↦ absurd (omega (arith, get_or-set_other counts p q (get_or counts p 0 + 1) 0 apart, below, new))
          ]
    ]

-- where all of a log that was read is validated, the validated counts cover its `deps`
pub Covers-tail : (n : NodeState) (p : ℕ) (t : Tail) → IsNode n → IsTail n p t → get_or n.validated p 0 ≡ t.messages → Covers n.validated t.deps
Covers-tail n p t node is all k within = by_read t.messages refl where
  by_read : (read : ℕ) → t.messages ≡ read → get_or t.deps k 0 ≤ get_or n.validated k 0
  by_read zero none = omega (arith, ap (λ (l : List ℕ). get_or l k 0) (is.first none), get_or-zeros n.book.logs k)
  by_read (suc number) some =
      ∥∥₁_elim node.steady.reached le_prop (λ r.
      let c : IsCounted n.book n.messages p number = IsCounted-Reached n.book n.messages n.validated r p number (omega (arith, all, some)) in
      omega (
        arith,
        is.later number c.message (some ∙ sym (add-one number)) c.delivered k,
        Covers-counted n.book n.messages n.validated r p number c.message (omega (arith, all, some)) c.delivered k within,
      ))

-- the accounts of a book's logs are its own
pub accounts-logs_of : (n : LogTerms) (b : BookTerms) → n ≡ logs_of b → length n.accounts ≡ length b.accounts
accounts-logs_of n b is = ap (λ (n : LogTerms). length n.accounts) is ∙ length-map-range_with_len (log_account b) 0 (length b.accounts)

-- a tail by its parts
pub same_tail : (s t : Tail) → s.entries ≡ t.entries → s.messages ≡ t.messages → s.deps ≡ t.deps → s.hash ≡ t.hash → s ≡ t
same_tail s t entries messages deps hash =
    ap (λ n. record { entries = n; messages = s.messages; deps = s.deps; hash = s.hash }) entries
    ∙ (ap (λ n. record { entries = t.entries; messages = n; deps = s.deps; hash = s.hash }) messages
    ∙ (ap (λ (l : List ℕ). record { entries = t.entries; messages = t.messages; deps = l; hash = s.hash }) deps
    ∙ ap (λ (l : List ℕ). record { entries = t.entries; messages = t.messages; deps = t.deps; hash = l }) hash))
