-- Nodes that have read the same logs agree, as far as both have read.
use Rattle.std.proofs.Common.{◌≡◌, ℕ, ◌+◌, ◌<◌, ◌≤◌, cond, leb, List, [], length, get_or, map, Option, None, Some, IsSome, slice_get, refl, ap, sym, subst, ◌∙◌, inl, inr, arith, get_or-set_same, get_or-set_other}
use Rattle.at_logs.proofs.Prelude.{cases_eq, cases_lt, ext_get_or, get_or_from_slice_get, get_or_past, get_or-map-range_with_len, length-map-range_with_len, range_with_len, get_or-replicate, slice_get_within, differ, leb_tells, AgreesOnLogs, Answer, Taken, NotAnEntry, Forked, Gap, Again, BookTerms, IsBook, Extends, FollowsOnLogs, HasPrefixes-IsNode, AgreesWithAll-IsNode, SharesBalances-IsNode, EntryTerms, Fits, HasTaken, entry_book, HasReadLogs, HasReadAsMuch, opened, taken, told, IsAnswerAt, IsPassed, IsReading, LeavesAfter, LogBytes, LogTerms, Message, MessageList, NodeState, ReadBoth, ReadsGrown, ReadingState, SharesBalancesOnLogs, SharesPrefixesOnLogs, Tail, TakesFrom, list_of, logs_of, message_at, message_of, message_of-unlisted, messages_in_log, no_tail, opened_node, passed_over, sha256, tail_after, tail_of}
use Rattle.at_logs.proofs.DraftLaws.{SpellsEntry-same}
use Rattle.at_logs.proofs.ReadingLaws.{length-messages_in_log}
use Rattle.at_logs.proofs.SameLogsLaws.{HasMore-with_messages, IsLogRead, IsLogRead-passed, IsLogRead-same, IsLogRead-took, IsReadTo, IsSmall, read_first, same_read, slice_get-left}

-- what holds of a node that has read bytes of these logs
record IsReadOf (b : BookTerms) (hash : List ℕ) (logs : LogBytes) (s : ReadingState) : Type 0 where
  pub reading : IsReading s
  pub book : s.book ≡ b
  pub hashed : s.hash ≡ hash
  pub parts : (p : ℕ) → p < (logs_of b).logs → IsLogRead (opened_node b hash) p (get_or logs p []) (tail_of s p) (list_of s.node.messages p)

-- the logs are those of the book
IsReadOf-logs : (b : BookTerms) (hash : List ℕ) (logs : LogBytes) (s : ReadingState) → IsReadOf b hash logs s → s.node.book ≡ logs_of b
IsReadOf-logs b hash logs s is = is.reading.book ∙ ap logs_of is.book

IsReadOf-opened : (b : BookTerms) (hash : List ℕ) (logs : LogBytes) → IsReading (opened_node b hash) → IsReadOf b hash logs (opened_node b hash)
IsReadOf-opened b hash logs reading = record {
  reading = reading;
  book = refl;
  hashed = refl;
  parts = λ p within.
      let s : ReadingState = opened_node b hash in
      let tail : tail_of s p ≡ no_tail (logs_of b).logs = get_or-replicate (logs_of b).logs p (no_tail (logs_of b).logs) (no_tail 0) within in
      IsLogRead-same s p (get_or logs p []) (no_tail (logs_of b).logs) (tail_of s p) (list_of s.node.messages p) (list_of s.node.messages p) tail (λ k. refl) (record {
        messages = [];
        read = (refl, refl);
        there = λ k. (reading.tails p within).unread k (omega (arith, ap (λ (t : Tail). t.messages) tail));
        many = refl;
      });
}

-- after a call of `take`
IsReadOf-taken : (b : BookTerms) (hash : List ℕ) (logs : LogBytes) (s t : ReadingState) → IsReadOf b hash logs s → TakesFrom logs s t → IsReadOf b hash logs t
IsReadOf-taken b hash logs s t is step = by_answer step.answer step.answered step.left where
  o : ReadingState
  o = opened_node b hash

  log : ℕ
  log = step.log

  bytes : List ℕ
  bytes = step.bytes

  logs_are : s.node.book ≡ logs_of b
  logs_are = IsReadOf-logs b hash logs s is

  known : log < (logs_of b).logs
  known = omega (arith, step.known, ap (λ (n : LogTerms). n.logs) logs_are)

  stands : (place : ℕ) → step.place ≡ place → get_or (get_or logs log []) place [] ≡ bytes
  stands place here = get_or_from_slice_get (get_or logs log []) place bytes [] (ap (slice_get (get_or logs log [])) (sym here) ∙ step.stands)

  -- the entry is taken
  took : (e : EntryTerms) → Fits (entry_book s) (tail_of s log) log step.place bytes e → HasTaken s log bytes e t → IsReadOf b hash logs t
  took e fits has = record {
    reading = step.reading;
    book = has.book ∙ is.book;
    hashed = has.hash ∙ is.hashed;
    parts = λ p within. elim (cases_eq p log) as (λ _. IsLogRead o p (get_or logs p []) (tail_of t p) (list_of t.node.messages p)) [
      | inl same ↦ subst (λ k. IsLogRead o k (get_or logs k []) (tail_of t k) (list_of t.node.messages k)) (sym same) here
      | inr apart ↦
          IsLogRead-same o p (get_or logs p []) (tail_of s p) (tail_of t p) (list_of s.node.messages p) (list_of t.node.messages p)
          (ap (λ (l : List Tail). get_or l p (no_tail 0)) has.tails ∙ get_or-set_other s.tails log p (tail_after (tail_of s log) bytes e) (no_tail 0) apart)
          (λ k. ap (λ (l : List MessageList). message_of l p k) has.messages
          ∙ message_of-unlisted s.node.messages log (tail_of s log).messages (messages_in_log e log) p k listed (λ same _. absurd (apart same)))
          (is.parts p within)
    ];
  } where
    listed : log < length s.node.messages
    listed = omega (arith, step.known, is.reading.node.steady.sized)

    here : IsLogRead o log (get_or logs log []) (tail_of t log) (list_of t.node.messages log)
    here =
        let tail : tail_of t log ≡ tail_after (tail_of s log) bytes e =
        ap (λ (l : List Tail). get_or l log (no_tail 0)) has.tails ∙ get_or-set_same s.tails log (tail_after (tail_of s log) bytes e) (no_tail 0) (omega (arith, is.reading.sized, step.known)) in
        let room : (tail_of s log).messages + length (messages_in_log e log) ≤ length (list_of s.node.messages log) =
        omega (arith, is.reading.node.steady.lists log step.known, fits.next.room, length-messages_in_log e log) in
        subst (λ (u : Tail). IsLogRead o log (get_or logs log []) u (list_of t.node.messages log)) (sym tail)
        (IsLogRead-took o log (get_or logs log []) (tail_of s log) bytes e (list_of s.node.messages log) (list_of t.node.messages log) (stands (tail_of s log).entries fits.here)
        (SpellsEntry-same s o log bytes e logs_are is.book is.hashed fits.spelled) fits.before fits.next
        (HasMore-with_messages s.node.messages log (tail_of s log).messages (messages_in_log e log) (list_of t.node.messages log) listed room (is.reading.tails log step.known).unread
        (ap (λ (l : List MessageList). list_of l log) has.messages)) (is.parts log known))

  -- bytes are passed over
  passed : IsPassed (entry_book s) (tail_of s log) log step.place bytes → t ≡ passed_over s log bytes → IsReadOf b hash logs t
  passed answered left = subst (IsReadOf b hash logs) (sym left) (record {
    reading = subst IsReading left step.reading;
    book = is.book;
    hashed = is.hashed;
    parts = λ p within. elim (cases_eq p log) as (λ _. IsLogRead o p (get_or logs p []) (tail_of (passed_over s log bytes) p) (list_of s.node.messages p)) [
      | inl same ↦ subst (λ k. IsLogRead o k (get_or logs k []) (tail_of (passed_over s log bytes) k) (list_of s.node.messages k)) (sym same) here
      | inr apart ↦
          subst (λ (u : Tail). IsLogRead o p (get_or logs p []) u (list_of s.node.messages p)) (sym (get_or-set_other s.tails log p after (no_tail 0) apart)) (is.parts p within)
    ];
  }) where
    after : Tail
    after = record (tail_of s log) { entries = (tail_of s log).entries + 1; hash = sha256 bytes }

    here : IsLogRead o log (get_or logs log []) (tail_of (passed_over s log bytes) log) (list_of s.node.messages log)
    here =
        subst (λ (u : Tail). IsLogRead o log (get_or logs log []) u (list_of s.node.messages log)) (sym (get_or-set_same s.tails log after (no_tail 0) (omega (arith, is.reading.sized, step.known))))
        (IsLogRead-passed o log (get_or logs log []) (tail_of s log) bytes (list_of s.node.messages log) (stands (tail_of s log).entries answered.here)
        (λ e spelled. answered.unfit e (SpellsEntry-same o s log bytes e (sym logs_are) (sym is.book) (sym is.hashed) spelled)) (is.parts log known))

  by_answer : (a : Answer) → IsAnswerAt s log step.place bytes a → LeavesAfter s log bytes t a → IsReadOf b hash logs t
  by_answer Taken answered left = took answered.0 answered.1 (left answered.0 answered.1.spelled)
  by_answer NotAnEntry answered left = passed answered left
  by_answer Forked answered left = subst (IsReadOf b hash logs) (sym left) is
  by_answer Gap answered left = subst (IsReadOf b hash logs) (sym left) is
  by_answer Again answered left = subst (IsReadOf b hash logs) (sym left) is

IsReadOf-HasReadLogs : (b : BookTerms) (hash : List ℕ) (logs : LogBytes) (s : ReadingState) → HasReadLogs b hash logs s → IsReadOf b hash logs s
IsReadOf-HasReadLogs b hash logs _ (opened reading) = IsReadOf-opened b hash logs reading
IsReadOf-HasReadLogs b hash logs _ (taken s t before step) = IsReadOf-taken b hash logs s t (IsReadOf-HasReadLogs b hash logs s before) step
IsReadOf-HasReadLogs b hash logs _ (told s t before same reading) =
    let is = IsReadOf-HasReadLogs b hash logs s before in
    record {
      reading = reading;
      book = ap (λ (x : ReadingState). x.book) same ∙ is.book;
      hashed = ap (λ (x : ReadingState). x.hash) same ∙ is.hashed;
      parts = λ p within.
          IsLogRead-same (opened_node b hash) p (get_or logs p []) (tail_of s p) (tail_of t p) (list_of s.node.messages p) (list_of t.node.messages p)
          (ap (λ (x : ReadingState). tail_of x p) same) (λ k. ap (λ (x : ReadingState). message_of x.node.messages p k) same) (is.parts p within);
    }

-- what was read of logs was read of those that they grow to
pub ReadsGrown-HasReadLogs : (s : ReadingState) → ReadsGrown s
ReadsGrown-HasReadLogs s b hash logs more read grown = as_grown s read where
  as_grown : (t : ReadingState) → HasReadLogs b hash logs t → HasReadLogs b hash more t
  as_grown _ (opened reading) = opened reading
  as_grown _ (taken r t before step) = taken r t (as_grown r before) (record {
    log = step.log;
    place = step.place;
    bytes = step.bytes;
    answer = step.answer;
    known = step.known;
    stands = grown step.log step.place step.bytes step.stands;
    answered = step.answered;
    left = step.left;
    reading = step.reading;
  })
  as_grown _ (told r t before same reading) = told r t (as_grown r before) same reading

-- ---- two nodes

-- the book is small enough
IsSmall-IsBook : (b : BookTerms) (hash : List ℕ) → IsBook b → IsSmall (opened_node b hash)
IsSmall-IsBook b hash is = record { accounts = omega (arith, is.begun.few_accounts); processes = omega (arith, is.begun.few_processes) }

-- a message that was read of fewer places of a log is there after more
kept : (o : ReadingState) (p : ℕ) (log : List (List ℕ)) (t u : Tail) (list more : MessageList) → IsSmall o → t.entries ≤ u.entries → IsLogRead o p log t list → IsLogRead o p log u more
    → (k : ℕ) (m : Message) → message_at list k ≡ Some m → message_at more k ≡ Some m
kept o p log t u list more small less one other k m there =
    let first = read_first o p log t.entries u.entries t u one.messages other.messages small less one.read other.read in
    let here : slice_get one.messages k ≡ Some m = sym (one.there k) ∙ there in
    other.there k ∙ (ap (λ (l : List Message). slice_get l k) first.1 ∙ (slice_get-left one.messages first.0 k (slice_get_within one.messages k m here) ∙ here))

-- what two nodes have read of one log
record IsBothRead (o : ReadingState) (logs : LogBytes) (other s : ReadingState) : Type 0 where
  pub small : IsSmall o
  pub there : (p : ℕ) → p < s.node.book.logs → IsLogRead o p (get_or logs p []) (tail_of other p) (list_of other.node.messages p)
  pub here : (p : ℕ) → p < s.node.book.logs → IsLogRead o p (get_or logs p []) (tail_of s p) (list_of s.node.messages p)
  pub another : IsReading other
  pub reading : IsReading s
  pub books : other.book ≡ s.book
  pub hashes : other.hash ≡ s.hash
  pub logs_are : other.node.book ≡ s.node.book

IsBothRead-ReadBoth : (logs : LogBytes) (other s : ReadingState) → IsBook s.book → ReadBoth logs other s → IsBothRead (opened_node s.book s.hash) logs other s
IsBothRead-ReadBoth logs other s book both =
    let one = IsReadOf-HasReadLogs s.book s.hash logs other both.there in
    let two = IsReadOf-HasReadLogs s.book s.hash logs s both.here in
    let logs_are = IsReadOf-logs s.book s.hash logs s two in
    let count : s.node.book.logs ≡ (logs_of s.book).logs = ap (λ (n : LogTerms). n.logs) logs_are in
    record {
      small = IsSmall-IsBook s.book s.hash book;
      there = λ p within. one.parts p (omega (arith, within, count));
      here = λ p within. two.parts p (omega (arith, within, count));
      another = one.reading;
      reading = two.reading;
      books = one.book;
      hashes = one.hashed;
      logs_are = IsReadOf-logs s.book s.hash logs other one ∙ sym logs_are;
    }

-- no message stands in a log that there isn't
unlisted : (s : ReadingState) (p k : ℕ) → IsReading s → s.node.book.logs ≤ p → message_of s.node.messages p k ≡ None
unlisted s p k is past = ap (λ (l : MessageList). message_at l k) (get_or_past s.node.messages p [] (omega (arith, past, is.node.steady.sized)))

pub FollowsOnLogs-IsReading : (s : ReadingState) → IsBook s.book → FollowsOnLogs s
FollowsOnLogs-IsReading s book logs other both less =
    let is = IsBothRead-ReadBoth logs other s book both in
    record {
      node = is.another.node;
      book = is.logs_are;
      given = record {
        sized = omega (arith, is.reading.node.steady.sized, is.another.node.steady.sized, ap (λ (n : LogTerms). n.logs) is.logs_are);
        kept = λ p k m there. elim (cases_lt p s.node.book.logs) as (λ _. message_of s.node.messages p k ≡ Some m) [
          | inl within ↦
              kept (opened_node s.book s.hash) p (get_or logs p []) (tail_of other p) (tail_of s p) (list_of other.node.messages p) (list_of s.node.messages p) is.small (less p within)
              (is.there p within) (is.here p within) k m there
          | inr past ↦
              let none : message_of other.node.messages p k ≡ None = unlisted other p k is.another (omega (arith, past, ap (λ (n : LogTerms). n.logs) is.logs_are)) in
              absurd (differ m (sym none ∙ there))
        ];
      };
    }

-- both have read the same of a log
same_messages : (s other : ReadingState) → (logs : LogBytes) → IsBothRead (opened_node s.book s.hash) logs other s → HasReadAsMuch other s → other.node.messages ≡ s.node.messages
same_messages s other logs is level =
    let count = ap (λ (n : LogTerms). n.logs) is.logs_are in
    ext_get_or [] other.node.messages s.node.messages (omega (arith, is.reading.node.steady.sized, is.another.node.steady.sized, count)) (λ p within.
    let known : p < s.node.book.logs = omega (arith, within, is.another.node.steady.sized, count) in
    ext_get_or None (list_of other.node.messages p) (list_of s.node.messages p)
    (omega (arith, is.reading.node.steady.lists p known, is.another.node.steady.lists p (omega (arith, known, count)))) (λ k inside.
    (is.there p known).there k ∙ (ap (λ (l : List Message). slice_get l k) (same p known) ∙ sym ((is.here p known).there k)))) where
      same : (p : ℕ) (known : p < s.node.book.logs) → (is.there p known).messages ≡ (is.here p known).messages
      same p known =
          let o : ReadingState = opened_node s.book s.hash in
          (same_read o p (get_or logs p []) (tail_of s p).entries (tail_of other p) (tail_of s p) (is.there p known).messages (is.here p known).messages is.small
          (subst (λ n. IsReadTo o p (get_or logs p []) n (tail_of other p) (is.there p known).messages) (level p known) (is.there p known).read) (is.here p known).read).1

same_tails : (s other : ReadingState) → (logs : LogBytes) → IsBothRead (opened_node s.book s.hash) logs other s → HasReadAsMuch other s → other.tails ≡ s.tails
same_tails s other logs is level =
    let count = ap (λ (n : LogTerms). n.logs) is.logs_are in
    ext_get_or (no_tail 0) other.tails s.tails (omega (arith, is.reading.sized, is.another.sized, count)) (λ p within.
    let o : ReadingState = opened_node s.book s.hash in
    let known : p < s.node.book.logs = omega (arith, within, is.another.sized, count) in
    (same_read o p (get_or logs p []) (tail_of s p).entries (tail_of other p) (tail_of s p) (is.there p known).messages (is.here p known).messages is.small
    (subst (λ n. IsReadTo o p (get_or logs p []) n (tail_of other p) (is.there p known).messages) (level p known) (is.there p known).read) (is.here p known).read).0)

pub AgreesOnLogs-IsReading : (s : ReadingState) → IsBook s.book → AgreesOnLogs s
AgreesOnLogs-IsReading s book logs other both level =
    let is = IsBothRead-ReadBoth logs other s book both in
    let node : other.node ≡ s.node = AgreesWithAll-IsNode s.node is.reading.node other.node is.another.node is.logs_are (same_messages s other logs is level) in
    let tails : other.tails ≡ s.tails = same_tails s other logs is level in
    ap (λ (b : BookTerms). record { book = b; hash = s.hash; node = s.node; tails = s.tails; told = s.told }) (sym is.books)
    ∙ (ap (λ (l : List ℕ). record { book = other.book; hash = l; node = s.node; tails = s.tails; told = s.told }) (sym is.hashes)
    ∙ (ap (λ (n : NodeState). record { book = other.book; hash = other.hash; node = n; tails = s.tails; told = s.told }) (sym node)
    ∙ ap (λ (l : List Tail). record { book = other.book; hash = other.hash; node = other.node; tails = l; told = s.told }) (sym tails)))

-- a message that is there
there_is : (o : Option Message) → IsSome o → (m : Message) × (o ≡ Some m)
there_is (Some m) some = (m, refl)
there_is None some = absurd cc

pub SharesPrefixesOnLogs-IsReading : (s : ReadingState) → IsBook s.book → SharesPrefixesOnLogs s
SharesPrefixesOnLogs-IsReading s book logs other both p number below_there below_here =
    elim (cases_lt p s.node.book.logs) as (λ _. message_of other.node.messages p number ≡ message_of s.node.messages p number) [
      | inr past ↦ unlisted other p number is.another (omega (arith, past, ap (λ (n : LogTerms). n.logs) is.logs_are)) ∙ sym (unlisted s p number is.reading past)
      | inl within ↦ elim (cases_lt (tail_of s p).entries (tail_of other p).entries) as (λ _. message_of other.node.messages p number ≡ message_of s.node.messages p number) [
        | inl more ↦
            let m = there_is (message_of s.node.messages p number) (HasPrefixes-IsNode s.node is.reading.node p number below_here) in
            kept (opened_node s.book s.hash) p (get_or logs p []) (tail_of s p) (tail_of other p) (list_of s.node.messages p) (list_of other.node.messages p) is.small (omega (arith, more))
            (is.here p within) (is.there p within) number m.0 m.1 ∙ sym m.1
        | inr less ↦
            let m = there_is (message_of other.node.messages p number) (HasPrefixes-IsNode other.node is.another.node p number below_there) in
            m.1 ∙ sym (kept (opened_node s.book s.hash) p (get_or logs p []) (tail_of other p) (tail_of s p) (list_of other.node.messages p) (list_of s.node.messages p) is.small less
            (is.there p within) (is.here p within) number m.0 m.1)
      ]
    ] where
      is : IsBothRead (opened_node s.book s.hash) logs other s
      is = IsBothRead-ReadBoth logs other s book both

-- the messages of a log of the one that has read more of it
abbrev longer_list : ReadingState → ReadingState → ℕ → MessageList
longer_list other s p = cond (leb (tail_of other p).entries (tail_of s p).entries) (list_of s.node.messages p) (list_of other.node.messages p)

pub SharesBalancesOnLogs-IsReading : (s : ReadingState) → IsBook s.book → SharesBalancesOnLogs s
SharesBalancesOnLogs-IsReading s book logs other both counts =
    SharesBalances-IsNode s.node is.reading.node most other.node (record { node = is.another.node; there = there; here = here }) is.logs_are counts where
      is : IsBothRead (opened_node s.book s.hash) logs other s
      is = IsBothRead-ReadBoth logs other s book both

      count : other.node.book.logs ≡ s.node.book.logs
      count = ap (λ (n : LogTerms). n.logs) is.logs_are

      most : List MessageList
      most = map (longer_list other s) (range_with_len 0 s.node.book.logs)

      listed : (p : ℕ) → p < s.node.book.logs → list_of most p ≡ longer_list other s p
      listed p within = get_or-map-range_with_len (longer_list other s) 0 s.node.book.logs p p [] within (omega arith)

      there : Extends other.node.messages most
      there = record {
        sized = length-map-range_with_len (longer_list other s) 0 s.node.book.logs ∙ omega (arith, is.another.node.steady.sized, count);
        kept = λ p k m found. elim (cases_lt p s.node.book.logs) as (λ _. message_of most p k ≡ Some m) [
          | inr past ↦ absurd (differ m (sym (unlisted other p k is.another (omega (arith, past, count))) ∙ found))
          | inl within ↦ ap (λ (l : MessageList). message_at l k) (listed p within) ∙ longer_there p k m within found
        ];
      } where
        longer_there : (p k : ℕ) (m : Message) → p < s.node.book.logs → message_of other.node.messages p k ≡ Some m → message_at (longer_list other s p) k ≡ Some m
        longer_there p k m within found =
            elim (leb_tells (tail_of other p).entries (tail_of s p).entries) [
              | inl t ↦ rw t.0 (kept (opened_node s.book s.hash) p (get_or logs p []) (tail_of other p) (tail_of s p) (list_of other.node.messages p) (list_of s.node.messages p) is.small t.1
                  (is.there p within) (is.here p within) k m found)
              | inr t ↦ rw t.0 found
            ]

      here : Extends s.node.messages most
      here = record {
        sized = length-map-range_with_len (longer_list other s) 0 s.node.book.logs ∙ omega (arith, is.reading.node.steady.sized);
        kept = λ p k m found. elim (cases_lt p s.node.book.logs) as (λ _. message_of most p k ≡ Some m) [
          | inr past ↦ absurd (differ m (sym (unlisted s p k is.reading past) ∙ found))
          | inl within ↦ ap (λ (l : MessageList). message_at l k) (listed p within) ∙ longer_here p k m within found
        ];
      } where
        longer_here : (p k : ℕ) (m : Message) → p < s.node.book.logs → message_of s.node.messages p k ≡ Some m → message_at (longer_list other s p) k ≡ Some m
        longer_here p k m within found =
            elim (leb_tells (tail_of other p).entries (tail_of s p).entries) [
              | inl t ↦ rw t.0 found
              | inr t ↦ rw t.0 (kept (opened_node s.book s.hash) p (get_or logs p []) (tail_of s p) (tail_of other p) (list_of s.node.messages p) (list_of other.node.messages p) is.small (omega (arith, t.1))
                  (is.here p within) (is.there p within) k m found)
            ]
