-- What a node keeps of what it has read, after each call.
use Rattle.std.proofs.Common.{◌≡◌, ◌≢◌, ℕ, ◌+◌, ◌-◌, ◌<◌, ◌≤◌, List, length, get_or, slice_get, set, Some, refl, ap, sym, subst, ◌∙◌, inl, inr, arith, length-drop, length-set, get_or-set_same, get_or-set_other}
use Rattle.at_logs.proofs.Prelude.{All, ∥∥₁_map, raise, cases_eq, cases_lt, get_or_past, Covers, get_or-replicate, get_or-zeros, length-append, length-replicate, none-start, one_more_of-ge, one_more_of-le, message_of, same_Some, slice_get_within, slice_get-get_or, BacklogState, BookTerms, CompactState, ComesNext, EntryTerms, HasRisingDeps, HasTaken, IsCompact, IsEntryOn, IsHistoryOf, IsKeptOf, IsLogBook, IsMessageOn, IsNode, IsReading, IsRecord, IsStuckIn, IsValid, LogTerms, MESSAGES_MAX, Message, MessageList, NodeTerms, ReadingState, Tail, ValidatesFrom, backlog_of, backlog_told, backlog_with, logs_of, messages_in_log, new_backlog, no_backlog, no_tail, one_more_of, opened_terms, read_state, shown, starting_state, tail_after, tail_of, nothing_read, whole_node, with_messages}
use Rattle.at_logs.specs.Calls.{told_terms}
use Rattle.at_logs.proofs.EntryLaws.{All-in_log}
use Rattle.at_logs.proofs.KeptLaws.{IsKeptOf-new, IsKeptOf-stored, IsKeptOf-told, backlog-other, backlog-same}
use Rattle.at_logs.proofs.ReadingLaws.{HasRisingDeps-read, IsReading-opened_node, IsReading-passed, IsReading-read, accounts-logs_of, length-messages_in_log}
use Rattle.at_logs.proofs.StateLaws.{IsNode-kept}

-- ---- nothing was read

IsNode-new : (b : LogTerms) → IsLogBook b → IsNode (starting_state b)
IsNode-new b book = record { steady = (IsKeptOf-new b book).steady; done = λ p m valid. none-start b b.logs p _ m valid.delivered }

pub IsHistoryOf-opened : (b : BookTerms) (hash : List ℕ) → IsLogBook (logs_of b) → IsHistoryOf (nothing_read b) (opened_terms b hash)
IsHistoryOf-opened b hash book = record { reading = IsReading-opened_node b hash (IsNode-new (logs_of b) book); kept = IsKeptOf-new (logs_of b) book }

pub IsRecord-opened : (b : BookTerms) (hash : List ℕ) → IsRecord (opened_terms b hash)
IsRecord-opened b hash = record {
  book = refl;
  sized = length-replicate logs (no_tail logs);
  counted = λ p known. ap (λ (t : Tail). length t.deps) (get_or-replicate logs p (no_tail logs) (no_tail 0) known) ∙ length-replicate {A = ℕ} logs 0;
  read = λ p known. omega (
    arith,
    ap (λ (t : Tail). t.messages) (get_or-replicate logs p (no_tail logs) (no_tail 0) known),
    get_or-zeros logs p,
    ap (λ (l : BacklogState). length l.messages) (get_or-replicate logs p (new_backlog logs) no_backlog known),
  );
} where
  logs : ℕ
  logs = (logs_of b).logs

-- ---- an entry is read

-- its messages are kept
abbrev pub extended : NodeTerms → ℕ → EntryTerms → CompactState
extended n log e = record n.core { backlogs = set n.core.backlogs log (backlog_with (backlog_of n.core.backlogs log) (messages_in_log e log)) }

-- what is read then
abbrev pub more_read : NodeTerms → ℕ → EntryTerms → List MessageList → List MessageList
more_read n log e messages = with_messages messages log (tail_of (shown n) log).messages (messages_in_log e log)

abbrev pub read_terms : NodeTerms → ℕ → List ℕ → EntryTerms → CompactState → NodeTerms
read_terms n log bytes e core = record { book = n.book; hash = n.hash; core = core; tails = set n.tails log (tail_after (tail_of (shown n) log) bytes e) }

-- an entry that comes next in a log, and what is kept once it was read and all that it makes valid is validated
pub record IsReadBy (n : NodeTerms) (log : ℕ) (e : EntryTerms) (core : CompactState) : Type 0 where
  pub known : log < n.core.book.logs
  pub on : IsEntryOn n.core.book.logs (length n.book.accounts) n.book.processes e
  pub next : ComesNext (tail_of (shown n) log) log e
  pub validates : ValidatesFrom (extended n log e) core
  pub done : (p : ℕ) → p < core.book.logs → IsStuckIn (extended n log e) core p

pub IsMessageOn-entry : (n : NodeTerms) (log : ℕ) (e : EntryTerms) → IsRecord n → IsEntryOn n.core.book.logs (length n.book.accounts) n.book.processes e
    → All (IsMessageOn n.core.book.logs (length n.core.book.accounts)) (messages_in_log e log)
IsMessageOn-entry n log e is on =
    subst (λ (k : ℕ). All (IsMessageOn n.core.book.logs k) (messages_in_log e log)) (sym (accounts-logs_of n.core.book n.book is.book))
    (All-in_log n.core.book.logs (length n.book.accounts) n.book.processes e log on)

-- there are numbers for its messages
pub few-entry : (n : NodeTerms) (log : ℕ) (e : EntryTerms) → IsRecord n → log < n.core.book.logs → ComesNext (tail_of (shown n) log) log e
    → get_or n.core.told log 0 + length (backlog_of n.core.backlogs log).messages + length (messages_in_log e log) ≤ MESSAGES_MAX
few-entry n log e is known next = omega (arith, is.read log known, next.room, length-messages_in_log e log)

IsKeptOf-extended : (n : NodeTerms) (log : ℕ) (e : EntryTerms) (messages : List MessageList) → IsRecord n → IsCompact n.core → IsHistoryOf messages n → log < n.core.book.logs
    → IsEntryOn n.core.book.logs (length n.book.accounts) n.book.processes e → ComesNext (tail_of (shown n) log) log e → IsKeptOf (more_read n log e messages) (extended n log e)
IsKeptOf-extended n log e messages is compact history known on next =
    let more : List Message = messages_in_log e log in
    let number : get_or n.core.told log 0 + length (backlog_of n.core.backlogs log).messages ≡ (tail_of (shown n) log).messages = sym (is.read log known) in
    let rising = HasRisingDeps-read (whole_node n.core messages) log e (tail_of (shown n) log) history.reading.node (history.reading.tails log known) known next on.names.deps history.kept.rising in
    subst (λ k. IsKeptOf (with_messages messages log k more) (extended n log e)) number
    (IsKeptOf-stored messages n.core log more history.kept known compact.sized (compact.backlogs log known).within (few-entry n log e is known next)
    (subst (λ k. HasRisingDeps (with_messages messages log k more)) (sym number) rising))

pub IsHistoryOf-read : (n : NodeTerms) (log : ℕ) (bytes : List ℕ) (e : EntryTerms) (core : CompactState) (messages : List MessageList) → IsRecord n → IsCompact n.core → IsReadBy n log e core
    → IsHistoryOf messages n → IsHistoryOf (more_read n log e messages) (read_terms n log bytes e core)
IsHistoryOf-read n log bytes e core messages is compact by history =
    let s : ReadingState = read_state n messages in
    let all : List MessageList = more_read n log e messages in
    let before = IsKeptOf-extended n log e messages is compact history by.known by.on by.next in
    let kept = by.validates.kept all before in
    let node : IsNode (whole_node core all) = IsNode-kept all (extended n log e) core before kept by.done in
    record {
      reading = subst (λ (l : List ℕ). IsReading (record { book = n.book; hash = n.hash; node = whole_node core all; tails = set n.tails log (tail_after (tail_of s log) bytes e); told = l }))
          (sym by.validates.told)
          (IsReading-read s log bytes e (whole_node core all) history.reading node by.validates.book by.known refl by.next by.on.names.deps by.on.bytes.some
          (IsMessageOn-entry n log e is by.on));
      kept = kept;
    }

pub HasTaken-read : (n : NodeTerms) (log : ℕ) (bytes : List ℕ) (e : EntryTerms) (core : CompactState) (messages : List MessageList) → IsReadBy n log e core
    → HasTaken (read_state n messages) log bytes e (read_state (read_terms n log bytes e core) (more_read n log e messages))
HasTaken-read n log bytes e core messages by =
    record { book = refl; hash = refl; logs = by.validates.book; messages = refl; tails = refl; told = by.validates.told }

pub IsRecord-read : (n : NodeTerms) (log : ℕ) (bytes : List ℕ) (e : EntryTerms) (core : CompactState) → IsRecord n → IsCompact n.core → IsReadBy n log e core → IsRecord (read_terms n log bytes e core)
IsRecord-read n log bytes e core is compact by = record {
  book = by.validates.book ∙ is.book;
  sized = length-set n.tails log new ∙ (is.sized ∙ sym logs);
  counted = λ p known. elim (cases_eq p log) as (λ _. length (get_or (set n.tails log new) p (no_tail 0)).deps ≡ core.book.logs) [
    | inl same ↦
        subst (λ i. length (get_or (set n.tails log new) i (no_tail 0)).deps ≡ core.book.logs) (sym same)
        (ap (λ (t : Tail). length t.deps) here ∙ (by.on.names.deps ∙ sym logs))
    | inr apart ↦ ap (λ (t : Tail). length t.deps) (other p apart) ∙ (is.counted p (omega (arith, known, logs)) ∙ sym logs)
  ];
  read = λ p known. elim (cases_eq p log) as (λ _. (get_or (set n.tails log new) p (no_tail 0)).messages ≡ get_or core.told p 0 + length (backlog_of core.backlogs p).messages) [
    | inl same ↦
        subst (λ i. (get_or (set n.tails log new) i (no_tail 0)).messages ≡ get_or core.told i 0 + length (backlog_of core.backlogs i).messages) (sym same)
        (omega (
          arith,
          ap (λ (t : Tail). t.messages) here,
          ap (λ (l : List ℕ). get_or l log 0) by.validates.told,
          ap (λ (l : List Message). length l) (by.validates.messages log),
          ap (λ (l : BacklogState). length l.messages) (backlog-same n.core.backlogs log (backlog_with (backlog_of n.core.backlogs log) more) (omega (arith, by.known, compact.sized))),
          length-append (backlog_of n.core.backlogs log).messages more,
          is.read log by.known,
          length-messages_in_log e log,
        ))
    | inr apart ↦
        omega (
          arith,
          ap (λ (t : Tail). t.messages) (other p apart),
          ap (λ (l : List ℕ). get_or l p 0) by.validates.told,
          ap (λ (l : List Message). length l) (by.validates.messages p),
          ap (λ (l : BacklogState). length l.messages) (backlog-other n.core.backlogs log p (backlog_with (backlog_of n.core.backlogs log) more) apart),
          is.read p (omega (arith, known, logs)),
        )
  ];
} where
  logs : core.book.logs ≡ n.core.book.logs
  logs = ap (λ (b : LogTerms). b.logs) by.validates.book

  more : List Message
  more = messages_in_log e log

  new : Tail
  new = tail_after (tail_of (shown n) log) bytes e

  here : get_or (set n.tails log new) log (no_tail 0) ≡ new
  here = get_or-set_same n.tails log new (no_tail 0) (omega (arith, by.known, is.sized))

  other : (p : ℕ) → p ≢ log → get_or (set n.tails log new) p (no_tail 0) ≡ get_or n.tails p (no_tail 0)
  other p apart = get_or-set_other n.tails log p new (no_tail 0) apart

-- ---- bytes are passed over

abbrev pub passed_tail : Tail → List ℕ → Tail
passed_tail t hash = record { entries = t.entries + 1; messages = t.messages; deps = t.deps; hash = hash }

pub IsHistoryOf-passed : (n : NodeTerms) (log : ℕ) (hash : List ℕ) (messages : List MessageList) → log < n.core.book.logs → IsHistoryOf messages n
    → IsHistoryOf messages (record n { tails = set n.tails log (passed_tail (tail_of (shown n) log) hash) })
IsHistoryOf-passed n log hash messages known history =
    record { reading = IsReading-passed (read_state n messages) log ((tail_of (shown n) log).entries + 1) hash history.reading known; kept = history.kept }

pub IsRecord-passed : (n : NodeTerms) (log : ℕ) (hash : List ℕ) → log < n.core.book.logs → IsRecord n → IsRecord (record n { tails = set n.tails log (passed_tail (tail_of (shown n) log) hash) })
IsRecord-passed n log hash known is = record {
  book = is.book;
  sized = length-set n.tails log new ∙ is.sized;
  counted = λ p p_in. elim (cases_eq p log) as (λ _. length (get_or (set n.tails log new) p (no_tail 0)).deps ≡ n.core.book.logs) [
    | inl same ↦
        subst (λ i. length (get_or (set n.tails log new) i (no_tail 0)).deps ≡ n.core.book.logs) (sym same) (ap (λ (t : Tail). length t.deps) here ∙ is.counted log known)
    | inr apart ↦ ap (λ (t : Tail). length t.deps) (get_or-set_other n.tails log p new (no_tail 0) apart) ∙ is.counted p p_in
  ];
  read = λ p p_in. elim (cases_eq p log) as (λ _. (get_or (set n.tails log new) p (no_tail 0)).messages ≡ get_or n.core.told p 0 + length (backlog_of n.core.backlogs p).messages) [
    | inl same ↦
        subst (λ i. (get_or (set n.tails log new) i (no_tail 0)).messages ≡ get_or n.core.told i 0 + length (backlog_of n.core.backlogs i).messages) (sym same)
        (ap (λ (t : Tail). t.messages) here ∙ is.read log known)
    | inr apart ↦ ap (λ (t : Tail). t.messages) (get_or-set_other n.tails log p new (no_tail 0) apart) ∙ is.read p p_in
  ];
} where
  new : Tail
  new = passed_tail (tail_of (shown n) log) hash

  here : get_or (set n.tails log new) log (no_tail 0) ≡ new
  here = get_or-set_same n.tails log new (no_tail 0) (omega (arith, known, is.sized))

-- ---- a message is told

pub IsHistoryOf-told : (n : NodeTerms) (p : ℕ) (m : Message) (messages : List MessageList) → IsCompact n.core → p < n.core.book.logs → IsValid n.core.book messages n.core.told p m → IsHistoryOf messages n
    → IsHistoryOf messages (told_terms n p)
IsHistoryOf-told n p m messages compact known valid history = record {
  reading = record {
    node = history.reading.node;
    book = history.reading.book;
    sized = history.reading.sized;
    tails = history.reading.tails;
    told = ∥∥₁_map history.reading.told (λ r. raise n.core.told p m r valid);
  };
  kept = IsKeptOf-told messages n.core (one_more_of n.core.told p) (set n.core.backlogs p (backlog_told (backlog_of n.core.backlogs p) 1)) history.kept (λ q _. one_more_of-ge n.core.told p q) left;
} where
  none_told : (l : BacklogState) → l ≡ backlog_told l 0
  none_told l = refl

  left : (q : ℕ) → q < n.core.book.logs
      → backlog_of (set n.core.backlogs p (backlog_told (backlog_of n.core.backlogs p) 1)) q ≡ backlog_told (backlog_of n.core.backlogs q) (get_or (one_more_of n.core.told p) q 0 - get_or n.core.told q 0)
  left q q_in = elim (cases_eq q p) as (λ _. backlog_of (set n.core.backlogs p (backlog_told (backlog_of n.core.backlogs p) 1)) q
      ≡ backlog_told (backlog_of n.core.backlogs q) (get_or (one_more_of n.core.told p) q 0 - get_or n.core.told q 0)) [
        | inl same ↦
            let up : 1 ≡ get_or (one_more_of n.core.told p) p 0 - get_or n.core.told p 0 =
            omega (arith, get_or-set_same n.core.told p (get_or n.core.told p 0 + 1) 0 (omega (arith, known, compact.told_counted))) in
            subst (λ i. backlog_of (set n.core.backlogs p (backlog_told (backlog_of n.core.backlogs p) 1)) i ≡ backlog_told (backlog_of n.core.backlogs i) (get_or (one_more_of n.core.told p) i 0 - get_or n.core.told i 0)) (sym same)
            (backlog-same n.core.backlogs p (backlog_told (backlog_of n.core.backlogs p) 1) (omega (arith, known, compact.sized)) ∙ ap (backlog_told (backlog_of n.core.backlogs p)) up)
        | inr apart ↦
            let level : 0 ≡ get_or (one_more_of n.core.told p) q 0 - get_or n.core.told q 0 = omega (arith, get_or-set_other n.core.told p q (get_or n.core.told p 0 + 1) 0 apart) in
            backlog-other n.core.backlogs p q (backlog_told (backlog_of n.core.backlogs p) 1) apart ∙ (none_told (backlog_of n.core.backlogs q) ∙ ap (backlog_told (backlog_of n.core.backlogs q)) level)
      ]

pub IsRecord-told : (n : NodeTerms) (p : ℕ) → IsCompact n.core → p < n.core.book.logs → get_or n.core.told p 0 < get_or n.core.validated p 0 → IsRecord n → IsRecord (told_terms n p)
IsRecord-told n p compact known below is = record {
  book = is.book;
  sized = is.sized;
  counted = is.counted;
  read = λ q q_in. elim (cases_eq q p) as (λ _. (tail_of (shown n) q).messages ≡ get_or (one_more_of n.core.told p) q 0 + length (backlog_of (set n.core.backlogs p new) q).messages) [
    | inl same ↦
        subst (λ i. (tail_of (shown n) i).messages ≡ get_or (one_more_of n.core.told p) i 0 + length (backlog_of (set n.core.backlogs p new) i).messages) (sym same)
        (omega (
          arith,
          is.read p known,
          get_or-set_same n.core.told p (get_or n.core.told p 0 + 1) 0 (omega (arith, known, compact.told_counted)),
          ap (λ (l : BacklogState). length l.messages) (backlog-same n.core.backlogs p new (omega (arith, known, compact.sized))),
          length-drop 1 (backlog_of n.core.backlogs p).messages,
          below,
          (compact.backlogs p known).within,
        ))
    | inr apart ↦
        omega (
          arith,
          is.read q q_in,
          get_or-set_other n.core.told p q (get_or n.core.told p 0 + 1) 0 apart,
          ap (λ (l : BacklogState). length l.messages) (backlog-other n.core.backlogs p q new apart),
        )
  ];
} where
  new : BacklogState
  new = backlog_told (backlog_of n.core.backlogs p) 1

-- ---- a message that is kept

pub IsMessageOn-kept : (k : CompactState) (p i : ℕ) (m : Message) → IsCompact k → p < k.book.logs → Some m ≡ slice_get (backlog_of k.backlogs p).messages i → IsMessageOn k.book.logs (length k.book.accounts) m
IsMessageOn-kept k p i m is known there =
    let xs : List Message = (backlog_of k.backlogs p).messages in
    let below : i < length xs = slice_get_within xs i m (sym there) in
    subst (IsMessageOn k.book.logs (length k.book.accounts)) (same_Some (get_or xs i m) m (sym (slice_get-get_or xs i m below) ∙ sym there)) ((is.backlogs p known).known i m below)

pub message_of-kept : (messages : List MessageList) (n : NodeTerms) (p number : ℕ) → IsHistoryOf messages n → p < n.core.book.logs → get_or n.core.told p 0 ≤ number
    → message_of messages p number ≡ slice_get (backlog_of n.core.backlogs p).messages (number - get_or n.core.told p 0)
message_of-kept messages n p number history known untold =
    let at : number ≡ get_or n.core.told p 0 + (number - get_or n.core.told p 0) = omega (arith, untold) in
    ap (message_of messages p) at ∙ history.kept.waiting p (number - get_or n.core.told p 0) known

-- ---- counts below others

pub le-one_more : (counts limit : List ℕ) (p : ℕ) → get_or counts p 0 < get_or limit p 0 → ((q : ℕ) → get_or counts q 0 ≤ get_or limit q 0)
    → (q : ℕ) → get_or (one_more_of counts p) q 0 ≤ get_or limit q 0
le-one_more counts limit p more below q = elim (cases_eq q p) as (λ _. get_or (one_more_of counts p) q 0 ≤ get_or limit q 0) [
  | inl same ↦ subst (λ i. get_or (one_more_of counts p) i 0 ≤ get_or limit i 0) (sym same) (omega (arith, one_more_of-le counts p, more))
  | inr apart ↦ omega (arith, get_or-set_other counts p q (get_or counts p 0 + 1) 0 apart, below q)
]

-- a count past the last is nothing
pub covered-le : (counts limit : List ℕ) → Covers limit counts → length counts ≡ length limit → (p : ℕ) → get_or counts p 0 ≤ get_or limit p 0
covered-le counts limit covered long p = elim (cases_lt p (length limit)) as (λ _. get_or counts p 0 ≤ get_or limit p 0) [
  | inl within ↦ covered p within
  | inr past ↦ omega (arith, get_or_past counts p 0 (omega (arith, past, long)))
]

-- there are numbers for what is validated
pub validated-le : (k : CompactState) (p : ℕ) → IsCompact k → p < k.book.logs → get_or k.validated p 0 ≤ MESSAGES_MAX
validated-le k p is known = omega (arith, (is.backlogs p known).within, (is.backlogs p known).few)
