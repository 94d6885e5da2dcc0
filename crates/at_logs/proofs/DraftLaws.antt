-- A draft is made, and is final once it was read at its place.
use Rattle.std.proofs.Common.{◌≡◌, ℕ, ◌+◌, ◌<◌, List, [], ◌∷◌, length, get_or, set, Some, refl, sym, ap, subst, ◌∙◌, arith, get_or-set_same}
use Rattle.std.specs.Prelude.{IsTrue}
use Rattle.at_logs.proofs.Prelude.{All-from_recursion, set-get_or, message_of-listed, account_on_logs, is_owner, AreTargetsOn, BookTerms, CanPay, EntryMessage, EntryTerms, HasBytes, HasTaken, IsAnswerAt, IsDraft, IsEntryOn, IsFinalAt, IsFinal-IsNode, IsReading, IsSource, LeavesAfter, LogTerms, MessageList, NodeTerms, ReadingState, SpellsEntry, entry_book, Draft, Tail, Taken, TargetPair, entry_bytes, message_in_log, message_of, messages_in_log, no_tail, payment_entry, read_state, shown, tail_after, tail_of}
use Rattle.at_logs.proofs.ReadingLaws.{Covers-tail, accounts-logs_of, length-messages_in_log}

pub IsDraft-made : (s : ReadingState) (writer from : ℕ) (paid : List TargetPair) (name : List ℕ) (d : Draft) → IsReading s → d.log < s.node.book.logs → writer < s.book.processes
    → from < length s.book.accounts → AreTargetsOn (length s.book.accounts) paid → CanPay s d.log writer from paid → HasBytes (payment_entry s d.log writer from paid name)
    → d.place ≡ (tail_of s d.log).entries → d.bytes.items ≡ entry_bytes (payment_entry s d.log writer from paid name) → IsDraft s writer from paid name d
IsDraft-made s writer from paid name d is log writer_in source targets can bytes place spelled =
    let one : List EntryMessage = record { from = from; targets = paid; reference = name } ∷ [] in
    let same : get_or s.node.validated d.log 0 + 0 ≡ get_or s.node.validated d.log 0 = omega arith in
    record {
      log = log;
      can = can;
      fits = record {
        here = place;
        spelled = record {
          on = record {
            bytes = bytes;
            names = record {
              writer = writer_in;
              deps = is.node.steady.counted;
              sources = All-from_recursion (λ (m : EntryMessage). m.from < length s.book.accounts) one (source, tt);
              targets = All-from_recursion (λ (m : EntryMessage). AreTargetsOn (length s.book.accounts) m.targets) one (targets, tt);
            };
          };
          exact = spelled;
          book = refl;
          sources = All-from_recursion (λ (m : EntryMessage). IsSource (entry_book s) d.log writer m.from) one (can.source, tt);
        };
        before = refl;
        next = record { own = can.all; room = omega (arith, can.number); kept = Covers-tail s.node d.log (tail_of s d.log) is.node (is.tails d.log log) can.all };
      };
      made = record {
        log = log;
        source = omega (arith, source, accounts-logs_of s.node.book s.book is.book);
        owner = can.source.debited;
        deps = ap (set s.node.validated d.log) same ∙ set-get_or s.node.validated d.log 0;
        amount = can.covered;
      };
    }

-- who can pay is told without the messages
pub CanPay-shown : (n : NodeTerms) (messages : List MessageList) (log writer from : ℕ) (paid : List TargetPair) → CanPay (shown n) log writer from paid → CanPay (read_state n messages) log writer from paid
CanPay-shown n messages log writer from paid can = record { source = can.source; all = can.all; number = can.number; place = can.place; covered = can.covered }

-- an entry by its parts
pub payment_entry-parts : (s : ReadingState) (log writer from : ℕ) (paid : List TargetPair) (name deps before : List ℕ) (messages : List EntryMessage) → deps ≡ s.node.validated
    → before ≡ (tail_of s log).hash → messages ≡ record { from = from; targets = paid; reference = name } ∷ []
    → record { writer = writer; deps = deps; book = s.hash; before = before; messages = messages } ≡ payment_entry s log writer from paid name
payment_entry-parts s log writer from paid name deps before messages deps_are before_is messages_are =
    ap (λ (l : List ℕ). record { writer = writer; deps = l; book = s.hash; before = before; messages = messages }) deps_are
    ∙ (ap (λ (l : List ℕ). record { writer = writer; deps = s.node.validated; book = s.hash; before = l; messages = messages }) before_is
    ∙ ap (λ (l : List EntryMessage). record { writer = writer; deps = s.node.validated; book = s.hash; before = (tail_of s log).hash; messages = l }) messages_are)

-- bytes spell the same to nodes of one book
pub SpellsEntry-same : (r s : ReadingState) (log : ℕ) (bytes : List ℕ) (e : EntryTerms) → r.node.book ≡ s.node.book → r.book ≡ s.book → r.hash ≡ s.hash → SpellsEntry (entry_book r) log bytes e → SpellsEntry (entry_book s) log bytes e
SpellsEntry-same r s log bytes e logs book hash is = record {
  on = subst (λ (l : LogTerms). IsEntryOn l.logs (length s.book.accounts) s.book.processes e) logs
      (subst (λ (b : BookTerms). IsEntryOn r.node.book.logs (length b.accounts) b.processes e) book is.on);
  exact = is.exact;
  book = is.book ∙ hash;
  sources = λ k d below. let source = is.sources k d below in record {
    debited = subst (λ (l : LogTerms). (account_on_logs l (get_or e.messages k d).from).log ≡ Some log) logs source.debited;
    owner = subst (λ (b : BookTerms). IsTrue (is_owner b e.writer (get_or e.messages k d).from)) book source.owner;
  };
}

pub IsFinalAt-taken : (s t : ReadingState) (d : Draft) → IsReading s → IsReading t → d.log < s.node.book.logs → IsAnswerAt s d.log d.place d.bytes.items Taken
    → LeavesAfter s d.log d.bytes.items t Taken → IsFinalAt t d
IsFinalAt-taken s t d is new known taken leaves maker writer from paid name draft book hash follows =
    IsFinal-IsNode t.node new.node maker.node log (message_in_log e log 0) follows draft.made stands
  where
    log : ℕ
    log = d.log

    e : EntryTerms
    e = payment_entry maker log writer from paid name

    -- the entry that was taken, and what is left by it
    other : EntryTerms
    other = taken.0

    by_other : HasTaken s log d.bytes.items other t
    by_other = leaves other taken.1.spelled

    spelled : SpellsEntry (entry_book s) log d.bytes.items e
    spelled = SpellsEntry-same maker s log d.bytes.items e (follows.book ∙ by_other.logs) (book ∙ by_other.book) (hash ∙ by_other.hash) draft.fits.spelled

    has : HasTaken s log d.bytes.items e t
    has = leaves e spelled

    tail : Tail
    tail = tail_of s log

    after : (x : EntryTerms) → HasTaken s log d.bytes.items x t → tail_of t log ≡ tail_after tail d.bytes.items x
    after x h = ap (λ (l : List Tail). get_or l log (no_tail 0)) h.tails ∙ get_or-set_same s.tails log (tail_after tail d.bytes.items x) (no_tail 0) (omega (arith, is.sized, known))

    same : e.deps ≡ other.deps
    same = ap (λ (x : Tail). x.deps) (sym (after e has) ∙ after other by_other)

    number : tail.messages + 0 ≡ get_or maker.node.validated log 0
    number = omega (arith, ap (λ (l : List ℕ). get_or l log 0) same, taken.1.next.own)

    long : length (messages_in_log e log) ≡ 1
    long = length-messages_in_log e log

    stands : message_of t.node.messages log (get_or maker.node.validated log 0) ≡ Some (message_in_log e log 0)
    stands =
        ap (message_of t.node.messages log) (sym number)
        ∙ (ap (λ (l : List MessageList). message_of l log (tail.messages + 0)) has.messages
        ∙ message_of-listed s.node.messages log tail.messages (messages_in_log e log) 0 (message_in_log e log 0) (omega (arith, known, is.node.steady.sized))
        (omega (arith, is.node.steady.lists log known, taken.1.next.room, taken.1.spelled.on.bytes.some, long)) (omega (arith, long)))
