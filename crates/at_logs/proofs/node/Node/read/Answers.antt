use Rattle.std.proofs.Common.{◌≡◌, ℕ, ◌+◌, ◌<◌, ◌≤◌, List, length, get_or, set, ap, sym, subst, ◌∙◌, arith}
use Rattle.at_logs.specs.Calls.{HasReadEntry}
use Rattle.at_logs.proofs.Prelude.{All, IsStuckIn, get_or_read, CompactState, ComesNext, EntryTerms, IsEntryOn, IsHistoryOf, IsMessageOn, IsRecord, MESSAGES_MAX, Message, NodeTerms, Tail, ValidatesFrom, backlog_of, backlog_with, no_tail, read_state, shown, tail_after, tail_of}
use Rattle.at_logs.proofs.HistoryLaws.{HasTaken-read, IsHistoryOf-read, IsMessageOn-entry, IsReadBy, IsRecord-read, extended, few-entry, more_read, read_terms}
use Rattle.at_logs.proofs.ReadingLaws.{same_tail}
use Rattle.at_logs.proofs.node.Node.read.Goals.{After-hash_of-tail}
use Rattle.at_logs.proofs.node.Node.read.Goals as goal

-- the node by its parts
abbrev inside : After-hash_of-tail → NodeTerms
inside c = record { book = c.self.inside.book; hash = c.self.inside.hash; core = c.self.inside.core; tails = c.self.inside.tails.items }

known : (c : After-hash_of-tail) → c.args.log < (inside c).core.book.logs
known c = omega (arith, c.requires.log_in, ap (λ (n : NodeTerms). n.core.book.logs) c.self.view_is)

-- an entry on a node is one on the same node
on : (n m : NodeTerms) (e : EntryTerms) → n ≡ m → IsEntryOn m.core.book.logs (length m.book.accounts) m.book.processes e → IsEntryOn n.core.book.logs (length n.book.accounts) n.book.processes e
on n m e same is = subst (λ (n : NodeTerms). IsEntryOn n.core.book.logs (length n.book.accounts) n.book.processes e) (sym same) is

next : (n m : NodeTerms) (log : ℕ) (e : EntryTerms) → n ≡ m → ComesNext (tail_of (shown m) log) log e → ComesNext (tail_of (shown n) log) log e
next n m log e same is = subst (λ (n : NodeTerms). ComesNext (tail_of (shown n) log) log e) (sym same) is

pub extend-requires-clause-known : goal.extend-requires-clause-known
extend-requires-clause-known c =
    let n : NodeTerms = record { book = c.self.inside.book; hash = c.self.inside.hash; core = c.self.inside.core; tails = c.self.inside.tails.items } in
    subst (All (IsMessageOn c.self.inside.core.book.logs (length c.self.inside.core.book.accounts))) (sym (c.deref.ensures.value ∙ c.in_ok-messages.ensures))
    (IsMessageOn-entry n c.args.log c.args.entry.now c.self.invariant (on n c.args.self.now c.args.entry.now c.self.view_is c.requires.on))

pub extend-requires-clause-few : goal.extend-requires-clause-few
extend-requires-clause-few c =
    let n : NodeTerms = record { book = c.self.inside.book; hash = c.self.inside.hash; core = c.self.inside.core; tails = c.self.inside.tails.items } in
    let known : c.args.log < n.core.book.logs = omega (arith, c.requires.log_in, ap (λ (n : NodeTerms). n.core.book.logs) c.self.view_is) in
    subst (λ (l : List Message). get_or c.self.inside.core.told c.args.log 0 + length (backlog_of c.self.inside.core.backlogs c.args.log).messages + length l ≤ MESSAGES_MAX)
    (sym (c.deref.ensures.value ∙ c.in_ok-messages.ensures)) (few-entry n c.args.log c.args.entry.now c.self.invariant known (next n c.args.self.now c.args.log c.args.entry.now c.self.view_is c.requires.next))

-- what is kept before anything more is validated
core_is : (c : After-hash_of-tail) → c.extend.new.self ≡ extended (inside c) c.args.log c.args.entry.now
core_is c =
    c.in_ok-extend.ensures.ok
    ∙ ap (λ (l : List Message). record c.self.inside.core { backlogs = set c.self.inside.core.backlogs c.args.log (backlog_with (backlog_of c.self.inside.core.backlogs c.args.log) l) })
    (c.deref.ensures.value ∙ c.in_ok-messages.ensures)

by : (c : After-hash_of-tail) → IsReadBy (inside c) c.args.log c.args.entry.now c.settle.new.self
by c = record {
  known = known c;
  on = on (inside c) c.args.self.now c.args.entry.now c.self.view_is c.requires.on;
  next = next (inside c) c.args.self.now c.args.log c.args.entry.now c.self.view_is c.requires.next;
  validates = subst (λ (k : CompactState). ValidatesFrom k c.settle.new.self) (core_is c) c.settle.ensures.validates;
  done = λ p p_in. subst (λ (k : CompactState). IsStuckIn k c.settle.new.self p) (core_is c) (c.settle.ensures.done p p_in);
}

-- the node that has read it
abbrev after : After-hash_of-tail → NodeTerms
after c = record {
  book = c.self.inside.book;
  hash = c.self.inside.hash;
  core = c.settle.new.self;
  tails = set c.self.inside.tails.items c.args.log
      (record { entries = c.index_mut-tail.result.now.entries + 1; messages = c.index_mut-tail.result.now.messages + c.len.result; deps = c.copy-tail.result; hash = c.hash_of-tail.result });
}

after_is : (c : After-hash_of-tail) → after c ≡ read_terms (inside c) c.args.log c.args.bytes.now c.args.entry.now c.settle.new.self
after_is c =
    let n : NodeTerms = inside c in
    let t : Tail = tail_of (shown n) c.args.log in
    let old : c.index_mut-tail.result.now ≡ t =
    get_or_read c.self.inside.tails.items c.args.log c.index_mut-tail.result.now (omega (arith, c.self.invariant.sized, known c)) c.index_mut-tail.ensures.value (no_tail 0) in
    let new : Tail = record { entries = c.index_mut-tail.result.now.entries + 1; messages = c.index_mut-tail.result.now.messages + c.len.result; deps = c.copy-tail.result; hash = c.hash_of-tail.result } in
    ap (λ (x : Tail). record { book = n.book; hash = n.hash; core = c.settle.new.self; tails = set n.tails c.args.log x })
    (same_tail new (tail_after t c.args.bytes.now c.args.entry.now) (ap (λ (t : Tail). t.entries + 1) old)
    (ap (λ (t : Tail). t.messages + c.len.result) old ∙ ap (λ n. t.messages + n) c.len.ensures.count) (c.copy-tail.ensures ∙ c.deps.ensures) c.hash_of-tail.ensures)

pub invariant_of-self-2 : goal.invariant_of-self-2
invariant_of-self-2 c =
    let at = (goal.at.invariant_of-self-2 c).After-hash_of-tail in
    subst IsRecord (sym (after_is at)) (IsRecord-read (inside at) c.args.log c.args.bytes.now c.args.entry.now c.settle.new.self c.self.invariant c.known.ensures (by at))

pub returns-clause-ok : goal.returns-clause-ok
returns-clause-ok c = λ messages history.
    let at = (goal.at.returns-clause-ok c).After-hash_of-tail in
    let n : NodeTerms = inside at in
    let log : ℕ = c.args.log in
    let bytes : List ℕ = c.args.bytes.now in
    let e : EntryTerms = c.args.entry.now in
    let core : CompactState = c.settle.new.self in
    subst (λ (x : NodeTerms). HasReadEntry (read_state x messages) log bytes e (after at)) c.self.view_is
    (subst (HasReadEntry (read_state n messages) log bytes e) (sym (after_is at)) (record {
      messages = more_read n log e messages;
      history = IsHistoryOf-read n log bytes e core messages c.self.invariant c.known.ensures (by at) (subst (IsHistoryOf messages) (sym c.self.view_is) history);
      taken = HasTaken-read n log bytes e core messages (by at);
    }))
