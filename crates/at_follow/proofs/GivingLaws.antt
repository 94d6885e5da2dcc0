-- A node that goes through logs.
use Rattle.std.proofs.Common.{◌≡◌, ℕ, ◌+◌, ◌<◌, List, [], ◌∷◌, ◌++◌, length, get_or, replicate, set, Some, slice_get, refl, ap, sym, subst, ◌∙◌, inl, inr, arith, Vec, get_or-set_same, get_or-set_other}
use Rattle.at_follow.proofs.Prelude.{All, All-append, All-cons, All-nil, Answer, Taken, NotAnEntry, Forked, Gap, Again, BookTerms, EntryFault, GoesThrough, HasAnswered, HasReadLogs, IsAnswerAt, IsFollowing, IsGiven, IsHistoryOf, IsOneAnswer, IsReading, LeavesAfter, LogBytes, LogTerms, NodeTerms, ReadingState, StandsAt, Tail, WhateverRead, cases_lt, contents_of, entries_at, get_or-contents_of, get_or-map, get_or-replicate, get_or_past, Global, length-contents_of, length-map, length-replicate, log_bytes, nothing_read, opened_terms, slice_get-get_or, logs_of, no_tail, opened_node, read_state, shown, tail_of}
use Rattle.at_logs.specs.SameLogs.HasReadLogs.{opened as reads_opened, taken as reads_taken}
use Rattle.at_follow.specs.Following.GoesThrough.{opened, taken, passed, forked, ended}
use Rattle.at_follow.specs.declared.following.EntryWhy.TheVariants as why

-- ---- one call

-- what was answered, and what is left
given-at : (logs : LogBytes) (log place : ℕ) (a : Answer) (s t : ReadingState) (g : IsGiven logs log place a s t) → IsAnswerAt s log place g.call.bytes a
given-at logs log place a s t g =
    subst (λ x. IsAnswerAt s log place g.call.bytes x) g.answered
    (subst (λ p. IsAnswerAt s log p g.call.bytes g.call.answer) g.at_place (subst (λ l. IsAnswerAt s l g.call.place g.call.bytes g.call.answer) g.in_log g.call.answered))

given-left : (logs : LogBytes) (log place : ℕ) (a : Answer) (s t : ReadingState) (g : IsGiven logs log place a s t) → LeavesAfter s log g.call.bytes t a
given-left logs log place a s t g =
    subst (λ x. LeavesAfter s log g.call.bytes t x) g.answered (subst (λ l. LeavesAfter s l g.call.bytes t g.call.answer) g.in_log g.call.left)

given-known : (logs : LogBytes) (log place : ℕ) (a : Answer) (s t : ReadingState) (g : IsGiven logs log place a s t) → log < s.node.book.logs
given-known logs log place a s t g = subst (λ l. l < s.node.book.logs) g.in_log g.call.known

-- the same book
record IsOfSame (s t : ReadingState) : Type 0 where
  pub book : t.book ≡ s.book
  pub hash : t.hash ≡ s.hash
  pub logs : t.node.book ≡ s.node.book

same-LeavesAfter : (s t : ReadingState) (log place : ℕ) (bytes : List ℕ) (a : Answer) → IsAnswerAt s log place bytes a → LeavesAfter s log bytes t a → IsOfSame s t
same-LeavesAfter s t log place bytes Taken at left = let has = left at.0 at.1.spelled in record { book = has.book; hash = has.hash; logs = has.logs }
same-LeavesAfter s t log place bytes NotAnEntry at left =
    record { book = ap (λ (x : ReadingState). x.book) left; hash = ap (λ (x : ReadingState). x.hash) left; logs = ap (λ (x : ReadingState). x.node.book) left }
same-LeavesAfter s t log place bytes Forked at left =
    record { book = ap (λ (x : ReadingState). x.book) left; hash = ap (λ (x : ReadingState). x.hash) left; logs = ap (λ (x : ReadingState). x.node.book) left }
same-LeavesAfter s t log place bytes Gap at left =
    record { book = ap (λ (x : ReadingState). x.book) left; hash = ap (λ (x : ReadingState). x.hash) left; logs = ap (λ (x : ReadingState). x.node.book) left }
same-LeavesAfter s t log place bytes Again at left =
    record { book = ap (λ (x : ReadingState). x.book) left; hash = ap (λ (x : ReadingState). x.hash) left; logs = ap (λ (x : ReadingState). x.node.book) left }

same-given : (logs : LogBytes) (log place : ℕ) (a : Answer) (s t : ReadingState) → IsGiven logs log place a s t → IsOfSame s t
same-given logs log place a s t g = same-LeavesAfter s t log place g.call.bytes a (given-at logs log place a s t g) (given-left logs log place a s t g)

-- ---- on the way

pub reading-GoesThrough : (b : BookTerms) (hash : List ℕ) (logs : LogBytes) (log place : ℕ) (s : ReadingState) (faults : List EntryFault) → GoesThrough b hash logs log place s faults → IsReading s
reading-GoesThrough b hash logs _ _ _ _ (opened reading) = reading
reading-GoesThrough b hash logs _ _ _ _ (taken log place s t faults before g) = g.call.reading
reading-GoesThrough b hash logs _ _ _ _ (passed log place s t faults before g) = g.call.reading
reading-GoesThrough b hash logs _ _ _ _ (forked log place s t faults before g) = g.call.reading
reading-GoesThrough b hash logs _ _ _ _ (ended log place s faults before all) = reading-GoesThrough b hash logs log place s faults before

-- the node is of the book
pub record IsOfBook (b : BookTerms) (hash : List ℕ) (s : ReadingState) : Type 0 where
  pub book : s.book ≡ b
  pub of_hash : s.hash ≡ hash
  pub logs : s.node.book ≡ logs_of b

of_same : (b : BookTerms) (hash : List ℕ) (s t : ReadingState) → IsOfSame s t → IsOfBook b hash s → IsOfBook b hash t
of_same b hash s t same is = record { book = same.book ∙ is.book; of_hash = same.hash ∙ is.of_hash; logs = same.logs ∙ is.logs }

pub book-GoesThrough : (b : BookTerms) (hash : List ℕ) (logs : LogBytes) (log place : ℕ) (s : ReadingState) (faults : List EntryFault) → GoesThrough b hash logs log place s faults → IsOfBook b hash s
book-GoesThrough b hash logs _ _ _ _ (opened reading) = record { book = refl; of_hash = refl; logs = refl }
book-GoesThrough b hash logs _ _ _ _ (taken log place s t faults before g) =
    of_same b hash s t (same-given logs log place Taken s t g) (book-GoesThrough b hash logs log place s faults before)
book-GoesThrough b hash logs _ _ _ _ (passed log place s t faults before g) =
    of_same b hash s t (same-given logs log place NotAnEntry s t g) (book-GoesThrough b hash logs log place s faults before)
book-GoesThrough b hash logs _ _ _ _ (forked log place s t faults before g) =
    of_same b hash s t (same-given logs log place Forked s t g) (book-GoesThrough b hash logs log place s faults before)
book-GoesThrough b hash logs _ _ _ _ (ended log place s faults before all) = book-GoesThrough b hash logs log place s faults before

-- it has read bytes of these logs
pub HasReadLogs-GoesThrough : (b : BookTerms) (hash : List ℕ) (logs : LogBytes) (log place : ℕ) (s : ReadingState) (faults : List EntryFault) → GoesThrough b hash logs log place s faults
    → HasReadLogs b hash logs s
HasReadLogs-GoesThrough b hash logs _ _ _ _ (opened reading) = reads_opened reading
HasReadLogs-GoesThrough b hash logs _ _ _ _ (taken log place s t faults before g) = reads_taken s t (HasReadLogs-GoesThrough b hash logs log place s faults before) g.call
HasReadLogs-GoesThrough b hash logs _ _ _ _ (passed log place s t faults before g) = reads_taken s t (HasReadLogs-GoesThrough b hash logs log place s faults before) g.call
HasReadLogs-GoesThrough b hash logs _ _ _ _ (forked log place s t faults before g) = reads_taken s t (HasReadLogs-GoesThrough b hash logs log place s faults before) g.call
HasReadLogs-GoesThrough b hash logs _ _ _ _ (ended log place s faults before all) = HasReadLogs-GoesThrough b hash logs log place s faults before

-- each fault is of a log of the book
abbrev IsLogOf : BookTerms → EntryFault → Type 0
IsLogOf b x = x.log < (logs_of b).logs

pub faults-GoesThrough : (b : BookTerms) (hash : List ℕ) (logs : LogBytes) (log place : ℕ) (s : ReadingState) (faults : List EntryFault) → GoesThrough b hash logs log place s faults
    → All (λ x. x.log < (logs_of b).logs) faults
faults-GoesThrough b hash logs _ _ _ _ (opened reading) = All-nil (IsLogOf b)
faults-GoesThrough b hash logs _ _ _ _ (taken log place s t faults before g) = faults-GoesThrough b hash logs log place s faults before
faults-GoesThrough b hash logs _ _ _ _ (passed log place s t faults before g) =
    let known : log < (logs_of b).logs = subst (λ (n : LogTerms). log < n.logs) (book-GoesThrough b hash logs log place s faults before).logs (given-known logs log place NotAnEntry s t g) in
    All-append (IsLogOf b) faults _ (faults-GoesThrough b hash logs log place s faults before) (All-cons (IsLogOf b) _ [] known (All-nil (IsLogOf b)))
faults-GoesThrough b hash logs _ _ _ _ (forked log place s t faults before g) =
    let known : log < (logs_of b).logs = subst (λ (n : LogTerms). log < n.logs) (book-GoesThrough b hash logs log place s faults before).logs (given-known logs log place Forked s t g) in
    All-append (IsLogOf b) faults _ (faults-GoesThrough b hash logs log place s faults before) (All-cons (IsLogOf b) _ [] known (All-nil (IsLogOf b)))
faults-GoesThrough b hash logs _ _ _ _ (ended log place s faults before all) = faults-GoesThrough b hash logs log place s faults before

-- ---- which place comes next

-- so many places of this log were read, and none of a later one
pub record IsNextPlace (s : ReadingState) (log place : ℕ) : Type 0 where
  pub here : (tail_of s log).entries ≡ place
  pub later : (q : ℕ) → log < q → (tail_of s q).entries ≡ 0

next_log : (s : ReadingState) (log place : ℕ) → IsNextPlace s log place → IsNextPlace s (log + 1) 0
next_log s log place is = record { here = is.later (log + 1) (omega arith); later = λ q after. is.later q (omega (arith, after)) }

-- one more was read
one_more : (s t : ReadingState) (log place : ℕ) (tail : Tail) → log < length s.tails → t.tails ≡ set s.tails log tail → tail.entries ≡ (tail_of s log).entries + 1 → IsNextPlace s log place
    → IsNextPlace t log (place + 1)
one_more s t log place tail known tails more is = record {
  here = ap (λ (l : List Tail). (get_or l log (no_tail 0)).entries) tails ∙ (ap (λ (x : Tail). x.entries) (get_or-set_same s.tails log tail (no_tail 0) known) ∙ (more ∙ ap (λ n. n + 1) is.here));
  later = λ q after.
      ap (λ (l : List Tail). (get_or l q (no_tail 0)).entries) tails
      ∙ (ap (λ (x : Tail). x.entries) (get_or-set_other s.tails log q tail (no_tail 0) (λ same. absurd (omega (arith, after, same)))) ∙ is.later q after);
}

pub place-GoesThrough : (b : BookTerms) (hash : List ℕ) (logs : LogBytes) (log place : ℕ) (s : ReadingState) (faults : List EntryFault) → GoesThrough b hash logs log place s faults → IsNextPlace s log place
place-GoesThrough b hash logs _ _ _ _ (opened reading) =
    let none : (q : ℕ) → (tail_of (opened_node b hash) q).entries ≡ 0 = λ q. none_of (logs_of b).logs (logs_of b).logs q in
    record { here = none 0; later = λ q _. none q }
  where
    none_of : (n logs q : ℕ) → (get_or (replicate n (no_tail logs)) q (no_tail 0)).entries ≡ 0
    none_of n logs q =
        elim (cases_lt q n) as (λ _. (get_or (replicate n (no_tail logs)) q (no_tail 0)).entries ≡ 0) [
          | inl within ↦ ap (λ (x : Tail). x.entries) (get_or-replicate n q (no_tail logs) (no_tail 0) within)
          | inr past ↦ ap (λ (x : Tail). x.entries) (get_or_past (replicate n (no_tail logs)) q (no_tail 0) (omega (arith, past, length-replicate n (no_tail logs))))
        ]
place-GoesThrough b hash logs _ _ _ _ (taken log place s t faults before g) =
    let at = given-at logs log place Taken s t g in
    let has = given-left logs log place Taken s t g at.0 at.1.spelled in
    let sized = (reading-GoesThrough b hash logs log place s faults before).sized in
    one_more s t log place _ (omega (arith, sized, given-known logs log place Taken s t g)) has.tails refl (place-GoesThrough b hash logs log place s faults before)
place-GoesThrough b hash logs _ _ _ _ (passed log place s t faults before g) =
    let sized = (reading-GoesThrough b hash logs log place s faults before).sized in
    one_more s t log place _ (omega (arith, sized, given-known logs log place NotAnEntry s t g)) (ap (λ (x : ReadingState). x.tails) (given-left logs log place NotAnEntry s t g)) refl
    (place-GoesThrough b hash logs log place s faults before)
place-GoesThrough b hash logs _ _ _ _ (forked log place s t faults before g) =
    next_log t log place (subst (λ (x : ReadingState). IsNextPlace x log place) (sym (given-left logs log place Forked s t g)) (place-GoesThrough b hash logs log place s faults before))
place-GoesThrough b hash logs _ _ _ _ (ended log place s faults before all) = next_log s log place (place-GoesThrough b hash logs log place s faults before)

-- ---- the next step

-- a call of `take` at the next place, and its answer
pub record IsAnswered (logs : LogBytes) (log place : ℕ) (bytes : List ℕ) (n : NodeTerms) (faults : List EntryFault) (a : Answer) (m : NodeTerms) : Type 0 where
  pub before : IsFollowing n.book n.hash logs log place n faults
  pub known : log < n.core.book.logs
  pub stands : StandsAt logs log place bytes
  pub one : IsOneAnswer (shown n) log place bytes a
  pub left : WhateverRead n (λ s. HasAnswered s log place bytes a m)

IsGiven-answered : (logs : LogBytes) (log place : ℕ) (bytes : List ℕ) (n : NodeTerms) (faults : List EntryFault) (a : Answer) (m : NodeTerms) (is : IsAnswered logs log place bytes n faults a m)
    → IsGiven logs log place a (read_state n is.before.messages) (read_state m (is.left is.before.messages is.before.history).messages)
IsGiven-answered logs log place bytes n faults a m is =
    let answered = is.left is.before.messages is.before.history in
    record {
      call = record {
        log = log;
        place = place;
        bytes = bytes;
        answer = a;
        known = is.known;
        stands = is.stands;
        answered = (is.one a).0 refl;
        left = answered.left;
        reading = answered.history.reading;
      };
      in_log = refl;
      at_place = refl;
      answered = refl;
    }

pub IsFollowing-taken : (logs : LogBytes) (log place : ℕ) (bytes : List ℕ) (n : NodeTerms) (faults : List EntryFault) (m : NodeTerms) → IsAnswered logs log place bytes n faults Taken m
    → IsFollowing n.book n.hash logs log (place + 1) m faults
IsFollowing-taken logs log place bytes n faults m is =
    let answered = is.left is.before.messages is.before.history in
    record {
      messages = answered.messages;
      history = answered.history;
      goes = taken log place (read_state n is.before.messages) (read_state m answered.messages) faults is.before.goes (IsGiven-answered logs log place bytes n faults Taken m is);
    }

pub IsFollowing-passed : (logs : LogBytes) (log place : ℕ) (bytes : List ℕ) (n : NodeTerms) (faults : List EntryFault) (m : NodeTerms) → IsAnswered logs log place bytes n faults NotAnEntry m
    → IsFollowing n.book n.hash logs log (place + 1) m (faults ++ record { log = log; place = place; why = why.NotAnEntry } ∷ [])
IsFollowing-passed logs log place bytes n faults m is =
    let answered = is.left is.before.messages is.before.history in
    record {
      messages = answered.messages;
      history = answered.history;
      goes = passed log place (read_state n is.before.messages) (read_state m answered.messages) faults is.before.goes (IsGiven-answered logs log place bytes n faults NotAnEntry m is);
    }

pub IsFollowing-forked : (logs : LogBytes) (log place : ℕ) (bytes : List ℕ) (n : NodeTerms) (faults : List EntryFault) (m : NodeTerms) → IsAnswered logs log place bytes n faults Forked m
    → IsFollowing n.book n.hash logs (log + 1) 0 m (faults ++ record { log = log; place = place; why = why.Forked } ∷ [])
IsFollowing-forked logs log place bytes n faults m is =
    let answered = is.left is.before.messages is.before.history in
    record {
      messages = answered.messages;
      history = answered.history;
      goes = forked log place (read_state n is.before.messages) (read_state m answered.messages) faults is.before.goes (IsGiven-answered logs log place bytes n faults Forked m is);
    }

-- no other answer comes
pub not-gap : (logs : LogBytes) (log place : ℕ) (bytes : List ℕ) (n : NodeTerms) (faults : List EntryFault) (m : NodeTerms) → ¬ IsAnswered logs log place bytes n faults Gap m
not-gap logs log place bytes n faults m is =
    absurd (omega (arith, (is.one Gap).0 refl, (place-GoesThrough n.book n.hash logs log place (read_state n is.before.messages) faults is.before.goes).here))

pub not-again : (logs : LogBytes) (log place : ℕ) (bytes : List ℕ) (n : NodeTerms) (faults : List EntryFault) (m : NodeTerms) → ¬ IsAnswered logs log place bytes n faults Again m
not-again logs log place bytes n faults m is =
    absurd (omega (arith, (is.one Again).0 refl, (place-GoesThrough n.book n.hash logs log place (read_state n is.before.messages) faults is.before.goes).here))

-- the log has ended
pub IsFollowing-ended : (b : BookTerms) (hash : List ℕ) (logs : LogBytes) (log place : ℕ) (n : NodeTerms) (faults : List EntryFault) → IsFollowing b hash logs log place n faults
    → place ≡ length (entries_at logs log) → IsFollowing b hash logs (log + 1) 0 n faults
IsFollowing-ended b hash logs log place n faults is all =
    record { messages = is.messages; history = is.history; goes = ended log place (read_state n is.messages) faults is.goes all }

-- ---- what the program holds

-- the entries of a log
pub entries-at : (logs : List (Vec (Vec ℕ Global) Global)) (log : ℕ) (v : Vec (Vec ℕ Global) Global) → log < length logs → v ≡ get_or logs log v → entries_at (log_bytes logs) log ≡ contents_of v.items
entries-at logs log v within is =
    get_or-map contents_of (contents_of logs) log [] [] (omega (arith, within, length-contents_of logs)) ∙ ap contents_of (get_or-contents_of logs log v within is)

pub length-entries_at : (logs : List (Vec (Vec ℕ Global) Global)) (log : ℕ) (v : Vec (Vec ℕ Global) Global) → log < length logs → v ≡ get_or logs log v → length (entries_at (log_bytes logs) log) ≡ length v.items
length-entries_at logs log v within is = ap (λ (l : List (List ℕ)). length l) (entries-at logs log v within is) ∙ length-contents_of v.items

pub length-log_bytes : (logs : List (Vec (Vec ℕ Global) Global)) → length (log_bytes logs) ≡ length logs
length-log_bytes logs = length-map (contents_of logs) contents_of ∙ length-contents_of logs

-- an entry stands at its place
pub StandsAt-entry : (logs : List (Vec (Vec ℕ Global) Global)) (log place : ℕ) (v : Vec (Vec ℕ Global) Global) (w : Vec ℕ Global) → log < length logs → v ≡ get_or logs log v
    → place < length v.items → w ≡ get_or v.items place w → StandsAt (log_bytes logs) log place w.items
StandsAt-entry logs log place v w within is place_in there =
    ap (λ (l : List (List ℕ)). slice_get l place) (entries-at logs log v within is)
    ∙ (slice_get-get_or (contents_of v.items) place [] (omega (arith, place_in, length-contents_of v.items)) ∙ ap Some (get_or-contents_of v.items place w place_in there))

-- ---- whose book it is

-- the node's own book is this one
pub own-IsFollowing : (b : BookTerms) (hash : List ℕ) (logs : LogBytes) (log place : ℕ) (n : NodeTerms) (faults : List EntryFault) → IsFollowing b hash logs log place n faults
    → (n.book ≡ b) × (n.hash ≡ hash) × (n.core.book ≡ logs_of b)
own-IsFollowing b hash logs log place n faults is =
    let of = book-GoesThrough b hash logs log place (read_state n is.messages) faults is.goes in
    (of.book, of.of_hash, of.logs)

pub IsFollowing-own : (b other : BookTerms) (hash others : List ℕ) (logs : LogBytes) (log place : ℕ) (n : NodeTerms) (faults : List EntryFault) → b ≡ other → hash ≡ others
    → IsFollowing b hash logs log place n faults → IsFollowing other others logs log place n faults
IsFollowing-own b other hash others logs log place n faults book same is =
    subst (λ (h : List ℕ). IsFollowing other h logs log place n faults) same (subst (λ (x : BookTerms). IsFollowing x hash logs log place n faults) book is)

-- a new node
pub IsFollowing-opened : (b : BookTerms) (hash : List ℕ) (logs : LogBytes) (n : NodeTerms) (faults : List EntryFault) → n ≡ opened_terms b hash → IsHistoryOf (nothing_read b) n → faults ≡ []
    → IsFollowing b hash logs 0 0 n faults
IsFollowing-opened b hash logs n faults is history none =
    subst (λ (l : List EntryFault). IsFollowing b hash logs 0 0 n l) (sym none)
    (subst (λ (x : NodeTerms). IsHistoryOf (nothing_read b) x → IsFollowing b hash logs 0 0 x []) (sym is) (λ known. record { messages = nothing_read b; history = known; goes = opened known.reading }) history)

-- a call of `take` with the entry that the program holds at the next place
pub IsAnswered-take : (logs : List (Vec (Vec ℕ Global) Global)) (log place : ℕ) (v : Vec (Vec ℕ Global) Global) (w : Vec ℕ Global) (bytes : List ℕ) (n : NodeTerms) (faults : List EntryFault)
    (a b : Answer) (m : NodeTerms) → IsFollowing n.book n.hash (log_bytes logs) log place n faults → log < length logs → length logs ≡ (logs_of n.book).logs
    → place < length (entries_at (log_bytes logs) log) → v ≡ get_or logs log v → w ≡ get_or v.items place w → bytes ≡ w.items → IsOneAnswer (shown n) log place bytes a
    → WhateverRead n (λ s. HasAnswered s log place bytes a m) → a ≡ b → IsAnswered (log_bytes logs) log place bytes n faults b m
IsAnswered-take logs log place v w bytes n faults a b m before within count place_in v_is w_is bytes_are one left same =
    let all : LogBytes = log_bytes logs in
    let own = own-IsFollowing n.book n.hash all log place n faults before in
    let long = length-entries_at logs log v within v_is in
    let stands : StandsAt all log place bytes = StandsAt-entry logs log place v w within v_is (omega (arith, place_in, long)) w_is ∙ ap Some (sym bytes_are) in
    subst (λ (x : Answer). IsAnswered all log place bytes n faults x m) same (record {
      before = before;
      known = omega (arith, within, count, ap (λ (l : LogTerms). l.logs) own.2);
      stands = stands;
      one = one;
      left = left;
    })
