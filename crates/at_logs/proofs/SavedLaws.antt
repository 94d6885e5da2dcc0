-- A snapshot is read from its bytes, and from no others.
use Rattle.std.proofs.Common.{◌≡◌, ◌↔◌, ℕ, ◌^◌, ◌<◌, ◌≤◌, List, ◌∷◌, length, Option, Some, Result, Ok, Err, IfOk, refl, ap, sym}
use Rattle.at_logs.specs.Snapshot.{HasBacklogBytes, HasCreditBytes, HasKeptMessageBytes, HasTailBytes, backlog_bytes, core_bytes, credit_bytes, kept_message_bytes, snapshot_version, tail_bytes}
use Rattle.at_logs.proofs.Prelude.{All-from_recursion, recursion_from_All, AreBytes, BacklogState, CompactState, Credit, Front, IsMessageOn, IsSaved, IsSavedCore, LogTerms, Message, NamesSaved, SavedTerms, Tail, TargetPair, most_targets, read_backlog, read_core, read_credit, read_front, read_kept_message, read_saved, read_tail, read_whole, saved_bytes}
use Rattle.at_logs.proofs.EntryLaws.{IsTarget, Reads-target}
use Rattle.at_logs.proofs.ReaderLaws.{AreListed, AreMany, AreSoMany, IsBytes, Reads, Reads-after, Reads-below, Reads-items, Reads-listed, Reads-made, Reads-made_on, Reads-many, Reads-pair, Reads-raw, Reads-u32, Reads-u64, reads_whole}

-- a message that names some of so many logs and accounts, and has bytes
record IsKeptMessage (logs accounts : ℕ) (m : Message) : Type 0 where
  pub on : IsMessageOn logs accounts m
  pub bytes : HasKeptMessageBytes m

abbrev IsMessageParts : ℕ → ℕ → ℕ × (List TargetPair × (List ℕ × List ℕ)) → Type 0
IsMessageParts logs accounts x =
    (x.0 < accounts) × (AreListed (IsTarget accounts) most_targets x.1.0 × (AreBytes 16 x.1.1.0 × AreSoMany (λ n. n < 2 ^ 32) logs x.1.1.1))

message_of_parts : (logs accounts : ℕ) (x : ℕ × (List TargetPair × (List ℕ × List ℕ))) → IsMessageParts logs accounts x
    → IsKeptMessage logs accounts (record { from = x.0; targets = x.1.0; reference = x.1.1.0; deps = x.1.1.1 })
message_of_parts logs accounts x is =
    let each = All-from_recursion (IsTarget accounts) x.1.0 is.1.0.each in
    record {
      on = record { source = is.0; targets = λ k d within. (each k d within).0; few = is.1.0.few; deps = is.1.1.1.long };
      bytes = record {
        some = is.1.0.some;
        amounts = λ k d within. (each k d within).1;
        reference = is.1.1.0;
        deps = All-from_recursion (λ n. n < 2 ^ 32) x.1.1.1 is.1.1.1.each;
      };
    }

parts_of_message : (logs accounts : ℕ) (m : Message) → IsKeptMessage logs accounts m → IsMessageParts logs accounts (m.from, (m.targets, (m.reference, m.deps)))
parts_of_message logs accounts m is =
    let each = recursion_from_All (IsTarget accounts) m.targets (λ k d within. (is.on.targets k d within, is.bytes.amounts k d within)) in (
      is.on.source,
      (
        record { some = is.bytes.some; few = is.on.few; each = each },
        (is.bytes.reference, record { long = is.on.deps; each = recursion_from_All (λ n. n < 2 ^ 32) m.deps is.bytes.deps }),
      ),
    )

Reads-kept_message : (logs accounts : ℕ) → accounts ≤ 2 ^ 32 → Reads (IsKeptMessage logs accounts) kept_message_bytes (read_kept_message logs accounts)
unfolding read_kept_message
Reads-kept_message logs accounts small =
    Reads-made (λ x. record { from = x.0; targets = x.1.0; reference = x.1.1.0; deps = x.1.1.1 }) (λ m. (m.from, (m.targets, (m.reference, m.deps)))) (λ m. refl) (λ x. refl)
    (message_of_parts logs accounts) (parts_of_message logs accounts)
    (Reads-pair (Reads-below accounts small) (Reads-pair (Reads-listed most_targets (Reads-target accounts small)) (Reads-pair (Reads-raw 16) (Reads-items Reads-u32 logs))))

-- a credit that does
abbrev IsCreditParts : ℕ → ℕ → ℕ × (ℕ × (ℕ × ℕ)) → Type 0
IsCreditParts logs accounts x = (x.0 < accounts) × ((x.1.0 < logs) × ((x.1.1.0 < 2 ^ 32) × (x.1.1.1 < 2 ^ 64)))

record IsSavedCredit (logs accounts : ℕ) (x : Credit) : Type 0 where
  pub target : x.account < accounts
  pub source : x.log < logs
  pub bytes : HasCreditBytes x

Reads-credit : (logs accounts : ℕ) → logs ≤ 2 ^ 32 → accounts ≤ 2 ^ 32 → Reads (IsSavedCredit logs accounts) credit_bytes (read_credit logs accounts)
unfolding read_credit
Reads-credit logs accounts few_logs few_accounts =
    Reads-made {P = IsCreditParts logs accounts} (λ x. record { account = x.0; log = x.1.0; number = x.1.1.0; amount = x.1.1.1 }) (λ x. (x.account, (x.log, (x.number, x.amount)))) (λ x. refl) (λ x. refl)
    (λ x is. record { target = is.0; source = is.1.0; bytes = record { number = is.1.1.0; amount = is.1.1.1 } })
    (λ x is. (is.target, (is.source, (is.bytes.number, is.bytes.amount))))
    (Reads-pair (Reads-below accounts few_accounts) (Reads-pair (Reads-below logs few_logs) (Reads-pair Reads-u32 Reads-u64)))

-- a backlog of such messages and credits
record IsSavedBacklog (logs accounts : ℕ) (l : BacklogState) : Type 0 where
  pub names : NamesSaved logs accounts l
  pub bytes : HasBacklogBytes l

abbrev IsBacklogParts : ℕ → ℕ → List Message × (List Credit × List ℕ) → Type 0
IsBacklogParts logs accounts x = AreMany (IsKeptMessage logs accounts) x.0 × (AreMany (IsSavedCredit logs accounts) x.1.0 × AreSoMany (λ n. n < 2 ^ 32) logs x.1.1)

backlog_of_parts : (logs accounts : ℕ) (x : List Message × (List Credit × List ℕ)) → IsBacklogParts logs accounts x
    → IsSavedBacklog logs accounts (record { messages = x.0; credits = x.1.0; settled_at = x.1.1 })
backlog_of_parts logs accounts x is =
    let messages = All-from_recursion (IsKeptMessage logs accounts) x.0 is.0.each in
    let credits = All-from_recursion (IsSavedCredit logs accounts) x.1.0 is.1.0.each in
    record {
      names = record {
        messages = λ k d within. (messages k d within).on;
        targets = λ k d within. (credits k d within).target;
        sources = λ k d within. (credits k d within).source;
        sized = is.1.1.long;
      };
      bytes = record {
        few_messages = is.0.few;
        messages = λ k d within. (messages k d within).bytes;
        few_credits = is.1.0.few;
        credits = λ k d within. (credits k d within).bytes;
        settled_at = All-from_recursion (λ n. n < 2 ^ 32) x.1.1 is.1.1.each;
      };
    }

parts_of_backlog : (logs accounts : ℕ) (l : BacklogState) → IsSavedBacklog logs accounts l → IsBacklogParts logs accounts (l.messages, (l.credits, l.settled_at))
parts_of_backlog logs accounts l is =
    let messages = recursion_from_All (IsKeptMessage logs accounts) l.messages (λ k d within. record { on = is.names.messages k d within; bytes = is.bytes.messages k d within }) in
    let credits = recursion_from_All (IsSavedCredit logs accounts) l.credits
    (λ k d within. record { target = is.names.targets k d within; source = is.names.sources k d within; bytes = is.bytes.credits k d within }) in (
      record { few = is.bytes.few_messages; each = messages },
      (record { few = is.bytes.few_credits; each = credits }, record { long = is.names.sized; each = recursion_from_All (λ n. n < 2 ^ 32) l.settled_at is.bytes.settled_at }),
    )

Reads-backlog : (logs accounts : ℕ) → logs ≤ 2 ^ 32 → accounts ≤ 2 ^ 32 → Reads (IsSavedBacklog logs accounts) backlog_bytes (read_backlog logs accounts)
unfolding read_backlog
Reads-backlog logs accounts few_logs few_accounts =
    Reads-made (λ x. record { messages = x.0; credits = x.1.0; settled_at = x.1.1 }) (λ l. (l.messages, (l.credits, l.settled_at))) (λ l. refl) (λ x. refl)
    (backlog_of_parts logs accounts) (parts_of_backlog logs accounts)
    (Reads-pair (Reads-many (Reads-kept_message logs accounts few_accounts)) (Reads-pair (Reads-many (Reads-credit logs accounts few_logs few_accounts)) (Reads-items Reads-u32 logs)))

-- the tail of one of so many logs
record IsSavedTail (logs : ℕ) (t : Tail) : Type 0 where
  pub counted : length t.deps ≡ logs
  pub bytes : HasTailBytes t

abbrev IsTailParts : ℕ → ℕ × (ℕ × (List ℕ × List ℕ)) → Type 0
IsTailParts logs x = (x.0 < 2 ^ 32) × ((x.1.0 < 2 ^ 32) × (AreSoMany (λ n. n < 2 ^ 32) logs x.1.1.0 × AreBytes 32 x.1.1.1))

tail_of_parts : (logs : ℕ) (x : ℕ × (ℕ × (List ℕ × List ℕ))) → IsTailParts logs x → IsSavedTail logs (record { entries = x.0; messages = x.1.0; deps = x.1.1.0; hash = x.1.1.1 })
tail_of_parts logs x is = record {
  counted = is.1.1.0.long;
  bytes = record { entries = is.0; messages = is.1.0; deps = All-from_recursion (λ n. n < 2 ^ 32) x.1.1.0 is.1.1.0.each; hash = is.1.1.1 };
}

parts_of_tail : (logs : ℕ) (t : Tail) → IsSavedTail logs t → IsTailParts logs (t.entries, (t.messages, (t.deps, t.hash)))
parts_of_tail logs t is =
    (is.bytes.entries, (is.bytes.messages, (record { long = is.counted; each = recursion_from_All (λ n. n < 2 ^ 32) t.deps is.bytes.deps }, is.bytes.hash)))

Reads-tail : (logs : ℕ) → Reads (IsSavedTail logs) tail_bytes (read_tail logs)
unfolding read_tail
Reads-tail logs =
    Reads-made (λ x. record { entries = x.0; messages = x.1.0; deps = x.1.1.0; hash = x.1.1.1 }) (λ t. (t.entries, (t.messages, (t.deps, t.hash)))) (λ t. refl) (λ x. refl)
    (tail_of_parts logs) (parts_of_tail logs) (Reads-pair Reads-u32 (Reads-pair Reads-u32 (Reads-pair (Reads-items Reads-u32 logs) (Reads-raw 32))))

-- what is kept of all logs
abbrev CoreParts : Type 0
CoreParts = List ℕ × (List ℕ × (List ℕ × (List ℕ × List BacklogState)))

abbrev IsCoreParts : LogTerms → CoreParts → Type 0
IsCoreParts b x =
    AreSoMany (λ n. n < 2 ^ 32) b.logs x.0
    × (AreSoMany (λ n. n < 2 ^ 32) b.logs x.1.0
    × (AreSoMany (λ n. n < 2 ^ 64) (length b.accounts) x.1.1.0
    × (AreSoMany (λ n. n < 2 ^ 64) (length b.accounts) x.1.1.1.0 × AreSoMany (IsSavedBacklog b.logs (length b.accounts)) b.logs x.1.1.1.1)))

abbrev core_of_parts : LogTerms → CoreParts → CompactState
core_of_parts b x = record { book = b; validated = x.0; told = x.1.0; settled = x.1.1.0; balances = x.1.1.1.0; backlogs = x.1.1.1.1 }

abbrev parts_of_core : CompactState → CoreParts
parts_of_core c = (c.validated, (c.told, (c.settled, (c.balances, c.backlogs))))

core_from_parts : (b : LogTerms) (x : CoreParts) → IsCoreParts b x → IsSavedCore b (core_of_parts b x)
core_from_parts b x is =
    let backlogs = All-from_recursion (IsSavedBacklog b.logs (length b.accounts)) x.1.1.1.1 is.1.1.1.1.each in
    record {
      book = refl;
      counted = is.0.long;
      told_counted = is.1.0.long;
      settled_sized = is.1.1.0.long;
      balanced = is.1.1.1.0.long;
      sized = is.1.1.1.1.long;
      names = λ k d within. (backlogs k d within).names;
      fits = record {
        validated = All-from_recursion (λ n. n < 2 ^ 32) x.0 is.0.each;
        told = All-from_recursion (λ n. n < 2 ^ 32) x.1.0 is.1.0.each;
        settled = All-from_recursion (λ n. n < 2 ^ 64) x.1.1.0 is.1.1.0.each;
        balances = All-from_recursion (λ n. n < 2 ^ 64) x.1.1.1.0 is.1.1.1.0.each;
        backlogs = λ k d within. (backlogs k d within).bytes;
      };
    }

parts_from_core : (b : LogTerms) (c : CompactState) → IsSavedCore b c → IsCoreParts b (parts_of_core c)
parts_from_core b c is =
    let backlogs = recursion_from_All (IsSavedBacklog b.logs (length b.accounts)) c.backlogs (λ k d within. record { names = is.names k d within; bytes = is.fits.backlogs k d within }) in (
      record { long = is.counted; each = recursion_from_All (λ n. n < 2 ^ 32) c.validated is.fits.validated },
      (
        record { long = is.told_counted; each = recursion_from_All (λ n. n < 2 ^ 32) c.told is.fits.told },
        (
          record { long = is.settled_sized; each = recursion_from_All (λ n. n < 2 ^ 64) c.settled is.fits.settled },
          (record { long = is.balanced; each = recursion_from_All (λ n. n < 2 ^ 64) c.balances is.fits.balances }, record { long = is.sized; each = backlogs }),
        ),
      ),
    )

same_core : (b : LogTerms) (c : CompactState) → IsSavedCore b c → core_of_parts b (parts_of_core c) ≡ c
same_core b c is = ap (λ (l : LogTerms). record c { book = l }) (sym is.book)

Reads-core : (b : LogTerms) → b.logs ≤ 2 ^ 32 → length b.accounts ≤ 2 ^ 32 → Reads (IsSavedCore b) core_bytes (read_core b)
unfolding read_core
Reads-core b few_logs few_accounts =
    Reads-made_on (core_of_parts b) parts_of_core (same_core b) (λ x. refl) (core_from_parts b) (parts_from_core b)
    (Reads-pair (Reads-items Reads-u32 b.logs) (Reads-pair (Reads-items Reads-u32 b.logs)
    (Reads-pair (Reads-items Reads-u64 (length b.accounts)) (Reads-pair (Reads-items Reads-u64 (length b.accounts))
    (Reads-items (Reads-backlog b.logs (length b.accounts) few_logs few_accounts) b.logs)))))

-- the whole
abbrev front_bytes : Front → List ℕ
front_bytes f = snapshot_version ∷ f.hash

Reads-front : Reads (λ f. AreBytes 32 f.hash) front_bytes read_front
unfolding read_front
Reads-front = Reads-after snapshot_version (Reads-made {P = AreBytes 32} {t = λ f. f.hash} (λ x. record { hash = x }) (λ f. f.hash) (λ f. refl) (λ x. refl) (λ x is. is) (λ f is. is) (Reads-raw 32))

abbrev SavedParts : Type 0
SavedParts = Front × (List Tail × CompactState)

abbrev IsSavedParts : LogTerms → SavedParts → Type 0
IsSavedParts b x = AreBytes 32 x.0.hash × (AreSoMany (IsSavedTail b.logs) b.logs x.1.0 × IsSavedCore b x.1.1)

saved_from_parts : (b : LogTerms) (x : SavedParts) → IsSavedParts b x → IsSaved b (record { hash = x.0.hash; tails = x.1.0; core = x.1.1 })
saved_from_parts b x is =
    let tails = All-from_recursion (IsSavedTail b.logs) x.1.0 is.1.0.each in
    record {
      hash = is.0;
      sized = is.1.0.long;
      counted = λ k d within. (tails k d within).counted;
      tails = λ k d within. (tails k d within).bytes;
      core = is.1.1;
    }

parts_from_saved : (b : LogTerms) (s : SavedTerms) → IsSaved b s → IsSavedParts b (record { hash = s.hash }, (s.tails, s.core))
parts_from_saved b s is =
    let tails = recursion_from_All (IsSavedTail b.logs) s.tails (λ k d within. record { counted = is.counted k d within; bytes = is.tails k d within }) in
    (is.hash, (record { long = is.sized; each = tails }, is.core))

Reads-saved : (b : LogTerms) → b.logs ≤ 2 ^ 32 → length b.accounts ≤ 2 ^ 32 → Reads (IsSaved b) saved_bytes (read_saved b)
unfolding read_saved
Reads-saved b few_logs few_accounts =
    Reads-made (λ (x : SavedParts). record { hash = x.0.hash; tails = x.1.0; core = x.1.1 }) (λ s. (record { hash = s.hash }, (s.tails, s.core))) (λ s. refl) (λ x. refl)
    (saved_from_parts b) (parts_from_saved b) (Reads-pair Reads-front (Reads-pair (Reads-items (Reads-tail b.logs) b.logs) (Reads-core b few_logs few_accounts)))

-- what is read of bytes is the one snapshot that they are
pub returned_saved : {E : Type 0} (b : LogTerms) (bytes : List ℕ) (r : Result (Option SavedTerms) E) → b.logs ≤ 2 ^ 32 → length b.accounts ≤ 2 ^ 32 → IsBytes bytes
    → IfOk r (λ found. found ≡ read_whole (read_saved b) bytes) → IfOk r (λ found. (s : SavedTerms) → (found ≡ Some s) ↔ (IsSaved b s × (bytes ≡ saved_bytes s)))
returned_saved b bytes (Ok found) few_logs few_accounts fits is = λ s. rw is (reads_whole (Reads-saved b few_logs few_accounts) bytes s fits)
returned_saved b bytes (Err error) few_logs few_accounts fits is = tt
