-- An entry is read from its bytes, and from no others.
use Rattle.std.proofs.Common.{◌≡◌, ◌↔◌, ℕ, ◌+◌, ◌^◌, ◌<◌, ◌≤◌, List, [], ◌++◌, length, get_or, Option, Some, Result, Ok, Err, IfOk, refl, ap, sym, subst, ◌∙◌, arith}
use Rattle.at_logs.proofs.Prelude.{All, All-from_recursion, get_or-map-range_with_len, length-map-range_with_len, recursion_from_All, same_Some, AreBytes, EntryMessage, EntryTerms, HasMessageBytes, Head, IsEntryOn, IsMessageOn, AreTargetsOn, TargetPair, entry_bytes, head_bytes, length-set, message_bytes, message_in_log, messages_in_log, most_in_entry, most_targets, target_bytes, entry_version, read_entry, read_head, read_message, read_target, read_whole}
use Rattle.at_logs.proofs.ReaderLaws.{AreListed, AreSoMany, IsBytes, Reads, Reads-after, Reads-below, Reads-items, Reads-listed, Reads-made, Reads-pair, Reads-raw, Reads-u32, Reads-u64, reads_whole}

-- a target that has bytes
abbrev pub IsTarget : ℕ → TargetPair → Type 0
IsTarget accounts t = (t.0 < accounts) × (t.1 < 2 ^ 64)

pub Reads-target : (accounts : ℕ) → accounts ≤ 2 ^ 32 → Reads (IsTarget accounts) target_bytes (read_target accounts)
unfolding read_target
Reads-target accounts small = Reads-pair (Reads-below accounts small) Reads-u64

-- a message that has bytes and names some of so many accounts
record IsEntryMessageOn (accounts : ℕ) (m : EntryMessage) : Type 0 where
  pub source : m.from < accounts
  pub targets : AreTargetsOn accounts m.targets
  pub bytes : HasMessageBytes m

-- the parts of a message
abbrev IsMessageParts : ℕ → ℕ × (List TargetPair × List ℕ) → Type 0
IsMessageParts accounts x = (x.0 < accounts) × (AreListed (IsTarget accounts) most_targets x.1.0 × AreBytes 16 x.1.1)

message_of_parts : (accounts : ℕ) (x : ℕ × (List TargetPair × List ℕ)) → IsMessageParts accounts x
    → IsEntryMessageOn accounts (record { from = x.0; targets = x.1.0; reference = x.1.1 })
message_of_parts accounts x is =
    let each = All-from_recursion (IsTarget accounts) x.1.0 is.1.0.each in
    record {
      source = is.0;
      targets = λ k d within. (each k d within).0;
      bytes = record { some = is.1.0.some; few = is.1.0.few; amounts = λ k d within. (each k d within).1; reference = is.1.1 };
    }

parts_of_message : (accounts : ℕ) (m : EntryMessage) → IsEntryMessageOn accounts m → IsMessageParts accounts (m.from, (m.targets, m.reference))
parts_of_message accounts m is =
    let each = recursion_from_All (IsTarget accounts) m.targets (λ k d within. (is.targets k d within, is.bytes.amounts k d within)) in
    (is.source, (record { some = is.bytes.some; few = is.bytes.few; each = each }, is.bytes.reference))

Reads-message : (accounts : ℕ) → accounts ≤ 2 ^ 32 → Reads (IsEntryMessageOn accounts) message_bytes (read_message accounts)
unfolding read_message
Reads-message accounts small =
    Reads-made (λ x. record { from = x.0; targets = x.1.0; reference = x.1.1 }) (λ m. (m.from, (m.targets, m.reference))) (λ m. refl) (λ x. refl)
    (message_of_parts accounts) (parts_of_message accounts)
    (Reads-pair (Reads-below accounts small) (Reads-pair (Reads-listed most_targets (Reads-target accounts small)) (Reads-raw 16)))

-- the parts of a head
abbrev IsHeadParts : ℕ → ℕ → ℕ × (List ℕ × (List ℕ × List ℕ)) → Type 0
IsHeadParts logs processes x = (x.0 < processes) × (AreSoMany (λ n. n < 2 ^ 32) logs x.1.0 × (AreBytes 32 x.1.1.0 × AreBytes 32 x.1.1.1))

abbrev IsHead : ℕ → ℕ → Head → Type 0
IsHead logs processes h = IsHeadParts logs processes (h.writer, (h.deps, (h.book, h.before)))

abbrev bytes_of_head : Head → List ℕ
bytes_of_head h = head_bytes (record { writer = h.writer; deps = h.deps; book = h.book; before = h.before; messages = [] })

Reads-head : (logs processes : ℕ) → processes ≤ 2 ^ 32 → Reads (IsHead logs processes) bytes_of_head (read_head logs processes)
unfolding read_head
Reads-head logs processes small =
    Reads-after entry_version (Reads-made (λ x. record { writer = x.0; deps = x.1.0; book = x.1.1.0; before = x.1.1.1 }) (λ h. (h.writer, (h.deps, (h.book, h.before))))
    (λ h. refl) (λ x. refl) (λ x is. is) (λ h is. is)
    (Reads-pair (Reads-below processes small) (Reads-pair (Reads-items Reads-u32 logs) (Reads-pair (Reads-raw 32) (Reads-raw 32)))))

-- the parts of an entry
abbrev IsEntryParts : ℕ → ℕ → ℕ → Head × List EntryMessage → Type 0
IsEntryParts logs accounts processes x = IsHead logs processes x.0 × AreListed (IsEntryMessageOn accounts) most_in_entry x.1

abbrev entry_of_parts : Head × List EntryMessage → EntryTerms
entry_of_parts x = record { writer = x.0.writer; deps = x.0.deps; book = x.0.book; before = x.0.before; messages = x.1 }

abbrev parts_of_entry : EntryTerms → Head × List EntryMessage
parts_of_entry e = (record { writer = e.writer; deps = e.deps; book = e.book; before = e.before }, e.messages)

entry_from_parts : (logs accounts processes : ℕ) (x : Head × List EntryMessage) → IsEntryParts logs accounts processes x → IsEntryOn logs accounts processes (entry_of_parts x)
entry_from_parts logs accounts processes x is =
    let each = All-from_recursion (IsEntryMessageOn accounts) x.1 is.1.each in
    record {
      bytes = record {
        counts = All-from_recursion (λ n. n < 2 ^ 32) x.0.deps is.0.1.0.each;
        book = is.0.1.1.0;
        before = is.0.1.1.1;
        some = is.1.some;
        few = is.1.few;
        messages = λ k d within. (each k d within).bytes;
      };
      names = record {
        writer = is.0.0;
        deps = is.0.1.0.long;
        sources = λ k d within. (each k d within).source;
        targets = λ k d within. (each k d within).targets;
      };
    }

parts_from_entry : (logs accounts processes : ℕ) (e : EntryTerms) → IsEntryOn logs accounts processes e → IsEntryParts logs accounts processes (parts_of_entry e)
parts_from_entry logs accounts processes e is =
    let counts = recursion_from_All (λ n. n < 2 ^ 32) e.deps is.bytes.counts in
    let messages = recursion_from_All (IsEntryMessageOn accounts) e.messages
    (λ k d within. record { source = is.names.sources k d within; targets = is.names.targets k d within; bytes = is.bytes.messages k d within }) in (
      (is.names.writer, (record { long = is.names.deps; each = counts }, (is.bytes.book, is.bytes.before))),
      record { some = is.bytes.some; few = is.bytes.few; each = messages },
    )

Reads-entry : (logs accounts processes : ℕ) → accounts ≤ 2 ^ 32 → processes ≤ 2 ^ 32
    → Reads (IsEntryOn logs accounts processes) entry_bytes (read_entry logs accounts processes)
unfolding read_entry
Reads-entry logs accounts processes few_accounts few_processes =
    Reads-made entry_of_parts parts_of_entry (λ e. refl) (λ x. refl) (entry_from_parts logs accounts processes) (parts_from_entry logs accounts processes)
    (Reads-pair (Reads-head logs processes few_processes) (Reads-listed most_in_entry (Reads-message accounts few_accounts)))

-- what is read of bytes is the one entry that they spell
reads_entry : (logs accounts processes : ℕ) (bytes : List ℕ) (e : EntryTerms) → accounts ≤ 2 ^ 32 → processes ≤ 2 ^ 32 → IsBytes bytes
    → (read_whole (read_entry logs accounts processes) bytes ≡ Some e) ↔ (IsEntryOn logs accounts processes e × (bytes ≡ entry_bytes e))
reads_entry logs accounts processes bytes e few_accounts few_processes fits =
    reads_whole (Reads-entry logs accounts processes few_accounts few_processes) bytes e fits

-- no two entries have the same bytes
pub same_entry : (logs accounts processes : ℕ) (e f : EntryTerms) → accounts ≤ 2 ^ 32 → processes ≤ 2 ^ 32 → IsEntryOn logs accounts processes e → IsEntryOn logs accounts processes f
    → entry_bytes e ≡ entry_bytes f → e ≡ f
same_entry logs accounts processes e f few_accounts few_processes one other same =
    let r = Reads-entry logs accounts processes few_accounts few_processes in
    let both : Some (e, []) ≡ Some (f, []) =
    sym (r.again e [] one) ∙ (ap (λ (l : List ℕ). read_entry logs accounts processes (l ++ [])) same ∙ r.again f [] other) in
    ap (λ (x : EntryTerms × List ℕ). x.0) (same_Some (e, []) (f, []) both)

-- the same of what was returned
pub returned_entry : {E : Type 0} (logs accounts processes : ℕ) (bytes : List ℕ) (r : Result (Option EntryTerms) E) → accounts ≤ 2 ^ 32 → processes ≤ 2 ^ 32 → IsBytes bytes
    → IfOk r (λ found. found ≡ read_whole (read_entry logs accounts processes) bytes)
    → IfOk r (λ found. (e : EntryTerms) → (found ≡ Some e) ↔ (IsEntryOn logs accounts processes e × (bytes ≡ entry_bytes e)))
returned_entry logs accounts processes bytes (Ok found) few_accounts few_processes fits is =
    λ e. rw is (reads_entry logs accounts processes bytes e few_accounts few_processes fits)
returned_entry logs accounts processes bytes (Err error) few_accounts few_processes fits is = tt

-- a message of an entry, as a message of its log
pub IsMessageOn-in_log : (logs accounts processes : ℕ) (e : EntryTerms) (log i : ℕ) → i < length e.messages → IsEntryOn logs accounts processes e
    → IsMessageOn logs accounts (message_in_log e log i)
IsMessageOn-in_log logs accounts processes e log i within is =
    let none : EntryMessage = record { from = 0; targets = []; reference = [] } in
    record {
      source = is.names.sources i none within;
      targets = is.names.targets i none within;
      few = (is.bytes.messages i none within).few;
      deps = length-set e.deps log (get_or e.deps log 0 + i) ∙ is.names.deps;
    }

pub All-in_log : (logs accounts processes : ℕ) (e : EntryTerms) (log : ℕ) → IsEntryOn logs accounts processes e → All (IsMessageOn logs accounts) (messages_in_log e log)
All-in_log logs accounts processes e log is k d within =
    let inside : k < length e.messages = omega (arith, within, length-map-range_with_len (message_in_log e log) 0 (length e.messages)) in
    subst (IsMessageOn logs accounts) (sym (get_or-map-range_with_len (message_in_log e log) 0 (length e.messages) k k d inside (omega arith)))
    (IsMessageOn-in_log logs accounts processes e log k inside is)
