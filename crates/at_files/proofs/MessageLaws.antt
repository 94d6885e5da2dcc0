-- The record of a message is the message, written out.
use Rattle.std.proofs.Common.{◌≡◌, ℕ, ◌+◌, ◌-◌, ◌^◌, ◌<◌, ◌≤◌, Bool, true, false, ◌&&◌, ◌==◌, nat_le, nat_lt, List, [], ◌∷◌, length, drop, map, All, Vec, get_or, Option, Some, None, Result, Ok, Err, IfErr, IfOk, if◌then◌else◌, codes, decimal, refl, sym, ◌∙◌, ap, subst, arith}
use Rattle.at_files.proofs.Prelude.{Global, eq-eqb, le-leb, leb-true, ltb-true, nat_tests, ext_get_or, length-drop, length-map, All-cons, All-head, All-tail, field_at, number_of-decimal, BookTerms, Message, numbers_of, most_messages, Fields, field_of, has_shape, number_at, IsSent, Sends, are_counts, fields_of_message, message_read, message_spelled, messages_spelled, MessagesWhy, TooManyMessages, BadRecord, ReadFault, Bad, NoMemory}
use Rattle.at_files.specs.Messages.{target_of}
use Rattle.at_files.specs.declared.messages.MessagesWhy.TheVariants.{Shape}
use Rattle.at_files.proofs.Faults.{Err≢Ok}
use Rattle.at_files.proofs.AccountLaws.{pieces-numbers_of}
use Rattle.at_files.proofs.BookAccepted.{Fits64, numbers_of-decimals}
use Rattle.at_files.proofs.DeliveryLaws.{ok_where_both}
use Rattle.at_files.proofs.FieldLaws.{both_tests, field_of-number_at, first-has_shape, length-has_shape, number_at-lt}
use Rattle.at_files.proofs.SpelledLaws.{AreWritten, IsForm, items_of-map, read-accepts, read-written}

-- a record of that shape is what its fields are read as
pub message_spelled-read : (b : BookTerms) (fields : Fields) (from to amount : Option ℕ) (deps : Option (List ℕ)) → has_shape (codes "send") (b.processes + 4) fields ≡ true
    → number_at fields 1 ≡ from → number_at fields 2 ≡ to → number_at fields 3 ≡ amount → numbers_of (drop 4 fields) ≡ deps
    → message_spelled b fields ≡ message_read (length b.accounts) from to amount deps
message_spelled-read b fields from to amount deps shape one two three four = rw (shape, one, two, three, four) refl

four_first : (fields : Fields) → 4 ≤ length fields
    → fields ≡ field_of fields 0 ∷ field_of fields 1 ∷ field_of fields 2 ∷ field_of fields 3 ∷ drop 4 fields
unfolding field_at
four_first [] h = absurd (omega arith)
four_first (a ∷ []) h = absurd (omega arith)
four_first (a ∷ b ∷ []) h = absurd (omega arith)
four_first (a ∷ b ∷ c ∷ []) h = absurd (omega arith)
four_first (a ∷ b ∷ c ∷ d ∷ fields) h = refl

are_counts-All : (deps : List ℕ) → are_counts deps ≡ true → All (λ d. d ≤ most_messages) deps
are_counts-All [] h = λ k d h. absurd (omega arith)
are_counts-All (n ∷ deps) h =
    let both = both_tests (nat_le n most_messages) (are_counts deps) h in
    All-cons (λ d. d ≤ most_messages) n deps (leb-true n most_messages both.0) (are_counts-All deps both.1)

All-are_counts : (deps : List ℕ) → All (λ d. d ≤ most_messages) deps → are_counts deps ≡ true
All-are_counts [] h = refl
All-are_counts (n ∷ deps) h =
    rw (le-leb n most_messages (All-head (λ d. d ≤ most_messages) n deps h), All-are_counts deps (All-tail (λ d. d ≤ most_messages) n deps h)) refl

-- so many counts as there are numbers
count_deps : (fields : Fields) (deps : List ℕ) (n : ℕ) → length fields ≡ n + 4 → 4 ≤ length fields → drop 4 fields ≡ map decimal deps → length deps ≡ n
count_deps fields deps n long some is =
    let same : length (map decimal deps) ≡ length fields - 4 = ap length (sym is) ∙ length-drop 4 fields in
    let each = length-map deps decimal in
    omega arith

message_read-IsSent : (b : BookTerms) (fields : Fields) (m : Message) (from to amount : Option ℕ) (deps : Option (List ℕ))
    → has_shape (codes "send") (b.processes + 4) fields ≡ true → number_at fields 1 ≡ from → number_at fields 2 ≡ to → number_at fields 3 ≡ amount
    → numbers_of (drop 4 fields) ≡ deps → message_read (length b.accounts) from to amount deps ≡ Ok m → (fields ≡ fields_of_message m) × IsSent b m
message_read-IsSent b fields m None to amount deps shape e1 e2 e3 e4 h = absurd (cc)
message_read-IsSent b fields m (Some from) None amount deps shape e1 e2 e3 e4 h = absurd (cc)
message_read-IsSent b fields m (Some from) (Some to) None deps shape e1 e2 e3 e4 h = absurd (cc)
message_read-IsSent b fields m (Some from) (Some to) (Some amount) None shape e1 e2 e3 e4 h = absurd (cc)
message_read-IsSent b fields m (Some from) (Some to) (Some amount) (Some deps) shape e1 e2 e3 e4 h =
    let tests = ok_where_both (nat_lt from (length b.accounts) && nat_lt to (length b.accounts)) (are_counts deps) _ m _ _ h in
    let both = both_tests (nat_lt from (length b.accounts)) (nat_lt to (length b.accounts)) tests.0 in
    let long = length-has_shape (codes "send") (b.processes + 4) fields shape in
    let some : 4 ≤ length fields = omega arith in
    let pieces = pieces-numbers_of (drop 4 fields) deps e4 in
    let P : Message → Type 0 = λ x. (fields ≡ fields_of_message x) × IsSent b x in
    subst P tests.2 (
      four_first fields some
          ∙ rw (
            first-has_shape (codes "send") (b.processes + 4) fields shape,
            field_of-number_at fields 1 from e1,
            field_of-number_at fields 2 to e2,
            field_of-number_at fields 3 amount e3,
            pieces,
          ) refl,
      record {
        one = refl;
        known = record {
          source = ltb-true from (length b.accounts) both.0;
          targets = All-cons (λ t. t.0 < length b.accounts) (to, amount) [] (ltb-true to (length b.accounts) both.1) (λ k t within. absurd (omega arith));
          few = omega arith;
          deps = count_deps fields deps b.processes long some pieces;
        };
        amount = number_at-lt fields 3 amount e3;
        deps = are_counts-All deps tests.1;
      },
    )

message_spelled-reads : (b : BookTerms) (fields : Fields) (m : Message) → message_spelled b fields ≡ Ok m → (fields ≡ fields_of_message m) × IsSent b m
message_spelled-reads b fields m h = by (has_shape (codes "send") (b.processes + 4) fields) refl h
  where
    by : (t : Bool) → has_shape (codes "send") (b.processes + 4) fields ≡ t
        → (if t then message_read (length b.accounts) (number_at fields 1) (number_at fields 2) (number_at fields 3) (numbers_of (drop 4 fields)) else Err Shape) ≡ Ok m
        → (fields ≡ fields_of_message m) × IsSent b m
    by true e is =
        message_read-IsSent b fields m (number_at fields 1) (number_at fields 2) (number_at fields 3) (numbers_of (drop 4 fields)) e refl refl refl refl is
    by false e is = absurd (Err≢Ok _ _ is)

send_shape : (b : BookTerms) (m : Message) → length m.deps ≡ b.processes → has_shape (codes "send") (b.processes + 4) (fields_of_message m) ≡ true
unfolding field_at
send_shape b m h =
    let same = length-map m.deps decimal in
    let long : (length (fields_of_message m) == b.processes + 4) ≡ true = eq-eqb (length (fields_of_message m)) (b.processes + 4) (omega arith) in
    rw long refl

message_spelled-writes : (b : BookTerms) (m : Message) → length b.accounts ≤ 2 ^ 64 → IsSent b m → message_spelled b (fields_of_message m) ≡ Ok m
unfolding field_at
message_spelled-writes b m few is =
    let source = is.known.source in
    let target = is.known.targets 0 (0, 0) (omega (arith, ap (λ (m : Message). length m.targets) is.one)) in
    let from_in : nat_lt m.from (length b.accounts) ≡ true = grind (arith, nat_tests) in
    let to_in : nat_lt (target_of m).0 (length b.accounts) ≡ true = grind (arith, nat_tests) in
    let fit : All Fits64 m.deps = λ k d within. let small = is.deps k d within in omega arith in
    rw (
      send_shape b m is.known.deps,
      number_of-decimal m.from (omega arith),
      number_of-decimal (target_of m).0 (omega arith),
      number_of-decimal (target_of m).1 is.amount,
      numbers_of-decimals m.deps fit,
      from_in,
      to_in,
      All-are_counts m.deps is.deps,
    ) (ap Ok (sym is.one))

pub IsForm-message : (b : BookTerms) → length b.accounts ≤ 2 ^ 64 → IsForm (message_spelled b) fields_of_message (IsSent b)
IsForm-message b few = record {
  reads = message_spelled-reads b;
  writes = λ m is. message_spelled-writes b m few is;
}

-- what a message file holds
pub Sends-written : (b : BookTerms) (records : List Fields) (r : Result (Vec Message Global) (ReadFault MessagesWhy)) → length b.accounts ≤ 2 ^ 64
    → IfOk r (λ messages. messages_spelled b records ≡ Ok messages.items) → IfOk r (λ messages. Sends b records messages.items)
Sends-written b records r few h = by r (read-written (message_spelled b) fields_of_message (IsSent b) most_messages TooManyMessages records r (IsForm-message b few) h)
  where
    by : (r : Result (Vec Message Global) (ReadFault MessagesWhy)) → IfOk r (λ messages. AreWritten fields_of_message (IsSent b) most_messages 1 records messages.items)
        → IfOk r (λ messages. Sends b records messages.items)
    by (Ok messages) are = record { spelled = are.spelled; each = are.each; few = let few = are.few in omega arith }
    by (Err fault) are = tt

-- a file that is messages gives them
pub messages_spelled-Sends : (b : BookTerms) (records : List Fields) (messages : List Message) → length b.accounts ≤ 2 ^ 64 → Sends b records messages → messages_spelled b records ≡ Ok messages
messages_spelled-Sends b records messages few sends =
    items_of-map (message_spelled b) fields_of_message (IsSent b) most_messages TooManyMessages records messages (IsForm-message b few) sends.spelled sends.each sends.few

-- a file that is messages isn't refused
pub Sends-accepted : (b : BookTerms) (records : List Fields) (r : Result (Vec Message Global) (ReadFault MessagesWhy)) (messages : List Message) → length b.accounts ≤ 2 ^ 64
    → ((bad : BadRecord MessagesWhy) → r ≡ Err (Bad bad) → messages_spelled b records ≡ Err bad) → Sends b records messages → IfErr r (λ fault. fault ≡ NoMemory)
Sends-accepted b records r messages few bad sends =
    read-accepts (message_spelled b) fields_of_message (IsSent b) most_messages TooManyMessages records r messages (IsForm-message b few) bad sends.spelled sends.each sends.few

-- counts that are the numbers, one after another
pub counts_of-set : (counts deps : List ℕ) → length counts ≡ length deps → ((m : ℕ) → m < length deps → get_or counts m 0 ≡ get_or deps m 0) → counts ≡ deps
counts_of-set counts deps sized set = ext_get_or 0 counts deps sized (λ m within. set m (omega arith))
