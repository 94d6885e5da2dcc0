-- A payment file that is calls, written out, is read as these calls.
use Rattle.std.proofs.Common.{Result, drop, get_or, if◌then◌else◌, map, ◌≡◌, ℕ, ◌+◌, ◌^◌, ◌<◌, ◌≤◌, Bool, true, false, ◌&&◌, ◌⊎◌, inl, inr, ◌==◌, nat_lt, Some, bytes_eq, List, [], ◌∷◌, length, All, Ok, Err, codes, decimal, refl, sym, ap, ◌∙◌, arith}
use Rattle.at_files.proofs.Prelude.{IsDistinct, eq-eqb, nat_tests, All-head, All-tail, field_at, number_of-decimal, BookTerms, AreTargetsOn, IsCallOn, TargetPair, Call, Transfer, Pay, most_targets, AreNames, NameList, AreNamesOf, account_name, Fields, has_shape, plain_call_of, named_call_of, call_of, has_amounts, is_pay, targets_spelled, fields_of_targets, calls_or_fault, payments_of, fields_of_call, IsCallOfVersion, HasAmounts, Pays, most_calls, items_from, TooManyCalls, BadPayments, BadRecord, PaymentsWhy, ReadPaymentsFault, bytes_eq-Decides, calls_behind, field_of, fields_of_process, before_calls, names_process, is_of, process_name}
use Rattle.at_ledger.specs.declared.call.Call.TheVariants.{Read}
use Rattle.at_files.specs.declared.payments_fault.ReadPaymentsFault.TheVariants.{Bad, NoMemory}
use Rattle.at_files.proofs.NameLaws.{known_version, position_of-at}
use Rattle.at_files.specs.declared.payments_fault.PaymentsWhy.TheVariants.{Process}
use Rattle.at_files.proofs.FieldLaws.{first-has_shape, length-has_shape, two_fields}
use Rattle.at_files.proofs.SpelledLaws.{AreWritten, IsForm, items_from-map, items_from-written}
use Rattle.at_files.proofs.PaymentsSpelled.{AreNumbered, MayCall, account_name-decimal, call_of-reads}

plain_call_of-transfer : (accounts from to amount : ℕ) → from < accounts → to < accounts → accounts ≤ 2 ^ 64 → amount < 2 ^ 64
    → plain_call_of accounts (codes "transfer" ∷ decimal from ∷ decimal to ∷ decimal amount ∷ []) ≡ Ok (Transfer from to amount)
unfolding field_at
plain_call_of-transfer accounts from to amount from_in to_in few fits =
    let first : nat_lt from accounts ≡ true = grind (arith, nat_tests) in
    let second : nat_lt to accounts ≡ true = grind (arith, nat_tests) in
    rw (number_of-decimal from (omega arith), number_of-decimal to (omega arith), number_of-decimal amount fits, first, second) refl

plain_call_of-read : (accounts account : ℕ) → account < accounts → accounts ≤ 2 ^ 64 → plain_call_of accounts (codes "read" ∷ decimal account ∷ []) ≡ Ok (Read account)
unfolding field_at
plain_call_of-read accounts account within few =
    let known : nat_lt account accounts ≡ true = grind (arith, nat_tests) in
    rw (number_of-decimal account (omega arith), known) refl

plain_call_of-fields : (names : NameList) (call : Call) → AreNumbered names → length names.accounts ≤ 2 ^ 64
    → IsCallOn (length names.accounts) call → HasAmounts call → IsCallOfVersion names.version call → plain_call_of (length names.accounts) (fields_of_call names call) ≡ Ok call
plain_call_of-fields names (Transfer from to amount) numbered few known amounts version =
    rw (account_name-decimal names from numbered known.0, account_name-decimal names to numbered known.1)
    (plain_call_of-transfer (length names.accounts) from to amount known.0 known.1 few amounts)
plain_call_of-fields names (Read account) numbered few known amounts version =
    rw (account_name-decimal names account numbered known) (plain_call_of-read (length names.accounts) account known few)
plain_call_of-fields names (Pay from targets) numbered few known amounts version = absurd (let second = version.0 in let first = numbered.0 in omega arith)

-- the fields of targets, read back
targets_spelled-fields : (names : NameList) (targets : List TargetPair) → IsDistinct bytes_eq names.accounts → AreTargetsOn (length names.accounts) targets
    → All (λ t. t.1 < 2 ^ 64) targets → targets_spelled names.accounts (fields_of_targets names targets) ≡ Some targets
unfolding targets_spelled fields_of_targets
targets_spelled-fields names [] distinct known fits = refl
targets_spelled-fields names (t ∷ ts) distinct known fits =
    rw (
      position_of-at names.accounts t.0 distinct (All-head (λ (x : TargetPair). x.0 < length names.accounts) t ts known),
      number_of-decimal t.1 (All-head (λ (x : TargetPair). x.1 < 2 ^ 64) t ts fits),
      targets_spelled-fields names ts distinct (All-tail (λ (x : TargetPair). x.0 < length names.accounts) t ts known) (All-tail (λ (x : TargetPair). x.1 < 2 ^ 64) t ts fits),
    ) refl

has_amounts-fields : (names : NameList) (targets : List TargetPair) → All (λ t. t.1 < 2 ^ 64) targets → has_amounts (fields_of_targets names targets) ≡ true
unfolding has_amounts fields_of_targets
has_amounts-fields names [] fits = refl
has_amounts-fields names (t ∷ ts) fits =
    rw (number_of-decimal t.1 (All-head (λ (x : TargetPair). x.1 < 2 ^ 64) t ts fits)) (has_amounts-fields names ts (All-tail (λ (x : TargetPair). x.1 < 2 ^ 64) t ts fits))

is_pay-fields : (names : NameList) (from : ℕ) (targets : List TargetPair) → 1 ≤ length targets → length targets ≤ most_targets
    → is_pay (fields_of_call names (Pay from targets)) ≡ true
unfolding field_at fields_of_targets
is_pay-fields names from [] some few = absurd (omega arith)
is_pay-fields names from (a ∷ []) some few = refl
is_pay-fields names from (a ∷ b ∷ []) some few = refl
is_pay-fields names from (a ∷ b ∷ c ∷ []) some few = refl
is_pay-fields names from (a ∷ b ∷ c ∷ d ∷ []) some few = refl
is_pay-fields names from (a ∷ b ∷ c ∷ d ∷ e ∷ targets) some few = absurd (omega arith)

-- a pay-out is neither a transfer nor a read
no_test : (b : Bool) → (b && false) ≡ false
no_test true = refl
no_test false = refl

not_transfer : (rest : Fields) → has_shape (codes "transfer") 4 (codes "pay" ∷ rest) ≡ false
unfolding field_at
not_transfer rest = no_test (length (codes "pay" ∷ rest) == 4)

not_read : (rest : Fields) → has_shape (codes "read") 2 (codes "pay" ∷ rest) ≡ false
unfolding field_at
not_read rest = no_test (length (codes "pay" ∷ rest) == 2)

named_call_of-fields : (names : NameList) (call : Call) → IsDistinct bytes_eq names.accounts
    → IsCallOn (length names.accounts) call → HasAmounts call → IsCallOfVersion names.version call → named_call_of names.accounts (fields_of_call names call) ≡ Ok call
unfolding field_at
named_call_of-fields names (Transfer from to amount) distinct known fits version =
    rw (position_of-at names.accounts from distinct known.0, position_of-at names.accounts to distinct known.1, number_of-decimal amount fits) refl
named_call_of-fields names (Read account) distinct known fits version = rw (position_of-at names.accounts account distinct known) refl
named_call_of-fields names (Pay from targets) distinct known fits version =
    let pay : is_pay (fields_of_call names (Pay from targets)) ≡ true = is_pay-fields names from targets version.1 version.2 in
    rw (
      not_transfer (account_name names from ∷ fields_of_targets names targets),
      not_read (account_name names from ∷ fields_of_targets names targets),
      pay,
      position_of-at names.accounts from distinct known.0,
      has_amounts-fields names targets fits,
      targets_spelled-fields names targets distinct known.1 fits,
    ) refl

call_of-fields : (names : NameList) (call : Call) → AreNames names.version names.accounts → length names.accounts ≤ 2 ^ 64
    → IsCallOn (length names.accounts) call → HasAmounts call → IsCallOfVersion names.version call → call_of names (fields_of_call names call) ≡ Ok call
call_of-fields names call are few known amounts version = by (known_version names.version names.accounts are)
  where
    by : (names.version ≡ 1) ⊎ (names.version ≡ 2) → call_of names (fields_of_call names call) ≡ Ok call
    by (inl first) =
        let test : (names.version == 2) ≡ false = grind (arith, nat_tests) in
        rw test (plain_call_of-fields names call (first, are) few known amounts version)
    by (inr second) =
        let test : (names.version == 2) ≡ true = eq-eqb names.version 2 second in
        rw test (named_call_of-fields names call are.distinct known amounts version)

calls_or_fault-Ok : (spelled : Result (List Call) (BadRecord PaymentsWhy)) (calls : List Call) → calls_or_fault spelled ≡ Ok calls → spelled ≡ Ok calls
calls_or_fault-Ok (Ok all) calls h = let same : all ≡ calls = cc in rw same refl
calls_or_fault-Ok (Err bad) calls h = absurd (cc)

IsForm-call : (names : NameList) → AreNames names.version names.accounts → length names.accounts ≤ 2 ^ 64 → IsForm (call_of names) (fields_of_call names) (MayCall names)
IsForm-call names are few = record {
  reads = λ fields call h. call_of-reads names fields call are h;
  writes = λ call may. call_of-fields names call are few may.known may.amounts may.version;
}

-- the record of a call names no process
call-names_none : (names : NameList) (call : Call) → names_process (fields_of_call names call) ≡ false
unfolding field_at
call-names_none names (Transfer from to amount) = refl
call-names_none names (Read account) = refl
call-names_none names (Pay from targets) = no_test (length (fields_of_call names (Pay from targets)) == 2)

calls-name_none : (names : NameList) (calls : List Call) → names_process (get_or (map (fields_of_call names) calls) 0 []) ≡ false
unfolding field_at
calls-name_none names [] = refl
calls-name_none names (call ∷ calls) = call-names_none names call

naming-is_of : (names : NameList) (process : ℕ) (records : List Fields) → is_of names process (fields_of_process names process ∷ records) ≡ true
unfolding field_at
naming-is_of names process records = (bytes_eq-Decides (process_name names process) (process_name names process)).1 refl

naming-before_calls : (names : NameList) (process : ℕ) (records : List Fields) → before_calls (fields_of_process names process ∷ records) ≡ 1
unfolding field_at
naming-before_calls names process records = refl

calls_behind-map : (names : NameList) (skipped : ℕ) (calls : List Call) → AreNames names.version names.accounts → length names.accounts ≤ 2 ^ 64
    → All (MayCall names) calls → length calls ≤ most_calls → calls_behind names skipped (map (fields_of_call names) calls) ≡ Ok calls
calls_behind-map names skipped calls are small may few =
    ap calls_or_fault
    (items_from-map (call_of names) (fields_of_call names) (MayCall names) (skipped + most_calls) TooManyCalls (skipped + 1) calls
    (IsForm-call names are small) may (omega arith))

-- what the file pays is what its records spell
pub payments_of-Pays : (b : BookTerms) (names : NameList) (process : ℕ) (records : List Fields) (calls : List Call) → AreNamesOf b names
    → Pays b names process records calls → payments_of names process records ≡ Ok calls
payments_of-Pays b names process records calls are pays = by pays.spelled
  where
    known : All (IsCallOn (length names.accounts)) calls
    known = rw are.accounts pays.known

    may : All (MayCall names) calls
    may = λ k call at. record { known = known k call at; amounts = pays.amounts k call at; version = pays.versions k call at }

    behind : (skipped : ℕ) → calls_behind names skipped (map (fields_of_call names) calls) ≡ Ok calls
    behind skipped = calls_behind-map names skipped calls are.formed.accounts (omega (arith, are.formed.few_accounts)) may pays.few

    by : (records ≡ map (fields_of_call names) calls) ⊎ (records ≡ fields_of_process names process ∷ map (fields_of_call names) calls)
        → payments_of names process records ≡ Ok calls
    by (inl plain) = rw (plain, calls-name_none names calls) (behind 0)
    by (inr naming) =
        rw (naming, naming-is_of names process (map (fields_of_call names) calls), naming-before_calls names process (map (fields_of_call names) calls)) (behind 1)

-- the record that names the process
naming_record : (names : NameList) (process : ℕ) (fields : Fields) → names_process fields ≡ true → bytes_eq (field_of fields 1) (process_name names process) ≡ true
    → fields ≡ fields_of_process names process
naming_record names process fields naming is =
    two_fields fields (length-has_shape (codes "process") 2 fields naming)
    ∙ rw (first-has_shape (codes "process") 2 fields naming, (bytes_eq-Decides (field_of fields 1) (process_name names process)).0 is) refl

first_and_rest : (records : List Fields) (naming : Fields) → names_process (get_or records 0 []) ≡ true → get_or records 0 [] ≡ naming → records ≡ naming ∷ drop 1 records
unfolding field_at
first_and_rest [] naming is same = absurd (cc)
first_and_rest (fields ∷ records) naming is same = rw same refl

-- the calls that a file's records spell are what it pays
pub Pays-payments_of : (b : BookTerms) (names : NameList) (process : ℕ) (records : List Fields) (calls : List Call) → AreNamesOf b names
    → payments_of names process records ≡ Ok calls → Pays b names process records calls
Pays-payments_of b names process records calls are h = by (names_process (get_or records 0 [])) (bytes_eq (field_of (get_or records 0 []) 1) (process_name names process)) refl refl h
  where
    written : (skipped : ℕ) (rest : List Fields) → calls_behind names skipped rest ≡ Ok calls
        → AreWritten (fields_of_call names) (MayCall names) (skipped + most_calls) (skipped + 1) rest calls
    written skipped rest is =
        items_from-written (call_of names) (fields_of_call names) (MayCall names) (skipped + most_calls) TooManyCalls (skipped + 1) rest calls
        (IsForm-call names are.formed.accounts (omega (arith, are.formed.few_accounts))) (omega arith)
        (calls_or_fault-Ok (items_from (call_of names) (skipped + most_calls) TooManyCalls (skipped + 1) rest) calls is)

    pays : (skipped : ℕ) (rest : List Fields) → AreWritten (fields_of_call names) (MayCall names) (skipped + most_calls) (skipped + 1) rest calls
        → (rest ≡ map (fields_of_call names) calls → (records ≡ map (fields_of_call names) calls) ⊎ (records ≡ fields_of_process names process ∷ map (fields_of_call names) calls))
        → Pays b names process records calls
    pays skipped rest all spelled = record {
      spelled = spelled all.spelled;
      known = λ k call at. rw are.accounts at (all.each k call at).known;
      amounts = λ k call at. (all.each k call at).amounts;
      versions = λ k call at. (all.each k call at).version;
      few = let few : length calls + (skipped + 1) ≤ skipped + most_calls + 1 = all.few in omega arith;
    }

    by : (naming same : Bool) → names_process (get_or records 0 []) ≡ naming → bytes_eq (field_of (get_or records 0 []) 1) (process_name names process) ≡ same
        → (if (if naming then same else true) then calls_behind names (if naming then 1 else 0) (drop (if naming then 1 else 0) records) else Err (record { line = 1; why = Process })) ≡ Ok calls
        → Pays b names process records calls
    by false same none any is = pays 0 records (written 0 records is) (λ all. inl all)
    by true false naming other is = absurd (cc)
    by true true naming here is =
        let first = first_and_rest records (fields_of_process names process) naming (naming_record names process (get_or records 0 []) naming here) in
        pays 1 (drop 1 records) (written 1 (drop 1 records) is) (λ all. inr (first ∙ rw all refl))

-- a file that pays calls isn't refused
pub Pays-no_fault : (b : BookTerms) (names : NameList) (process : ℕ) (records : List Fields) (calls : List Call) (fault : ReadPaymentsFault) → AreNamesOf b names
    → Pays b names process records calls → ((bad : BadPayments) → fault ≡ Bad bad → payments_of names process records ≡ Err bad) → fault ≡ NoMemory
Pays-no_fault b names process records calls NoMemory are pays told = refl
Pays-no_fault b names process records calls (Bad bad) are pays told =
    let wrong : Ok calls ≡ Err bad = sym (payments_of-Pays b names process records calls are pays) ∙ told bad refl in
    absurd (cc)
