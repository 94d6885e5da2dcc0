-- The records of a payment file are its calls, written out.
use Rattle.std.proofs.Common.{◌≡◌, ℕ, ◌+◌, ◌*◌, ◌^◌, ◌<◌, ◌≤◌, Bool, true, false, inl, inr, ◌&&◌, ◌||◌, ◌==◌, nat_lt, List, [], ◌∷◌, length, drop, All, Option, Some, None, Ok, Err, if◌then◌else◌, codes, decimal, refl, ◌∙◌, ap, subst, arith}
use Rattle.at_files.proofs.Prelude.{ltb-true, eqb-true, nat_tests, All-cons, field_at, number_of, number_of-some, AreTargetsOn, IsCallOn, TargetPair, Call, Transfer, Pay, AreNames, NameList, account_name, position_of, Fields, before, field_of, number_at, has_shape, transfer_of, read_of, plain_call_of, named_transfer, named_read, named_pay, named_call_of, has_amounts, is_pay, target_of, targets_spelled, call_of, fields_of_call, fields_of_targets, IsCallOfVersion, HasAmounts, PaymentsWhy, UnknownAccount}
use Rattle.at_ledger.specs.declared.call.Call.TheVariants.{Read}
use Rattle.at_files.specs.declared.payments_fault.PaymentsWhy.TheVariants.{Shape}
use Rattle.at_files.proofs.Faults.{Err≢Ok}
use Rattle.at_files.proofs.NameLaws.{decimal-AreNames, known_version, position_of-Some}
use Rattle.at_files.proofs.FieldLaws.{both_tests, length-has_shape, first-has_shape, two_fields, four_fields, field_of-number_at, number_at-lt}

-- the accounts' names are their numbers
abbrev pub AreNumbered : NameList → Type 0
AreNumbered names = (names.version ≡ 1) × AreNames names.version names.accounts

pub account_name-decimal : (names : NameList) (n : ℕ) → AreNumbered names → n < length names.accounts → account_name names n ≡ decimal n
account_name-decimal names n is h = decimal-AreNames names.version names.accounts n is.1 is.0 h

-- a record that spells a call is the call's
record Spelled (names : NameList) (fields : Fields) (call : Call) : Type 0 where
  spelled : fields ≡ fields_of_call names call
  known : IsCallOn (length names.accounts) call
  amounts : HasAmounts call
  version : IsCallOfVersion names.version call

ok_where : (b : Bool) (x call : Call) (why : PaymentsWhy) → (if b then Ok x else Err why) ≡ Ok call → (b ≡ true) × (x ≡ call)
ok_where true x call why h = (refl, cc)
ok_where false x call why h = absurd (cc)

transfer_of-spelled : (names : NameList) (fields : Fields) (call : Call) (from to amount : Option ℕ) → AreNumbered names
    → has_shape (codes "transfer") 4 fields ≡ true → number_at fields 1 ≡ from → number_at fields 2 ≡ to → number_at fields 3 ≡ amount
    → transfer_of (length names.accounts) from to amount ≡ Ok call → Spelled names fields call
transfer_of-spelled names fields call None to amount numbered shape e1 e2 e3 h = absurd (cc)
transfer_of-spelled names fields call (Some from) None amount numbered shape e1 e2 e3 h = absurd (cc)
transfer_of-spelled names fields call (Some from) (Some to) None numbered shape e1 e2 e3 h = absurd (cc)
transfer_of-spelled names fields call (Some from) (Some to) (Some amount) numbered shape e1 e2 e3 h =
    let test = ok_where (nat_lt from (length names.accounts) && nat_lt to (length names.accounts)) (Transfer from to amount) call UnknownAccount h in
    let both = both_tests (nat_lt from (length names.accounts)) (nat_lt to (length names.accounts)) test.0 in
    let from_known = ltb-true from (length names.accounts) both.0 in
    let to_known = ltb-true to (length names.accounts) both.1 in
    let P : Call → Type 0 = Spelled names fields in
    subst P test.1 (record {
      spelled =
          four_fields fields (length-has_shape (codes "transfer") 4 fields shape)
          ∙ rw (
            first-has_shape (codes "transfer") 4 fields shape,
            field_of-number_at fields 1 from e1,
            field_of-number_at fields 2 to e2,
            field_of-number_at fields 3 amount e3,
            account_name-decimal names from numbered from_known,
            account_name-decimal names to numbered to_known,
          ) refl;
      known = (from_known, to_known);
      amounts = number_at-lt fields 3 amount e3;
      version = tt;
    })

read_of-spelled : (names : NameList) (fields : Fields) (call : Call) (account : Option ℕ) → AreNumbered names
    → has_shape (codes "read") 2 fields ≡ true → number_at fields 1 ≡ account → read_of (length names.accounts) account ≡ Ok call → Spelled names fields call
read_of-spelled names fields call None numbered shape e h = absurd (cc)
read_of-spelled names fields call (Some account) numbered shape e h =
    let test = ok_where (nat_lt account (length names.accounts)) (Read account) call UnknownAccount h in
    let account_known = ltb-true account (length names.accounts) test.0 in
    let P : Call → Type 0 = Spelled names fields in
    subst P test.1 (record {
      spelled =
          two_fields fields (length-has_shape (codes "read") 2 fields shape)
          ∙ rw (first-has_shape (codes "read") 2 fields shape, field_of-number_at fields 1 account e, account_name-decimal names account numbered account_known) refl;
      known = account_known;
      amounts = tt;
      version = tt;
    })

plain_call_of-spelled : (names : NameList) (fields : Fields) (call : Call) → AreNumbered names → plain_call_of (length names.accounts) fields ≡ Ok call → Spelled names fields call
plain_call_of-spelled names fields call numbered h = by (has_shape (codes "transfer") 4 fields) (has_shape (codes "read") 2 fields) refl refl h
  where
    by : (b c : Bool) → has_shape (codes "transfer") 4 fields ≡ b → has_shape (codes "read") 2 fields ≡ c
        → (if b then transfer_of (length names.accounts) (number_at fields 1) (number_at fields 2) (number_at fields 3)
        else if c then read_of (length names.accounts) (number_at fields 1) else Err Shape) ≡ Ok call → Spelled names fields call
    by true c shape _ is = transfer_of-spelled names fields call (number_at fields 1) (number_at fields 2) (number_at fields 3) numbered shape refl refl refl is
    by false true _ shape is = read_of-spelled names fields call (number_at fields 1) numbered shape refl is
    by false false _ _ is = absurd (cc)

-- calls whose accounts are given by their names
named_transfer-spelled : (names : NameList) (fields : Fields) (call : Call) (from to amount : Option ℕ) → has_shape (codes "transfer") 4 fields ≡ true
    → position_of names.accounts (field_of fields 1) ≡ from → position_of names.accounts (field_of fields 2) ≡ to → number_at fields 3 ≡ amount
    → named_transfer from to amount ≡ Ok call → Spelled names fields call
named_transfer-spelled names fields call from to None shape e1 e2 e3 h = absurd (cc)
named_transfer-spelled names fields call None to (Some amount) shape e1 e2 e3 h = absurd (cc)
named_transfer-spelled names fields call (Some from) None (Some amount) shape e1 e2 e3 h = absurd (cc)
named_transfer-spelled names fields call (Some from) (Some to) (Some amount) shape e1 e2 e3 h =
    let same : Transfer from to amount ≡ call = cc in
    let source = position_of-Some names.accounts (field_of fields 1) from e1 in
    let target = position_of-Some names.accounts (field_of fields 2) to e2 in
    let P : Call → Type 0 = Spelled names fields in
    subst P same (record {
      spelled =
          four_fields fields (length-has_shape (codes "transfer") 4 fields shape)
          ∙ rw (first-has_shape (codes "transfer") 4 fields shape, field_of-number_at fields 3 amount e3, source.1, target.1) refl;
      known = (source.0, target.0);
      amounts = number_at-lt fields 3 amount e3;
      version = tt;
    })

named_read-spelled : (names : NameList) (fields : Fields) (call : Call) (account : Option ℕ) → has_shape (codes "read") 2 fields ≡ true
    → position_of names.accounts (field_of fields 1) ≡ account → named_read account ≡ Ok call → Spelled names fields call
named_read-spelled names fields call None shape e h = absurd (cc)
named_read-spelled names fields call (Some account) shape e h =
    let same : Read account ≡ call = cc in
    let at = position_of-Some names.accounts (field_of fields 1) account e in
    let P : Call → Type 0 = Spelled names fields in
    subst P same (record {
      spelled = two_fields fields (length-has_shape (codes "read") 2 fields shape) ∙ rw (first-has_shape (codes "read") 2 fields shape, at.1) refl;
      known = at.0;
      amounts = tt;
      version = tt;
    })

-- fields that give targets are the targets'
record AreSpelled (names : NameList) (fields : Fields) (targets : List TargetPair) : Type 0 where
  spelled : fields ≡ fields_of_targets names targets
  known : AreTargetsOn (length names.accounts) targets
  amounts : All (λ t. t.1 < 2 ^ 64) targets
  count : length fields ≡ 2 * length targets

AreSpelled-cons : (names : NameList) (name amount : List ℕ) (rest : Fields) (to paid : Option ℕ) (later : Option (List TargetPair)) (targets : List TargetPair)
    → position_of names.accounts name ≡ to → number_of amount ≡ paid → ((more : List TargetPair) → later ≡ Some more → AreSpelled names rest more)
    → before (target_of to paid) later ≡ Some targets → AreSpelled names (name ∷ amount ∷ rest) targets
unfolding fields_of_targets
AreSpelled-cons names name amount rest None paid None targets e f all h = absurd (cc)
AreSpelled-cons names name amount rest None paid (Some more) targets e f all h = absurd (cc)
AreSpelled-cons names name amount rest (Some to) None None targets e f all h = absurd (cc)
AreSpelled-cons names name amount rest (Some to) None (Some more) targets e f all h = absurd (cc)
AreSpelled-cons names name amount rest (Some to) (Some paid) None targets e f all h = absurd (cc)
AreSpelled-cons names name amount rest (Some to) (Some paid) (Some more) targets e f all h =
    let same : (to, paid) ∷ more ≡ targets = cc in
    let at = position_of-Some names.accounts name to e in
    let number = number_of-some amount paid f in
    let later = all more refl in
    let P : List TargetPair → Type 0 = AreSpelled names (name ∷ amount ∷ rest) in
    subst P same (record {
      spelled = rw (at.1, number.0, later.spelled) refl;
      known = All-cons (λ (t : TargetPair). t.0 < length names.accounts) (to, paid) more at.0 later.known;
      amounts = All-cons (λ (t : TargetPair). t.1 < 2 ^ 64) (to, paid) more number.1 later.amounts;
      count = let count = later.count in omega arith;
    })

targets_spelled-spelled : (names : NameList) (fields : Fields) (targets : List TargetPair) → targets_spelled names.accounts fields ≡ Some targets → AreSpelled names fields targets
unfolding targets_spelled fields_of_targets
targets_spelled-spelled names [] targets h =
    let same : [] ≡ targets = cc in
    let P : List TargetPair → Type 0 = AreSpelled names [] in
    subst P same (record { spelled = refl; known = λ k d within. absurd (omega arith); amounts = λ k d within. absurd (omega arith); count = refl })
targets_spelled-spelled names (name ∷ []) targets h = absurd (cc)
targets_spelled-spelled names (name ∷ amount ∷ rest) targets h =
    AreSpelled-cons names name amount rest (position_of names.accounts name) (number_of amount) (targets_spelled names.accounts rest) targets refl refl
    (λ more is. targets_spelled-spelled names rest more is) h

-- the parts of a pay-out
record IsPayOut (fields : Fields) : Type 0 where
  parts : fields ≡ codes "pay" ∷ field_of fields 1 ∷ drop 2 fields
  some : 4 ≤ length fields
  few : length fields ≤ 10

has_shape-parts : (word : List ℕ) (count : ℕ) (fields : Fields) → has_shape word count fields ≡ true → 2 ≤ count → fields ≡ word ∷ field_of fields 1 ∷ drop 2 fields
unfolding field_at
has_shape-parts word count [] shape some = absurd (let long = length-has_shape word count [] shape in omega arith)
has_shape-parts word count (first ∷ []) shape some = absurd (let long = length-has_shape word count (first ∷ []) shape in omega arith)
has_shape-parts word count (first ∷ next ∷ rest) shape some = rw (first-has_shape word count (first ∷ next ∷ rest) shape) refl

IsPayOut-shape : (count : ℕ) (fields : Fields) → has_shape (codes "pay") count fields ≡ true → 4 ≤ count → count ≤ 10 → IsPayOut fields
IsPayOut-shape count fields shape some few =
    let long = length-has_shape (codes "pay") count fields shape in
    record { parts = has_shape-parts (codes "pay") count fields shape (omega arith); some = omega arith; few = omega arith }

IsPayOut-is_pay : (fields : Fields) → is_pay fields ≡ true → IsPayOut fields
IsPayOut-is_pay fields h =
    by (has_shape (codes "pay") 4 fields) (has_shape (codes "pay") 6 fields) (has_shape (codes "pay") 8 fields) (has_shape (codes "pay") 10 fields) refl refl refl refl h
  where
    by : (a b c d : Bool) → has_shape (codes "pay") 4 fields ≡ a → has_shape (codes "pay") 6 fields ≡ b → has_shape (codes "pay") 8 fields ≡ c → has_shape (codes "pay") 10 fields ≡ d
        → (a || b || c || d) ≡ true → IsPayOut fields
    by true b c d e f g i is = IsPayOut-shape 4 fields e (omega arith) (omega arith)
    by false true c d e f g i is = IsPayOut-shape 6 fields f (omega arith) (omega arith)
    by false false true d e f g i is = IsPayOut-shape 8 fields g (omega arith) (omega arith)
    by false false false true e f g i is = IsPayOut-shape 10 fields i (omega arith) (omega arith)
    by false false false false e f g i is = absurd (cc)

named_pay-spelled : (names : NameList) (fields : Fields) (call : Call) (from : Option ℕ) (numbers : Bool) (targets : Option (List TargetPair)) → names.version ≡ 2 → is_pay fields ≡ true
    → position_of names.accounts (field_of fields 1) ≡ from → targets_spelled names.accounts (drop 2 fields) ≡ targets → named_pay from numbers targets ≡ Ok call → Spelled names fields call
named_pay-spelled names fields call from false targets second pay e f h = absurd (cc)
named_pay-spelled names fields call None true targets second pay e f h = absurd (cc)
named_pay-spelled names fields call (Some from) true None second pay e f h = absurd (cc)
named_pay-spelled names fields call (Some from) true (Some targets) second pay e f h =
    let same : Pay from targets ≡ call = cc in
    let parts = IsPayOut-is_pay fields pay in
    let at = position_of-Some names.accounts (field_of fields 1) from e in
    let all = targets_spelled-spelled names (drop 2 fields) targets f in
    let whole = ap length parts.parts in
    let long : length fields ≡ length (drop 2 fields) + 2 = omega arith in
    let P : Call → Type 0 = Spelled names fields in
    subst P same (record {
      spelled = parts.parts ∙ rw (at.1, all.spelled) refl;
      known = (at.0, all.known);
      amounts = all.amounts;
      version = (second, let count = all.count in let some = parts.some in omega arith, let count = all.count in let few = parts.few in omega arith);
    })

named_call_of-spelled : (names : NameList) (fields : Fields) (call : Call) → names.version ≡ 2 → named_call_of names.accounts fields ≡ Ok call → Spelled names fields call
named_call_of-spelled names fields call second h = by (has_shape (codes "transfer") 4 fields) (has_shape (codes "read") 2 fields) (is_pay fields) refl refl refl h
  where
    by : (b c d : Bool) → has_shape (codes "transfer") 4 fields ≡ b → has_shape (codes "read") 2 fields ≡ c → is_pay fields ≡ d
        → (if b then named_transfer (position_of names.accounts (field_of fields 1)) (position_of names.accounts (field_of fields 2)) (number_at fields 3)
        else if c then named_read (position_of names.accounts (field_of fields 1))
        else if d then named_pay (position_of names.accounts (field_of fields 1)) (has_amounts (drop 2 fields)) (targets_spelled names.accounts (drop 2 fields))
        else Err Shape) ≡ Ok call → Spelled names fields call
    by true c d shape _ _ is =
        named_transfer-spelled names fields call (position_of names.accounts (field_of fields 1)) (position_of names.accounts (field_of fields 2)) (number_at fields 3) shape refl refl refl is
    by false true d _ shape _ is = named_read-spelled names fields call (position_of names.accounts (field_of fields 1)) shape refl is
    by false false true _ _ pay is =
        named_pay-spelled names fields call (position_of names.accounts (field_of fields 1)) (has_amounts (drop 2 fields)) (targets_spelled names.accounts (drop 2 fields)) second pay refl refl is
    by false false false _ _ _ is = absurd (Err≢Ok _ _ is)

call_of-spelled : (names : NameList) (fields : Fields) (call : Call) → AreNames names.version names.accounts → call_of names fields ≡ Ok call → Spelled names fields call
call_of-spelled names fields call are h = by (names.version == 2) refl h
  where
    first : (names.version == 2) ≡ false → names.version ≡ 1
    first other = elim (known_version names.version names.accounts are) [ inl is ↦ is | inr is ↦ grind (arith, nat_tests) ]

    by : (b : Bool) → (names.version == 2) ≡ b → (if b then named_call_of names.accounts fields else plain_call_of (length names.accounts) fields) ≡ Ok call → Spelled names fields call
    by true second is = named_call_of-spelled names fields call (eqb-true names.version 2 second) is
    by false other is = plain_call_of-spelled names fields call (first other, are) is

-- what a payment file may have as a call
pub record MayCall (names : NameList) (call : Call) : Type 0 where
  pub known : IsCallOn (length names.accounts) call
  pub amounts : HasAmounts call
  pub version : IsCallOfVersion names.version call

pub call_of-reads : (names : NameList) (fields : Fields) (call : Call) → AreNames names.version names.accounts → call_of names fields ≡ Ok call
    → (fields ≡ fields_of_call names call) × MayCall names call
call_of-reads names fields call are h =
    let is = call_of-spelled names fields call are h in
    (is.spelled, record { known = is.known; amounts = is.amounts; version = is.version })
