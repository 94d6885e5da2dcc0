-- A payment file that is few calls, written out, is read as these calls for a replay, and one that is more of them is refused.
use Rattle.std.proofs.Common.{◌≡◌, ℕ, ◌+◌, ◌<◌, false, List, length, nat_le, Result, Ok, Err, refl, sym, ◌∙◌, arith}
use Rattle.at_files.proofs.Prelude.{le-leb, nat_tests, BookTerms, Call, most_replay_calls, AreNamesOf, NameList, Fields, PaysReplay, before_calls, payments_of, replay_payments_of, BadPayments, ReadPaymentsFault, TooManyCalls}
use Rattle.at_files.specs.declared.payments_fault.ReadPaymentsFault.TheVariants.{Bad, NoMemory}
use Rattle.at_files.proofs.PaymentsAccepted.{payments_of-Pays}

-- what the file pays is what the walk gives
pub replay_payments_of-PaysReplay : (b : BookTerms) (names : NameList) (process : ℕ) (records : List Fields) (calls : List Call) → AreNamesOf b names
    → PaysReplay b names process records calls → replay_payments_of names process records ≡ Ok calls
replay_payments_of-PaysReplay b names process records calls are pays =
    rw (payments_of-Pays b names process records calls are pays.pays, le-leb (length calls) most_replay_calls pays.few) refl

-- a file that pays few calls isn't refused
pub PaysReplay-no_fault : (b : BookTerms) (names : NameList) (process : ℕ) (records : List Fields) (calls : List Call) (fault : ReadPaymentsFault) → AreNamesOf b names
    → PaysReplay b names process records calls → ((bad : BadPayments) → fault ≡ Bad bad → replay_payments_of names process records ≡ Err bad) → fault ≡ NoMemory
PaysReplay-no_fault b names process records calls NoMemory are pays told = refl
PaysReplay-no_fault b names process records calls (Bad bad) are pays told =
    let wrong : Ok calls ≡ Err bad = sym (replay_payments_of-PaysReplay b names process records calls are pays) ∙ told bad refl in
    absurd (cc)

pub replay_payments_of-many : (names : NameList) (process skipped : ℕ) (records : List Fields) (calls : List Call) → skipped ≡ before_calls records
    → payments_of names process records ≡ Ok calls → most_replay_calls < length calls
    → replay_payments_of names process records ≡ Err (record { line = skipped + most_replay_calls + 1; why = TooManyCalls })
replay_payments_of-many names process skipped records calls skipped_is is many =
    let test : nat_le (length calls) most_replay_calls ≡ false = grind (arith, nat_tests) in
    rw (is, skipped_is, test) refl

pub replay_payments_of-bad : (names : NameList) (process : ℕ) (records : List Fields) (bad : BadPayments) → payments_of names process records ≡ Err bad
    → replay_payments_of names process records ≡ Err bad
replay_payments_of-bad names process records bad is = rw is refl

-- the fault that an answer carries, and what is told of it
pub fault-same : {T : Type 0} (x y : ReadPaymentsFault) → ◌≡◌ {A = Result T ReadPaymentsFault} (Err x) (Err y) → x ≡ y
fault-same x y is = cc

pub Bad-same : (x y : BadPayments) → Bad x ≡ Bad y → x ≡ y
Bad-same x y is = cc
