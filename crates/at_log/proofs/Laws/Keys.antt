-- The keys of the lines of a process: each is that of its receipt, they don't fall, and an odd one says which publication the line moved.
use Rattle.std.proofs.Common.{◌≡◌, ℕ, ◌+◌, ◌*◌, ◌<◌, ◌≤◌, ◌⊎◌, Bool, false, cond, List, ◌∷◌, length, get_or, refl, ap, arith, inl, inr, zero, suc, [], true}
use Rattle.at_log.proofs.Prelude.{cases_Bool, BookTerms, Call, place, Publication, ClosingTerms, receipts_of, Coherent, journal_order, line_key, receipt_at, first_account, key_at, key_of, keys_of, round_position, keys_from, own_position, At, Cut, Previous, Receipt}
use Rattle.at_log.specs.declared.receipt.At.TheVariants.{Own, Round}

-- the key of the line before
abbrev pub previous_key : ClosingTerms → ℕ → ℕ → ℕ
previous_key c process i = get_or (0 ∷ keys_of process (journal_order c) (receipts_of c process)) i 0

-- a key is that of its receipt after the key before it
pub get_or-keys_from : (process : ℕ) (list : List Publication) (previous : ℕ) (receipts : List Receipt) (i : ℕ) → i < length receipts
    → get_or (keys_from process list previous receipts) i 0
    ≡ key_of process list (get_or (previous ∷ keys_from process list previous receipts) i 0) (receipt_at receipts i)
unfolding keys_from
get_or-keys_from process list previous [] i within = absurd (omega arith)
get_or-keys_from process list previous (r ∷ rs) zero within = refl
get_or-keys_from process list previous (r ∷ rs) (suc i) within =
    get_or-keys_from process list (key_of process list previous r) rs i (omega arith)

-- a line's key is that of its receipt
pub line_key-receipt : (c : ClosingTerms) (process i : ℕ) → i < length (receipts_of c process)
    → line_key c process i ≡ key_of process (journal_order c) (previous_key c process i) (receipt_at (receipts_of c process) i)
line_key-receipt c process i within = get_or-keys_from process (journal_order c) 0 (receipts_of c process) i within

pub length-keys_from : (process : ℕ) (list : List Publication) (previous : ℕ) (receipts : List Receipt)
    → length (keys_from process list previous receipts) ≡ length receipts
unfolding keys_from
length-keys_from process list previous [] = refl
length-keys_from process list previous (r ∷ rs) = ap suc (length-keys_from process list (key_of process list previous r) rs)

-- keys of a process don't fall
pub line_key-sorted : (b : BookTerms) (c : ClosingTerms) (process : ℕ) → Coherent b c → process < b.processes
    → (i j : ℕ) → i ≤ j → j < length (receipts_of c process) → line_key c process i ≤ line_key c process j
line_key-sorted b c process coherent known i j before within =
    (coherent.told process known).keys i j 0 before (omega (arith, within, length-keys_from process (journal_order c) 0 (receipts_of c process)))

-- the receipt moved nothing, and stands at the prefix of this length, or with the one before it
abbrev pub still_at : ℕ → Bool → At → Type 0
still_at m moved (Cut view) = place view ≡ m
still_at m moved (Own number) = ⊥
still_at m moved (Round number at) = (moved ≡ false) × (at ≡ m)
still_at m moved Previous = Unit {0}

-- an even key
pub key_at-even : (m process : ℕ) (list : List Publication) (previous : ℕ) (call : Call) (moved : Bool) (at : At)
    → key_at process list previous call moved at ≡ 2 * m → still_at m moved at
key_at-even m process list previous call moved (Cut view) is = omega (arith, is)
key_at-even m process list previous call moved (Own number) is = absurd (omega (arith, is))
key_at-even m process list previous call moved (Round number at) is =
    elim (cases_Bool moved) as (λ _. (moved ≡ false) × (at ≡ m)) [
      | inl done ↦ absurd (omega (arith, is, ap (λ t. cond t (2 * round_position (first_account call) number list + 1) (2 * at)) done))
      | inr refused ↦ (refused, omega (arith, is, ap (λ t. cond t (2 * round_position (first_account call) number list + 1) (2 * at)) refused))
    ]
key_at-even m process list previous call moved Previous is = tt

-- the key of a receipt that moved
abbrev pub moves_at : ℕ → ℕ → List Publication → Call → Bool → At → Type 0
moves_at m process list call moved (Cut view) = ⊥
moves_at m process list call moved (Own number) = own_position process number list ≡ m
moves_at m process list call moved (Round number at) = (moved ≡ true) × (round_position (first_account call) number list ≡ m)
moves_at m process list call moved Previous = ⊥

-- an odd key
pub key_at-odd : (m process : ℕ) (list : List Publication) (previous : ℕ) (call : Call) (moved : Bool) (at : At)
    → key_at process list previous call moved at ≡ 2 * m + 1
    → moves_at m process list call moved at ⊎ ((at ≡ Previous) × (previous ≡ 2 * m + 1))
key_at-odd m process list previous call moved (Cut view) is = absurd (omega (arith, is))
key_at-odd m process list previous call moved (Own number) is = inl (omega (arith, is))
key_at-odd m process list previous call moved (Round number at) is =
    elim (cases_Bool moved) as (λ _. moves_at m process list call moved (Round number at) ⊎ ((Round number at ≡ Previous) × (previous ≡ 2 * m + 1))) [
      | inl done ↦ inl (done, omega (arith, is, ap (λ t. cond t (2 * round_position (first_account call) number list + 1) (2 * at)) done))
      | inr refused ↦ absurd (omega (arith, is, ap (λ t. cond t (2 * round_position (first_account call) number list + 1) (2 * at)) refused))
    ]
key_at-odd m process list previous call moved Previous is = inr (refl, is)
