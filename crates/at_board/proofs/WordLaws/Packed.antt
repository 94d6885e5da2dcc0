-- Words that are packed from two records or requests are the same only if these are.
use Rattle.std.proofs.Common.{◌≡◌, ℕ, ◌+◌, ◌*◌, ◌/◌, ◌%◌, ◌<◌, ◌≤◌, zero, suc, List, length, get_or, sym, subst, ◌∙◌, arith, inl, inr}
use Rattle.at_board.proofs.Prelude.{cases_lt, get_or-map, get_or_default, get_or_past, length-map, same_lists, All-from_get_or, All-get_or, get_or-le-sum_by, same_decision, no_account, rounds_room, BookTerms, IsBegun, AreTargetsOn, TargetPair, BoardState, targets_of, AreTargets, IsSoundDecision, IsSoundEntry, Sound, Entry, Own, Round, Publication, Request, IsForm, amount_words, decision_word, head_of, record_words, request_words, ArePacked, account_in, accounts_of, targets_word}

pub ArePacked-AreTargets : (b : BookTerms) (targets : List TargetPair) → IsBegun b → AreTargets b targets → ArePacked (accounts_of targets)
ArePacked-AreTargets b targets begun good = record {
  some = omega (arith, good.some, length-map targets (λ (t : TargetPair). t.0));
  few = omega (arith, good.few, length-map targets (λ (t : TargetPair). t.0));
  small = All-from_get_or (λ account. account < 1024) (accounts_of targets) 0 (λ i within.
      let inside : i < length targets = omega (arith, length-map targets (λ (t : TargetPair). t.0)) in
      omega (
        arith,
        get_or-map (λ (t : TargetPair). t.0) targets i (0, 0) 0 inside,
        All-get_or (λ (t : TargetPair). t.0 < length b.accounts) targets i (0, 0) inside good.accounts,
        begun.few_accounts,
      ));
}

pub IsForm-Sound : (b : BookTerms) (s : BoardState) (p : ℕ) (prefix : List Publication) (e : Entry) → IsBegun b → Sound b s
    → IsSoundEntry b s p prefix e → IsForm e
IsForm-Sound b s p prefix (Own from targets) begun sound law =
    (omega (arith, law.source_in, begun.few_accounts), ArePacked-AreTargets b targets begun law.targets_in)
IsForm-Sound b s p prefix (Round a r d targets) begun sound law =
    let decision : IsSoundDecision b s a r d = subst (IsSoundDecision b s a r) law.1.decision (sound.decisions a r law.1.decided) in
    let known : AreTargets b targets = subst (AreTargets b) law.1.same_targets (sound.requests a d.slot d.number decision.announced).targets in (
      omega (arith, law.0.account_in, begun.few_accounts),
      omega (arith, decision.room, begun.rounds, get_or-le-sum_by (rounds_room b.request_room) b.accounts a no_account law.0.account_in),
      decision.range,
      ArePacked-AreTargets b targets begun known,
    )

-- an account of a packed list takes ten bits, and so does the 0 past its end
small_at : (xs : List ℕ) (i : ℕ) → ArePacked xs → get_or xs i 0 < 1024
small_at xs i packed =
    elim (cases_lt i (length xs)) as (λ _. get_or xs i 0 < 1024) [
      | inl below ↦ All-get_or (λ account. account < 1024) xs i 0 below packed.small
      | inr above ↦ omega (arith, get_or_past xs i 0 above)
    ]

-- the digits of two equal words
record SameWord (xs ys : List ℕ) : Type 0 where
  length_same : length xs ≡ length ys
  first : get_or xs 0 0 ≡ get_or ys 0 0
  second : get_or xs 1 0 ≡ get_or ys 1 0
  third : get_or xs 2 0 ≡ get_or ys 2 0
  fourth : get_or xs 3 0 ≡ get_or ys 3 0

same_digits : (a b c d n a' b' c' d' n' : ℕ) → a < 1024 → b < 1024 → c < 1024 → d < 1024 → a' < 1024 → b' < 1024 → c' < 1024 → d' < 1024
    → a + 1024 * b + 1048576 * c + 1073741824 * d + 1099511627776 * n ≡ a' + 1024 * b' + 1048576 * c' + 1073741824 * d' + 1099511627776 * n'
    → (a ≡ a') × (b ≡ b') × (c ≡ c') × (d ≡ d') × (n ≡ n')
same_digits a b c d n a' b' c' d' n' p0 p1 p2 p3 q0 q1 q2 q3 e = (omega arith, omega arith, omega arith, omega arith, omega arith)

SameWord-targets_word : (xs ys : List ℕ) → ArePacked xs → ArePacked ys → targets_word xs ≡ targets_word ys → SameWord xs ys
SameWord-targets_word xs ys one other same =
    let digits = same_digits (get_or xs 0 0) (get_or xs 1 0) (get_or xs 2 0) (get_or xs 3 0) (length xs)
    (get_or ys 0 0) (get_or ys 1 0) (get_or ys 2 0) (get_or ys 3 0) (length ys)
    (small_at xs 0 one) (small_at xs 1 one) (small_at xs 2 one) (small_at xs 3 one)
    (small_at ys 0 other) (small_at ys 1 other) (small_at ys 2 other) (small_at ys 3 other) same in
    record { length_same = digits.4; first = digits.0; second = digits.1; third = digits.2; fourth = digits.3 }

-- what holds of four numbers
below_four : (P : ℕ → Type 0) → P 0 → P 1 → P 2 → P 3 → (k : ℕ) → k < 4 → P k
below_four P a b c d zero within = a
below_four P a b c d (suc zero) within = b
below_four P a b c d (suc (suc zero)) within = c
below_four P a b c d (suc (suc (suc zero))) within = d
below_four P a b c d (suc (suc (suc (suc k)))) within = absurd (omega arith)

digits : (a b c d n : ℕ) → a < 1024 → b < 1024 → c < 1024 → d < 1024
    → let w = a + 1024 * b + 1048576 * c + 1073741824 * d + 1099511627776 * n in
    (w / 1 % 1024 ≡ a) × (w / 1024 % 1024 ≡ b) × (w / 1048576 % 1024 ≡ c) × (w / 1073741824 % 1024 ≡ d)
digits a b c d n p0 p1 p2 p3 = (omega arith, omega arith, omega arith, omega arith)

-- an account of a word that packs a list
pub account_in-targets_word : (xs : List ℕ) → ArePacked xs → (m : ℕ) → m < 4 → account_in (targets_word xs) (10 * m) ≡ get_or xs m 0
account_in-targets_word xs packed =
    let all = digits (get_or xs 0 0) (get_or xs 1 0) (get_or xs 2 0) (get_or xs 3 0) (length xs)
    (small_at xs 0 packed) (small_at xs 1 packed) (small_at xs 2 packed) (small_at xs 3 packed) in
    below_four (λ m. account_in (targets_word xs) (10 * m) ≡ get_or xs m 0) all.0 all.1 all.2 all.3

-- a target by its account and its amount
same_target : (xs ys : List TargetPair) (k : ℕ) → length xs ≡ length ys → get_or (accounts_of xs) k 0 ≡ get_or (accounts_of ys) k 0
    → (get_or xs k (0, 0)).1 ≡ (get_or ys k (0, 0)).1 → k < length xs → (d : TargetPair) → get_or xs k d ≡ get_or ys k d
same_target xs ys k sized account amount within d =
    let there : k < length ys = omega arith in
    let f : TargetPair → ℕ = λ t. t.0 in
    let first : (get_or xs k (0, 0)).0 ≡ (get_or ys k (0, 0)).0 =
    sym (get_or-map f xs k (0, 0) 0 within) ∙ (account ∙ get_or-map f ys k (0, 0) 0 there) in
    let pair : get_or xs k (0, 0) ≡ get_or ys k (0, 0) = λ t. (first t, amount t) in
    get_or_default xs k d (0, 0) within ∙ (pair ∙ get_or_default ys k (0, 0) d there)

pub same_targets : (xs ys : List TargetPair) → ArePacked (accounts_of xs) → ArePacked (accounts_of ys)
    → targets_word (accounts_of xs) ≡ targets_word (accounts_of ys) → amount_words xs ≡ amount_words ys → xs ≡ ys
same_targets xs ys one other word amounts =
    let f : TargetPair → ℕ = λ t. t.0 in
    let same = SameWord-targets_word (accounts_of xs) (accounts_of ys) one other word in
    let sized : length xs ≡ length ys = omega (arith, same.length_same, length-map xs f, length-map ys f) in
    let few : length xs ≤ 4 = omega (arith, one.few, length-map xs f) in
    let amount : (k : ℕ) → k < 4 → (get_or xs k (0, 0)).1 ≡ (get_or ys k (0, 0)).1 =
    below_four (λ k. (get_or xs k (0, 0)).1 ≡ (get_or ys k (0, 0)).1) (cc amounts) (cc amounts) (cc amounts) (cc amounts) in
    let account : (k : ℕ) → k < 4 → get_or (accounts_of xs) k 0 ≡ get_or (accounts_of ys) k 0 =
    below_four (λ k. get_or (accounts_of xs) k 0 ≡ get_or (accounts_of ys) k 0) same.first same.second same.third same.fourth in
    same_lists xs ys sized (λ k d within. same_target xs ys k sized (account k (omega arith)) (amount k (omega arith)) within d)

same_head : (a r a' r' : ℕ) → a < 65536 → a' < 65536 → 1 + 2 * a + 8589934592 * r ≡ 1 + 2 * a' + 8589934592 * r' → (a ≡ a') × (r ≡ r')
same_head a r a' r' one other same = (omega arith, omega arith)

-- the parts of the words that two records share
record SameEntryWords (x y : Entry) : Type 0 where
  head : head_of x ≡ head_of y
  targets : targets_word (accounts_of (targets_of x)) ≡ targets_word (accounts_of (targets_of y))
  decision : decision_word x ≡ decision_word y
  amounts : amount_words (targets_of x) ≡ amount_words (targets_of y)

same_entry : (x y : Entry) → IsForm x → IsForm y → SameEntryWords x y → x ≡ y
same_entry (Own from targets) (Own from' targets') one other same =
    let source : from ≡ from' = omega (arith, same.head) in
    let all = same_targets targets targets' one.1 other.1 same.targets same.amounts in
    λ t. Own (source t) (all t)
same_entry (Own from targets) (Round a r d targets') one other same = absurd (omega (arith, same.head))
same_entry (Round a r d targets) (Own from targets') one other same = absurd (omega (arith, same.head))
same_entry (Round a r d targets) (Round a' r' d' targets') one other same =
    let head = same_head a r a' r' one.0 other.0 (omega (arith, same.head)) in
    let decided = same_decision d d' one.2 other.2 same.decision in
    let all = same_targets targets targets' one.3 other.3 same.targets same.amounts in
    λ t. Round (head.0 t) (head.1 t) (decided t) (all t)

-- two records of a process with the same words are one
pub record_words-injective : (x y : Publication) → IsForm x.entry → IsForm y.entry → x.process ≡ y.process → record_words x ≡ record_words y → x ≡ y
record_words-injective x y one other process same =
    let head : head_of x.entry ≡ head_of y.entry = cc same in
    let targets : targets_word (accounts_of (targets_of x.entry)) ≡ targets_word (accounts_of (targets_of y.entry)) = cc same in
    let decision : decision_word x.entry ≡ decision_word y.entry = cc same in
    let amounts : amount_words (targets_of x.entry) ≡ amount_words (targets_of y.entry) = cc same in
    let view : x.view ≡ y.view = cc same in
    let entry = same_entry x.entry y.entry one other (record { head = head; targets = targets; decision = decision; amounts = amounts }) in
    λ t. record { process = process t; view = view t; entry = entry t }

-- two requests with the same words are one
pub request_words-injective : (r q : Request) → ArePacked (accounts_of r.targets) → ArePacked (accounts_of q.targets) → request_words r ≡ request_words q → r ≡ q
request_words-injective r q one other same =
    let word : targets_word (accounts_of r.targets) ≡ targets_word (accounts_of q.targets) = cc same in
    let amounts : amount_words r.targets ≡ amount_words q.targets = cc same in
    let since : r.since ≡ q.since = cc same in
    let targets = same_targets r.targets q.targets one other word amounts in
    λ t. record { targets = targets t; since = since t }

-- the targets of an entry that fits its words
pub ArePacked-IsForm : (e : Entry) → IsForm e → ArePacked (accounts_of (targets_of e))
ArePacked-IsForm (Own from targets) form = form.1
ArePacked-IsForm (Round a r d targets) form = form.3

pub AreTargetsOn-ArePacked : (ts : List TargetPair) → ArePacked (accounts_of ts) → AreTargetsOn 1024 ts
AreTargetsOn-ArePacked ts packed = All-from_get_or (λ (t : TargetPair). t.0 < 1024) ts (0, 0) (λ i within.
    let inside : i < length (accounts_of ts) = omega (arith, within, length-map ts (λ (t : TargetPair). t.0)) in
    omega (
      arith,
      get_or-map (λ (t : TargetPair). t.0) ts i (0, 0) 0 within,
      All-get_or (λ account. account < 1024) (accounts_of ts) i 0 inside packed.small,
    ))
