-- The turns of a process, and which of them decide.
use Rattle.std.proofs.Common.{◌≡◌, ℕ, ◌+◌, ◌<◌, ◌≤◌, ◌∙◌, All, Bool, true, false, cond, List, [], ◌∷◌, None, ap, arith, get_or, length, map, slice_get, sym}
use Rattle.at_pages.proofs.Prelude.{range_with_len, get_or_default, get_or_past, length-map, All-nil, All-push, get_or-map-range_with_len, length-range_with_len, slice_get_past, AccountTerms, no_account, BookTerms, account_of, TurnMade, asker_loaded, decided_for, decides_at, unless_own, own_step, own_turn, own_turns}

-- an account that isn't there has no owner
pub owner-none : (b : BookTerms) (a slot : ℕ) → length b.accounts ≤ a → slice_get (account_of b a).owners slot ≡ None
owner-none b a slot past =
    ap (λ (t : AccountTerms). slice_get t.owners slot) (get_or_past b.accounts a no_account past) ∙ slice_get_past [] slot (omega arith)

-- the turn of a place among those of a process
pub own_turn-read : (turns : List TurnMade) (p k : ℕ) (own : List ℕ) → own ≡ own_turns turns p → k < length own → get_or own k 0 ≡ own_turn turns p k
own_turn-read turns p k own is within =
    get_or_default own k 0 (length turns) within ∙ ap (λ (xs : List ℕ). get_or xs k (length turns)) is

-- whether it decides
pub decides_at-read : (turns : List TurnMade) (m : ℕ) (decided : List Bool) → decided ≡ map (decides_at turns) (range_with_len 0 (length turns))
    → m < length turns → get_or decided m false ≡ decides_at turns m
decides_at-read turns m decided are within =
    ap (λ (xs : List Bool). get_or xs m false) are ∙ get_or-map-range_with_len (decides_at turns) 0 (length turns) m m false within (omega arith)

pub length-decided : (turns : List TurnMade) (decided : List Bool) → decided ≡ map (decides_at turns) (range_with_len 0 (length turns))
    → length decided ≡ length turns
length-decided turns decided are =
    ap (λ (xs : List Bool). length xs) are
    ∙ (length-map (range_with_len 0 (length turns)) (decides_at turns) ∙ length-range_with_len 0 (length turns))

-- for whom it decides, by whether it does
pub decided_for-by : (b : BookTerms) (turns : List TurnMade) (p k : ℕ) (x : Bool) → x ≡ decides_at turns (own_turn turns p k)
    → decided_for b turns p k ≡ cond x (unless_own p (asker_loaded b (own_step turns p (k + 1)))) None
decided_for-by b turns p k x decides =
    ap (λ (d : Bool). cond d (unless_own p (asker_loaded b (own_step turns p (k + 1)))) None) (sym decides)

-- a turn that may be one of the process
pub All-if : (b : Bool) (m n : ℕ) → m < n → All (λ (k : ℕ). k < n) (cond b (m ∷ []) [])
All-if true m n below = All-push (λ (k : ℕ). k < n) [] m (All-nil (λ (k : ℕ). k < n)) below
All-if false m n below = All-nil (λ (k : ℕ). k < n)
