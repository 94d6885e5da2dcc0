-- The places of the accounts that calls name first, one account more at a time.
use Rattle.std.proofs.Common.{◌≡◌, ℕ, ◌+◌, ◌<◌, ◌≤◌, ◌⊎◌, inl, inr, Option, None, Some, List, [], ◌∷◌, ◌++◌, length, get_or, replicate, set, take, true, true≢false, All, sym, ap, subst, ◌∙◌, arith}
use Rattle.std.specs.Prelude.{is_some}
use Rattle.at_orders.proofs.Prelude.{cases_eq, cases_lt, get_or-replicate, get_or-set_other, get_or-set_same, get_or_append_left, get_or_default, length-append, length-replicate, length-set, take_more, All-push, All-weaker, get_or-eq_default, eq-or-lt_of_le, get_or-append_seam, IsCallOn, TargetPair, first_account, Call, Transfer, Read, Pay, ArePlaces, HasFirstPlace, HasPlace, KeepsPlaces}

-- the account that a call names first is there
pub first-known : (accounts : ℕ) (call : Call) (account : ℕ) → account ≡ first_account call → IsCallOn accounts call → account < accounts
first-known accounts (Transfer from to amount) account is known = omega (arith, is, known.0)
first-known accounts (Read other) account is known = omega (arith, is, known)
first-known accounts (Pay from targets) account is known = omega (arith, is, known.0)

-- an account with a place is there
pub place-known : (places : List (Option ℕ)) (account place : ℕ) → get_or places account None ≡ Some place → account < length places
place-known places account place is = by (cases_lt account (length places))
  where
    by : (account < length places) ⊎ (length places ≤ account) → account < length places
    by (inl within) = within
    by (inr beyond) = let none : get_or places account None ≡ None = get_or-eq_default places None beyond in absurd (cc (none, is))

-- no account has one at first
pub places-none : (accounts : ℕ) (places : List (Option ℕ)) → places ≡ replicate accounts None → ArePlaces accounts [] places
places-none accounts places none = record {
  size = ap (length {A = Option ℕ}) none ∙ length-replicate accounts None;
  within = λ a place is. absurd (never a place is);
  there = λ a place is. absurd (never a place is);
  back = λ place within. absurd (omega arith);
}
  where
    never : (a place : ℕ) → get_or places a None ≡ Some place → ⊥
    never a place is =
        let size = ap (length {A = Option ℕ}) none ∙ length-replicate accounts None in
        let known = place-known places a place is in
        let here : get_or places a None ≡ None = ap (λ (ps : List (Option ℕ)). get_or ps a None) none ∙ get_or-replicate accounts a None None (omega arith) in
        absurd (cc (here, is))

-- an account gets the next place
pub places-more : (accounts : ℕ) (named : List ℕ) (places : List (Option ℕ)) (account : ℕ) → ArePlaces accounts named places → account < length places
    → get_or places account None ≡ None → ArePlaces accounts (named ++ account ∷ []) (set places account (Some (length named)))
places-more accounts named places account old known none = record {
  size = length-set places account (Some (length named)) ∙ old.size;
  within = λ a place is. let long = length-append named (account ∷ []) in within a place (cases_eq a account) is;
  there = λ a place is. there a place (cases_eq a account) is;
  back = λ place less. back place (eq-or-lt_of_le (let long = length-append named (account ∷ []) in omega arith));
}
  where
    here : get_or (set places account (Some (length named))) account None ≡ Some (length named)
    here = get_or-set_same places account (Some (length named)) None known

    same-some : (x y : ℕ) → Some x ≡ Some y → x ≡ y
    same-some x y is = cc is

    old-place : (a place : ℕ) → (a ≡ account → ⊥) → get_or (set places account (Some (length named))) a None ≡ Some place → get_or places a None ≡ Some place
    old-place a place apart is = sym (get_or-set_other places account a (Some (length named)) None apart) ∙ is

    within : (a place : ℕ) → (a ≡ account) ⊎ (a ≡ account → ⊥) → get_or (set places account (Some (length named))) a None ≡ Some place → place < length (named ++ account ∷ [])
    within a place (inl same) is =
        let last : place ≡ length named = same-some place (length named) (sym is ∙ (ap (λ n. get_or (set places account (Some (length named))) n None) same ∙ here)) in
        let long = length-append named (account ∷ []) in
        omega arith
    within a place (inr apart) is =
        let less = old.within a place (old-place a place apart is) in
        let long = length-append named (account ∷ []) in
        omega arith

    there : (a place : ℕ) → (a ≡ account) ⊎ (a ≡ account → ⊥) → get_or (set places account (Some (length named))) a None ≡ Some place
        → get_or (named ++ account ∷ []) place 0 ≡ a
    there a place (inl same) is =
        let last : place ≡ length named = same-some place (length named) (sym is ∙ (ap (λ n. get_or (set places account (Some (length named))) n None) same ∙ here)) in
        ap (λ n. get_or (named ++ account ∷ []) n 0) last ∙ (get_or-append_seam named account [] 0 ∙ sym same)
    there a place (inr apart) is =
        let before = old-place a place apart is in
        get_or_append_left named (account ∷ []) 0 place (old.within a place before) ∙ old.there a place before

    back : (place : ℕ) → (place ≡ length named) ⊎ (place < length named)
        → get_or (set places account (Some (length named))) (get_or (named ++ account ∷ []) place 0) None ≡ Some place
    back place (inl last) =
        let new : get_or (named ++ account ∷ []) place 0 ≡ account = ap (λ n. get_or (named ++ account ∷ []) n 0) last ∙ get_or-append_seam named account [] 0 in
        ap (λ n. get_or (set places account (Some (length named))) n None) new ∙ (here ∙ ap Some (sym last))
    back place (inr earlier) =
        let a : ℕ = get_or named place 0 in
        let before = old.back place earlier in
        let apart : a ≡ account → ⊥ = λ same. let is : get_or places account None ≡ Some place = ap (λ n. get_or places n None) (sym same) ∙ before in absurd (cc (is, none)) in
        ap (λ n. get_or (set places account (Some (length named))) n None) (get_or_append_left named (account ∷ []) 0 place earlier)
        ∙ (get_or-set_other places account a (Some (length named)) None apart ∙ before)

pub keeps-more : (places : List (Option ℕ)) (account place : ℕ) → get_or places account None ≡ None → KeepsPlaces places (set places account (Some place))
keeps-more places account new none a place is =
    let apart : a ≡ account → ⊥ = λ same. let there : get_or places account None ≡ Some place = ap (λ n. get_or places n None) (sym same) ∙ is in absurd (cc (there, none)) in
    get_or-set_other places account a (Some new) None apart ∙ is

-- what has a place keeps it
pub has_place-kept : (old new : List (Option ℕ)) (account : ℕ) → KeepsPlaces old new → HasPlace old account → HasPlace new account
has_place-kept old new account keeps has = (has.0, keeps account has.0 has.1)

pub all-places-kept : (old new : List (Option ℕ)) (calls : List Call) → KeepsPlaces old new → All (HasFirstPlace old) calls → All (HasFirstPlace new) calls
all-places-kept old new calls keeps all = All-weaker (HasFirstPlace old) (HasFirstPlace new) (λ call has. has_place-kept old new (first_account call) keeps has) calls all

pub files-places-kept : (old new : List (Option ℕ)) (files : List (List Call)) → KeepsPlaces old new → All (All (HasFirstPlace old)) files → All (All (HasFirstPlace new)) files
files-places-kept old new files keeps all = All-weaker (All (HasFirstPlace old)) (All (HasFirstPlace new)) (λ calls has. all-places-kept old new calls keeps has) files all

pub same_payout : (x y : ℕ × List TargetPair) → Some x ≡ Some y → x ≡ y
same_payout x y is = cc is

-- a place that is there
pub has_place-some : (places : List (Option ℕ)) (account : ℕ) (o : Option ℕ) → account < length places → o ≡ get_or places account o → is_some o ≡ true → HasPlace places account
has_place-some places account None within is some = absurd (true≢false (sym some))
has_place-some places account (Some place) within is some = (place, get_or_default places account None (Some place) within ∙ sym is)

-- the calls and the files so far, with one more
pub calls-more : (old new : List (Option ℕ)) (file : List Call) (i : ℕ) (call : Call) → i < length file → KeepsPlaces old new
    → All (HasFirstPlace old) (take i file) → call ≡ get_or file i call → HasFirstPlace new call → All (HasFirstPlace new) (take (i + 1) file)
calls-more old new file i call within keeps all is placed =
    subst (All (HasFirstPlace new)) (sym (take_more file i call within))
    (All-push (HasFirstPlace new) (take i file) (get_or file i call) (all-places-kept old new (take i file) keeps all) (subst (HasFirstPlace new) is placed))

pub files-more : (old new : List (Option ℕ)) (files : List (List Call)) (i : ℕ) → i < length files → KeepsPlaces old new
    → All (All (HasFirstPlace old)) (take i files) → All (HasFirstPlace new) (get_or files i []) → All (All (HasFirstPlace new)) (take (i + 1) files)
files-more old new files i within keeps all placed =
    subst (All (All (HasFirstPlace new))) (sym (take_more files i [] within))
    (All-push (All (HasFirstPlace new)) (take i files) (get_or files i []) (files-places-kept old new (take i files) keeps all) placed)

-- the named accounts are there
pub named-known : (accounts : ℕ) (named : List ℕ) (places : List (Option ℕ)) → ArePlaces accounts named places → All (λ a. a < accounts) named
named-known accounts named places law q d within =
    let size = law.size in
    let known = place-known places (get_or named q 0) q (law.back q within) in
    let same : get_or named q d ≡ get_or named q 0 = get_or_default named q d 0 within in
    omega arith
