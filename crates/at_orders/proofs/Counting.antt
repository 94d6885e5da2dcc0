-- The payments that stand before each call of a file, counted call by call.
use Rattle.std.proofs.Common.{◌≡◌, ℕ, ◌+◌, ◌<◌, ◌≤◌, ◌==◌, ◌&&◌, ◌⊎◌, inl, inr, true, false, not, cond, List, [], ◌∷◌, ◌++◌, length, get_or, set, take, Some, refl, sym, ap, subst, ◌∙◌, arith}
use Rattle.std.specs.Prelude.{is_some, slice_get}
use Rattle.at_orders.proofs.Prelude.{cases_eq, eq-eqb, ne_eqb, get_or-set_other, get_or-set_same, get_or_append_left, get_or_default, length-append, length-take, length-take-le, take_more, length-filter_both, length-filter_more, get_or_from_slice_get, eq-or-lt_of_le, get_or-append_seam, first_account, payout_of, Call, is_payment_from, payments_from, AreAllCountedBefore, AreCountedBefore}

-- no more than the calls
pub payments_from-few : (account : ℕ) (file : List Call) (i : ℕ) → payments_from account (take i file) ≤ i
payments_from-few account file i =
    let both = length-filter_both (is_payment_from account) (λ c. not (is_payment_from account c)) (λ c. refl) (take i file) in
    let long = length-take i file in
    omega arith

payments_from-more : (account : ℕ) (file : List Call) (i : ℕ) (call : Call) → i < length file → call ≡ get_or file i call
    → payments_from account (take (i + 1) file) ≡ payments_from account (take i file) + cond {A = ℕ} (is_payment_from account call) 1 0
payments_from-more account file i call within is =
    length-filter_more (is_payment_from account) file i call within ∙ ap (λ c. payments_from account (take i file) + cond (is_payment_from account c) 1 0) (sym is)

-- a payment raises the count of its source
pub counts-payment : (counts : List ℕ) (file : List Call) (i : ℕ) (call : Call) (account a v : ℕ) → i < length file → call ≡ get_or file i call → account ≡ first_account call
    → is_some (payout_of call) ≡ true → account < length counts → get_or counts a 0 ≡ payments_from a (take i file) → v ≡ get_or counts account 0 + 1
    → get_or (set counts account v) a 0 ≡ payments_from a (take (i + 1) file)
counts-payment counts file i call account a v within is first paid inside old more = by (cases_eq account a) ∙ sym (payments_from-more a file i call within is)
  where
    by : (account ≡ a) ⊎ (account ≡ a → ⊥) → get_or (set counts account v) a 0 ≡ payments_from a (take i file) + cond {A = ℕ} (is_payment_from a call) 1 0
    by (inl same) =
        let counted : is_payment_from a call ≡ true = λ t. paid t && eq-eqb (first_account call) a (sym first ∙ same) t in
        let stored = get_or-set_same counts account v 0 inside in
        let here : get_or (set counts account v) a 0 ≡ get_or (set counts account v) account 0 = ap (λ n. get_or (set counts account v) n 0) (sym same) in
        let before : get_or counts account 0 ≡ get_or counts a 0 = ap (λ n. get_or counts n 0) same in
        let one : cond {A = ℕ} (is_payment_from a call) 1 0 ≡ 1 = ap (λ t. cond {A = ℕ} t 1 0) counted in
        omega arith
    by (inr apart) =
        let counted : is_payment_from a call ≡ false = λ t. paid t && ne_eqb (first_account call) a (λ same. apart (first ∙ same)) t in
        let kept = get_or-set_other counts account a v 0 (λ same. apart (sym same)) in
        let none : cond {A = ℕ} (is_payment_from a call) 1 0 ≡ 0 = ap (λ t. cond {A = ℕ} t 1 0) counted in
        omega arith

-- a read raises none
pub counts-read : (counts : List ℕ) (file : List Call) (i : ℕ) (call : Call) (a : ℕ) → i < length file → call ≡ get_or file i call
    → is_some (payout_of call) ≡ false → get_or counts a 0 ≡ payments_from a (take i file) → get_or counts a 0 ≡ payments_from a (take (i + 1) file)
counts-read counts file i call a within is read old =
    let none : cond {A = ℕ} (is_payment_from a call) 1 0 ≡ 0 = λ t. cond {A = ℕ} (read t && (first_account call == a)) 1 0 in
    let more = payments_from-more a file i call within is in
    omega arith

-- the row of one call more
pub before-more : (file : List Call) (before : List ℕ) (i : ℕ) (call : Call) (v : ℕ) → length before ≡ i
    → ((j : ℕ) (d : Call) → j < i → slice_get file j ≡ Some d → get_or before j 0 ≡ payments_from (first_account d) (take j file))
    → v ≡ payments_from (first_account call) (take i file) → i < length file → call ≡ get_or file i call
    → (j : ℕ) (d : Call) → j < i + 1 → slice_get file j ≡ Some d → get_or (before ++ v ∷ []) j 0 ≡ payments_from (first_account d) (take j file)
before-more file before i call v size old count within is j d less there = by (eq-or-lt_of_le (omega arith))
  where
    by : (j ≡ i) ⊎ (j < i) → get_or (before ++ v ∷ []) j 0 ≡ payments_from (first_account d) (take j file)
    by (inl same) =
        let here : get_or (before ++ v ∷ []) j 0 ≡ v = ap (λ n. get_or (before ++ v ∷ []) n 0) (same ∙ sym size) ∙ get_or-append_seam before v [] 0 in
        let calls : call ≡ d = is ∙ (get_or_default file i call d within ∙ (ap (λ n. get_or file n d) (sym same) ∙ get_or_from_slice_get file j d d there)) in
        here ∙ (count ∙ (λ t. payments_from (first_account (calls t)) (take (sym same t) file)))
    by (inr earlier) = get_or_append_left before (v ∷ []) 0 j (omega arith) ∙ old j d earlier there

-- the rows of one file more
pub all-counted-more : (files : List (List Call)) (before : List (List ℕ)) (i : ℕ) (row : List ℕ) → i < length files → AreAllCountedBefore (take i files) before
    → AreCountedBefore (get_or files i []) row → AreAllCountedBefore (take (i + 1) files) (before ++ row ∷ [])
all-counted-more files before i row within all counted =
    subst (λ (xs : List (List Call)). AreAllCountedBefore xs (before ++ row ∷ [])) (sym (take_more files i [] within)) (record {
      processes = let a = length-append (take i files) (get_or files i [] ∷ []) in let b = length-append before (row ∷ []) in let size = all.processes in omega arith;
      each = λ p less. by p (eq-or-lt_of_le (let a = length-append (take i files) (get_or files i [] ∷ []) in omega arith));
    })
  where
    long : length (take i files) ≡ i
    long = length-take-le i files (omega arith)

    by : (p : ℕ) → (p ≡ length (take i files)) ⊎ (p < length (take i files))
        → AreCountedBefore (get_or (take i files ++ get_or files i [] ∷ []) p []) (get_or (before ++ row ∷ []) p [])
    by p (inl same) =
        let size = all.processes in
        let calls : get_or (take i files ++ get_or files i [] ∷ []) p [] ≡ get_or files i [] =
        ap (λ n. get_or (take i files ++ get_or files i [] ∷ []) n []) same ∙ get_or-append_seam (take i files) (get_or files i []) [] [] in
        let read : get_or (before ++ row ∷ []) p [] ≡ row = ap (λ n. get_or (before ++ row ∷ []) n []) (same ∙ sym size) ∙ get_or-append_seam before row [] [] in
        subst (λ (xs : List Call). AreCountedBefore xs (get_or (before ++ row ∷ []) p [])) (sym calls) (subst (AreCountedBefore (get_or files i [])) (sym read) counted)
    by p (inr earlier) =
        let size = all.processes in
        subst (λ (xs : List Call). AreCountedBefore xs (get_or (before ++ row ∷ []) p [])) (sym (get_or_append_left (take i files) (get_or files i [] ∷ []) [] p earlier))
        (subst (AreCountedBefore (get_or (take i files) p [])) (sym (get_or_append_left before (row ∷ []) [] p (omega arith))) (all.each p earlier))
