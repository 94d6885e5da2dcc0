-- What accounts have left of their openings, call by call.
use Rattle.std.proofs.Common.{◌≡◌, ℕ, ◌+◌, ◌-◌, ◌<◌, ◌≤◌, ◌&&◌, ⊎_elim, Bool, true, false, Option, None, Some, List, [], ◌∷◌, ◌++◌, length, get_or, map, set, take, refl, sym, ap, subst, ◌∙◌, arith}
use Rattle.std.specs.Prelude.{nat_lt, if◌then◌else◌}
use Rattle.at_orders.proofs.Prelude.{cases_Bool, cases_lt, ne_eqb, Decides-ltb, get_or-map, length-map, length-set, get_or-set_same, get_or-set_other, take_more, sum_by-append, sum_by-cons, AccountTerms, no_account, BookTerms, account_of, is_owner, TargetPair, amount_of, payout_of, Call, Transfer, Read, Pay, AreLeft, TellCovered, asked_by_call, asked_by_pay, asked_in_file, asked_in_files, left_when_asked}
use Rattle.at_orders.proofs.Moved.{at_or_off}
use Rattle.at_orders.proofs.OnTheWay.{asked-payout}
use Rattle.at_orders.proofs.Placing.{same_payout}
use Rattle.at_orders.proofs.Sums.{sum-push, sum-zero}

less : (n m : ℕ) → n < m → nat_lt n m ≡ true
less n m is = (Decides-ltb n m).1 is

not_less : (n m : ℕ) → m ≤ n → nat_lt n m ≡ false
not_less n m more = ⊎_elim (λ is. absurd (let lt = (Decides-ltb n m).0 is in omega arith)) (λ is. is) (cases_Bool (nat_lt n m))

left-less : (had asked : ℕ) → had < asked → left_when_asked (Some had) asked ≡ None
left-less had asked is = rw (less had asked is) refl

left-enough : (had asked : ℕ) → asked ≤ had → left_when_asked (Some had) asked ≡ Some (had - asked)
left-enough had asked is = rw (not_less had asked is) refl

pub left-none : (o : Option ℕ) → left_when_asked o 0 ≡ o
left-none None = refl
left-none (Some had) = left-enough had 0 (omega arith) ∙ ap Some (let same : had - 0 ≡ had = omega arith in same)

pub left-more : (o : Option ℕ) (n m : ℕ) → left_when_asked (left_when_asked o n) m ≡ left_when_asked o (n + m)
left-more None n m = refl
left-more (Some had) n m = ⊎_elim
    (λ short. ap (λ (o : Option ℕ). left_when_asked o m) (left-less had n short) ∙ sym (left-less had (n + m) (omega arith)))
    (λ enough. ⊎_elim
    (λ short. ap (λ (o : Option ℕ). left_when_asked o m) (left-enough had n enough) ∙ (left-less (had - n) m (omega arith) ∙ sym (left-less had (n + m) (omega arith))))
    (λ more. ap (λ (o : Option ℕ). left_when_asked o m) (left-enough had n enough) ∙ (left-enough (had - n) m (omega arith) ∙ (ap Some (let same : had - n - m ≡ had - (n + m) = omega arith in same)
    ∙ sym (left-enough had (n + m) (omega arith)))))
    (cases_lt had (n + m)))
    (cases_lt had n)

-- nothing is asked
pub left-same : (b : BookTerms) (asks : ℕ → ℕ) (old : List (Option ℕ)) → ((a : ℕ) → asks a ≡ 0) → AreLeft b asks old old
left-same b asks old none = record { accounts = refl; each = λ a a_in. sym (left-none (get_or old a None)) ∙ ap (left_when_asked (get_or old a None)) (sym (none a)) }

-- something more is asked
pub left-then : (b : BookTerms) (f g h : ℕ → ℕ) (old mid new : List (Option ℕ)) → AreLeft b f old mid → AreLeft b g mid new → ((a : ℕ) → h a ≡ f a + g a) → AreLeft b h old new
left-then b f g h old mid new first next sums = record {
  accounts = next.accounts ∙ first.accounts;
  each = λ a a_in. next.each a a_in ∙ (ap (λ (o : Option ℕ). left_when_asked o (g a)) (first.each a a_in) ∙ (left-more (get_or old a None) (f a) (g a) ∙ ap (left_when_asked (get_or old a None)) (sym (sums a))));
}

pay-off : (b : BookTerms) (p a f : ℕ) (ts : List TargetPair) → (f ≡ a → ⊥) → asked_by_pay b p a f ts ≡ 0
pay-off b p a f ts off = rw (ne_eqb f a off) (none (is_owner b p a))
  where
    none : (own : Bool) → (if own && false then amount_of ts else 0) ≡ 0
    none true = refl
    none false = refl

pay-refused : (b : BookTerms) (p a f : ℕ) (ts : List TargetPair) → is_owner b p f ≡ false → asked_by_pay b p a f ts ≡ 0
pay-refused b p a f ts refused = at_or_off f a
    (λ same. let own : is_owner b p a ≡ false = ap (is_owner b p) (sym same) ∙ refused in rw own refl)
    (λ off. pay-off b p a f ts off)

-- what a payment asks of other accounts, and what no owner's payment asks
pub call-off : (b : BookTerms) (p a f : ℕ) (ts : List TargetPair) (c : Call) → payout_of c ≡ Some (f, ts) → (f ≡ a → ⊥) → asked_by_call b p a c ≡ 0
call-off b p a f ts (Transfer from to amount) is off =
    pay-off b p a from ((to, amount) ∷ []) (λ same. off (sym (ap (λ (x : ℕ × List TargetPair). x.0) (same_payout (from, (to, amount) ∷ []) (f, ts) is)) ∙ same))
call-off b p a f ts (Read account) is off = refl
call-off b p a f ts (Pay from targets) is off =
    pay-off b p a from targets (λ same. off (sym (ap (λ (x : ℕ × List TargetPair). x.0) (same_payout (from, targets) (f, ts) is)) ∙ same))

pub call-refused : (b : BookTerms) (p a f : ℕ) (ts : List TargetPair) (c : Call) → payout_of c ≡ Some (f, ts) → is_owner b p f ≡ false → asked_by_call b p a c ≡ 0
call-refused b p a f ts (Transfer from to amount) is refused =
    pay-refused b p a from ((to, amount) ∷ []) (ap (is_owner b p) (ap (λ (x : ℕ × List TargetPair). x.0) (same_payout (from, (to, amount) ∷ []) (f, ts) is)) ∙ refused)
call-refused b p a f ts (Read account) is refused = refl
call-refused b p a f ts (Pay from targets) is refused =
    pay-refused b p a from targets (ap (is_owner b p) (ap (λ (x : ℕ × List TargetPair). x.0) (same_payout (from, targets) (f, ts) is)) ∙ refused)

pub call-none : (b : BookTerms) (p a : ℕ) (c : Call) → payout_of c ≡ None → asked_by_call b p a c ≡ 0
call-none b p a (Transfer from to amount) is = absurd (cc is)
call-none b p a (Read account) is = refl
call-none b p a (Pay from targets) is = absurd (cc is)

-- the payment is taken from what its source has left
pub left-taken : (b : BookTerms) (p f : ℕ) (ts : List TargetPair) (c : Call) (old : List (Option ℕ)) → payout_of c ≡ Some (f, ts) → is_owner b p f ≡ true → f < length old
    → AreLeft b (λ a. asked_by_call b p a c) old (set old f (left_when_asked (get_or old f None) (amount_of ts)))
left-taken b p f ts c old is own within = record {
  accounts = length-set old f (left_when_asked (get_or old f None) (amount_of ts));
  each = λ a a_in. at_or_off f a
      (λ same. subst (λ (n : ℕ). get_or (set old f (left_when_asked (get_or old f None) (amount_of ts))) n None ≡ left_when_asked (get_or old n None) (asked_by_call b p n c)) same
      (get_or-set_same old f (left_when_asked (get_or old f None) (amount_of ts)) None within ∙ ap (left_when_asked (get_or old f None)) (sym (asked-payout b p f ts c is own))))
      (λ off. get_or-set_other old f a (left_when_asked (get_or old f None) (amount_of ts)) None (λ same. off (sym same))
      ∙ (sym (left-none (get_or old a None)) ∙ ap (left_when_asked (get_or old a None)) (sym (call-off b p a f ts c is off))));
}

-- one more call of the file
pub left-call : (b : BookTerms) (p : ℕ) (file : List Call) (i : ℕ) (c : Call) (old mid new : List (Option ℕ)) → i < length file → c ≡ get_or file i c
    → AreLeft b (λ a. asked_in_file b p a (take i file)) old mid → AreLeft b (λ a. asked_by_call b p a c) mid new → AreLeft b (λ a. asked_in_file b p a (take (i + 1) file)) old new
left-call b p file i c old mid new within is first next =
    left-then b (λ (a : ℕ). asked_in_file b p a (take i file)) (λ (a : ℕ). asked_by_call b p a c) (λ (a : ℕ). asked_in_file b p a (take (i + 1) file)) old mid new first next
    (λ a.
    let more : take (i + 1) file ≡ take i file ++ c ∷ [] = take_more file i c within ∙ ap (λ (x : Call). take i file ++ x ∷ []) (sym is) in
    let all : asked_in_file b p a (take (i + 1) file) ≡ asked_in_file b p a (take i file ++ c ∷ []) = ap (asked_in_file b p a) more in
    let both = sum_by-append (asked_by_call b p a) (take i file) (c ∷ []) in
    let one = sum_by-cons (asked_by_call b p a) c [] in
    omega arith)

-- one more file
pub left-file : (b : BookTerms) (files : List (List Call)) (p : ℕ) (old mid new : List (Option ℕ)) → AreLeft b (λ a. asked_in_files b a files p) old mid
    → AreLeft b (λ a. asked_in_file b p a (get_or files p [])) mid new → AreLeft b (λ a. asked_in_files b a files (p + 1)) old new
left-file b files p old mid new first next =
    left-then b (λ (a : ℕ). asked_in_files b a files p) (λ (a : ℕ). asked_in_file b p a (get_or files p [])) (λ (a : ℕ). asked_in_files b a files (p + 1)) old mid new first next
    (λ a. sum-push p (λ (q : ℕ). asked_in_file b q a (get_or files q [])))

pub left-begun : (b : BookTerms) (files : List (List Call)) (left : List (Option ℕ)) → AreLeft b (λ a. asked_in_files b a files 0) left left
left-begun b files left = left-same b (λ (a : ℕ). asked_in_files b a files 0) left (λ a. sum-zero (λ (q : ℕ). asked_in_file b q a (get_or files q [])))

-- what all files leave
pub left-tells : (b : BookTerms) (files : List (List Call)) (count : ℕ) (old left : List (Option ℕ)) → count ≡ length files → old ≡ map (λ t. Some t.opening) b.accounts
    → AreLeft b (λ a. asked_in_files b a files count) old left → TellCovered b files left
left-tells b files count old left all opens are = record {
  accounts = are.accounts ∙ (ap (length {A = Option ℕ}) opens ∙ length-map b.accounts (λ (t : AccountTerms). Some t.opening));
  covered = λ a has a_in is. ⊎_elim
      (λ short. absurd (let none = sym is ∙ (here a a_in ∙ left-less (account_of b a).opening (asked_in_files b a files (length files)) short) in cc))
      (λ enough. enough)
      (cases_lt (account_of b a).opening (asked_in_files b a files (length files)));
  uncovered = λ a a_in is enough.
      let some = sym is ∙ (here a a_in ∙ left-enough (account_of b a).opening (asked_in_files b a files (length files)) enough) in
      cc;
}
  where
    here : (a : ℕ) → a < length b.accounts → get_or left a None ≡ left_when_asked (Some (account_of b a).opening) (asked_in_files b a files (length files))
    here a a_in =
        are.each a a_in
        ∙ (ap (λ (o : Option ℕ). left_when_asked o (asked_in_files b a files count)) (ap (λ (os : List (Option ℕ)). get_or os a None) opens ∙ get_or-map (λ (t : AccountTerms). Some t.opening) b.accounts a no_account None a_in)
        ∙ ap (λ (n : ℕ). left_when_asked (Some (account_of b a).opening) (asked_in_files b a files n)) all)
