-- How the postings of a journal add up, and what they make of each account.
use Rattle.std.proofs.Common.{◌≡◌, ℕ, zero, suc, ◌+◌, ◌-◌, ◌<◌, ◌≤◌, ◌==◌, not, ltb, Bool, true, false, cond, pos, ◌+ℤ◌, ◌-ℤ◌, List, [], ◌∷◌, ◌++◌, filter, length, map, take, get_or, set, sum, sum_by, All, Option, None, Some, refl, sym, ap, subst, ◌∙◌, append_assoc, append-nil, arith, add-one, inl, inr}
use Rattle.at_tables.proofs.Prelude.{range_with_len, cases_eq, eq-eqb, ne_eqb, get_or-set_same, get_or-set_other, length-map, length-set, filter-append, fill_by_all, ltb-false, ints, All-head, All-tail, All-nil, All-cons, sum-map, sum_by-cons, get_or-map, amount_for, get_or-credited, length-credited, BookTerms, account_of, is_owner, total_of, no_account, is_shared, AccountTerms, AreTargetsOn, IsCallOn, IsLineOn, TargetPair, amount_of, Legal, asked_in, last_state, run_from, LedgerState, Step, after_done, after_short, balance_of, is_full, moved, opening_state, pay, step, with_asked, with_sent, Call, Pay, Read, Transfer, Line, Reply, Balance, Done, Full, NotOwner, Short, Posting, Posts, TakesRest, Transaction, JournalEntry, Enters, Comments, assertion, assertions, credit, entries_of, entry_of, entry_with, first_transaction, last_transaction, opening_credits, paid, posted, balance_read, target_credits, Amount, Plus, Minus, AddUp, AreAsserted, IsAsserted, MakeBalances, is_posted_to, made_of, postings_in, total_posted, transactions_in, worth}

-- two lists of postings, one after another
total_posted-append : (b : BookTerms) (xs ys : List Posting) → total_posted b (xs ++ ys) ≡ total_posted b xs +ℤ total_posted b ys
unfolding total_posted
total_posted-append b [] ys = omega (arith, ints)
total_posted-append b (x ∷ xs) ys = omega (arith, ints, total_posted-append b xs ys)

made_of-append : (b : BookTerms) (a : ℕ) (xs ys : List Posting) → made_of b a (xs ++ ys) ≡ made_of b a xs +ℤ made_of b a ys
made_of-append b a xs ys =
    ap (total_posted b) (filter-append (is_posted_to a) xs ys) ∙ total_posted-append b (filter (is_posted_to a) xs) (filter (is_posted_to a) ys)

total_posted-cond : (t : Bool) (b : BookTerms) (p : Posting) (ps : List Posting)
    → total_posted b (cond t (p ∷ ps) ps) ≡ cond t (worth b p) (pos 0) +ℤ total_posted b ps
unfolding total_posted
total_posted-cond true b p ps = refl
total_posted-cond false b p ps = omega (arith, ints)

-- one posting more at the head
made_of-cons : (b : BookTerms) (a x : ℕ) (amount : Amount) (asserted : Option ℕ) (ps : List Posting)
    → made_of b a (Posts x amount asserted ∷ ps) ≡ cond (x == a) (worth b (Posts x amount asserted)) (pos 0) +ℤ made_of b a ps
made_of-cons b a x amount asserted ps = total_posted-cond (x == a) b (Posts x amount asserted) (filter (is_posted_to a) ps)

made_of-nil : (b : BookTerms) (a : ℕ) → made_of b a [] ≡ pos 0
unfolding total_posted
made_of-nil b a = refl

total_posted-nil : (b : BookTerms) → total_posted b [] ≡ pos 0
unfolding total_posted
total_posted-nil b = refl

total_posted-cons : (b : BookTerms) (p : Posting) (ps : List Posting) → total_posted b (p ∷ ps) ≡ worth b p +ℤ total_posted b ps
unfolding total_posted
total_posted-cons b p ps = refl

-- what is chosen of two numbers
pos-cond : (t : Bool) (n : ℕ) → cond t (pos n) (pos 0) ≡ pos (cond t n 0)
pos-cond true n = refl
pos-cond false n = refl

-- credits to targets

made_of-target_credits : (b : BookTerms) (a : ℕ) (ts : List TargetPair) → made_of b a (target_credits ts) ≡ pos (amount_for a ts)
made_of-target_credits b a [] = made_of-nil b a
made_of-target_credits b a (t ∷ ts) =
    omega (
      arith,
      ints,
      made_of-cons b a t.0 (Plus t.1) None (target_credits ts),
      pos-cond (t.0 == a) t.1,
      made_of-target_credits b a ts,
      sum_by-cons (λ (u : TargetPair). cond (u.0 == a) u.1 0) t ts,
    )

total_posted-target_credits : (b : BookTerms) (ts : List TargetPair) → total_posted b (target_credits ts) ≡ pos (amount_of ts)
total_posted-target_credits b [] = total_posted-nil b
total_posted-target_credits b (t ∷ ts) =
    omega (
      arith,
      ints,
      total_posted-cons b (credit t.0 t.1) (target_credits ts),
      total_posted-target_credits b ts,
      sum_by-cons (λ (u : TargetPair). u.1) t ts,
    )

-- credits to accounts in order

abbrev credits_by : (ℕ → ℕ) → List ℕ → List Posting
credits_by f xs = map (λ x. credit x (f x)) xs

total_posted-credits_by : (b : BookTerms) (f : ℕ → ℕ) (xs : List ℕ) → total_posted b (credits_by f xs) ≡ pos (sum_by f xs)
total_posted-credits_by b f [] = total_posted-nil b
total_posted-credits_by b f (x ∷ xs) =
    omega (arith, ints, total_posted-cons b (credit x (f x)) (credits_by f xs), total_posted-credits_by b f xs, sum_by-cons f x xs)

-- accounts above this one
made_of-credits_above : (b : BookTerms) (f : ℕ → ℕ) (a k n : ℕ) → a < k → made_of b a (credits_by f (range_with_len k n)) ≡ pos 0
made_of-credits_above b f a k zero below = made_of-nil b a
made_of-credits_above b f a k (suc n) below =
    let apart : k ≡ a → ⊥ = λ same. omega arith in
    let off : cond (k == a) (pos (f k)) (pos 0) ≡ pos 0 = ap (λ (t : Bool). cond t (pos (f k)) (pos 0)) (ne_eqb k a apart) in
    omega (arith, ints, made_of-cons b a k (Plus (f k)) None (credits_by f (range_with_len (k + 1) n)), off, made_of-credits_above b f a (k + 1) n (omega arith))

made_of-credits_by : (b : BookTerms) (f : ℕ → ℕ) (a k n : ℕ) → k ≤ a → a < k + n → made_of b a (credits_by f (range_with_len k n)) ≡ pos (f a)
made_of-credits_by b f a k zero from below = absurd (omega arith)
made_of-credits_by b f a k (suc n) from below =
    let first = made_of-cons b a k (Plus (f k)) None (credits_by f (range_with_len (k + 1) n)) in
    elim (cases_eq k a) as (λ _. made_of b a (credits_by f (range_with_len k (suc n))) ≡ pos (f a)) [
      | inl same ↦
          let here : cond (k == a) (pos (f k)) (pos 0) ≡ pos (f k) = ap (λ (t : Bool). cond t (pos (f k)) (pos 0)) (eq-eqb k a same) in
          let its : pos (f k) ≡ pos (f a) = ap (λ (i : ℕ). pos (f i)) same in
          omega (arith, ints, first, here, its, made_of-credits_above b f a (k + 1) n (omega arith))
      | inr apart ↦
          let off : cond (k == a) (pos (f k)) (pos 0) ≡ pos 0 = ap (λ (t : Bool). cond t (pos (f k)) (pos 0)) (ne_eqb k a apart) in
          omega (arith, ints, first, off, made_of-credits_by b f a (k + 1) n (omega arith) (omega arith))
    ]

-- assertions, which post nothing

abbrev assertions_by : (ℕ → ℕ) → List ℕ → List Posting
assertions_by f xs = map (λ x. assertion x (f x)) xs

total_posted-assertions_by : (b : BookTerms) (f : ℕ → ℕ) (xs : List ℕ) → total_posted b (assertions_by f xs) ≡ pos 0
total_posted-assertions_by b f [] = total_posted-nil b
total_posted-assertions_by b f (x ∷ xs) =
    omega (arith, ints, total_posted-cons b (assertion x (f x)) (assertions_by f xs), total_posted-assertions_by b f xs)

nothing-cond : (t : Bool) → cond t (pos 0) (pos 0) ≡ pos 0
nothing-cond true = refl
nothing-cond false = refl

made_of-assertion : (b : BookTerms) (a x n : ℕ) (ps : List Posting) → made_of b a (assertion x n ∷ ps) ≡ made_of b a ps
made_of-assertion b a x n ps = omega (arith, ints, made_of-cons b a x (Plus 0) (Some n) ps, nothing-cond (x == a))

made_of-assertions_by : (b : BookTerms) (f : ℕ → ℕ) (a : ℕ) (xs : List ℕ) → made_of b a (assertions_by f xs) ≡ pos 0
made_of-assertions_by b f a [] = made_of-nil b a
made_of-assertions_by b f a (x ∷ xs) = made_of-assertion b a x (f x) (assertions_by f xs) ∙ made_of-assertions_by b f a xs

-- all transactions add up

-- what all accounts open with, as a sum over their numbers
sum-openings : (b : BookTerms) → sum_by (λ a. (account_of b a).opening) (range_with_len 0 (length b.accounts)) ≡ total_of b
sum-openings b =
    let opening : AccountTerms → ℕ = λ t. t.opening in
    let first : ℕ → ℕ = λ a. (account_of b a).opening in
    let each : map opening b.accounts ≡ map first (range_with_len 0 (length b.accounts)) =
    fill_by_all first (map opening b.accounts) (length b.accounts) 0 (length-map b.accounts opening) (λ k h. get_or-map opening b.accounts k no_account 0 h) in
    sym (sum-map first (range_with_len 0 (length b.accounts))) ∙ ap sum (sym each) ∙ sum-map opening b.accounts

first-adds_up : (b : BookTerms) → total_posted b (first_transaction b).postings ≡ pos 0
first-adds_up b =
    omega (
      arith,
      ints,
      total_posted-append b (opening_credits b) (TakesRest ∷ []),
      total_posted-credits_by b (λ a. (account_of b a).opening) (range_with_len 0 (length b.accounts)),
      sum-openings b,
      total_posted-cons b TakesRest [],
      total_posted-nil b,
    )

-- what is entered adds up, if it is a transaction
abbrev EntryAddsUp : BookTerms → JournalEntry → Type 0
EntryAddsUp b (Enters t) = total_posted b t.postings ≡ pos 0
EntryAddsUp b (Comments l) = Unit {0}

AddUp-cons : (b : BookTerms) (e : JournalEntry) (es : List JournalEntry) → EntryAddsUp b e → AddUp b es → AddUp b (e ∷ es)
AddUp-cons b (Enters t) es one others = All-cons (λ (u : Transaction). total_posted b u.postings ≡ pos 0) t (transactions_in es) one others
AddUp-cons b (Comments l) es one others = others

-- what is posted adds up, if anything is
abbrev PostedAddsUp : BookTerms → Option (List Posting) → Type 0
PostedAddsUp b None = Unit {0}
PostedAddsUp b (Some ps) = total_posted b ps ≡ pos 0

EntryAddsUp-with : (b : BookTerms) (l : Line) (o : Option (List Posting)) → PostedAddsUp b o → EntryAddsUp b (entry_with l o)
EntryAddsUp-with b l None is = is
EntryAddsUp-with b l (Some ps) is = is

paid-adds_up : (b : BookTerms) (from : ℕ) (ts : List TargetPair) (reply : Reply) → PostedAddsUp b (paid from ts reply)
paid-adds_up b from ts Done =
    omega (arith, ints, total_posted-cons b (Posts from (Minus (amount_of ts)) None) (target_credits ts), total_posted-target_credits b ts)
paid-adds_up b from ts Short = tt
paid-adds_up b from ts NotOwner = tt
paid-adds_up b from ts Full = tt
paid-adds_up b from ts (Balance n) = tt

read-adds_up : (b : BookTerms) (account : ℕ) (reply : Reply) → PostedAddsUp b (balance_read account reply)
read-adds_up b account (Balance n) = total_posted-assertions_by b (λ (x : ℕ). n) (account ∷ [])
read-adds_up b account Done = tt
read-adds_up b account Short = tt
read-adds_up b account NotOwner = tt
read-adds_up b account Full = tt

posted-adds_up : (b : BookTerms) (call : Call) (reply : Reply) → PostedAddsUp b (posted call reply)
posted-adds_up b (Transfer from to amount) reply = paid-adds_up b from ((to, amount) ∷ []) reply
posted-adds_up b (Read account) reply = read-adds_up b account reply
posted-adds_up b (Pay from targets) reply = paid-adds_up b from targets reply

lines-add_up : (b : BookTerms) (lines : List Line) (last : JournalEntry) → EntryAddsUp b last → AddUp b (map entry_of lines ++ last ∷ [])
lines-add_up b [] last is = AddUp-cons b last [] is (All-nil (λ (u : Transaction). total_posted b u.postings ≡ pos 0))
lines-add_up b (l ∷ lines) last is =
    AddUp-cons b (entry_of l) (map entry_of lines ++ last ∷ []) (EntryAddsUp-with b l (posted l.call l.reply) (posted-adds_up b l.call l.reply)) (lines-add_up b lines last is)

pub AddUp-entries_of : (b : BookTerms) (lines : List Line) → AddUp b (entries_of b lines)
AddUp-entries_of b lines =
    let s : LedgerState = last_state b lines in
    AddUp-cons b (Enters (first_transaction b)) (map entry_of lines ++ Enters (last_transaction s) ∷ []) (first-adds_up b)
    (lines-add_up b lines (Enters (last_transaction s)) (total_posted-assertions_by b (balance_of s) (range_with_len 0 (length s.book.accounts))))

-- each assertion of a list is right, after other postings

abbrev AreRight : BookTerms → List Posting → List Posting → Type 0
AreRight b before [] = Unit {0}
AreRight b before (p ∷ ps) = IsAsserted b (before ++ p ∷ []) p × AreRight b (before ++ p ∷ []) ps

AreRight-append : (b : BookTerms) (before xs ys : List Posting) → AreRight b before xs → AreRight b (before ++ xs) ys → AreRight b before (xs ++ ys)
AreRight-append b before [] ys first second = subst (λ (l : List Posting). AreRight b l ys) (append-nil before) second
AreRight-append b before (x ∷ xs) ys first second =
    (first.0, AreRight-append b (before ++ x ∷ []) xs ys first.1 (subst (λ (l : List Posting). AreRight b l ys) (sym (append_assoc before (x ∷ []) xs)) second))

AreRight-at : (b : BookTerms) (before ps : List Posting) (i : ℕ) → AreRight b before ps → i < length ps
    → IsAsserted b (before ++ take (suc i) ps) (get_or ps i TakesRest)
AreRight-at b before [] i right below = absurd (omega arith)
AreRight-at b before (p ∷ ps) zero right below = right.0
AreRight-at b before (p ∷ ps) (suc i) right below =
    subst (λ (l : List Posting). IsAsserted b l (get_or ps i TakesRest)) (append_assoc before (p ∷ []) (take (suc i) ps))
    (AreRight-at b (before ++ p ∷ []) ps i right.1 (omega arith))

AreAsserted-AreRight : (b : BookTerms) (ps : List Posting) → AreRight b [] ps → AreAsserted b ps
AreAsserted-AreRight b ps right i below =
    subst (λ (n : ℕ). IsAsserted b (take n ps) (get_or ps i TakesRest)) (sym (add-one i)) (AreRight-at b [] ps i right below)

AreRight-target_credits : (b : BookTerms) (before : List Posting) (ts : List TargetPair) → AreRight b before (target_credits ts)
AreRight-target_credits b before [] = tt
AreRight-target_credits b before (t ∷ ts) = (tt, AreRight-target_credits b (before ++ credit t.0 t.1 ∷ []) ts)

AreRight-credits_by : (b : BookTerms) (f : ℕ → ℕ) (before : List Posting) (xs : List ℕ) → AreRight b before (credits_by f xs)
AreRight-credits_by b f before [] = tt
AreRight-credits_by b f before (x ∷ xs) = (tt, AreRight-credits_by b f (before ++ credit x (f x) ∷ []) xs)

-- one assertion more at the end
made_of-asserted : (b : BookTerms) (a x n : ℕ) (ps : List Posting) → made_of b a (ps ++ assertion x n ∷ []) ≡ made_of b a ps
made_of-asserted b a x n ps = omega (arith, ints, made_of-append b a ps (assertion x n ∷ []), made_of-assertion b a x n [], made_of-nil b a)

AreRight-assertions_by : (b : BookTerms) (f : ℕ → ℕ) (before : List Posting) (k n : ℕ) → ((a : ℕ) → a < k + n → made_of b a before ≡ pos (f a))
    → AreRight b before (assertions_by f (range_with_len k n))
AreRight-assertions_by b f before k zero made = tt
AreRight-assertions_by b f before k (suc n) made = (
  made_of-asserted b k k (f k) before ∙ made k (omega arith),
  AreRight-assertions_by b f (before ++ assertion k (f k) ∷ []) (k + 1) n
      (λ a below. made_of-asserted b a k (f k) before ∙ made a (omega arith)),
)

-- the postings so far make the balances of a state of the book, and what they assert is right
record Keeps (b : BookTerms) (s : LedgerState) (ps : List Posting) : Type 0 where
  book : s.book ≡ b
  sized : length s.balances ≡ length b.accounts
  made : MakeBalances b s ps
  right : AreRight b [] ps

-- whichever is chosen
chosen : {X : Type 0} (holds : X → Type 0) (t : Bool) (x y : X) → (t ≡ true → holds x) → (t ≡ false → holds y) → holds (cond t x y)
chosen holds true x y first second = first refl
chosen holds false x y first second = second refl

-- the postings, if there are any
abbrev listed : Option (List Posting) → List Posting
listed None = []
listed (Some ps) = ps

Keeps-none : (b : BookTerms) (s : LedgerState) (ps : List Posting) → Keeps b s ps → Keeps b s (ps ++ [])
Keeps-none b s ps kept = subst (λ (l : List Posting). Keeps b s l) (sym (append-nil ps)) kept

-- the source gives up the sum, and each target gets its amount
balance-moved : (s : LedgerState) (from a : ℕ) (ts : List TargetPair) → AreTargetsOn (length s.balances) ts → from < length s.balances
    → a < length s.balances → amount_of ts ≤ balance_of s from
    → pos (balance_of (moved s from ts) a) ≡ (pos (balance_of s a) +ℤ cond (from == a) (pos 0 -ℤ pos (amount_of ts)) (pos 0)) +ℤ pos (amount_for a ts)
balance-moved s from a ts known inside within enough =
    let y = balance_of s from - amount_of ts in
    let sized = length-set s.balances from y in
    let got = get_or-credited (set s.balances from y) ts a (subst (λ (n : ℕ). AreTargetsOn n ts) (sym sized) known) (omega (arith, sized, within)) in
    elim (cases_eq from a) as (λ _. pos (balance_of (moved s from ts) a) ≡ (pos (balance_of s a) +ℤ cond (from == a) (pos 0 -ℤ pos (amount_of ts)) (pos 0)) +ℤ pos (amount_for a ts)) [
      | inl same ↦
          let here : cond (from == a) (pos 0 -ℤ pos (amount_of ts)) (pos 0) ≡ pos 0 -ℤ pos (amount_of ts) = ap (λ (t : Bool). cond t (pos 0 -ℤ pos (amount_of ts)) (pos 0)) (eq-eqb from a same) in
          let stored = get_or-set_same s.balances from y 0 inside in
          let at : get_or (set s.balances from y) a 0 ≡ get_or (set s.balances from y) from 0 = ap (λ (i : ℕ). get_or (set s.balances from y) i 0) (sym same) in
          let old : balance_of s from ≡ balance_of s a = ap (balance_of s) same in
          omega (arith, ints, got, here, stored, at, old, enough)
      | inr apart ↦
          let here : cond (from == a) (pos 0 -ℤ pos (amount_of ts)) (pos 0) ≡ pos 0 = ap (λ (t : Bool). cond t (pos 0 -ℤ pos (amount_of ts)) (pos 0)) (ne_eqb from a apart) in
          let kept = get_or-set_other s.balances from a y 0 (λ e. apart (sym e)) in
          omega (arith, ints, got, here, kept)
    ]

Keeps-moved : (b : BookTerms) (s : LedgerState) (from : ℕ) (ts : List TargetPair) (ps : List Posting) → Keeps b s ps → from < length b.accounts
    → AreTargetsOn (length b.accounts) ts → amount_of ts ≤ balance_of s from
    → Keeps b (moved s from ts) (ps ++ (Posts from (Minus (amount_of ts)) None ∷ target_credits ts))
Keeps-moved b s from ts ps kept inside known enough = record {
  book = kept.book;
  sized = length-credited (set s.balances from (balance_of s from - amount_of ts)) ts ∙ length-set s.balances from (balance_of s from - amount_of ts) ∙ kept.sized;
  made = λ a below. omega (
    arith,
    ints,
    made_of-append b a ps (Posts from (Minus (amount_of ts)) None ∷ target_credits ts),
    made_of-cons b a from (Minus (amount_of ts)) None (target_credits ts),
    made_of-target_credits b a ts,
    kept.made a below,
    balance-moved s from a ts (subst (λ (n : ℕ). AreTargetsOn n ts) (sym kept.sized) known) (omega (arith, kept.sized, inside)) (omega (arith, kept.sized, below)) enough,
  );
  right = AreRight-append b [] ps (Posts from (Minus (amount_of ts)) None ∷ target_credits ts) kept.right
      (tt, AreRight-target_credits b (ps ++ Posts from (Minus (amount_of ts)) None ∷ []) ts);
}

Keeps-pay : (b : BookTerms) (s : LedgerState) (process from : ℕ) (ts : List TargetPair) (ps : List Posting) → Keeps b s ps → from < length b.accounts
    → AreTargetsOn (length b.accounts) ts
    → Keeps b (pay s process from ts).ledger (ps ++ listed (paid from ts (pay s process from ts).reply))
Keeps-pay b s process from ts ps kept inside known =
    let holds : Step → Type 0 = λ made. Keeps b made.ledger (ps ++ listed (paid from ts made.reply)) in
    let still : Keeps b s (ps ++ []) = Keeps-none b s ps kept in
    chosen holds (not (is_owner s.book process from)) (record { ledger = s; reply = NotOwner }) _ (λ _. still) (λ _.
    chosen holds (is_full s process from) (record { ledger = s; reply = Full }) _ (λ _. still) (λ _.
    chosen holds (ltb (balance_of s from) (amount_of ts))
    (record { ledger = after_short s process from; reply = Short }) (record { ledger = after_done s process from ts; reply = Done })
    (λ _. chosen (λ (t : LedgerState). Keeps b t (ps ++ [])) (is_shared (account_of s.book from)) (with_asked s process from) s
    (λ _. record { book = still.book; sized = still.sized; made = still.made; right = still.right }) (λ _. still))
    (λ covered.
    let done = Keeps-moved b s from ts ps kept inside known (omega (arith, ltb-false (balance_of s from) (amount_of ts) covered)) in
    chosen (λ (t : LedgerState). Keeps b t (ps ++ listed (paid from ts Done))) (is_shared (account_of s.book from)) (with_asked (moved s from ts) process from) (with_sent (moved s from ts) process)
    (λ _. record { book = done.book; sized = done.sized; made = done.made; right = done.right })
    (λ _. record { book = done.book; sized = done.sized; made = done.made; right = done.right }))))

Keeps-read : (b : BookTerms) (s : LedgerState) (account : ℕ) (ps : List Posting) → Keeps b s ps → account < length b.accounts
    → Keeps b s (ps ++ assertion account (balance_of s account) ∷ [])
Keeps-read b s account ps kept inside = record {
  book = kept.book;
  sized = kept.sized;
  made = λ a below. made_of-asserted b a account (balance_of s account) ps ∙ kept.made a below;
  right = AreRight-append b [] ps (assertion account (balance_of s account) ∷ []) kept.right
      (made_of-asserted b account account (balance_of s account) ps ∙ kept.made account inside, tt);
}

Keeps-step : (b : BookTerms) (s : LedgerState) (process : ℕ) (call : Call) (ps : List Posting) → Keeps b s ps → IsCallOn (length b.accounts) call
    → Keeps b (step s process call).ledger (ps ++ listed (posted call (step s process call).reply))
Keeps-step b s process (Transfer from to amount) ps kept known =
    Keeps-pay b s process from ((to, amount) ∷ []) ps kept known.0
    (All-cons (λ (t : TargetPair). t.0 < length b.accounts) (to, amount) [] known.1 (All-nil (λ (t : TargetPair). t.0 < length b.accounts)))
Keeps-step b s process (Read account) ps kept known = Keeps-read b s account ps kept known
Keeps-step b s process (Pay from targets) ps kept known = Keeps-pay b s process from targets ps kept known.0 known.1

-- the postings of one entry, and of more

abbrev entry_postings : JournalEntry → List Posting
entry_postings (Enters t) = t.postings
entry_postings (Comments l) = []

entry_postings-with : (l : Line) (o : Option (List Posting)) → entry_postings (entry_with l o) ≡ listed o
entry_postings-with l None = refl
entry_postings-with l (Some ps) = refl

postings_in-cons : (e : JournalEntry) (es : List JournalEntry) → postings_in (e ∷ es) ≡ entry_postings e ++ postings_in es
postings_in-cons (Enters t) es = refl
postings_in-cons (Comments l) es = refl

postings_in-push : (es : List JournalEntry) (t : Transaction) → postings_in (es ++ Enters t ∷ []) ≡ postings_in es ++ t.postings
postings_in-push [] t = append-nil t.postings
postings_in-push (e ∷ es) t =
    postings_in-cons e (es ++ Enters t ∷ [])
    ∙ ap (λ (l : List Posting). entry_postings e ++ l) (postings_in-push es t)
    ∙ sym (append_assoc (entry_postings e) (postings_in es) t.postings)
    ∙ ap (λ (l : List Posting). l ++ t.postings) (sym (postings_in-cons e es))

Keeps-lines : (b : BookTerms) (processes : ℕ) (s : LedgerState) (lines : List Line) (ps : List Posting) → Keeps b s ps
    → All (IsLineOn processes (length b.accounts)) lines → map (λ (l : Line). l.reply) lines ≡ (run_from s (asked_in lines)).replies
    → Keeps b (run_from s (asked_in lines)).last (ps ++ postings_in (map entry_of lines))
unfolding run_from
Keeps-lines b processes s [] ps kept known replies = Keeps-none b s ps kept
Keeps-lines b processes s (l ∷ lines) ps kept known replies =
    let after : Step = step s l.process l.call in
    let both : l.reply ∷ map (λ (m : Line). m.reply) lines ≡ after.reply ∷ (run_from after.ledger (asked_in lines)).replies = replies in
    let first : l.reply ≡ after.reply = cc in
    let rest : map (λ (m : Line). m.reply) lines ≡ (run_from after.ledger (asked_in lines)).replies = cc in
    let next = Keeps-step b s l.process l.call ps kept (All-head (IsLineOn processes (length b.accounts)) l lines known).1 in
    let here : listed (posted l.call after.reply) ≡ entry_postings (entry_of l) =
    ap (λ (r : Reply). listed (posted l.call r)) (sym first) ∙ sym (entry_postings-with l (posted l.call l.reply)) in
    let one : Keeps b after.ledger (ps ++ entry_postings (entry_of l)) = subst (λ (qs : List Posting). Keeps b after.ledger (ps ++ qs)) here next in
    let seam : (ps ++ entry_postings (entry_of l)) ++ postings_in (map entry_of lines) ≡ ps ++ postings_in (map entry_of (l ∷ lines)) =
    append_assoc ps (entry_postings (entry_of l)) (postings_in (map entry_of lines)) ∙ ap (λ (qs : List Posting). ps ++ qs) (sym (postings_in-cons (entry_of l) (map entry_of lines))) in
    subst (λ (qs : List Posting). Keeps b (run_from after.ledger (asked_in lines)).last qs) seam
    (Keeps-lines b processes after.ledger lines (ps ++ entry_postings (entry_of l)) one (All-tail (IsLineOn processes (length b.accounts)) l lines known) rest)

Keeps-openings : (b : BookTerms) → Keeps b (opening_state b) (first_transaction b).postings
Keeps-openings b = record {
  book = refl;
  sized = length-map b.accounts (λ (t : AccountTerms). t.opening);
  made = λ a below. omega (
    arith,
    ints,
    made_of-append b a (opening_credits b) (TakesRest ∷ []),
    made_of-nil b a,
    made_of-credits_by b (λ x. (account_of b x).opening) a 0 (length b.accounts) (omega arith) (omega arith),
    get_or-map (λ (t : AccountTerms). t.opening) b.accounts a no_account 0 below,
  );
  right = AreRight-append b [] (opening_credits b) (TakesRest ∷ [])
      (AreRight-credits_by b (λ x. (account_of b x).opening) [] (range_with_len 0 (length b.accounts))) (tt, tt);
}

Keeps-assertions : (b : BookTerms) (s : LedgerState) (ps : List Posting) → Keeps b s ps → Keeps b s (ps ++ assertions s)
Keeps-assertions b s ps kept = record {
  book = kept.book;
  sized = kept.sized;
  made = λ a below. omega (
    arith,
    ints,
    made_of-append b a ps (assertions s),
    made_of-assertions_by b (balance_of s) a (range_with_len 0 (length s.book.accounts)),
    kept.made a below,
  );
  right = AreRight-append b [] ps (assertions s) kept.right
      (AreRight-assertions_by b (balance_of s) ps 0 (length s.book.accounts)
      (λ a below. kept.made a (let same : length s.book.accounts ≡ length b.accounts = ap (λ (c : BookTerms). length c.accounts) kept.book in omega arith)));
}

-- of a legal run the postings make the last balances, and assert what they make
Keeps-entries_of : (b : BookTerms) (processes : ℕ) (lines : List Line) → All (IsLineOn processes (length b.accounts)) lines → Legal b lines
    → Keeps b (last_state b lines) (postings_in (entries_of b lines))
Keeps-entries_of b processes lines known legal =
    let s : LedgerState = last_state b lines in
    let first : List Posting = (first_transaction b).postings in
    let middle : List Posting = postings_in (map entry_of lines) in
    let run = Keeps-lines b processes (opening_state b) lines first (Keeps-openings b) known legal in
    let whole : (first ++ middle) ++ assertions s ≡ postings_in (entries_of b lines) =
    append_assoc first middle (assertions s) ∙ ap (λ (qs : List Posting). first ++ qs) (sym (postings_in-push (map entry_of lines) (last_transaction s))) in
    subst (λ (qs : List Posting). Keeps b s qs) whole (Keeps-assertions b s (first ++ middle) run)

pub AreAsserted-entries_of : (b : BookTerms) (processes : ℕ) (lines : List Line) → All (IsLineOn processes (length b.accounts)) lines → Legal b lines
    → AreAsserted b (postings_in (entries_of b lines))
AreAsserted-entries_of b processes lines known legal =
    AreAsserted-AreRight b (postings_in (entries_of b lines)) (Keeps-entries_of b processes lines known legal).right

pub MakeBalances-entries_of : (b : BookTerms) (processes : ℕ) (lines : List Line) → All (IsLineOn processes (length b.accounts)) lines → Legal b lines
    → MakeBalances b (last_state b lines) (postings_in (entries_of b lines))
MakeBalances-entries_of b processes lines known legal = (Keeps-entries_of b processes lines known legal).made
