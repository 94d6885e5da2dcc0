-- What one step of the ledger changes: where its payment isn't short, and then of any.
use Rattle.std.proofs.Common.{◌≡◌, ℕ, ◌+◌, ◌*◌, ◌<◌, ◌≤◌, ◌==◌, ◌&&◌, ◌||◌, ◌⊎◌, ⊎_elim, inl, inr, Some, Bool, true, false, cond, List, [], ◌∷◌, length, get_or, set, sum, refl, sym, ap, subst, ◌∙◌, arith, eq-eqb}
use Rattle.std.specs.Prelude.{nat_lt}
use Rattle.at_orders.proofs.Prelude.{and_parts, cases_Bool, cases_lt, ne_eqb, Decides-ltb, length-set, All-cons, All-nil, mul-le-mul_right, is_shared, is_single, BookTerms, account_of, is_owner, AreTargetsOn, IsCallOn, TargetPair, amount_of, payout_of, LedgerState, Step, asked_position, is_full, pay, step, Call, Transfer, Read, Pay, Reply, Done, NotOwner, Full, Short, Balance, is_own_payment, asked_by_call, asked_by_pay, IsTarget, Names, PaysAt}
use Rattle.at_orders.proofs.Requests.{full-shared, not-shared, owned}
use Rattle.at_orders.proofs.Moved.{at_or_off, length-moved, moved-at, moved-cross, moved-off, moved-touch, moved_in, set-at, set-off, sum-moved}

-- a ledger of the book with these numbers
abbrev pub ledger_of : BookTerms → List ℕ → List ℕ → List ℕ → LedgerState
ledger_of b xs m k = record { book = b; balances = xs; sent = m; asked = k }

pub ledger-is : (b : BookTerms) (s : LedgerState) → s.book ≡ b → s ≡ ledger_of b s.balances s.sent s.asked
ledger-is b s book i = record { book = book i; balances = s.balances; sent = s.sent; asked = s.asked }

abbrev one_more : List ℕ → ℕ → List ℕ
one_more xs i = set xs i (get_or xs i 0 + 1)

-- what a payment does that isn't short: by whether the process owns the source and has used its room, and whether others share the source
outcome : (own full shared : Bool) → BookTerms → List ℕ → List ℕ → List ℕ → ℕ → ℕ → List TargetPair → Step
outcome false full shared b xs m k p f ts = record { ledger = ledger_of b xs m k; reply = NotOwner }
outcome true true shared b xs m k p f ts = record { ledger = ledger_of b xs m k; reply = Full }
outcome true false true b xs m k p f ts = record { ledger = ledger_of b (moved_in xs f ts) m (one_more k (asked_position b p f)); reply = Done }
outcome true false false b xs m k p f ts = record { ledger = ledger_of b (moved_in xs f ts) (one_more m p) k; reply = Done }

pay-is : (own full shared : Bool) (b : BookTerms) (xs m k : List ℕ) (p f : ℕ) (ts : List TargetPair) → is_owner b p f ≡ own → is_full (ledger_of b xs m k) p f ≡ full
    → is_shared (account_of b f) ≡ shared → (is_owner b p f ≡ true → nat_lt (get_or xs f 0) (amount_of ts) ≡ false)
    → pay (ledger_of b xs m k) p f ts ≡ outcome own full shared b xs m k p f ts
unfolding outcome
pay-is false full shared b xs m k p f ts own is_f is_s enough = rw own refl
pay-is true true shared b xs m k p f ts own is_f is_s enough = rw own (rw is_f refl)
pay-is true false true b xs m k p f ts own is_f is_s enough = rw own (rw is_f (rw (enough own) (rw is_s refl)))
pay-is true false false b xs m k p f ts own is_f is_s enough = rw own (rw is_f (rw (enough own) (rw is_s refl)))

-- a position of the requests is of one process and one account
position-other : (n p q a f : ℕ) → a < n → f < n → (q ≡ p → ⊥) → p * n + f ≡ q * n + a → ⊥
position-other n p q a f a_in f_in differ same =
    let cases : (q < p) ⊎ (p ≤ q) = grind arith in
    ⊎_elim
    (λ less. let rows : (q + 1) * n ≤ p * n = mul-le-mul_right n (let h : q + 1 ≤ p = omega arith in h) in let row : (q + 1) * n ≡ q * n + n = grind arith in omega arith)
    (λ more. let rows : (p + 1) * n ≤ q * n = mul-le-mul_right n (let h : p + 1 ≤ q = omega (arith, differ) in h) in let row : (p + 1) * n ≡ p * n + n = grind arith in omega arith)
    cases

position-in : (n count p f : ℕ) → p < count → f < n → p * n + f < count * n
position-in n count p f p_in f_in =
    let rows : (p + 1) * n ≤ count * n = mul-le-mul_right n (let h : p + 1 ≤ count = omega arith in h) in
    let row : (p + 1) * n ≡ p * n + n = grind arith in
    omega arith

-- the numbers of a ledger of the book, as many as there should be
pub record IsFit (b : BookTerms) (s : LedgerState) : Type 0 where
  pub book : s.book ≡ b
  pub balances : length s.balances ≡ length b.accounts
  pub sent : length s.sent ≡ b.processes
  pub asked : length s.asked ≡ b.processes * length b.accounts

-- what a step of a process leaves alone
pub record Keeps (b : BookTerms) (p : ℕ) (c : Call) (s : LedgerState) (x : Step) : Type 0 where
  pub fit : IsFit b x.ledger
  pub total : sum x.ledger.balances ≡ sum s.balances
  pub fall : (a : ℕ) → get_or s.balances a 0 ≤ get_or x.ledger.balances a 0 + asked_by_call b p a c
  pub sent : (q : ℕ) → (q ≡ p → ⊥) → get_or x.ledger.sent q 0 ≡ get_or s.sent q 0
  pub asked : (q a : ℕ) → (q ≡ p → ⊥) → a < length b.accounts → get_or x.ledger.asked (asked_position b q a) 0 ≡ get_or s.asked (asked_position b q a) 0

-- the process has used the same room in both
pub record AreAlike (b : BookTerms) (p : ℕ) (s u : LedgerState) : Type 0 where
  pub sent : get_or s.sent p 0 ≡ get_or u.sent p 0
  pub asked : (a : ℕ) → a < length b.accounts → get_or s.asked (asked_position b p a) 0 ≡ get_or u.asked (asked_position b p a) 0

-- a step of a process does the same in both
pub record AreSame (b : BookTerms) (p : ℕ) (s u : LedgerState) (x y : Step) : Type 0 where
  pub cross : (a : ℕ) → get_or x.ledger.balances a 0 + get_or u.balances a 0 ≡ get_or s.balances a 0 + get_or y.ledger.balances a 0
  pub alike : AreAlike b p x.ledger y.ledger

pub asked-at : (b : BookTerms) (p f : ℕ) (ts : List TargetPair) → is_owner b p f ≡ true → asked_by_pay b p f f ts ≡ amount_of ts
asked-at b p f ts own = rw (own, eq-eqb f f refl) refl

fall-done : (b : BookTerms) (xs : List ℕ) (p f : ℕ) (ts : List TargetPair) (a : ℕ) → is_owner b p f ≡ true → f < length xs → AreTargetsOn (length xs) ts
    → get_or xs a 0 ≤ get_or (moved_in xs f ts) a 0 + asked_by_pay b p a f ts
fall-done b xs p f ts a own within are = at_or_off f a
    (λ same.
    let low = moved-at xs f ts a within are same in
    let asks : asked_by_pay b p a f ts ≡ amount_of ts = subst (λ (n : ℕ). asked_by_pay b p n f ts ≡ amount_of ts) same (asked-at b p f ts own) in
    omega arith)
    (λ off. let low = moved-off xs f ts a are off in omega arith)

fits-one : (b : BookTerms) (xs m k : List ℕ) → length xs ≡ length b.accounts → length m ≡ b.processes → length k ≡ b.processes * length b.accounts → IsFit b (ledger_of b xs m k)
fits-one b xs m k x y z = record { book = refl; balances = x; sent = y; asked = z }

outcome-keeps : (own full shared : Bool) (b : BookTerms) (c : Call) (xs m k : List ℕ) (p f : ℕ) (ts : List TargetPair) → ((a : ℕ) → asked_by_call b p a c ≡ asked_by_pay b p a f ts) → is_owner b p f ≡ own
    → IsFit b (ledger_of b xs m k) → f < length b.accounts → AreTargetsOn (length b.accounts) ts
    → (is_owner b p f ≡ true → amount_of ts ≤ get_or xs f 0) → Keeps b p c (ledger_of b xs m k) (outcome own full shared b xs m k p f ts)
unfolding outcome
outcome-keeps false full shared b c xs m k p f ts asks own fit f_in are enough =
    record { fit = fit; total = refl; fall = λ a. omega arith; sent = λ q differ. refl; asked = λ q a differ a_in. refl }
outcome-keeps true true shared b c xs m k p f ts asks own fit f_in are enough =
    record { fit = fit; total = refl; fall = λ a. omega arith; sent = λ q differ. refl; asked = λ q a differ a_in. refl }
outcome-keeps true false true b c xs m k p f ts asks own fit f_in are enough =
    let size = fit.balances in
    let on : AreTargetsOn (length xs) ts = rw size are in
    record {
      fit = fits-one b (moved_in xs f ts) m (one_more k (asked_position b p f)) (length-moved xs f ts ∙ size) fit.sent
          (length-set k (asked_position b p f) (get_or k (asked_position b p f) 0 + 1) ∙ fit.asked);
      total = sum-moved xs f ts (omega arith) on (enough own);
      fall = λ a. let low = fall-done b xs p f ts a own (omega arith) on in let same = asks a in omega arith;
      sent = λ q differ. refl;
      asked = λ q a differ a_in. set-off k (asked_position b p f) (get_or k (asked_position b p f) 0 + 1) (asked_position b q a) (position-other (length b.accounts) p q a f a_in f_in differ);
    }
outcome-keeps true false false b c xs m k p f ts asks own fit f_in are enough =
    let size = fit.balances in
    let on : AreTargetsOn (length xs) ts = rw size are in
    record {
      fit = fits-one b (moved_in xs f ts) (one_more m p) k (length-moved xs f ts ∙ size) (length-set m p (get_or m p 0 + 1) ∙ fit.sent) fit.asked;
      total = sum-moved xs f ts (omega arith) on (enough own);
      fall = λ a. let low = fall-done b xs p f ts a own (omega arith) on in let same = asks a in omega arith;
      sent = λ q differ. set-off m p (get_or m p 0 + 1) q (λ same. differ (sym same));
      asked = λ q a differ a_in. refl;
    }

-- both lists count one more at the same position
more-alike : (m n : List ℕ) (i j : ℕ) → length m ≡ length n → i < length m → get_or m i 0 ≡ get_or n i 0 → get_or m j 0 ≡ get_or n j 0 → get_or (one_more m i) j 0 ≡ get_or (one_more n i) j 0
more-alike m n i j size within here there = at_or_off i j
    (λ same.
    let x = set-at m i (get_or m i 0 + 1) j within same in
    let y = set-at n i (get_or n i 0 + 1) j (omega arith) same in
    omega arith)
    (λ off.
    let x = set-off m i (get_or m i 0 + 1) j off in
    let y = set-off n i (get_or n i 0 + 1) j off in
    omega arith)

outcome-same : (own full shared : Bool) (b : BookTerms) (xs m k ys n l : List ℕ) (p f : ℕ) (ts : List TargetPair) → is_owner b p f ≡ own
    → IsFit b (ledger_of b xs m k) → IsFit b (ledger_of b ys n l) → AreAlike b p (ledger_of b xs m k) (ledger_of b ys n l) → p < b.processes → f < length b.accounts → AreTargetsOn (length b.accounts) ts
    → (is_owner b p f ≡ true → amount_of ts ≤ get_or xs f 0) → (is_owner b p f ≡ true → amount_of ts ≤ get_or ys f 0)
    → AreSame b p (ledger_of b xs m k) (ledger_of b ys n l) (outcome own full shared b xs m k p f ts) (outcome own full shared b ys n l p f ts)
unfolding outcome
outcome-same false full shared b xs m k ys n l p f ts own fit fit_y alike p_in f_in are enough enough_y = record { cross = λ a. omega arith; alike = alike }
outcome-same true true shared b xs m k ys n l p f ts own fit fit_y alike p_in f_in are enough enough_y = record { cross = λ a. omega arith; alike = alike }
outcome-same true false true b xs m k ys n l p f ts own fit fit_y alike p_in f_in are enough enough_y =
    let size = fit.balances in
    let on : AreTargetsOn (length xs) ts = rw size are in
    let place : asked_position b p f < b.processes * length b.accounts = position-in (length b.accounts) b.processes p f p_in f_in in
    let within : asked_position b p f < length k = rw fit.asked place in
    record {
      cross = λ a. moved-cross xs ys f ts a (size ∙ sym fit_y.balances) (omega arith) on (enough own) (enough_y own);
      alike = record {
        sent = alike.sent;
        asked = λ a a_in. more-alike k l (asked_position b p f) (asked_position b p a) (fit.asked ∙ sym fit_y.asked) within (alike.asked f f_in) (alike.asked a a_in);
      };
    }
outcome-same true false false b xs m k ys n l p f ts own fit fit_y alike p_in f_in are enough enough_y =
    let size = fit.balances in
    let on : AreTargetsOn (length xs) ts = rw size are in
    let sents = fit.sent in
    record {
      cross = λ a. moved-cross xs ys f ts a (size ∙ sym fit_y.balances) (omega arith) on (enough own) (enough_y own);
      alike = record {
        sent = more-alike m n p p (sents ∙ sym fit_y.sent) (omega arith) alike.sent alike.sent;
        asked = alike.asked;
      };
    }

outcome-reply : (own full shared : Bool) (b : BookTerms) (xs m k ys n l : List ℕ) (p f : ℕ) (ts : List TargetPair)
    → (outcome own full shared b xs m k p f ts).reply ≡ (outcome own full shared b ys n l p f ts).reply
unfolding outcome
outcome-reply false full shared b xs m k ys n l p f ts = refl
outcome-reply true true shared b xs m k ys n l p f ts = refl
outcome-reply true false true b xs m k ys n l p f ts = refl
outcome-reply true false false b xs m k ys n l p f ts = refl

outcome-pays : (own full shared : Bool) (b : BookTerms) (xs m k : List ℕ) (p f : ℕ) (ts : List TargetPair) (v : ℕ) → (outcome own full shared b xs m k p f ts).reply ≡ Balance v → ⊥
unfolding outcome
outcome-pays false full shared b xs m k p f ts v is = cc
outcome-pays true true shared b xs m k p f ts v is = cc
outcome-pays true false true b xs m k p f ts v is = cc
outcome-pays true false false b xs m k p f ts v is = cc

outcome-touch : (own full shared : Bool) (b : BookTerms) (xs m k : List ℕ) (p f : ℕ) (ts : List TargetPair) (a : ℕ)
    → (get_or (outcome own full shared b xs m k p f ts).ledger.balances a 0 ≡ get_or xs a 0) ⊎ ((f ≡ a) ⊎ IsTarget ts a)
unfolding outcome
outcome-touch false full shared b xs m k p f ts a = inl refl
outcome-touch true true shared b xs m k p f ts a = inl refl
outcome-touch true false true b xs m k p f ts a = moved-touch xs f ts a
outcome-touch true false false b xs m k p f ts a = moved-touch xs f ts a

abbrev outcome_at : BookTerms → LedgerState → ℕ → ℕ → List TargetPair → Step
outcome_at b s p f ts = outcome (is_owner b p f) (is_full (ledger_of b s.balances s.sent s.asked) p f) (is_shared (account_of b f)) b s.balances s.sent s.asked p f ts

fit-of : (b : BookTerms) (s : LedgerState) → IsFit b s → IsFit b (ledger_of b s.balances s.sent s.asked)
fit-of b s fit = record { book = refl; balances = fit.balances; sent = fit.sent; asked = fit.asked }

full-alike : (b : BookTerms) (p f : ℕ) (s u : LedgerState) → f < length b.accounts → AreAlike b p s u
    → is_full (ledger_of b s.balances s.sent s.asked) p f ≡ is_full (ledger_of b u.balances u.sent u.asked) p f
full-alike b p f s u f_in alike = rw (alike.sent, alike.asked f f_in) refl

-- the same pay-out at two ledgers
record PaysSame (b : BookTerms) (p : ℕ) (s u : LedgerState) (x y : Step) : Type 0 where
  same : AreSame b p s u x y
  reply : x.reply ≡ y.reply
  pays : (v : ℕ) → x.reply ≡ Balance v → ⊥

one-target : (n to amount : ℕ) → to < n → AreTargetsOn n ((to, amount) ∷ [])
one-target n to amount within = All-cons (λ (t : TargetPair). t.0 < n) (to, amount) [] within (All-nil (λ (t : TargetPair). t.0 < n))

-- the replies at the two ledgers: a read has the balance of each, a payment the same reply, which is no balance
unfoldable pub AreReplies : Call → LedgerState → LedgerState → Reply → Reply → Type 0
AreReplies (Transfer from to amount) s u x y = (x ≡ y) × ((v : ℕ) → x ≡ Balance v → ⊥)
AreReplies (Read a) s u x y = (x ≡ Balance (get_or s.balances a 0)) × (y ≡ Balance (get_or u.balances a 0))
AreReplies (Pay from ts) s u x y = (x ≡ y) × ((v : ℕ) → x ≡ Balance v → ⊥)

-- what a pay-out of an owner does that is short
unpaid : (full shared : Bool) → BookTerms → List ℕ → List ℕ → List ℕ → ℕ → ℕ → Step
unpaid true shared b xs m k p f = record { ledger = ledger_of b xs m k; reply = Full }
unpaid false true b xs m k p f = record { ledger = ledger_of b xs m (one_more k (asked_position b p f)); reply = Short }
unpaid false false b xs m k p f = record { ledger = ledger_of b xs m k; reply = Short }

pay-unpaid : (full shared : Bool) (b : BookTerms) (xs m k : List ℕ) (p f : ℕ) (ts : List TargetPair) → is_owner b p f ≡ true → is_full (ledger_of b xs m k) p f ≡ full
    → is_shared (account_of b f) ≡ shared → nat_lt (get_or xs f 0) (amount_of ts) ≡ true → pay (ledger_of b xs m k) p f ts ≡ unpaid full shared b xs m k p f
unfolding unpaid
pay-unpaid true shared b xs m k p f ts own is_f is_s short = rw own (rw is_f refl)
pay-unpaid false true b xs m k p f ts own is_f is_s short = rw own (rw is_f (rw short (rw is_s refl)))
pay-unpaid false false b xs m k p f ts own is_f is_s short = rw own (rw is_f (rw short (rw is_s refl)))

-- the requests after a pay-out, short or not
requests_after : (own full shared : Bool) → List ℕ → ℕ → List ℕ
requests_after false full shared k i = k
requests_after true true shared k i = k
requests_after true false true k i = one_more k i
requests_after true false false k i = k

-- what any pay-out of the process counts of its room
record Counts (b : BookTerms) (p f : ℕ) (s : LedgerState) (x : Step) : Type 0 where
  sent : get_or x.ledger.sent p 0 ≤ get_or s.sent p 0 + cond (is_owner b p f && is_single (account_of b f)) 1 0
  asked : x.ledger.asked ≡ requests_after (is_owner b p f) (is_full (ledger_of b s.balances s.sent s.asked) p f) (is_shared (account_of b f)) s.asked (asked_position b p f)

pub alone-single : (b : BookTerms) (p f : ℕ) → is_owner b p f ≡ true → is_shared (account_of b f) ≡ false → is_single (account_of b f) ≡ true
alone-single b p f own alone =
    let owners : List ℕ = (account_of b f).owners in
    let some = owned owners p own in
    let few : length owners < 2 = not-shared (length owners) alone in
    eq-eqb (length owners) 1 (omega arith)

outcome-sent : (own full shared : Bool) (b : BookTerms) (xs m k : List ℕ) (p f : ℕ) (ts : List TargetPair) → is_owner b p f ≡ own → is_shared (account_of b f) ≡ shared → p < length m
    → get_or (outcome own full shared b xs m k p f ts).ledger.sent p 0 ≤ get_or m p 0 + cond (is_owner b p f && is_single (account_of b f)) 1 0
unfolding outcome
outcome-sent false full shared b xs m k p f ts own is_s within = omega arith
outcome-sent true true shared b xs m k p f ts own is_s within = omega arith
outcome-sent true false true b xs m k p f ts own is_s within = omega arith
outcome-sent true false false b xs m k p f ts own is_s within =
    let more = set-at m p (get_or m p 0 + 1) p within refl in
    rw (own, alone-single b p f own is_s) (omega arith)

outcome-asked : (own full shared : Bool) (b : BookTerms) (xs m k : List ℕ) (p f : ℕ) (ts : List TargetPair)
    → (outcome own full shared b xs m k p f ts).ledger.asked ≡ requests_after own full shared k (asked_position b p f)
unfolding outcome requests_after
outcome-asked false full shared b xs m k p f ts = refl
outcome-asked true true shared b xs m k p f ts = refl
outcome-asked true false true b xs m k p f ts = refl
outcome-asked true false false b xs m k p f ts = refl

unpaid-counts : (full shared : Bool) (b : BookTerms) (s : LedgerState) (p f : ℕ) → is_owner b p f ≡ true → is_full (ledger_of b s.balances s.sent s.asked) p f ≡ full
    → is_shared (account_of b f) ≡ shared → Counts b p f s (unpaid full shared b s.balances s.sent s.asked p f)
unfolding unpaid requests_after
unpaid-counts true shared b s p f own is_f is_s = record { sent = omega arith; asked = rw (own, is_f) refl }
unpaid-counts false true b s p f own is_f is_s = record { sent = omega arith; asked = rw (own, is_f, is_s) refl }
unpaid-counts false false b s p f own is_f is_s = record { sent = omega arith; asked = rw (own, is_f, is_s) refl }

unpaid-keeps : (full shared : Bool) (b : BookTerms) (c : Call) (xs m k : List ℕ) (p f : ℕ) → IsFit b (ledger_of b xs m k) → f < length b.accounts
    → Keeps b p c (ledger_of b xs m k) (unpaid full shared b xs m k p f)
unfolding unpaid
unpaid-keeps true shared b c xs m k p f fit f_in = record { fit = fit; total = refl; fall = λ a. omega arith; sent = λ q differ. refl; asked = λ q a differ a_in. refl }
unpaid-keeps false true b c xs m k p f fit f_in = record {
  fit = fits-one b xs m (one_more k (asked_position b p f)) fit.balances fit.sent (length-set k (asked_position b p f) (get_or k (asked_position b p f) 0 + 1) ∙ fit.asked);
  total = refl;
  fall = λ a. omega arith;
  sent = λ q differ. refl;
  asked = λ q a differ a_in. set-off k (asked_position b p f) (get_or k (asked_position b p f) 0 + 1) (asked_position b q a) (position-other (length b.accounts) p q a f a_in f_in differ);
}
unpaid-keeps false false b c xs m k p f fit f_in = record { fit = fit; total = refl; fall = λ a. omega arith; sent = λ q differ. refl; asked = λ q a differ a_in. refl }

abbrev unpaid_at : BookTerms → LedgerState → ℕ → ℕ → Step
unpaid_at b s p f = unpaid (is_full (ledger_of b s.balances s.sent s.asked) p f) (is_shared (account_of b f)) b s.balances s.sent s.asked p f

-- an owner's pay-out is short, or it is what it is where the balance covers it
pay-cases : (P : Step → Type 0) (b : BookTerms) (p f : ℕ) (ts : List TargetPair) (s : LedgerState) → IsFit b s → (is_owner b p f ≡ true → P (unpaid_at b s p f))
    → ((is_owner b p f ≡ true → amount_of ts ≤ get_or s.balances f 0) → P (outcome_at b s p f ts)) → P (pay s p f ts)
pay-cases P b p f ts s fit short covered = ⊎_elim is_short isnt_short (cases_Bool (own && less))
  where
    own : Bool
    own = is_owner b p f

    less : Bool
    less = nat_lt (get_or s.balances f 0) (amount_of ts)

    is : pay s p f ts ≡ pay (ledger_of b s.balances s.sent s.asked) p f ts
    is = ap (λ (v : LedgerState). pay v p f ts) (ledger-is b s fit.book)

    is_short : (own && less) ≡ true → P (pay s p f ts)
    is_short both =
        let parts = and_parts own less both in
        subst P (sym (is ∙ pay-unpaid (is_full (ledger_of b s.balances s.sent s.asked) p f) (is_shared (account_of b f)) b s.balances s.sent s.asked p f ts parts.0 refl refl parts.1))
        (short parts.0)

    isnt_short : (own && less) ≡ false → P (pay s p f ts)
    isnt_short none =
        let enough : own ≡ true → less ≡ false = λ o. sym (ap (λ (x : Bool). x && less) o) ∙ none in
        subst P (sym (is ∙ pay-is own (is_full (ledger_of b s.balances s.sent s.asked) p f) (is_shared (account_of b f)) b s.balances s.sent s.asked p f ts refl refl refl enough))
        (covered (λ o. covers (enough o)))
      where
        covers : less ≡ false → amount_of ts ≤ get_or s.balances f 0
        covers not_less = ⊎_elim (λ lt. absurd (let wrong = (Decides-ltb (get_or s.balances f 0) (amount_of ts)).1 lt in cc)) (λ more. more) (cases_lt (get_or s.balances f 0) (amount_of ts))

pay-counts : (b : BookTerms) (p f : ℕ) (ts : List TargetPair) (s : LedgerState) → p < b.processes → IsFit b s → Counts b p f s (pay s p f ts)
pay-counts b p f ts s p_in fit = pay-cases (Counts b p f s) b p f ts s fit
    (λ own. unpaid-counts (is_full (ledger_of b s.balances s.sent s.asked) p f) (is_shared (account_of b f)) b s p f own refl refl)
    (λ enough. record {
      sent = outcome-sent (is_owner b p f) (is_full (ledger_of b s.balances s.sent s.asked) p f) (is_shared (account_of b f)) b s.balances s.sent s.asked p f ts refl refl
          (let size = fit.sent in omega arith);
      asked = outcome-asked (is_owner b p f) (is_full (ledger_of b s.balances s.sent s.asked) p f) (is_shared (account_of b f)) b s.balances s.sent s.asked p f ts;
    })

pay-keeps : (b : BookTerms) (p f : ℕ) (ts : List TargetPair) (c : Call) (s : LedgerState) → ((a : ℕ) → asked_by_call b p a c ≡ asked_by_pay b p a f ts) → f < length b.accounts
    → AreTargetsOn (length b.accounts) ts → IsFit b s → Keeps b p c s (pay s p f ts)
pay-keeps b p f ts c s asks f_in are fit = pay-cases (Keeps b p c s) b p f ts s fit
    (λ own. of (unpaid_at b s p f) (unpaid-keeps (is_full (ledger_of b s.balances s.sent s.asked) p f) (is_shared (account_of b f)) b c s.balances s.sent s.asked p f (fit-of b s fit) f_in))
    (λ enough. of (outcome_at b s p f ts) (outcome-keeps (is_owner b p f) (is_full (ledger_of b s.balances s.sent s.asked) p f) (is_shared (account_of b f)) b c s.balances s.sent s.asked
    p f ts asks refl (fit-of b s fit) f_in are enough))
  where
    of : (x : Step) → Keeps b p c (ledger_of b s.balances s.sent s.asked) x → Keeps b p c s x
    of x k = record { fit = k.fit; total = k.total; fall = k.fall; sent = k.sent; asked = k.asked }

-- any step leaves these alone, and takes no more than its call asks
pub step-keeps : (b : BookTerms) (p : ℕ) (c : Call) (s : LedgerState) → IsCallOn (length b.accounts) c → IsFit b s → Keeps b p c s (step s p c)
step-keeps b p (Transfer from to amount) s on fit =
    pay-keeps b p from ((to, amount) ∷ []) (Transfer from to amount) s (λ a. refl) on.0 (one-target (length b.accounts) to amount on.1) fit
step-keeps b p (Read a) s on fit = record { fit = fit; total = refl; fall = λ a. omega arith; sent = λ q differ. refl; asked = λ q a differ a_in. refl }
step-keeps b p (Pay from ts) s on fit = pay-keeps b p from ts (Pay from ts) s (λ a. refl) on.0 on.1 fit

-- own room is used by a payment from an account of the process alone
pub step-sent : (b : BookTerms) (p : ℕ) (c : Call) (s : LedgerState) → p < b.processes → IsFit b s
    → get_or (step s p c).ledger.sent p 0 ≤ get_or s.sent p 0 + cond (is_own_payment b p c) 1 0
step-sent b p (Transfer from to amount) s p_in fit = (pay-counts b p from ((to, amount) ∷ []) s p_in fit).sent
step-sent b p (Read a) s p_in fit = omega arith
step-sent b p (Pay from ts) s p_in fit = (pay-counts b p from ts s p_in fit).sent

-- the process has made the same requests in both
abbrev pub AreAsked : BookTerms → ℕ → LedgerState → LedgerState → Type 0
AreAsked b p s u = (a : ℕ) → a < length b.accounts → get_or s.asked (asked_position b p a) 0 ≡ get_or u.asked (asked_position b p a) 0

requests-same : (own shared full other : Bool) (k l : List ℕ) (i j : ℕ) → (shared ≡ true → full ≡ other) → length k ≡ length l → i < length k → get_or k i 0 ≡ get_or l i 0
    → get_or k j 0 ≡ get_or l j 0 → get_or (requests_after own full shared k i) j 0 ≡ get_or (requests_after own other shared l i) j 0
unfolding requests_after
requests-same false shared full other k l i j same size within here there = there
requests-same true true true true k l i j same size within here there = there
requests-same true true false false k l i j same size within here there = more-alike k l i j size within here there
requests-same true true true false k l i j same size within here there = absurd (let wrong = same refl in cc)
requests-same true true false true k l i j same size within here there = absurd (let wrong = same refl in cc)
requests-same true false true true k l i j same size within here there = there
requests-same true false true false k l i j same size within here there = there
requests-same true false false true k l i j same size within here there = there
requests-same true false false false k l i j same size within here there = there

full-asked : (b : BookTerms) (p f : ℕ) (s : LedgerState) → is_shared (account_of b f) ≡ true
    → is_full (ledger_of b s.balances s.sent s.asked) p f ≡ (get_or s.asked (asked_position b p f) 0 == b.request_room)
full-asked b p f s shared = full-shared (ledger_of b s.balances s.sent s.asked) p f shared

pub full-same : (b : BookTerms) (p f : ℕ) (s u : LedgerState) → f < length b.accounts → AreAsked b p s u → is_shared (account_of b f) ≡ true
    → is_full (ledger_of b s.balances s.sent s.asked) p f ≡ is_full (ledger_of b u.balances u.sent u.asked) p f
full-same b p f s u f_in alike shared =
    full-asked b p f s shared ∙ (ap (λ (n : ℕ). n == b.request_room) (alike f f_in) ∙ sym (full-asked b p f u shared))

pay-asked : (b : BookTerms) (p f : ℕ) (ts : List TargetPair) (s u : LedgerState) → p < b.processes → f < length b.accounts → IsFit b s → IsFit b u
    → AreAsked b p s u → AreAsked b p (pay s p f ts).ledger (pay u p f ts).ledger
pay-asked b p f ts s u p_in f_in fit other alike a a_in =
    let x = pay-counts b p f ts s p_in fit in
    let y = pay-counts b p f ts u p_in other in
    let place = position-in (length b.accounts) b.processes p f p_in f_in in
    let size = fit.asked in
    ap (λ (k : List ℕ). get_or k (asked_position b p a) 0) x.asked
    ∙ (requests-same (is_owner b p f) (is_shared (account_of b f)) (is_full (ledger_of b s.balances s.sent s.asked) p f) (is_full (ledger_of b u.balances u.sent u.asked) p f)
    s.asked u.asked (asked_position b p f) (asked_position b p a) (full-same b p f s u f_in alike) (fit.asked ∙ sym other.asked) (omega arith) (alike f f_in) (alike a a_in)
    ∙ sym (ap (λ (k : List ℕ). get_or k (asked_position b p a) 0) y.asked))

-- so it has after the same call in both
pub step-asked : (b : BookTerms) (p : ℕ) (c : Call) (s u : LedgerState) → p < b.processes → IsCallOn (length b.accounts) c → IsFit b s → IsFit b u → AreAsked b p s u
    → AreAsked b p (step s p c).ledger (step u p c).ledger
step-asked b p (Transfer from to amount) s u p_in on fit other alike =
    pay-asked b p from ((to, amount) ∷ []) s u p_in on.0 fit other alike
step-asked b p (Read a) s u p_in on fit other alike = alike
step-asked b p (Pay from ts) s u p_in on fit other alike = pay-asked b p from ts s u p_in on.0 fit other alike

-- the reply of a pay-out that the balance covers
pub reply_by : (own full : Bool) → Reply
reply_by false full = NotOwner
reply_by true true = Full
reply_by true false = Done

pub reply_by-other : (full other : Bool) → reply_by false full ≡ reply_by false other
unfolding reply_by
reply_by-other full other = refl

pub reply_by-short : (own full : Bool) → reply_by own full ≡ Short → ⊥
unfolding reply_by
reply_by-short false full is = cc
reply_by-short true true is = cc
reply_by-short true false is = cc

outcome-reply_by : (own full shared : Bool) (b : BookTerms) (xs m k : List ℕ) (p f : ℕ) (ts : List TargetPair) → (outcome own full shared b xs m k p f ts).reply ≡ reply_by own full
unfolding outcome reply_by
outcome-reply_by false full shared b xs m k p f ts = refl
outcome-reply_by true true shared b xs m k p f ts = refl
outcome-reply_by true false true b xs m k p f ts = refl
outcome-reply_by true false false b xs m k p f ts = refl

pub pay-reply : (b : BookTerms) (p f : ℕ) (ts : List TargetPair) (s : LedgerState) → IsFit b s → (is_owner b p f ≡ true → amount_of ts ≤ get_or s.balances f 0)
    → (pay s p f ts).reply ≡ reply_by (is_owner b p f) (is_full (ledger_of b s.balances s.sent s.asked) p f)
pay-reply b p f ts s fit enough =
    let own : Bool = is_owner b p f in
    let full : Bool = is_full (ledger_of b s.balances s.sent s.asked) p f in
    let shared : Bool = is_shared (account_of b f) in
    ap (λ (v : LedgerState). (pay v p f ts).reply) (ledger-is b s fit.book)
    ∙ (ap (λ (x : Step). x.reply) (pay-is own full shared b s.balances s.sent s.asked p f ts refl refl refl (λ o. not_short (enough o)))
    ∙ outcome-reply_by own full shared b s.balances s.sent s.asked p f ts)
  where
    not_short : amount_of ts ≤ get_or s.balances f 0 → nat_lt (get_or s.balances f 0) (amount_of ts) ≡ false
    not_short more = ⊎_elim (λ less. absurd (let lt = (Decides-ltb (get_or s.balances f 0) (amount_of ts)).0 less in omega arith)) (λ is. is)
        (cases_Bool (nat_lt (get_or s.balances f 0) (amount_of ts)))

-- a source that others don't share isn't full where own room is left
pub full-own : (b : BookTerms) (p f : ℕ) (s : LedgerState) → is_shared (account_of b f) ≡ false → get_or s.sent p 0 < b.own_room
    → is_full (ledger_of b s.balances s.sent s.asked) p f ≡ false
full-own b p f s alone left = rw (alone, ne_eqb (get_or s.sent p 0) b.own_room (λ all. omega arith)) (off (is_single (account_of b f)))
  where
    off : (single : Bool) → ((single && false) || false) ≡ false
    off true = refl
    off false = refl

-- where it is short in both
unpaid-same : (full shared : Bool) (b : BookTerms) (xs m k ys n l : List ℕ) (p f : ℕ) → IsFit b (ledger_of b xs m k) → IsFit b (ledger_of b ys n l)
    → AreAlike b p (ledger_of b xs m k) (ledger_of b ys n l) → p < b.processes → f < length b.accounts
    → PaysSame b p (ledger_of b xs m k) (ledger_of b ys n l) (unpaid full shared b xs m k p f) (unpaid full shared b ys n l p f)
unfolding unpaid
unpaid-same true shared b xs m k ys n l p f fit fit_y alike p_in f_in =
    record { same = record { cross = λ a. omega arith; alike = alike }; reply = refl; pays = λ v is. cc }
unpaid-same false true b xs m k ys n l p f fit fit_y alike p_in f_in =
    let place : asked_position b p f < b.processes * length b.accounts = position-in (length b.accounts) b.processes p f p_in f_in in
    let within : asked_position b p f < length k = rw fit.asked place in
    record {
      same = record {
        cross = λ a. omega arith;
        alike = record {
          sent = alike.sent;
          asked = λ a a_in. more-alike k l (asked_position b p f) (asked_position b p a) (fit.asked ∙ sym fit_y.asked) within (alike.asked f f_in) (alike.asked a a_in);
        };
      };
      reply = refl;
      pays = λ v is. cc;
    }
unpaid-same false false b xs m k ys n l p f fit fit_y alike p_in f_in =
    record { same = record { cross = λ a. omega arith; alike = alike }; reply = refl; pays = λ v is. cc }

-- an owner's source has enough in both, or as much
abbrev pub IsEven : BookTerms → ℕ → ℕ → List TargetPair → LedgerState → LedgerState → Type 0
IsEven b p f ts s u = is_owner b p f ≡ true
    → ((amount_of ts ≤ get_or s.balances f 0) × (amount_of ts ≤ get_or u.balances f 0)) ⊎ (get_or s.balances f 0 ≡ get_or u.balances f 0)

abbrev IsCovered : BookTerms → ℕ → ℕ → List TargetPair → LedgerState → Type 0
IsCovered b p f ts s = is_owner b p f ≡ true → amount_of ts ≤ get_or s.balances f 0

not-less : (n m : ℕ) → m ≤ n → nat_lt n m ≡ false
not-less n m more = ⊎_elim (λ less. absurd (let lt = (Decides-ltb n m).0 less in omega arith)) (λ is. is) (cases_Bool (nat_lt n m))

covered-is : (b : BookTerms) (p f : ℕ) (ts : List TargetPair) (s : LedgerState) → IsFit b s → IsCovered b p f ts s → pay s p f ts ≡ outcome_at b s p f ts
covered-is b p f ts s fit covered =
    ap (λ (v : LedgerState). pay v p f ts) (ledger-is b s fit.book)
    ∙ pay-is (is_owner b p f) (is_full (ledger_of b s.balances s.sent s.asked) p f) (is_shared (account_of b f)) b s.balances s.sent s.asked p f ts refl refl refl
    (λ own. not-less (get_or s.balances f 0) (amount_of ts) (covered own))

short-is : (b : BookTerms) (p f : ℕ) (ts : List TargetPair) (s : LedgerState) → IsFit b s → is_owner b p f ≡ true → nat_lt (get_or s.balances f 0) (amount_of ts) ≡ true → pay s p f ts ≡ unpaid_at b s p f
short-is b p f ts s fit own short =
    ap (λ (v : LedgerState). pay v p f ts) (ledger-is b s fit.book)
    ∙ pay-unpaid (is_full (ledger_of b s.balances s.sent s.asked) p f) (is_shared (account_of b f)) b s.balances s.sent s.asked p f ts own refl refl short

pay-even : (b : BookTerms) (p f : ℕ) (ts : List TargetPair) (s u : LedgerState) → p < b.processes → f < length b.accounts → AreTargetsOn (length b.accounts) ts → IsFit b s → IsFit b u
    → AreAlike b p s u → IsEven b p f ts s u → PaysSame b p s u (pay s p f ts) (pay u p f ts)
pay-even b p f ts s u p_in f_in are fit other alike even = by (is_owner b p f) refl
  where
    own : Bool
    own = is_owner b p f

    full : Bool
    full = is_full (ledger_of b u.balances u.sent u.asked) p f

    shared : Bool
    shared = is_shared (account_of b f)

    room : is_full (ledger_of b s.balances s.sent s.asked) p f ≡ full
    room = full-alike b p f s u f_in alike

    of : (x y : Step) → PaysSame b p (ledger_of b s.balances s.sent s.asked) (ledger_of b u.balances u.sent u.asked) x y → PaysSame b p s u x y
    of x y both = record { same = record { cross = both.same.cross; alike = both.same.alike }; reply = both.reply; pays = both.pays }

    covered : IsCovered b p f ts s → IsCovered b p f ts u → PaysSame b p s u (pay s p f ts) (pay u p f ts)
    covered here there =
        let first : pay s p f ts ≡ outcome own full shared b s.balances s.sent s.asked p f ts =
        covered-is b p f ts s fit here ∙ ap (λ (t : Bool). outcome own t shared b s.balances s.sent s.asked p f ts) room in
        let second : pay u p f ts ≡ outcome own full shared b u.balances u.sent u.asked p f ts = covered-is b p f ts u other there in
        let same = outcome-same own full shared b s.balances s.sent s.asked u.balances u.sent u.asked p f ts refl (fit-of b s fit) (fit-of b u other)
        (record { sent = alike.sent; asked = alike.asked }) p_in f_in are here there in
        subst (λ (x : Step). PaysSame b p s u x (pay u p f ts)) (sym first)
        (subst (PaysSame b p s u (outcome own full shared b s.balances s.sent s.asked p f ts)) (sym second) (record {
          same = record { cross = same.cross; alike = same.alike };
          reply = outcome-reply own full shared b s.balances s.sent s.asked u.balances u.sent u.asked p f ts;
          pays = outcome-pays own full shared b s.balances s.sent s.asked p f ts;
        }))

    short : own ≡ true → nat_lt (get_or s.balances f 0) (amount_of ts) ≡ true → nat_lt (get_or u.balances f 0) (amount_of ts) ≡ true → PaysSame b p s u (pay s p f ts) (pay u p f ts)
    short is here there =
        let first : pay s p f ts ≡ unpaid full shared b s.balances s.sent s.asked p f =
        short-is b p f ts s fit is here ∙ ap (λ (t : Bool). unpaid t shared b s.balances s.sent s.asked p f) room in
        let second : pay u p f ts ≡ unpaid full shared b u.balances u.sent u.asked p f = short-is b p f ts u other is there in
        subst (λ (x : Step). PaysSame b p s u x (pay u p f ts)) (sym first)
        (subst (PaysSame b p s u (unpaid full shared b s.balances s.sent s.asked p f)) (sym second)
        (of (unpaid full shared b s.balances s.sent s.asked p f) (unpaid full shared b u.balances u.sent u.asked p f)
        (unpaid-same full shared b s.balances s.sent s.asked u.balances u.sent u.asked p f (fit-of b s fit) (fit-of b u other) (record { sent = alike.sent; asked = alike.asked }) p_in f_in)))

    as-much : own ≡ true → get_or s.balances f 0 ≡ get_or u.balances f 0 → (t : Bool) → nat_lt (get_or s.balances f 0) (amount_of ts) ≡ t → PaysSame b p s u (pay s p f ts) (pay u p f ts)
    as-much is same true less = short is less (sym (ap (λ (n : ℕ). nat_lt n (amount_of ts)) same) ∙ less)
    as-much is same false less =
        let enough : amount_of ts ≤ get_or s.balances f 0 =
        ⊎_elim (λ lt. absurd (let wrong = (Decides-ltb (get_or s.balances f 0) (amount_of ts)).1 lt in cc)) (λ more. more) (cases_lt (get_or s.balances f 0) (amount_of ts)) in
        covered (λ o. enough) (λ o. omega arith)

    by : (t : Bool) → own ≡ t → PaysSame b p s u (pay s p f ts) (pay u p f ts)
    by false is = covered (λ o. absurd (cc)) (λ o. absurd (cc))
    by true is = ⊎_elim (λ both. covered (λ o. both.0) (λ o. both.1)) (λ same. as-much is same (nat_lt (get_or s.balances f 0) (amount_of ts)) refl) (even is)

-- so has the source of the call, if it is a payment
abbrev pub IsEvenCall : BookTerms → ℕ → Call → LedgerState → LedgerState → Type 0
IsEvenCall b p c s u = (f : ℕ) (ts : List TargetPair) → payout_of c ≡ Some (f, ts) → IsEven b p f ts s u

-- it does the same at two ledgers where the process has used the same room
pub step-even : (b : BookTerms) (p : ℕ) (c : Call) (s u : LedgerState) → p < b.processes → IsCallOn (length b.accounts) c → IsFit b s → IsFit b u → AreAlike b p s u → IsEvenCall b p c s u
    → AreSame b p s u (step s p c) (step u p c)
step-even b p (Transfer from to amount) s u p_in on fit other alike even =
    (pay-even b p from ((to, amount) ∷ []) s u p_in on.0 (one-target (length b.accounts) to amount on.1) fit other alike (even from ((to, amount) ∷ []) refl)).same
step-even b p (Read a) s u p_in on fit other alike even = record { cross = λ a. omega arith; alike = alike }
step-even b p (Pay from ts) s u p_in on fit other alike even = (pay-even b p from ts s u p_in on.0 on.1 fit other alike (even from ts refl)).same

pub replies-even : (b : BookTerms) (p : ℕ) (c : Call) (s u : LedgerState) → p < b.processes → IsCallOn (length b.accounts) c → IsFit b s → IsFit b u → AreAlike b p s u → IsEvenCall b p c s u
    → AreReplies c s u (step s p c).reply (step u p c).reply
unfolding AreReplies
replies-even b p (Transfer from to amount) s u p_in on fit other alike even =
    let both = pay-even b p from ((to, amount) ∷ []) s u p_in on.0 (one-target (length b.accounts) to amount on.1) fit other alike (even from ((to, amount) ∷ []) refl) in
    (both.reply, both.pays)
replies-even b p (Read a) s u p_in on fit other alike even = (refl, refl)
replies-even b p (Pay from ts) s u p_in on fit other alike even = let both = pay-even b p from ts s u p_in on.0 on.1 fit other alike (even from ts refl) in (both.reply, both.pays)

-- a pay-out changes the accounts alone that it names, and those only of an owner
record Changed (b : BookTerms) (p f : ℕ) (ts : List TargetPair) (a : ℕ) : Type 0 where
  owns : is_owner b p f ≡ true
  names : (f ≡ a) ⊎ IsTarget ts a

outcome-changes : (own full shared : Bool) (b : BookTerms) (xs m k : List ℕ) (p f : ℕ) (ts : List TargetPair) (a : ℕ) → is_owner b p f ≡ own
    → (get_or (outcome own full shared b xs m k p f ts).ledger.balances a 0 ≡ get_or xs a 0) ⊎ Changed b p f ts a
unfolding outcome
outcome-changes false full shared b xs m k p f ts a own = inl refl
outcome-changes true full shared b xs m k p f ts a own = ⊎_elim (λ still. inl still) (λ names. inr (record { owns = own; names = names })) (outcome-touch true full shared b xs m k p f ts a)

unpaid-still : (full shared : Bool) (b : BookTerms) (xs m k : List ℕ) (p f a : ℕ) → get_or (unpaid full shared b xs m k p f).ledger.balances a 0 ≡ get_or xs a 0
unfolding unpaid
unpaid-still true shared b xs m k p f a = refl
unpaid-still false true b xs m k p f a = refl
unpaid-still false false b xs m k p f a = refl

pay-changes : (b : BookTerms) (p f : ℕ) (ts : List TargetPair) (s : LedgerState) (a : ℕ) → IsFit b s → (get_or (pay s p f ts).ledger.balances a 0 ≡ get_or s.balances a 0) ⊎ Changed b p f ts a
pay-changes b p f ts s a fit = pay-cases (λ (x : Step). (get_or x.ledger.balances a 0 ≡ get_or s.balances a 0) ⊎ Changed b p f ts a) b p f ts s fit
    (λ own. inl (unpaid-still (is_full (ledger_of b s.balances s.sent s.asked) p f) (is_shared (account_of b f)) b s.balances s.sent s.asked p f a))
    (λ covered. outcome-changes (is_owner b p f) (is_full (ledger_of b s.balances s.sent s.asked) p f) (is_shared (account_of b f)) b s.balances s.sent s.asked p f ts a refl)

-- a step changes the accounts alone that a payment of an owner names
pub step-changes : (b : BookTerms) (p : ℕ) (c : Call) (s : LedgerState) (a : ℕ) → IsFit b s → (get_or (step s p c).ledger.balances a 0 ≡ get_or s.balances a 0) ⊎ PaysAt b p a c
unfolding Names
step-changes b p (Transfer from to amount) s a fit = ⊎_elim (λ still. inl still)
    (λ changed. inr (record { source = from; targets = (to, amount) ∷ []; pays = refl; owns = changed.owns; names = changed.names }))
    (pay-changes b p from ((to, amount) ∷ []) s a fit)
step-changes b p (Read d) s a fit = inl refl
step-changes b p (Pay from ts) s a fit = ⊎_elim (λ still. inl still)
    (λ changed. inr (record { source = from; targets = ts; pays = refl; owns = changed.owns; names = changed.names }))
    (pay-changes b p from ts s a fit)
