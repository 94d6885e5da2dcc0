-- What a call of one process leaves to another: all its room, and where neither moves, the balances too.
use Rattle.std.proofs.Common.{◌≡◌, ◌≢◌, ℕ, ◌+◌, ◌<◌, ◌≤◌, ◌==◌, ◌&&◌, ◌||◌, Bool, true, false, cond, List, [], ◌∷◌, length, get_or, set, refl, sym, ap, subst, ◌∙◌, arith, inl, inr}
use Rattle.std.specs.Prelude.{Some}
use Rattle.at_journal.proofs.Prelude.{cases_Bool, cases_lt, get_or-set_other, set_comm, same_from_place, is_shared, is_single, BookTerms, account_of, is_owner, TargetPair, amount_of, payout_of, LedgerState, Step, after_done, after_short, asked_of, asked_position, balance_of, counted, is_full, moved, pay, step, with_asked, with_sent, Call, Transfer, Read, Pay, Reply, Done, Short, NotOwner, Full, Balance, pay-done, after_short-shared, after_short-single, pay-full, pay-not_owner, pay-short, step-payout, is_success}
use Rattle.at_journal.proofs.StillLaws.{owner_within}

-- whether a call that is answered so has no place
abbrev pub lacks_place : Reply → Bool
lacks_place Done = false
lacks_place Short = false
lacks_place NotOwner = true
lacks_place Full = true
lacks_place (Balance amount) = false

-- a process has the same room in both states
pub record SameRoom (s t : LedgerState) (p : ℕ) : Type 0 where
  pub book : t.book ≡ s.book
  pub full : (a : ℕ) → is_owner s.book p a ≡ true → is_full t p a ≡ is_full s p a

pub SameRoom-refl : (s : LedgerState) (p : ℕ) → SameRoom s s p
SameRoom-refl s p = record { book = refl; full = λ a owner. refl }

pub SameRoom-sym : (s t : LedgerState) (p : ℕ) → SameRoom s t p → SameRoom t s p
SameRoom-sym s t p same = record {
  book = sym same.book;
  full = λ a owner. sym (same.full a (ap (λ b. is_owner b p a) (sym same.book) ∙ owner));
}

-- the cases of a call, and those of a pay-out
data Asks (call : Call) : Type 0 where
  reads : (account : ℕ) → call ≡ Read account → Asks call
  pays : (source : ℕ) (targets : List TargetPair) → payout_of call ≡ Some (source, targets) → Asks call

asks : (call : Call) → Asks call
asks (Transfer from to amount) = pays from ((to, amount) ∷ []) refl
asks (Read account) = reads account refl
asks (Pay from targets) = pays from targets refl

data Paid (s : LedgerState) (p source : ℕ) (targets : List TargetPair) : Type 0 where
  not_owner : is_owner s.book p source ≡ false → Paid s p source targets
  full : is_owner s.book p source ≡ true → is_full s p source ≡ true → Paid s p source targets
  short : is_owner s.book p source ≡ true → is_full s p source ≡ false → balance_of s source < amount_of targets → Paid s p source targets
  done : is_owner s.book p source ≡ true → is_full s p source ≡ false → amount_of targets ≤ balance_of s source → Paid s p source targets

paid : (s : LedgerState) (p source : ℕ) (targets : List TargetPair) → Paid s p source targets
paid s p source targets =
    elim (cases_Bool (is_owner s.book p source)) as (λ _. Paid s p source targets) [
      | inr other ↦ not_owner other
      | inl owner ↦
          elim (cases_Bool (is_full s p source)) as (λ _. Paid s p source targets) [
            | inl used ↦ full owner used
            | inr room ↦
                elim (cases_lt (balance_of s source) (amount_of targets)) as (λ _. Paid s p source targets) [
                  | inl less ↦ short owner room less
                  | inr enough ↦ done owner room enough
                ]
          ]
    ]

-- places of two processes differ
asked-apart : (b : BookTerms) (p q a e : ℕ) → p ≢ q → is_owner b p a ≡ true → is_owner b q e ≡ true → asked_position b p a ≢ asked_position b q e
asked-apart b p q a e apart mine theirs same =
    apart (same_from_place p a q e (length b.accounts) (owner_within b p a mine) (owner_within b q e theirs) same).0

-- a request of one process takes no room of another
SameRoom-with_asked : (s : LedgerState) (p q e : ℕ) → p ≢ q → is_owner s.book q e ≡ true → SameRoom s (with_asked s q e) p
SameRoom-with_asked s p q e apart theirs = record {
  book = refl;
  full = λ a mine.
      ap (λ n. (is_single (account_of s.book a) && (get_or s.sent p 0 == s.book.own_room)) || (is_shared (account_of s.book a) && (n == s.book.request_room)))
      (get_or-set_other s.asked (asked_position s.book q e) (asked_position s.book p a) (asked_of s q e + 1) 0 (asked-apart s.book p q a e apart mine theirs));
}

SameRoom-with_sent : (s : LedgerState) (p q : ℕ) → p ≢ q → SameRoom s (with_sent s q) p
SameRoom-with_sent s p q apart = record {
  book = refl;
  full = λ a mine.
      ap (λ n. (is_single (account_of s.book a) && (n == s.book.own_room)) || (is_shared (account_of s.book a) && (asked_of s p a == s.book.request_room)))
      (get_or-set_other s.sent q p (get_or s.sent q 0 + 1) 0 apart);
}

-- a move takes no room
SameRoom-moved : (s t : LedgerState) (p source : ℕ) (targets : List TargetPair) → SameRoom (moved s source targets) t p → SameRoom s t p
SameRoom-moved s t p source targets same = record { book = same.book; full = same.full }

-- what a process does takes no room of another
pub SameRoom-step : (s : LedgerState) (p q : ℕ) (call : Call) → p ≢ q → SameRoom s (step s q call).ledger p
SameRoom-step s p q call apart = of_call (asks call)
  where
    Goal : Step → Type 0
    Goal x = SameRoom s x.ledger p

    of_short : (source : ℕ) → is_owner s.book q source ≡ true → SameRoom s (after_short s q source) p
    of_short source owner =
        elim (cases_Bool (is_shared (account_of s.book source))) as (λ _. SameRoom s (after_short s q source) p) [
          | inl shared ↦ subst (λ t. SameRoom s t p) (sym (after_short-shared s q source [] shared)) (SameRoom-with_asked s p q source apart owner)
          | inr single ↦ subst (λ t. SameRoom s t p) (sym (after_short-single s q source [] single)) (SameRoom-refl s p)
        ]

    of_counted : (t : LedgerState) (source : ℕ) → is_owner t.book q source ≡ true → SameRoom t (counted t q source) p
    of_counted t source owner =
        elim (cases_Bool (is_shared (account_of t.book source))) as (λ _. SameRoom t (counted t q source) p) [
          | inl shared ↦
              subst (λ u. SameRoom t u p) (sym (ap (λ (k : Bool). cond k (with_asked t q source) (with_sent t q)) shared)) (SameRoom-with_asked t p q source apart owner)
          | inr single ↦
              subst (λ u. SameRoom t u p) (sym (ap (λ (k : Bool). cond k (with_asked t q source) (with_sent t q)) single)) (SameRoom-with_sent t p q apart)
        ]

    of_pay : (source : ℕ) (targets : List TargetPair) → Paid s q source targets → SameRoom s (pay s q source targets).ledger p
    of_pay source targets (not_owner other) = subst Goal (sym (pay-not_owner s q source targets other)) (SameRoom-refl s p)
    of_pay source targets (full owner used) = subst Goal (sym (pay-full s q source targets owner used)) (SameRoom-refl s p)
    of_pay source targets (short owner room less) = subst Goal (sym (pay-short s q source targets owner room less)) (of_short source owner)
    of_pay source targets (done owner room enough) =
        subst Goal (sym (pay-done s q source targets owner room enough))
        (SameRoom-moved s (after_done s q source targets) p source targets (of_counted (moved s source targets) source owner))

    of_call : Asks call → SameRoom s (step s q call).ledger p
    of_call (reads account is) = subst Goal (sym (ap (step s q) is)) (SameRoom-refl s p)
    of_call (pays source targets is) = subst Goal (sym (step-payout s q source targets call is)) (of_pay source targets (paid s q source targets))

-- a call without a place is answered the same in each state with the same room, and leaves it
pub step-lacks_place : (s t : LedgerState) (p : ℕ) (call : Call) → SameRoom s t p → lacks_place (step t p call).reply ≡ true
    → step s p call ≡ record { ledger = s; reply = (step t p call).reply }
step-lacks_place s t p call same is = of_call (asks call)
  where
    told : (x y : Step) → x ≡ y → (lacks_place x.reply ≡ true) → lacks_place y.reply ≡ true
    told x y e so = ap (λ (z : Step). lacks_place z.reply) (sym e) ∙ so

    owned : (source : ℕ) (k : Bool) → is_owner t.book p source ≡ k → is_owner s.book p source ≡ k
    owned source k e = ap (λ b. is_owner b p source) (sym same.book) ∙ e

    finish : (reply : Reply) (x y : Step) → x ≡ record { ledger = s; reply = reply } → y ≡ record { ledger = t; reply = reply }
        → x ≡ record { ledger = s; reply = y.reply }
    finish reply x y here there = here ∙ (λ i. record { ledger = s; reply = (sym there i).reply })

    of_pay : (source : ℕ) (targets : List TargetPair) → lacks_place (pay t p source targets).reply ≡ true → Paid t p source targets
        → pay s p source targets ≡ record { ledger = s; reply = (pay t p source targets).reply }
    of_pay source targets so (not_owner other) =
        finish NotOwner (pay s p source targets) (pay t p source targets) (pay-not_owner s p source targets (owned source false other)) (pay-not_owner t p source targets other)
    of_pay source targets so (full owner used) =
        let mine = owned source true owner in
        finish Full (pay s p source targets) (pay t p source targets) (pay-full s p source targets mine (sym (same.full source mine) ∙ used)) (pay-full t p source targets owner used)
    of_pay source targets so (short owner room less) =
        let e = pay-short t p source targets owner room less in
        absurd (cc (told (pay t p source targets) (record { ledger = after_short t p source; reply = Short }) e so))
    of_pay source targets so (done owner room enough) =
        let e = pay-done t p source targets owner room enough in
        absurd (cc (told (pay t p source targets) (record { ledger = after_done t p source targets; reply = Done }) e so))

    of_call : Asks call → step s p call ≡ record { ledger = s; reply = (step t p call).reply }
    of_call (reads account e) =
        absurd (cc (told (step t p call) (record { ledger = t; reply = Balance (balance_of t account) }) (ap (step t p) e) is))
    of_call (pays source targets e) =
        let here = step-payout s p source targets call e in
        let there = step-payout t p source targets call e in
        here ∙ (of_pay source targets (told (step t p call) (pay t p source targets) there is) (paid t p source targets)
        ∙ (λ i. record { ledger = s; reply = (sym there i).reply }))

-- a call that doesn't move is answered the same in both states, and leaves each, or counts a request in each
pub data Unmoved (s t : LedgerState) (p : ℕ) (call : Call) : Type 0 where
  left : (reply : Reply) → step s p call ≡ record { ledger = s; reply = reply } → step t p call ≡ record { ledger = t; reply = reply } → Unmoved s t p call
  asked : (a : ℕ) → is_owner s.book p a ≡ true → step s p call ≡ record { ledger = with_asked s p a; reply = Short }
      → step t p call ≡ record { ledger = with_asked t p a; reply = Short } → Unmoved s t p call

pub Unmoved-step : (s t : LedgerState) (p : ℕ) (call : Call) → SameRoom s t p → t.balances ≡ s.balances → is_success (step t p call).reply ≡ false
    → Unmoved s t p call
Unmoved-step s t p call same money is = of_call (asks call)
  where
    owned : (source : ℕ) (k : Bool) → is_owner s.book p source ≡ k → is_owner t.book p source ≡ k
    owned source k e = ap (λ b. is_owner b p source) same.book ∙ e

    of_short : (source : ℕ) (targets : List TargetPair) → is_owner s.book p source ≡ true
        → step s p call ≡ record { ledger = after_short s p source; reply = Short }
        → step t p call ≡ record { ledger = after_short t p source; reply = Short } → Unmoved s t p call
    of_short source targets owner here there =
        elim (cases_Bool (is_shared (account_of s.book source))) as (λ _. Unmoved s t p call) [
          | inl shared ↦
              asked source owner (here ∙ (λ i. record { ledger = after_short-shared s p source targets shared i; reply = Short }))
              (there ∙ (λ i. record { ledger = after_short-shared t p source targets (ap (λ b. is_shared (account_of b source)) same.book ∙ shared) i; reply = Short }))
          | inr single ↦
              left Short (here ∙ (λ i. record { ledger = after_short-single s p source targets single i; reply = Short }))
              (there ∙ (λ i. record { ledger = after_short-single t p source targets (ap (λ b. is_shared (account_of b source)) same.book ∙ single) i; reply = Short }))
        ]

    of_pay : (source : ℕ) (targets : List TargetPair) → payout_of call ≡ Some (source, targets) → Paid s p source targets → Unmoved s t p call
    of_pay source targets e (not_owner other) =
        left NotOwner (step-payout s p source targets call e ∙ pay-not_owner s p source targets other)
        (step-payout t p source targets call e ∙ pay-not_owner t p source targets (owned source false other))
    of_pay source targets e (full owner used) =
        left Full (step-payout s p source targets call e ∙ pay-full s p source targets owner used)
        (step-payout t p source targets call e ∙ pay-full t p source targets (owned source true owner) (same.full source owner ∙ used))
    of_pay source targets e (short owner room less) =
        of_short source targets owner (step-payout s p source targets call e ∙ pay-short s p source targets owner room less)
        (step-payout t p source targets call e
        ∙ pay-short t p source targets (owned source true owner) (same.full source owner ∙ room) (omega (arith, less, ap (λ xs. get_or xs source 0) money)))
    of_pay source targets e (done owner room enough) =
        let there = step-payout t p source targets call e
        ∙ pay-done t p source targets (owned source true owner) (same.full source owner ∙ room) (omega (arith, enough, ap (λ xs. get_or xs source 0) money)) in
        absurd (cc (is, ap (λ (x : Step). is_success x.reply) there))

    of_call : Asks call → Unmoved s t p call
    of_call (reads account e) =
        left (Balance (balance_of s account)) (ap (step s p) e) (ap (step t p) e ∙ (λ i. record { ledger = t; reply = Balance (get_or (money i) account 0) }))
    of_call (pays source targets e) = of_pay source targets e (paid s p source targets)

-- requests of two processes are counted in either order
pub with_asked-with_asked : (s : LedgerState) (p q a e : ℕ) → p ≢ q → is_owner s.book p a ≡ true → is_owner s.book q e ≡ true
    → with_asked (with_asked s p a) q e ≡ with_asked (with_asked s q e) p a
with_asked-with_asked s p q a e apart mine theirs =
    let one = asked_position s.book p a in
    let other = asked_position s.book q e in
    let differs : one ≢ other = asked-apart s.book p q a e apart mine theirs in
    let n = get_or s.asked one 0 + 1 in
    let m = get_or s.asked other 0 + 1 in
    let kept : get_or (set s.asked one n) other 0 ≡ get_or s.asked other 0 = get_or-set_other s.asked one other n 0 (λ z. differs (sym z)) in
    let held : get_or (set s.asked other m) one 0 ≡ get_or s.asked one 0 = get_or-set_other s.asked other one m 0 differs in
    let all : set (set s.asked one n) other (get_or (set s.asked one n) other 0 + 1) ≡ set (set s.asked other m) one (get_or (set s.asked other m) one 0 + 1) =
    ap (λ k. set (set s.asked one n) other (k + 1)) kept
    ∙ (set_comm s.asked one other n m differs ∙ ap (λ k. set (set s.asked other m) one (k + 1)) (sym held)) in
    λ i. record s { asked = all i }
