-- The requests that the counts of calls tell, and what the next call of a process leaves of a stage.
use Rattle.std.proofs.Common.{◌≡◌, ℕ, ◌+◌, ◌*◌, ◌/◌, ◌%◌, ◌<◌, ◌≤◌, ◌==◌, ◌&&◌, ◌||◌, ◌⊎◌, inl, inr, Bool, true, false, true≢false, not, cond, leb, ltb, min, List, [], ◌∷◌, length, get_or, set, map, replicate, take, Some, None, refl, sym, ap, subst, ◌∙◌, arith}
use Rattle.std.specs.Prelude.{is_some}
use Rattle.at_orders.proofs.Prelude.{position, range_with_len, cases_Bool, cases_eq, cases_lt, eq-eqb, le-leb, leb-true, ne_eqb, Decides-eqb, ext_get_or, get_or-replicate, get_or-set_other, get_or-set_same, length-map, length-replicate, length-set, sum-map, length-filter_more, get_or-map-range_with_len, length-map-range_with_len, div-add-mod', div-mul-add, mod-mul-add, mul-add-lt, get_or_from_slice_get, slice_get_within, get_or-eq_default, min-le_right, mul_comm, AccountTerms, is_shared, slots_of, account_of, is_owner, TargetPair, amount_of, first_account, payout_of, LedgerState, Step, after_done, after_short, asked_of, asked_position, balance_of, is_full, moved, pay, sent_of, step, with_asked, with_sent, Call, Reply, Balance, Done, Full, NotOwner, Short, Transfer, Read, Pay, with_made, get_or-with_made, get_or-with_made_other, GroundTerms, StageTerms, after_success, calls_made, first_stage, is_payment_from, ledger_at, payments_from, requests_at, requests_of, stage_after, AreKept, ArePlaces, HasNumbers, IsMadeTo, IsNextCall, IsNextPayment, IsStanding, StandsFor, Stage}
use Rattle.at_orders.proofs.Keeping.{kept-openings}
use Rattle.at_orders.proofs.Placing.{same_payout}

-- the requests of a process on an account
abbrev requests : GroundTerms → List ℕ → ℕ → ℕ → ℕ
requests g made p a = requests_of g.book p a (calls_made g made p)

length-requests_at : (g : GroundTerms) (made : List ℕ) → length (requests_at g made) ≡ g.book.processes * length g.book.accounts
length-requests_at g made =
    length-map-range_with_len (λ k. requests g made (k / length g.book.accounts) (k % length g.book.accounts)) 0 (g.book.processes * length g.book.accounts)

get_or-requests_at : (g : GroundTerms) (made : List ℕ) (k : ℕ) → k < g.book.processes * length g.book.accounts
    → get_or (requests_at g made) k 0 ≡ requests g made (k / length g.book.accounts) (k % length g.book.accounts)
get_or-requests_at g made k within =
    get_or-map-range_with_len (λ k. requests g made (k / length g.book.accounts) (k % length g.book.accounts)) 0 (g.book.processes * length g.book.accounts) k k 0 within (omega arith)

place-within : (g : GroundTerms) (p a : ℕ) → p < g.book.processes → a < length g.book.accounts → asked_position g.book p a < g.book.processes * length g.book.accounts
place-within g p a known within =
    let position : asked_position g.book p a < length g.book.accounts * g.book.processes = mul-add-lt p (length g.book.accounts) a g.book.processes known within in
    omega (arith, position, mul_comm (length g.book.accounts) g.book.processes)

pub requests_at-place : (g : GroundTerms) (made : List ℕ) (p a : ℕ) → p < g.book.processes → a < length g.book.accounts
    → get_or (requests_at g made) (asked_position g.book p a) 0 ≡ requests g made p a
requests_at-place g made p a known within =
    let row = div-mul-add p (length g.book.accounts) a within in
    let column = mod-mul-add p (length g.book.accounts) a within in
    get_or-requests_at g made (asked_position g.book p a) (place-within g p a known within) ∙ (λ t. requests g made (row t) (column t))

-- one request more, of one process on one account
requests_at-set : (g : GroundTerms) (made new : List ℕ) (p a : ℕ) → p < g.book.processes → a < length g.book.accounts
    → ((q x : ℕ) → ((q ≡ p) × (x ≡ a) → ⊥) → requests g new q x ≡ requests g made q x) → requests g new p a ≡ requests g made p a + 1
    → requests_at g new ≡ set (requests_at g made) (asked_position g.book p a) (get_or (requests_at g made) (asked_position g.book p a) 0 + 1)
requests_at-set g made new p a known within others more =
    ext_get_or 0 (requests_at g new) (set (requests_at g made) (asked_position g.book p a) (get_or (requests_at g made) (asked_position g.book p a) 0 + 1))
    (length-requests_at g new ∙ sym (length-set (requests_at g made) (asked_position g.book p a) (get_or (requests_at g made) (asked_position g.book p a) 0 + 1) ∙ length-requests_at g made))
    (λ k inside. let size = length-requests_at g new in by k (omega arith) (cases_eq k (asked_position g.book p a)))
  where
    by : (k : ℕ) → k < g.book.processes * length g.book.accounts → (k ≡ (asked_position g.book p a)) ⊎ (k ≡ (asked_position g.book p a) → ⊥) → get_or (requests_at g new) k 0 ≡ get_or (set (requests_at g made) (asked_position g.book p a) (get_or (requests_at g made) (asked_position g.book p a) 0 + 1)) k 0
    by k inside (inl same) =
        let size = length-requests_at g made in
        let place = place-within g p a known within in
        ap (λ n. get_or (requests_at g new) n 0) same ∙ (requests_at-place g new p a known within ∙ (more ∙ (ap (λ n. n + 1) (sym (requests_at-place g made p a known within))
        ∙ (sym (get_or-set_same (requests_at g made) (asked_position g.book p a) (get_or (requests_at g made) (asked_position g.book p a) 0 + 1) 0 (omega arith)) ∙ ap (λ n. get_or (set (requests_at g made) (asked_position g.book p a) (get_or (requests_at g made) (asked_position g.book p a) 0 + 1)) n 0) (sym same)))))
    by k inside (inr apart) =
        let accounts : ℕ = length g.book.accounts in
        get_or-requests_at g new k inside
        ∙ (others (k / accounts) (k % accounts) (λ both. apart (sym (div-add-mod' k accounts) ∙ (λ t. both.0 t * accounts + both.1 t)))
        ∙ (sym (get_or-requests_at g made k inside) ∙ sym (get_or-set_other (requests_at g made) (asked_position g.book p a) k (get_or (requests_at g made) (asked_position g.book p a) 0 + 1) 0 apart)))

-- the same requests everywhere
requests_at-same : (g : GroundTerms) (made new : List ℕ) → ((q x : ℕ) → requests g new q x ≡ requests g made q x) → requests_at g new ≡ requests_at g made
requests_at-same g made new same = λ t.
    map (λ k. same (k / length g.book.accounts) (k % length g.book.accounts) t) (range_with_len 0 (g.book.processes * length g.book.accounts))

-- a count up to the room, where it is kept
abbrev capped : Bool → ℕ → ℕ → ℕ
capped kept room n = cond kept (min room n) 0

capped-none : (kept : Bool) (room n m : ℕ) → kept ≡ false → capped kept room n ≡ capped kept room m
capped-none kept room n m none = ap (λ t. capped t room n) none ∙ sym (ap (λ t. capped t room m) none)

capped-used : (kept : Bool) (room n m : ℕ) → room ≤ m → m ≤ n → capped kept room n ≡ capped kept room m
capped-used true room n m used more = grind arith
capped-used false room n m used more = refl

capped-zero : (kept : Bool) (room : ℕ) → capped kept room 0 ≡ 0
capped-zero true room = grind arith
capped-zero false room = refl

capped-more : (kept : Bool) (room n m : ℕ) → kept ≡ true → m < room → n ≡ m + 1 → capped kept room n ≡ capped kept room m + 1
capped-more true room n m is left one = grind arith
capped-more false room n m is left one = absurd (cc)

-- an account that is shared isn't single, and the reverse
pub single-shared : (n : ℕ) → leb 2 n ≡ true → (n == 1) ≡ false
single-shared n shared = ne_eqb n 1 (λ one. let two : 2 ≤ n = leb-true 2 n shared in omega arith)

-- the room at a shared account is that of its requests
pub full-shared : (s : LedgerState) (p a : ℕ) → is_shared (account_of s.book a) ≡ true → is_full s p a ≡ (asked_of s p a == s.book.request_room)
full-shared s p a shared =
    let single = single-shared (length (account_of s.book a).owners) shared in
    λ t. (single t && (sent_of s p == s.book.own_room)) || (shared t && (asked_of s p a == s.book.request_room))

full-owner : (g : GroundTerms) (s : Stage) (balances : List ℕ) (p a : ℕ) → p < g.book.processes → a < length g.book.accounts → is_owner g.book p a ≡ true → is_shared (account_of g.book a) ≡ true
    → is_full (ledger_at g s balances) p a ≡ (min g.book.request_room (payments_from a (calls_made g s.made.items p)) == g.book.request_room)
full-owner g s balances p a known within owner shared =
    full-shared (ledger_at g s balances) p a shared
    ∙ ap (λ n. n == g.book.request_room) (requests_at-place g s.made.items p a known within
    ∙ (λ t. cond (owner t && shared t) (min g.book.request_room (payments_from a (calls_made g s.made.items p))) 0))

below-room : (room n : ℕ) → (min room n == room) ≡ false → n < room
below-room room n left = by (cases_lt n room)
  where
    by : (n < room) ⊎ (room ≤ n) → n < room
    by (inl less) = less
    by (inr more) = let all : min room n ≡ room = grind arith in let is = eq-eqb (min room n) room all in absurd (cc (left, is))

all-room : (room n : ℕ) → (min room n == room) ≡ true → room ≤ n
all-room room n all = let same : min room n ≡ room = (Decides-eqb (min room n) room).0 all in let less = min-le_right room n in omega arith

-- what a payment leaves, by its reply
record Leaves (g : GroundTerms) (s : Stage) (balances : List ℕ) (p a : ℕ) (targets : List TargetPair) (asked : List ℕ) (after : Step) : Type 0 where
  done : after.reply ≡ Done → after.ledger ≡ record (after_success (ledger_at g s balances) p a targets) { asked = asked }
  other : (after.reply ≡ Done → ⊥) → after.ledger ≡ record (ledger_at g s balances) { asked = asked }

-- a payment is from its source
is_payment_from-payout : (account source : ℕ) (targets : List TargetPair) (call : Call) → payout_of call ≡ Some (source, targets) → is_payment_from account call ≡ (source == account)
is_payment_from-payout account source targets (Transfer from to amount) is =
    let parts = same_payout (from, (to, amount) ∷ []) (source, targets) is in λ t. (parts t).0 == account
is_payment_from-payout account source targets (Read asked) is = absurd (cc is)
is_payment_from-payout account source targets (Pay from amounts) is =
    let parts = same_payout (from, amounts) (source, targets) is in λ t. (parts t).0 == account

pub step-payout : (s : LedgerState) (process source : ℕ) (targets : List TargetPair) (call : Call) → payout_of call ≡ Some (source, targets)
    → step s process call ≡ pay s process source targets
step-payout s process source targets (Transfer from to amount) is =
    let parts = same_payout (from, (to, amount) ∷ []) (source, targets) is in λ t. pay s process (parts t).0 (parts t).1
step-payout s process source targets (Read account) is = absurd (cc is)
step-payout s process source targets (Pay from amounts) is =
    let parts = same_payout (from, amounts) (source, targets) is in λ t. pay s process (parts t).0 (parts t).1

step-read : (s : LedgerState) (process : ℕ) (call : Call) → payout_of call ≡ None → (step s process call).ledger ≡ s
step-read s process (Transfer from to amount) is = absurd (cc is)
step-read s process (Read account) is = refl
step-read s process (Pay from amounts) is = absurd (cc is)

-- the first of four cases that applies
first_of_four : (P : Step → Type 0) (owner full short : Bool) (a b c d : Step) → (owner ≡ false → P a) → (owner ≡ true → full ≡ true → P b)
    → (owner ≡ true → full ≡ false → short ≡ true → P c) → (owner ≡ true → full ≡ false → short ≡ false → P d)
    → P (cond (not owner) a (cond full b (cond short c d)))
first_of_four P false full short a b c d first second third fourth = first refl
first_of_four P true true short a b c d first second third fourth = second refl refl
first_of_four P true false true a b c d first second third fourth = third refl refl refl
first_of_four P true false false a b c d first second third fourth = fourth refl refl refl

is_done : (r : Reply) → (r ≡ Done) ⊎ (r ≡ Done → ⊥)
is_done Done = inl refl
is_done Short = inr (λ is. absurd (cc is))
is_done NotOwner = inr (λ is. absurd (cc is))
is_done Full = inr (λ is. absurd (cc is))
is_done (Balance v) = inr (λ is. absurd (cc is))

-- a payment that is done is an owner's, and its room is left
record IsLeft (l : LedgerState) (p a : ℕ) : Type 0 where
  owner : is_owner l.book p a ≡ true
  room : is_full l p a ≡ false

done-left : (l : LedgerState) (p a : ℕ) (targets : List TargetPair) → (pay l p a targets).reply ≡ Done → IsLeft l p a
done-left l p a targets = first_of_four (λ (x : Step). x.reply ≡ Done → IsLeft l p a) (is_owner l.book p a) (is_full l p a) (ltb (balance_of l a) (amount_of targets))
    (record { ledger = l; reply = NotOwner }) (record { ledger = l; reply = Full }) (record { ledger = after_short l p a; reply = Short })
    (record { ledger = after_done l p a targets; reply = Done })
    (λ owner is. absurd (cc is)) (λ owner full is. absurd (cc is)) (λ owner room less is. absurd (cc is))
    (λ owner room covered is. record { owner = owner; room = room })

pub owned : (owners : List ℕ) (p : ℕ) → is_some (position (λ owner. owner == p) owners) ≡ true → 1 ≤ length owners
owned [] p is = absurd (true≢false (sym is))
owned (owner ∷ owners) p is = omega arith

-- an account without slots isn't shared
pub slots-single : (t : AccountTerms) → slots_of t ≡ 0 → is_shared t ≡ false
slots-single t none = by (cases_Bool (is_shared t))
  where
    by : (is_shared t ≡ true) ⊎ (is_shared t ≡ false) → is_shared t ≡ false
    by (inl shared) =
        let all : length t.owners ≡ 0 = sym (ap (λ (c : Bool). cond {A = ℕ} c (length t.owners) 0) shared) ∙ none in
        let two : 2 ≤ length t.owners = leb-true 2 (length t.owners) shared in
        absurd (omega arith)
    by (inr single) = single

pub not-shared : (n : ℕ) → leb 2 n ≡ false → n < 2
not-shared n single = by (cases_lt n 2)
  where
    by : (n < 2) ⊎ (2 ≤ n) → n < 2
    by (inl few) = few
    by (inr more) = absurd (true≢false (sym (le-leb 2 n more) ∙ single))

-- the owner of a single account has own room left, where a payment from it is done
pub own_room-left : (l : LedgerState) (p a : ℕ) (targets : List TargetPair) → (pay l p a targets).reply ≡ Done → slots_of (account_of l.book a) ≡ 0
    → sent_of l p ≤ l.book.own_room → sent_of l p < l.book.own_room
own_room-left l p a targets done none most = by (cases_lt (sent_of l p) l.book.own_room)
  where
    by : (sent_of l p < l.book.own_room) ⊎ (l.book.own_room ≤ sent_of l p) → sent_of l p < l.book.own_room
    by (inl less) = less
    by (inr used) =
        let left = done-left l p a targets done in
        let owners : List ℕ = (account_of l.book a).owners in
        let some = owned owners p left.owner in
        let few : length owners < 2 = not-shared (length owners) (slots-single (account_of l.book a) none) in
        let single = eq-eqb (length owners) 1 (omega arith) in
        let all = eq-eqb (sent_of l p) l.book.own_room (omega arith) in
        let full : is_full l p a ≡ true = λ t. (single t && all t) || (is_shared (account_of l.book a) && (asked_of l p a == l.book.request_room)) in
        absurd (true≢false (sym full ∙ left.room))

-- the next call of the process is counted
module _ (g : GroundTerms) (s : Stage) (p : ℕ) (call : Call) (counted : p < length s.made.items) (next : IsNextCall g s p call) where
  payments-next : (x : ℕ) → payments_from x (calls_made g (with_made s.made.items p) p) ≡ payments_from x (calls_made g s.made.items p) + cond (is_payment_from x call) 1 0
  payments-next x =
      let file : List Call = get_or g.files p [] in
      let m : ℕ = get_or s.made.items p 0 in
      ap (λ n. payments_from x (take n file)) (get_or-with_made s.made.items p counted)
      ∙ (length-filter_more (is_payment_from x) file m call (slice_get_within file m call next)
      ∙ ap (λ c. payments_from x (take m file) + cond (is_payment_from x c) 1 0) (get_or_from_slice_get file m call call next))

  -- no payment from the account
  requests-still : (x : ℕ) → is_payment_from x call ≡ false → requests g (with_made s.made.items p) p x ≡ requests g s.made.items p x
  requests-still x none =
      let same : payments_from x (calls_made g (with_made s.made.items p) p) ≡ payments_from x (calls_made g s.made.items p) =
      payments-next x ∙ (ap (λ t. payments_from x (calls_made g s.made.items p) + cond t 1 0) none ∙ omega arith) in
      ap (capped (is_owner g.book p x && is_shared (account_of g.book x)) g.book.request_room) same

  requests-other : (q x : ℕ) → (p ≡ q → ⊥) → requests g (with_made s.made.items p) q x ≡ requests g s.made.items q x
  requests-other q x apart = ap (λ n. requests_of g.book q x (take n (get_or g.files q []))) (get_or-with_made_other s.made.items p q apart)

  requests-read : payout_of call ≡ None → requests_at g (with_made s.made.items p) ≡ requests_at g s.made.items
  requests-read read = requests_at-same g s.made.items (with_made s.made.items p) (λ q x. by q x (cases_eq p q))
    where
      by : (q x : ℕ) → (p ≡ q) ⊎ (p ≡ q → ⊥) → requests g (with_made s.made.items p) q x ≡ requests g s.made.items q x
      by q x (inl same) =
          subst (λ n. requests g (with_made s.made.items p) n x ≡ requests g s.made.items n x) same (requests-still x (λ t. is_some (read t) && (first_account call == x)))
      by q x (inr apart) = requests-other q x apart

-- a payment is counted
module _ (g : GroundTerms) (s : Stage) (balances : List ℕ) (p a : ℕ) (targets : List TargetPair) (call : Call) (counted : p < length s.made.items) (next : IsNextCall g s p call)
    (known : p < g.book.processes) (within : a < length g.book.accounts) (paid : payout_of call ≡ Some (a, targets)) where
  abbrev later : List ℕ
  later = with_made s.made.items p

  abbrev n : ℕ
  n = payments_from a (calls_made g s.made.items p)

  abbrev old : LedgerState
  old = ledger_at g s balances

  one-more : payments_from a (calls_made g later p) ≡ n + 1
  one-more = payments-next g s p call counted next a ∙ ap (λ t. n + cond t 1 0) (is_payment_from-payout a a targets call paid ∙ eq-eqb a a refl)

  others : (q x : ℕ) → ((q ≡ p) × (x ≡ a) → ⊥) → requests g later q x ≡ requests g s.made.items q x
  others q x other = by (cases_eq p q) (cases_eq a x)
    where
      by : (p ≡ q) ⊎ (p ≡ q → ⊥) → (a ≡ x) ⊎ (a ≡ x → ⊥) → requests g later q x ≡ requests g s.made.items q x
      by (inl same) (inl both) = absurd (other (sym same, sym both))
      by (inl same) (inr apart) =
          subst (λ m. requests g later m x ≡ requests g s.made.items m x) same (requests-still g s p call counted next x (is_payment_from-payout x a targets call paid ∙ ne_eqb a x apart))
      by (inr apart) either = requests-other g s p call counted next q x apart

  kept : requests g later p a ≡ requests g s.made.items p a → requests_at g later ≡ requests_at g s.made.items
  kept here = requests_at-same g s.made.items later (λ q x. by q x (cases_eq p q) (cases_eq a x))
    where
      by : (q x : ℕ) → (p ≡ q) ⊎ (p ≡ q → ⊥) → (a ≡ x) ⊎ (a ≡ x → ⊥) → requests g later q x ≡ requests g s.made.items q x
      by q x (inl same) (inl both) =
          subst (λ m. requests g later m x ≡ requests g s.made.items m x) same (subst (λ y. requests g later p y ≡ requests g s.made.items p y) both here)
      by q x (inl same) (inr apart) = others q x (λ both. apart (sym both.1))
      by q x (inr apart) either = others q x (λ both. apart (sym both.0))

  kept-none : (is_owner g.book p a && is_shared (account_of g.book a)) ≡ false → old ≡ record old { asked = requests_at g later }
  kept-none none = let same = kept (capped-none (is_owner g.book p a && is_shared (account_of g.book a)) g.book.request_room (payments_from a (calls_made g later p)) n none) in
      λ t. record old { asked = sym same t }

  more : is_owner g.book p a ≡ true → is_shared (account_of g.book a) ≡ true → is_full old p a ≡ false
      → set (requests_at g s.made.items) (asked_position g.book p a) (get_or (requests_at g s.made.items) (asked_position g.book p a) 0 + 1) ≡ requests_at g later
  more owner shared room =
      let left : (min g.book.request_room n == g.book.request_room) ≡ false = sym (full-owner g s balances p a known within owner shared) ∙ room in
      sym (requests_at-set g s.made.items later p a known within others
      (capped-more (is_owner g.book p a && is_shared (account_of g.book a)) g.book.request_room (payments_from a (calls_made g later p)) n (λ t. owner t && shared t) (below-room g.book.request_room n left) one-more))

  -- all room was used
  used : is_owner g.book p a ≡ true → is_full old p a ≡ true → (is_shared (account_of g.book a) ≡ true) ⊎ (is_shared (account_of g.book a) ≡ false)
      → old ≡ record old { asked = requests_at g later }
  used owner full (inl shared) =
      let all : (min g.book.request_room n == g.book.request_room) ≡ true = sym (full-owner g s balances p a known within owner shared) ∙ full in
      let same = kept (capped-used (is_owner g.book p a && is_shared (account_of g.book a)) g.book.request_room (payments_from a (calls_made g later p)) n
      (all-room g.book.request_room n all) (let one = one-more in omega arith)) in
      λ t. record old { asked = sym same t }
  used owner full (inr single) = kept-none (λ t. owner t && single t)

  short : is_owner g.book p a ≡ true → is_full old p a ≡ false → (is_shared (account_of g.book a) ≡ true) ⊎ (is_shared (account_of g.book a) ≡ false)
      → after_short old p a ≡ record old { asked = requests_at g later }
  short owner room (inl shared) =
      let one : LedgerState = with_asked old p a in
      let set_is = more owner shared room in
      ap (λ t. cond t one old) shared ∙ (λ t. record old { asked = set_is t })
  short owner room (inr single) =
      let one : LedgerState = with_asked old p a in
      ap (λ t. cond t one old) single ∙ kept-none (λ t. owner t && single t)

  done : is_owner g.book p a ≡ true → is_full old p a ≡ false → (is_shared (account_of g.book a) ≡ true) ⊎ (is_shared (account_of g.book a) ≡ false)
      → after_done old p a targets ≡ record (after_success old p a targets) { asked = requests_at g later }
  done owner room (inl shared) =
      let paid : LedgerState = moved old a targets in
      let one : LedgerState = with_asked paid p a in
      let own : LedgerState = with_sent paid p in
      let set_is = more owner shared room in
      ap (λ t. cond t one own) shared ∙ ((λ t. record paid { asked = set_is t }) ∙ sym (ap (λ t. record (cond t paid own) { asked = requests_at g later }) shared))
  done owner room (inr single) =
      let paid : LedgerState = moved old a targets in
      let one : LedgerState = with_asked paid p a in
      let own : LedgerState = with_sent paid p in
      let same = kept-none (λ t. owner t && single t) in
      ap (λ t. cond t one own) single ∙ ((λ t. record own { asked = (same t).asked }) ∙ sym (ap (λ t. record (cond t paid own) { asked = requests_at g later }) single))

  leaves : Leaves g s balances p a targets (requests_at g later) (pay old p a targets)
  leaves = first_of_four (Leaves g s balances p a targets (requests_at g later)) (is_owner g.book p a) (is_full old p a) (ltb (balance_of old a) (amount_of targets))
      (record { ledger = old; reply = NotOwner }) (record { ledger = old; reply = Full }) (record { ledger = after_short old p a; reply = Short })
      (record { ledger = after_done old p a targets; reply = Done })
      (λ owner. record { done = λ is. absurd (cc is); other = λ no. kept-none (λ t. owner t && is_shared (account_of g.book a)) })
      (λ owner full. record { done = λ is. absurd (cc is); other = λ no. used owner full (cases_Bool (is_shared (account_of g.book a))) })
      (λ owner room less. record { done = λ is. absurd (cc is); other = λ no. short owner room (cases_Bool (is_shared (account_of g.book a))) })
      (λ owner room covered. record { done = λ is. done owner room (cases_Bool (is_shared (account_of g.book a))); other = λ no. absurd (no refl) })

-- the ledger after the call, where the call isn't counted yet
pub made-payment : (g : GroundTerms) (s u : Stage) (p a : ℕ) (targets : List TargetPair) (l : LedgerState) → IsNextPayment g s p a targets → p < length s.made.items
    → p < g.book.processes → a < length g.book.accounts → HasNumbers g s l
    → ((pay l p a targets).reply ≡ Done → HasNumbers g u (after_success l p a targets))
    → (((pay l p a targets).reply ≡ Done → ⊥) → HasNumbers g u l) → IsMadeTo g s p (pay l p a targets).ledger u
made-payment g s u p a targets l next counted known within has =
    subst (λ (x : LedgerState). ((pay x p a targets).reply ≡ Done → HasNumbers g u (after_success x p a targets))
    → (((pay x p a targets).reply ≡ Done → ⊥) → HasNumbers g u x) → IsMadeTo g s p (pay x p a targets).ledger u) has.is of
  where
    old : LedgerState
    old = ledger_at g s l.balances

    asked : List ℕ
    asked = requests_at g (with_made s.made.items p)

    left : Leaves g s l.balances p a targets asked (pay old p a targets)
    left = leaves g s l.balances p a targets next.call counted next.next known within next.paid

    of : ((pay old p a targets).reply ≡ Done → HasNumbers g u (after_success old p a targets)) → (((pay old p a targets).reply ≡ Done → ⊥) → HasNumbers g u old)
        → IsMadeTo g s p (pay old p a targets).ledger u
    of success other = by (is_done (pay old p a targets).reply)
      where
        by : ((pay old p a targets).reply ≡ Done) ⊎ ((pay old p a targets).reply ≡ Done → ⊥) → IsMadeTo g s p (pay old p a targets).ledger u
        by (inl is) =
            let after = success is in
            subst (λ (x : LedgerState). IsMadeTo g s p x u) (sym (left.done is)) (record { is = ap (λ (x : LedgerState). record x { asked = asked }) after.is; kept = after.kept })
        by (inr differs) =
            let after = other differs in
            subst (λ (x : LedgerState). IsMadeTo g s p x u) (sym (left.other differs)) (record { is = ap (λ (x : LedgerState). record x { asked = asked }) after.is; kept = after.kept })

pub made-step : (g : GroundTerms) (s u : Stage) (p a : ℕ) (targets : List TargetPair) (call : Call) (l : LedgerState) → payout_of call ≡ Some (a, targets)
    → IsMadeTo g s p (pay l p a targets).ledger u → IsMadeTo g s p (step l p call).ledger u
made-step g s u p a targets call l paid made = subst (λ (x : Step). IsMadeTo g s p x.ledger u) (sym (step-payout l p a targets call paid)) made

pub made-read : (g : GroundTerms) (s : Stage) (p : ℕ) (call : Call) (l : LedgerState) → p < length s.made.items → IsNextCall g s p call → payout_of call ≡ None
    → HasNumbers g s l → IsMadeTo g s p (step l p call).ledger s
made-read g s p call l counted next read has =
    let same = requests-read g s p call counted next read in
    subst (λ (x : LedgerState). IsMadeTo g s p x s) (sym (step-read l p call read))
    (record { is = (λ i. record (ledger_at g s l.balances) { asked = same i }) ∙ has.is; kept = has.kept })

-- the same numbers, of another stage
pub numbers-moved : (g : GroundTerms) (s t : Stage) (l : LedgerState) → t.made.items ≡ s.made.items → t.balances.items ≡ s.balances.items → t.sent.items ≡ s.sent.items
    → HasNumbers g s l → HasNumbers g t l
numbers-moved g s t l made balances sent has = record {
  is = (λ i. record { book = g.book; balances = l.balances; sent = sent i; asked = requests_at g (made i) }) ∙ has.is;
  kept = subst (λ (kept : List ℕ). AreKept g kept l.balances) (sym balances) has.kept;
}

-- a copy on which the next call was made, and then counted
pub stage_after-made : (g : GroundTerms) (s copy u t : Stage) (p : ℕ) (call : Call)
    → copy.made.items ≡ s.made.items → copy.balances.items ≡ s.balances.items → copy.sent.items ≡ s.sent.items
    → u.made.items ≡ copy.made.items → ((l : LedgerState) → HasNumbers g copy l → IsMadeTo g copy p (step l p call).ledger u)
    → t.made.items ≡ with_made u.made.items p → t.balances.items ≡ u.balances.items → t.sent.items ≡ u.sent.items
    → (x : StageTerms) → StandsFor g s x → StandsFor g t (stage_after x p call)
stage_after-made g s copy u t p call made balances sent still is counts balances_too sent_too x stands =
    let before : with_made u.made.items p ≡ with_made copy.made.items p = ap (λ (m : List ℕ). with_made m p) still in
    let now : t.made.items ≡ with_made copy.made.items p = counts ∙ before in
    let later : LedgerState = (step x.ledger p call).ledger in
    let after = is x.ledger (numbers-moved g s copy x.ledger made balances sent stands.ledger) in
    record {
      made = now ∙ ap (λ (m : List ℕ). with_made m p) (made ∙ stands.made);
      ledger = record {
        is = (λ i. record { book = g.book; balances = later.balances; sent = sent_too i; asked = requests_at g (now i) }) ∙ after.is;
        kept = subst (λ (kept : List ℕ). AreKept g kept later.balances) (sym balances_too) after.kept;
      };
    }

-- the count of payments before the next call tells whether the room is used
min-eqb : (room n : ℕ) → leb room n ≡ (min room n == room)
min-eqb room n = by (cases_Bool (leb room n))
  where
    by : (leb room n ≡ true) ⊎ (leb room n ≡ false) → leb room n ≡ (min room n == room)
    by (inl used) = let more : room ≤ n = leb-true room n used in used ∙ sym (eq-eqb (min room n) room (grind arith))
    by (inr left) = left ∙ sym (ne_eqb (min room n) room (λ all. let less = min-le_right room n in let is = le-leb room n (omega arith) in absurd (cc (left, is))))

pub is_full-counted : (g : GroundTerms) (s : Stage) (l : LedgerState) (p a i n : ℕ) → HasNumbers g s l → p < g.book.processes → a < length g.book.accounts → is_owner g.book p a ≡ true
    → is_shared (account_of g.book a) ≡ true → i ≡ get_or s.made.items p 0 → n ≡ payments_from a (take i (get_or g.files p []))
    → leb g.book.request_room n ≡ is_full l p a
is_full-counted g s l p a i n has known within owner shared at count =
    subst (λ (x : LedgerState). leb g.book.request_room n ≡ is_full x p a) has.is (ap (leb g.book.request_room) (count ∙ ap (λ (m : ℕ). payments_from a (take m (get_or g.files p []))) at)
    ∙ (min-eqb g.book.request_room (payments_from a (calls_made g s.made.items p)) ∙ sym (full-owner g s l.balances p a known within owner shared)))

pub first_account-payout : (source : ℕ) (targets : List TargetPair) (call : Call) → payout_of call ≡ Some (source, targets) → first_account call ≡ source
first_account-payout source targets (Transfer from to amount) is = ap (λ (x : ℕ × List TargetPair). x.0) (same_payout (from, (to, amount) ∷ []) (source, targets) is)
first_account-payout source targets (Read account) is = absurd (cc is)
first_account-payout source targets (Pay from amounts) is = ap (λ (x : ℕ × List TargetPair). x.0) (same_payout (from, amounts) (source, targets) is)

get_or-zeros : (count p : ℕ) → get_or {A = ℕ} (replicate count 0) p 0 ≡ 0
get_or-zeros count p = by (cases_lt p count)
  where
    by : (p < count) ⊎ (count ≤ p) → get_or {A = ℕ} (replicate count 0) p 0 ≡ 0
    by (inl within) = get_or-replicate count p 0 0 within
    by (inr beyond) = get_or-eq_default (replicate {A = ℕ} count 0) 0 (let long : length (replicate {A = ℕ} count 0) ≡ count = length-replicate count 0 in omega arith)

-- no requests before the first call
pub requests_at-none : (g : GroundTerms) → requests_at g (replicate g.book.processes 0) ≡ replicate (g.book.processes * length g.book.accounts) 0
requests_at-none g =
    let made : List ℕ = replicate g.book.processes 0 in
    let size : ℕ = g.book.processes * length g.book.accounts in
    ext_get_or 0 (requests_at g made) (replicate size 0) (length-requests_at g made ∙ sym (length-replicate size 0))
    (λ k inside.
    let long = length-requests_at g made in
    let within : k < size = omega arith in
    get_or-requests_at g made k within ∙ (none (k / length g.book.accounts) (k % length g.book.accounts) ∙ sym (get_or-replicate size k 0 0 within)))
  where
    none : (q x : ℕ) → requests g (replicate g.book.processes 0) q x ≡ 0
    none q x =
        ap (λ m. requests_of g.book q x (take m (get_or g.files q []))) (get_or-zeros g.book.processes q)
        ∙ capped-zero (is_owner g.book q x && is_shared (account_of g.book x)) g.book.request_room

-- the openings are kept at first
first-kept : (g : GroundTerms) (s : Stage) → ArePlaces (length g.book.accounts) g.named g.places → s.balances.items ≡ map (λ a. (account_of g.book a).opening) g.named
    → AreKept g s.balances.items (map (λ (t : AccountTerms). t.opening) g.book.accounts)
first-kept g s law kept = subst (λ (xs : List ℕ). AreKept g xs (map (λ (t : AccountTerms). t.opening) g.book.accounts)) (sym kept) (kept-openings g law)

-- the openings, with no call made
pub first-stands : (g : GroundTerms) (s : Stage) → ArePlaces (length g.book.accounts) g.named g.places → s.made.items ≡ replicate g.book.processes 0
    → s.balances.items ≡ map (λ a. (account_of g.book a).opening) g.named → s.sent.items ≡ replicate g.book.processes 0 → StandsFor g s (first_stage g.book)
first-stands g s law made kept sent = record {
  made = made;
  ledger = record {
    is = λ i. record { book = g.book; balances = map (λ (t : AccountTerms). t.opening) g.book.accounts; sent = sent i; asked = (ap (requests_at g) made ∙ requests_at-none g) i };
    kept = first-kept g s law kept;
  };
}

pub standing-first : (g : GroundTerms) (s : Stage) → ArePlaces (length g.book.accounts) g.named g.places → s.made.items ≡ replicate g.book.processes 0
    → s.balances.items ≡ map (λ a. (account_of g.book a).opening) g.named → s.sent.items ≡ replicate g.book.processes 0 → IsStanding g s
standing-first g s law made kept sent = record {
  counts = ap (length {A = ℕ}) made ∙ length-replicate g.book.processes 0;
  balances = ap (length {A = ℕ}) kept ∙ length-map g.named (λ a. (account_of g.book a).opening);
  all = map (λ (t : AccountTerms). t.opening) g.book.accounts;
  kept = first-kept g s law kept;
  total = sum-map (λ (t : AccountTerms). t.opening) g.book.accounts;
  sent = ap (length {A = ℕ}) sent ∙ length-replicate g.book.processes 0;
  sent_room = λ k d within.
      let long = ap (length {A = ℕ}) sent ∙ length-replicate g.book.processes 0 in
      let none : get_or s.sent.items k d ≡ 0 = ap (λ (xs : List ℕ). get_or xs k d) sent ∙ get_or-replicate g.book.processes k 0 d (omega arith) in
      omega arith;
}
