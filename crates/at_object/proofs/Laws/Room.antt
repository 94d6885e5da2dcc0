-- Where a process has room for one more payment.
use Rattle.std.proofs.Common.{◌≡◌, ℕ, ◌<◌, ◌≤◌, ◌==◌, ◌&&◌, ◌||◌, Bool, true, false, cond, List, length, Some, None, refl, sym, ap, subst, ◌∙◌, arith, inl, inr}
use Rattle.at_object.proofs.Prelude.{and_parts, cases_eq, cases_lt, eq-eqb, eqb-true, take_all, position-Some, is_some, AccountTerms, is_shared, is_single, slot_in, slots_of, BookTerms, HasSlot, account_of, is_owner, record-is_settled, publication_at, settles, IsHistory, IsShownDecision, is_settled, Entry, Own, Round, Publication, asking_on, own_part, MayStoreRequest, Knowledge, IsBetweenCalls, PassTerms, asked_by, sent_by, has_used_up}
use Rattle.std.specs.Prelude.{Option}

-- an owner of a shared account has a slot
some_is : {X : Type 0} (o : Option X) → is_some o ≡ true → (x : X) × (o ≡ Some x)
some_is None some = absurd (cc some)
some_is (Some x) some = (x, refl)

pub HasSlot-is_owner : (b : BookTerms) (p a : ℕ) → a < length b.accounts → is_shared (account_of b a) ≡ true → is_owner b p a ≡ true
    → (slot : ℕ) × HasSlot b p a slot
HasSlot-is_owner b p a known shared owner =
    let t : AccountTerms = account_of b a in
    let found = some_is (slot_in t p) owner in
    let within = (position-Some (λ o. o == p) t.owners found.0 0 found.1).0 in
    let slots : slots_of t ≡ length t.owners = ap (λ s. cond s (length t.owners) 0) shared in
    (found.0, record { account_in = known; within = omega (arith, within, slots); owner = found.1 })

-- one who isn't used up has fewer than the room
first_no : (s t x y : Bool) → s ≡ true → ((s && x) || (t && y)) ≡ false → x ≡ false
first_no true t true y one is = absurd (cc is)
first_no true t false y one is = refl
first_no false t x y one is = absurd (cc one)

second_no : (s t x y : Bool) → t ≡ true → ((s && x) || (t && y)) ≡ false → y ≡ false
second_no true true true y one is = absurd (cc is)
second_no true true false y one is = is
second_no false true x y one is = is
second_no s false x y one is = absurd (cc one)

below : (m n : ℕ) → (m == n) ≡ false → m ≤ n → m < n
below m n apart few = elim (cases_eq m n) as (λ _. m < n) [
  | inl same ↦ let both : true ≡ false = sym (eq-eqb m n same) ∙ apart in absurd (cc both)
  | inr other ↦ omega (arith, other, few)
]

pub sent-room : (b : BookTerms) (pass : PassTerms) (source : ℕ) → is_single (account_of b source) ≡ true → has_used_up b pass source ≡ false
    → sent_by pass ≤ b.own_room → sent_by pass < b.own_room
sent-room b pass source single room few =
    below (sent_by pass) b.own_room (first_no (is_single (account_of b source)) (is_shared (account_of b source)) (sent_by pass == b.own_room)
    (asked_by pass source == b.request_room) single room) few

-- a request's number is below the room, where it is settled
number-settles : (b : BookTerms) (list : List Publication) (a slot number : ℕ) (e : Entry) → settles a slot number e ≡ true → IsShownDecision b list e
    → number < b.request_room
number-settles b list a slot number (Own from targets) settled shown = absurd (cc settled)
number-settles b list a slot number (Round account round d targets) settled shown =
    let parts = and_parts (account == a) ((d.slot == slot) && (d.number == number)) settled in
    omega (arith, shown.number_in, eqb-true d.number number (and_parts (d.slot == slot) (d.number == number) parts.1).1)

-- so no more are asked for than there is room
pub asked-room_le : (b : BookTerms) (v : Knowledge) (a slot : ℕ) → IsHistory b v.seen → IsBetweenCalls b v → HasSlot b v.first a slot
    → length (asking_on (own_part v) a).announced ≤ b.request_room
asked-room_le b v a slot history between has =
    let n = length (asking_on (own_part v) a).announced in
    elim (cases_lt b.request_room n) as (λ _. n ≤ b.request_room) [
      | inl over ↦
          let settled = between.settled a slot b.request_room has over in
          let found = record-is_settled v.seen (length v.seen) a slot b.request_room
          (subst (λ list. is_settled a slot b.request_room list ≡ true) (sym (take_all (length v.seen) v.seen (omega arith))) settled) in
          absurd (omega (
            arith,
            number-settles b v.seen a slot b.request_room (publication_at v.seen found.0).entry found.3
                (history.decisions found.0 found.2),
          ))
      | inr few ↦ few
    ]

pub MayStoreRequest-room : (b : BookTerms) (pass : PassTerms) (source slot : ℕ) → IsHistory b pass.knows.seen → IsBetweenCalls b pass.knows
    → HasSlot b pass.knows.first source slot → is_shared (account_of b source) ≡ true → has_used_up b pass source ≡ false
    → MayStoreRequest b pass.knows source slot
MayStoreRequest-room b pass source slot history between has shared room = record {
  slot_in = has;
  room = below (asked_by pass source) b.request_room (second_no (is_single (account_of b source)) (is_shared (account_of b source))
      (sent_by pass == b.own_room) (asked_by pass source == b.request_room) shared room)
      (asked-room_le b pass.knows source slot history between has);
}
