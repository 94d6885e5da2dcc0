-- An account that opens with all that the files ask of it is settled, whatever they ask of the others: at each stage it has what they still ask.
use Rattle.std.proofs.Common.{◌≡◌, ℕ, ◌+◌, ◌<◌, ◌≤◌, ◌&&◌, Bool, true, false, cond, List, [], length, drop, filter, get_or, take, All, Some, refl, sym, ap, subst, ◌∙◌, arith, length-append, take-append-drop}
use Rattle.std.specs.Prelude.{slice_get, is_some}
use Rattle.at_orders.proofs.Prelude.{filter-append, length-filter_more, get_or_from_slice_get, slice_get_within, account_of, is_owner, is_shared, is_single, BookTerms, TargetPair, amount_of, first_account, payout_of, Step, asked_position, is_full, Call, Line, Reply, IsPlayable, IsNextOfProcess, OpeningCovers, Comes, IsStage, StageTerms, HasOwnRoom, IsSettled, is_own_payment}
use Rattle.at_orders.proofs.Requests.{first_account-payout, step-payout}
use Rattle.at_orders.proofs.Reaching.{order-next}
use Rattle.at_orders.proofs.Stepping.{AreAsked, alone-single, full-own, full-same, ledger_of, pay-reply, reply_by, reply_by-other, reply_by-short}
use Rattle.at_orders.proofs.OnTheWay.{AreFiles, IsOnTheWay, covered-enough, own_payments, way-stage}
use Rattle.at_orders.proofs.Covering.{alone_at}

-- the next call at a stage, a payment from a covered account
record Next (b : BookTerms) (files : List (List Call)) (p i a : ℕ) (x : Reply) : Type 0 where
  stage : StageTerms
  way : IsOnTheWay b files stage.ledger stage.made
  made : get_or stage.made p 0 ≡ i
  reply : x ≡ reply_by (is_owner b p a) (is_full (ledger_of b stage.ledger.balances stage.ledger.sent stage.ledger.asked) p a)

line-next : (b : BookTerms) (files : List (List Call)) (a : ℕ) (ts : List TargetPair) (t : StageTerms) (l : Line) → AreFiles b files → a < length b.accounts → OpeningCovers b files a → IsStage b files t
    → IsNextOfProcess files t.ledger t.made l → payout_of l.call ≡ Some (a, ts) → Next b files l.process (get_or t.made l.process 0) a l.reply
line-next b files a ts t l are a_in covered is next pays = record {
  stage = t;
  way = way;
  made = refl;
  reply = next.reply ∙ (ap (λ (x : Step). x.reply) (step-payout t.ledger l.process a ts l.call pays) ∙ pay-reply b l.process a ts t.ledger way.fit enough);
}
  where
    way : IsOnTheWay b files t.ledger t.made
    way = way-stage b files t are is

    enough : is_owner b l.process a ≡ true → amount_of ts ≤ get_or t.ledger.balances a 0
    enough own = covered-enough b files a l.process ts l.call t way next.process next.call pays a_in covered own

comes-at : (b : BookTerms) (files : List (List Call)) (p i a : ℕ) (ts : List TargetPair) (c : Call) (x : Reply) → AreFiles b files → a < length b.accounts → OpeningCovers b files a
    → slice_get (get_or files p []) i ≡ Some c → payout_of c ≡ Some (a, ts) → Comes b files p i x → Next b files p i a x
comes-at b files p i a ts c x are a_in covered at pays comes =
    let l : Line = comes.line in
    let met = order-next b files comes.lines l comes.order comes.stands in
    let number = met.next.number in
    let count : get_or met.stage.made l.process 0 ≡ i = let n = comes.number in omega arith in
    let here : slice_get (get_or files l.process []) i ≡ Some l.call = subst (λ (n : ℕ). slice_get (get_or files l.process []) n ≡ Some l.call) count met.next.call in
    let there : slice_get (get_or files p []) i ≡ Some l.call = subst (λ (q : ℕ). slice_get (get_or files q []) i ≡ Some l.call) comes.made_by here in
    let same : c ≡ l.call = some_same c l.call (sym at ∙ there) in
    let found = line-next b files a ts met.stage l are a_in covered met.is met.next (ap payout_of (sym same) ∙ pays) in
    subst (λ (y : Reply). Next b files p i a y) comes.answered (subst (λ (q : ℕ). Next b files q i a l.reply) comes.made_by
    (subst (λ (n : ℕ). Next b files l.process n a l.reply) count found))
  where
    some_same : (u v : Call) → Some u ≡ Some v → u ≡ v
    some_same u v is = cc

one-shared : (b : BookTerms) (files : List (List Call)) (p i a : ℕ) (x y : Reply) → a < length b.accounts → p < length files → is_shared (account_of b a) ≡ true
    → Next b files p i a x → Next b files p i a y → x ≡ y
one-shared b files p i a x y a_in p_in shared first second =
    let along : AreAsked b p first.stage.ledger second.stage.ledger = λ d d_in.
    first.way.asked p p_in d d_in ∙ (ap (λ (n : ℕ). get_or (alone_at b p (get_or files p []) n).asked (asked_position b p d) 0) (first.made ∙ sym second.made)
    ∙ sym (second.way.asked p p_in d d_in)) in
    first.reply ∙ (ap (reply_by (is_owner b p a)) (full-same b p a first.stage.ledger second.stage.ledger a_in along shared) ∙ sym second.reply)

-- own room is left before a payment that takes some
own-left : (b : BookTerms) (files : List (List Call)) (p i a : ℕ) (ts : List TargetPair) (c : Call) (t : StageTerms) → p < length files → is_owner b p a ≡ true → is_shared (account_of b a) ≡ false
    → slice_get (get_or files p []) i ≡ Some c → payout_of c ≡ Some (a, ts) → HasOwnRoom b p (get_or files p []) → IsOnTheWay b files t.ledger t.made → get_or t.made p 0 ≡ i
    → get_or t.ledger.sent p 0 < b.own_room
own-left b files p i a ts c t p_in own alone at pays room way made =
    let calls : List Call = get_or files p [] in
    let first = first_account-payout a ts c pays in
    let some : is_some (payout_of c) ≡ true = ap is_some pays in
    let owner : is_owner b p (first_account c) ≡ true = ap (is_owner b p) first ∙ own in
    let single : is_single (account_of b (first_account c)) ≡ true = ap (λ (d : ℕ). is_single (account_of b d)) first ∙ alone-single b p a own alone in
    let is : is_own_payment b p c ≡ true = λ n. some n && (owner n && single n) in
    let more : own_payments b p (take (i + 1) calls) ≡ own_payments b p (take i calls) + 1 =
    length-filter_more (is_own_payment b p) calls i c (slice_get_within calls i c at)
    ∙ ap (λ (d : Bool). own_payments b p (take i calls) + cond d 1 0) (ap (is_own_payment b p) (get_or_from_slice_get calls i c c at) ∙ is) in
    let whole : own_payments b p (take (i + 1) calls) + own_payments b p (drop (i + 1) calls) ≡ own_payments b p calls =
    sym (length-append (filter (is_own_payment b p) (take (i + 1) calls)) (filter (is_own_payment b p) (drop (i + 1) calls)))
    ∙ (ap length (sym (filter-append (is_own_payment b p) (take (i + 1) calls) (drop (i + 1) calls)))
    ∙ ap (own_payments b p) (take-append-drop (i + 1) calls)) in
    let used : get_or t.ledger.sent p 0 ≤ own_payments b p (take i calls) = subst (λ (n : ℕ). get_or t.ledger.sent p 0 ≤ own_payments b p (take n calls)) made (way.sent p p_in) in
    omega arith

one-own : (b : BookTerms) (files : List (List Call)) (p i a : ℕ) (ts : List TargetPair) (c : Call) (x : Reply) → p < length files → is_shared (account_of b a) ≡ false
    → slice_get (get_or files p []) i ≡ Some c → payout_of c ≡ Some (a, ts) → HasOwnRoom b p (get_or files p []) → Next b files p i a x → x ≡ reply_by (is_owner b p a) false
one-own b files p i a ts c x p_in alone at pays room next = next.reply ∙ by (is_owner b p a) refl
  where
    full : Bool
    full = is_full (ledger_of b next.stage.ledger.balances next.stage.ledger.sent next.stage.ledger.asked) p a

    by : (own : Bool) → is_owner b p a ≡ own → reply_by own full ≡ reply_by own false
    by false own = reply_by-other full false
    by true own = ap (reply_by true) (full-own b p a next.stage.ledger alone (own-left b files p i a ts c next.stage p_in own alone at pays room next.way next.made))

pub covered-settled : (b : BookTerms) (files : List (List Call)) (a : ℕ) → All (IsPlayable (length b.accounts)) files → length files ≡ b.processes → a < length b.accounts → OpeningCovers b files a
    → IsSettled b files a
covered-settled b files a playable count a_in covered = record {
  never_short = λ lines line ts order stands pays short.
      let met = order-next b files lines line order stands in
      let next = line-next b files a ts met.stage line are a_in covered met.is met.next pays in
      reply_by-short (is_owner b line.process a) (is_full (ledger_of b next.stage.ledger.balances next.stage.ledger.sent next.stage.ledger.asked) line.process a) (sym next.reply ∙ short);
  shared = λ shared p p_in i c ts x y at pays first second.
      one-shared b files p i a x y a_in p_in shared (comes-at b files p i a ts c x are a_in covered at pays first) (comes-at b files p i a ts c y are a_in covered at pays second);
  own = λ alone p p_in room i c ts x y at pays first second.
      one-own b files p i a ts c x p_in alone at pays room (comes-at b files p i a ts c x are a_in covered at pays first)
      ∙ sym (one-own b files p i a ts c y p_in alone at pays room (comes-at b files p i a ts c y are a_in covered at pays second));
}
  where
    are : AreFiles b files
    are = record { playable = playable; count = count }
