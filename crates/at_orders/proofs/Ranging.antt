-- The replies of all files, from those of each part: of a payment they are the same, and of a read the balances between two that come.
use Rattle.std.proofs.Common.{◌≡◌, ℕ, zero, suc, ◌+◌, ◌-◌, ◌<◌, ◌≤◌, ◌==◌, inr, true≢false, List, [], length, get_or, None, Some, refl, sym, ap, subst, ◌∙◌, arith, eq-eqb}
use Rattle.std.specs.Prelude.{slice_get, if◌then◌else◌}
use Rattle.at_orders.proofs.Prelude.{ne_eqb, get_or-le-sum_by, BookTerms, total_of, IsCallOn, first_account, LedgerState, step, Call, Transfer, Read, Pay, Line, Reply, Balance, IsNextOfProcess, call_known-at, at_else, falls_of, rises_of, sum_below, AreParts, HoldsAt, IsSpan, files_of_part, Comes, AreJust, IsListed, read_replies, IsStage, StageTerms, Range, Replies}
use Rattle.at_orders.proofs.Covering.{opening-at, opening_of}
use Rattle.at_orders.proofs.Hearing.{just-same}
use Rattle.at_orders.proofs.Moved.{at_or_off}
use Rattle.at_orders.proofs.OnTheWay.{AreFiles, way-stage}
use Rattle.at_orders.proofs.Parting.{comes-up, length-part, own-file, part-playable}
use Rattle.at_orders.proofs.Reaching.{comes-next, order-next}
use Rattle.at_orders.proofs.Splitting.{NextBoth, Splits, both-next, joined, opening-part, opening_stage, part-next, split}
use Rattle.at_orders.proofs.Stepping.{AreReplies, IsFit, replies-even}
use Rattle.at_orders.proofs.Sums.{at_else-at, at_else-off, sum-add, sum-one, sum-same, sum-up}

-- the ranges that the account has in each part
abbrev pub AreRanges : BookTerms → List (List Call) → List ℕ → ℕ → (ℕ → Range) → Type 0
AreRanges b files parts a r = (k : ℕ) → k < length files → IsSpan (HoldsAt b (files_of_part files parts k) a) (r k)

opens-with : (b : BookTerms) (files : List (List Call)) (parts : List ℕ) (a k : ℕ) (r : ℕ → Range) → a < length b.accounts → k < length files → AreRanges b files parts a r
    → ((r k).least ≤ opening_of b a) × (opening_of b a ≤ (r k).greatest)
opens-with b files parts a k r a_in k_in ranges =
    let first : HoldsAt b (files_of_part files parts k) a (opening_of b a) = record { stage = opening_stage b files; is = opening-part b files parts k; has = opening-at b a a_in } in
    ((ranges k k_in).low (opening_of b a) first, (ranges k k_in).high (opening_of b a) first)

-- the opening of each part, but v of this one
abbrev opened : BookTerms → List (List Call) → ℕ → ℕ → ℕ → ℕ
opened b files k v a = sum_below (length files) (at_else k v (λ j. opening_of b a))

sum-opened : (b : BookTerms) (files : List (List Call)) (k v a : ℕ) → k < length files → opened b files k v a + opening_of b a ≡ sum_below (length files) (λ j. opening_of b a) + v
sum-opened b files k v a k_in =
    let one = sum-one (length files) k (λ (j : ℕ). opening_of b a) (at_else k v (λ (j : ℕ). opening_of b a)) k_in (λ j j_in differ. sym (at_else-off k v j (λ (n : ℕ). opening_of b a) differ)) in
    let here = at_else-at k v k (λ (j : ℕ). opening_of b a) refl in
    omega arith

sum-lowest : (b : BookTerms) (files : List (List Call)) (parts : List ℕ) (k v a : ℕ) (r : ℕ → Range) → a < length b.accounts → AreRanges b files parts a r
    → sum_below (length files) (at_else k v (λ j. (r j).least)) + falls_of b a r k (length files) ≡ opened b files k v a
sum-lowest b files parts k v a r a_in ranges =
    sum-add (length files) (at_else k v (λ (j : ℕ). (r j).least)) (at_else k 0 (λ (j : ℕ). opening_of b a - (r j).least)) (at_else k v (λ (j : ℕ). opening_of b a)) (λ j j_in. at_or_off k j
    (λ same.
    let x = at_else-at k v j (λ (n : ℕ). (r n).least) (sym same) in
    let y = at_else-at k 0 j (λ (n : ℕ). opening_of b a - (r n).least) (sym same) in
    let z = at_else-at k v j (λ (n : ℕ). opening_of b a) (sym same) in
    omega arith)
    (λ off.
    let x = at_else-off k v j (λ (n : ℕ). (r n).least) off in
    let y = at_else-off k 0 j (λ (n : ℕ). opening_of b a - (r n).least) off in
    let z = at_else-off k v j (λ (n : ℕ). opening_of b a) off in
    let low = (opens-with b files parts a j r a_in j_in ranges).0 in
    omega arith))

sum-highest : (b : BookTerms) (files : List (List Call)) (parts : List ℕ) (k v a : ℕ) (r : ℕ → Range) → a < length b.accounts → AreRanges b files parts a r
    → opened b files k v a + rises_of b a r k (length files) ≡ sum_below (length files) (at_else k v (λ j. (r j).greatest))
sum-highest b files parts k v a r a_in ranges =
    sum-add (length files) (at_else k v (λ (j : ℕ). opening_of b a)) (at_else k 0 (λ (j : ℕ). (r j).greatest - opening_of b a)) (at_else k v (λ (j : ℕ). (r j).greatest)) (λ j j_in. at_or_off k j
    (λ same.
    let x = at_else-at k v j (λ (n : ℕ). (r n).greatest) (sym same) in
    let y = at_else-at k 0 j (λ (n : ℕ). (r n).greatest - opening_of b a) (sym same) in
    let z = at_else-at k v j (λ (n : ℕ). opening_of b a) (sym same) in
    omega arith)
    (λ off.
    let x = at_else-off k v j (λ (n : ℕ). (r n).greatest) off in
    let y = at_else-off k 0 j (λ (n : ℕ). (r n).greatest - opening_of b a) off in
    let z = at_else-off k v j (λ (n : ℕ). opening_of b a) off in
    let high = (opens-with b files parts a j r a_in j_in ranges).1 in
    omega arith))

-- a reply that comes is one at a stage before its call
pub record ComesBefore (b : BookTerms) (files : List (List Call)) (p i : ℕ) (y : Reply) : Type 0 where
  pub stage : StageTerms
  pub is : IsStage b files stage
  pub call : Call
  pub next : slice_get (get_or files p []) i ≡ Some call
  pub before : get_or stage.made p 0 ≡ i
  pub answered : y ≡ (step stage.ledger p call).reply

pub before-comes : (b : BookTerms) (files : List (List Call)) (p i : ℕ) (y : Reply) → Comes b files p i y → ComesBefore b files p i y
before-comes b files p i y comes =
    let l : Line = comes.line in
    let at = order-next b files comes.lines l comes.order comes.stands in
    let by : l.process ≡ p = comes.made_by in
    let number : get_or at.stage.made l.process 0 ≡ i = let x = at.next.number in let n = comes.number in omega arith in
    record {
      stage = at.stage;
      is = at.is;
      call = l.call;
      next = subst (λ (q : ℕ). slice_get (get_or files q []) i ≡ Some l.call) by (subst (λ (n : ℕ). slice_get (get_or files l.process []) n ≡ Some l.call) number at.next.call);
      before = ap (λ (q : ℕ). get_or at.stage.made q 0) (sym by) ∙ number;
      answered = sym comes.answered ∙ (at.next.reply ∙ ap (λ (q : ℕ). (step at.stage.ledger q l.call).reply) by);
    }

pub comes-before : (b : BookTerms) (files : List (List Call)) (p i : ℕ) (c : Call) (t : StageTerms) → p < length files → IsStage b files t → slice_get (get_or files p []) i ≡ Some c
    → get_or t.made p 0 ≡ i → Comes b files p i (step t.ledger p c).reply
comes-before b files p i c t p_in is next before =
    let l : Line = record { process = p; number = get_or t.made p 0 + 1; call = c; reply = (step t.ledger p c).reply } in
    let is_next : IsNextOfProcess files t.ledger t.made l = record {
      process = p_in;
      number = refl {a = get_or t.made p 0 + 1};
      call = subst (λ (n : ℕ). slice_get (get_or files p []) n ≡ Some c) (sym before) next;
      reply = refl {a = (step t.ledger p c).reply};
    } in
    subst (λ (n : ℕ). Comes b files p n l.reply) before (comes-next b files t l is is_next)

-- a reply that comes in all files, and the one in the part then
record ComesDown (b : BookTerms) (files : List (List Call)) (parts : List ℕ) (p i : ℕ) (y : Reply) : Type 0 where
  at : ComesBefore b files p i y
  of : ℕ → StageTerms
  splits : Splits b files parts at.stage of
  both : NextBoth b p at.call at.stage (of (get_or parts p 0))
  there : Comes b (files_of_part files parts (get_or parts p 0)) p i (step (of (get_or parts p 0)).ledger p at.call).reply

comes-down : (b : BookTerms) (files : List (List Call)) (parts : List ℕ) (p i : ℕ) (y : Reply) → AreFiles b files → AreParts b files parts → p < length files → Comes b files p i y → ComesDown b files parts p i y
comes-down b files parts p i y are parted p_in comes =
    let at = before-comes b files p i y comes in
    let k : ℕ = get_or parts p 0 in
    let down = split b files parts at.stage are parted at.is in
    let next : slice_get (get_or files p []) (get_or at.stage.made p 0) ≡ Some at.call = subst (λ (n : ℕ). slice_get (get_or files p []) n ≡ Some at.call) (sym at.before) at.next in
    let count : get_or (down.of k).made p 0 ≡ i = down.splits.made p p_in ∙ at.before in
    record {
      at = at;
      of = down.of;
      splits = down.splits;
      both = both-next b files parts at.stage down.of p at.call are parted down.splits p_in next;
      there = comes-before b (files_of_part files parts k) p i at.call (down.of k) (let n = length-part files parts k in omega arith) (down.splits.each k (parted.known p p_in))
          (subst (λ (n : ℕ). slice_get (get_or (files_of_part files parts k) p []) n ≡ Some at.call) count (part-next b files parts at.stage down.of p k at.call down.splits p_in refl next)) count;
    }

-- a reply that is a balance is that of a read
pub record IsRead (c : Call) (s : LedgerState) (v : ℕ) : Type 0 where
  pub read : c ≡ Read (first_account c)
  pub balance : get_or s.balances (first_account c) 0 ≡ v

balance-of : (v w : ℕ) (y : Reply) → y ≡ Balance w → y ≡ Balance v → w ≡ v
balance-of v w y one other = let same : Balance w ≡ Balance v = sym one ∙ other in cc

read-from : (c : Call) (s u : LedgerState) (x y : Reply) (v : ℕ) → AreReplies c s u x y → x ≡ Balance v → IsRead c s v
unfolding AreReplies
read-from (Transfer from to amount) s u x y v are is = absurd (are.1 v is)
read-from (Read a) s u x y v are is = record { read = refl; balance = balance-of v (get_or s.balances a 0) x are.0 is }
read-from (Pay from targets) s u x y v are is = absurd (are.1 v is)

-- the replies of a payment are the same, and those of a read are balances
payment-same : (c : Call) (s u : LedgerState) (x y : Reply) (P : Type 0) → AreReplies c s u x y → ((v : ℕ) → y ≡ Balance v → P) → (x ≡ y → P) → P
unfolding AreReplies
payment-same (Transfer from to amount) s u x y P are read pays = pays are.0
payment-same (Read a) s u x y P are read pays = read (get_or u.balances a 0) are.1
payment-same (Pay from targets) s u x y P are read pays = pays are.0

-- without balances in the part, the replies are those of the part
none-down : (b : BookTerms) (files : List (List Call)) (parts : List ℕ) (p i : ℕ) (r : Replies) (y : Reply) → AreFiles b files → AreParts b files parts → p < length files
    → AreJust (Comes b (files_of_part files parts (get_or parts p 0)) p i) r → r.balances ≡ None → Comes b files p i y → Comes b (files_of_part files parts (get_or parts p 0)) p i y
none-down b files parts p i r y are parted p_in just none comes =
    let down = comes-down b files parts p i y are parted p_in comes in
    let at = down.at in
    let v : StageTerms = down.of (get_or parts p 0) in
    let fs : List (List Call) = files_of_part files parts (get_or parts p 0) in
    payment-same at.call at.stage.ledger v.ledger (step at.stage.ledger p at.call).reply (step v.ledger p at.call).reply (Comes b fs p i y) down.both.replies
    (λ n is. absurd (
    let listed : IsListed r (Balance n) = just.all (Balance n) (subst (Comes b fs p i) is down.there) in
    let some : Some listed.0 ≡ None = sym listed.1 ∙ none in
    cc))
    (λ same. subst (Comes b fs p i) (sym (at.answered ∙ same)) down.there)

pub payment-just : (b : BookTerms) (files : List (List Call)) (parts : List ℕ) (p i : ℕ) (r : Replies) → AreFiles b files → AreParts b files parts → p < length files
    → AreJust (Comes b (files_of_part files parts (get_or parts p 0)) p i) r → r.balances ≡ None → AreJust (Comes b files p i) r
payment-just b files parts p i r are parted p_in just none =
    just-same (Comes b (files_of_part files parts (get_or parts p 0)) p i) (Comes b files p i) r
    (λ y comes. comes-up b files parts (get_or parts p 0) p i y comes) (λ y comes. none-down b files parts p i r y are parted p_in just none comes) just

-- a stage of a part, for each
record Pick (P : ℕ → StageTerms → Type 0) (k : ℕ) : Type 0 where
  stage : StageTerms
  is : P k stage

record Picked (n : ℕ) (P : ℕ → StageTerms → Type 0) : Type 0 where
  of : ℕ → StageTerms
  each : (k : ℕ) → k < n → P k (of k)

picked : (n : ℕ) (P : ℕ → StageTerms → Type 0) (d : StageTerms) → ((k : ℕ) → k < n → Pick P k) → Picked n P
picked zero P d all = record { of = λ k. d; each = λ k h. absurd (omega arith) }
picked (suc n) P d all =
    let rest = picked n P d (λ k h. all k (omega arith)) in
    let last = all n (omega arith) in
    let of : ℕ → StageTerms = λ (k : ℕ). if k == n then last.stage else rest.of k in
    record {
      of = of;
      each = λ k h. at_or_off n k
          (λ same.
          let here : of n ≡ last.stage = rw (eq-eqb n n refl) refl in
          subst (λ (j : ℕ). P j (of j)) same (subst (P n) (sym here) last.is))
          (λ other.
          let there : of k ≡ rest.of k = rw (ne_eqb k n (λ same. other (sym same))) refl in
          subst (P k) (sym there) (rest.each k (omega (arith, other))));
    }

-- a stage of a part at which the account has what f says; of this part one before the call
record IsPicked (b : BookTerms) (files : List (List Call)) (parts : List ℕ) (p i a k : ℕ) (f : ℕ → ℕ) (j : ℕ) (t : StageTerms) : Type 0 where
  is : IsStage b (files_of_part files parts j) t
  has : get_or t.ledger.balances a 0 ≡ f j
  before : k ≡ j → get_or t.made p 0 ≡ i

-- before the call the account has, in some order of all files, what f says that each part brings it to
record HasSum (b : BookTerms) (files : List (List Call)) (p i a : ℕ) (f : ℕ → ℕ) : Type 0 where
  stage : StageTerms
  is : IsStage b files stage
  before : get_or stage.made p 0 ≡ i
  has : get_or stage.ledger.balances a 0 + sum_below (length files) (λ k. opening_of b a) ≡ opening_of b a + sum_below (length files) f

has-picked : (b : BookTerms) (files : List (List Call)) (parts : List ℕ) (p i a : ℕ) (f : ℕ → ℕ) → AreFiles b files → AreParts b files parts → p < length files → a < length b.accounts
    → ((k : ℕ) → k < length files → Pick (IsPicked b files parts p i a (get_or parts p 0) f) k) → HasSum b files p i a f
has-picked b files parts p i a f are parted p_in a_in picks =
    let k : ℕ = get_or parts p 0 in
    let all = picked (length files) (IsPicked b files parts p i a k f) (opening_stage b files) picks in
    let one = joined b files parts all.of are parted (λ j j_in. (all.each j j_in).is) in
    let brings = one.splits.brings a a_in in
    let same = sum-same (length files) (λ (j : ℕ). get_or (all.of j).ledger.balances a 0) f (λ j j_in. (all.each j j_in).has) in
    record {
      stage = one.stage;
      is = one.splits.is;
      before = sym (one.splits.made p p_in) ∙ (all.each k (parted.known p p_in)).before refl;
      has = omega arith;
    }

-- the stage of the part before the read
record Own (b : BookTerms) (files : List (List Call)) (parts : List ℕ) (p i a v : ℕ) : Type 0 where
  stage : StageTerms
  is : IsStage b (files_of_part files parts (get_or parts p 0)) stage
  before : get_or stage.made p 0 ≡ i
  has : get_or stage.ledger.balances a 0 ≡ v

pub balance-read : (b : BookTerms) (files : List (List Call)) (p i v : ℕ) (y : Reply) → AreFiles b files → p < length files → y ≡ Balance v → (at : ComesBefore b files p i y) → IsRead at.call at.stage.ledger v
balance-read b files p i v y are p_in is at =
    let fit : IsFit b at.stage.ledger = (way-stage b files at.stage are at.is).fit in
    let on : IsCallOn (length b.accounts) at.call = call_known-at (length b.accounts) files p i at.call are.playable p_in at.next in
    read-from at.call at.stage.ledger at.stage.ledger (step at.stage.ledger p at.call).reply (step at.stage.ledger p at.call).reply v
    (replies-even b p at.call at.stage.ledger at.stage.ledger (let n = are.count in omega arith) on fit fit (record { sent = refl; asked = λ a a_in. refl }) (λ f ts pays owns. inr refl))
    (sym at.answered ∙ is)

own-stage : (b : BookTerms) (files : List (List Call)) (parts : List ℕ) (p i a v : ℕ) → AreFiles b files → AreParts b files parts → p < length files → slice_get (get_or files p []) i ≡ Some (Read a)
    → Comes b (files_of_part files parts (get_or parts p 0)) p i (Balance v) → Own b files parts p i a v
own-stage b files parts p i a v are parted p_in is comes =
    let k : ℕ = get_or parts p 0 in
    let fs : List (List Call) = files_of_part files parts k in
    let at = before-comes b fs p i (Balance v) comes in
    let read = balance-read b fs p i v (Balance v) (part-playable b files parts k are) (let n = length-part files parts k in omega arith) refl at in
    let there : slice_get (get_or files p []) i ≡ Some at.call = subst (λ (calls : List Call). slice_get calls i ≡ Some at.call) (own-file files parts k p p_in refl) at.next in
    let calls : at.call ≡ Read a = cc in
    record { stage = at.stage; is = at.is; before = at.before; has = ap (λ (c : Call). get_or at.stage.ledger.balances (first_account c) 0) (sym calls) ∙ read.balance }

-- what a read of the process tells: its part has the account from here to there before it, and each part has it in its range
pub record ReadsFrom (b : BookTerms) (files : List (List Call)) (parts : List ℕ) (p i a : ℕ) (own : Range) (r : ℕ → Range) : Type 0 where
  pub are : AreFiles b files
  pub parted : AreParts b files parts
  pub p_in : p < length files
  pub a_in : a < length b.accounts
  pub reads : slice_get (get_or files p []) i ≡ Some (Read a)
  pub least : Comes b (files_of_part files parts (get_or parts p 0)) p i (Balance own.least)
  pub greatest : Comes b (files_of_part files parts (get_or parts p 0)) p i (Balance own.greatest)
  pub all : (v : ℕ) → Comes b (files_of_part files parts (get_or parts p 0)) p i (Balance v) → (own.least ≤ v) × (v ≤ own.greatest)
  pub ranges : AreRanges b files parts a r

picks : (b : BookTerms) (files : List (List Call)) (parts : List ℕ) (p i a v : ℕ) (g : ℕ → ℕ) → Own b files parts p i a v
    → ((k : ℕ) → k < length files → HoldsAt b (files_of_part files parts k) a (g k)) → (k : ℕ) → k < length files → Pick (IsPicked b files parts p i a (get_or parts p 0) (at_else (get_or parts p 0) v g)) k
picks b files parts p i a v g own held j j_in = at_or_off k j
    (λ same.
    let x = at_else-at k v j g (sym same) in
    record {
      stage = own.stage;
      is = record {
        is = subst (λ (n : ℕ). IsStage b (files_of_part files parts n) own.stage) same own.is;
        has = own.has ∙ sym x;
        before = λ e. own.before;
      };
    })
    (λ off.
    let x = at_else-off k v j g off in
    let one = held j j_in in
    record { stage = one.stage; is = record { is = one.is; has = one.has ∙ sym x; before = λ e. absurd (off e) } })
  where
    k : ℕ
    k = get_or parts p 0

has-lowest : (b : BookTerms) (files : List (List Call)) (parts : List ℕ) (p i a : ℕ) (own : Range) (r : ℕ → Range) → ReadsFrom b files parts p i a own r
    → HasSum b files p i a (at_else (get_or parts p 0) own.least (λ k. (r k).least))
has-lowest b files parts p i a own r reads =
    has-picked b files parts p i a (at_else (get_or parts p 0) own.least (λ k. (r k).least)) reads.are reads.parted reads.p_in reads.a_in
    (picks b files parts p i a own.least (λ (k : ℕ). (r k).least) (own-stage b files parts p i a own.least reads.are reads.parted reads.p_in reads.reads reads.least) (λ k k_in. (reads.ranges k k_in).least))

has-highest : (b : BookTerms) (files : List (List Call)) (parts : List ℕ) (p i a : ℕ) (own : Range) (r : ℕ → Range) → ReadsFrom b files parts p i a own r
    → HasSum b files p i a (at_else (get_or parts p 0) own.greatest (λ k. (r k).greatest))
has-highest b files parts p i a own r reads =
    has-picked b files parts p i a (at_else (get_or parts p 0) own.greatest (λ k. (r k).greatest)) reads.are reads.parted reads.p_in reads.a_in
    (picks b files parts p i a own.greatest (λ (k : ℕ). (r k).greatest) (own-stage b files parts p i a own.greatest reads.are reads.parted reads.p_in reads.reads reads.greatest) (λ k k_in. (reads.ranges k k_in).greatest))

has-least : (b : BookTerms) (files : List (List Call)) (parts : List ℕ) (p i a : ℕ) (own : Range) (r : ℕ → Range) → (reads : ReadsFrom b files parts p i a own r)
    → get_or (has-lowest b files parts p i a own r reads).stage.ledger.balances a 0 + falls_of b a r (get_or parts p 0) (length files) ≡ own.least
has-least b files parts p i a own r reads =
    let k : ℕ = get_or parts p 0 in
    let has = (has-lowest b files parts p i a own r reads).has in
    let opens = sum-opened b files k own.least a (reads.parted.known p reads.p_in) in
    let lows = sum-lowest b files parts k own.least a r reads.a_in reads.ranges in
    omega arith

has-greatest : (b : BookTerms) (files : List (List Call)) (parts : List ℕ) (p i a : ℕ) (own : Range) (r : ℕ → Range) → (reads : ReadsFrom b files parts p i a own r)
    → get_or (has-highest b files parts p i a own r reads).stage.ledger.balances a 0 ≡ own.greatest + rises_of b a r (get_or parts p 0) (length files)
has-greatest b files parts p i a own r reads =
    let k : ℕ = get_or parts p 0 in
    let has = (has-highest b files parts p i a own r reads).has in
    let opens = sum-opened b files k own.greatest a (reads.parted.known p reads.p_in) in
    let highs = sum-highest b files parts k own.greatest a r reads.a_in reads.ranges in
    omega arith

-- the falls of the other parts are within the least balance, and with their rises the greatest is within the total
pub falls-within : (b : BookTerms) (files : List (List Call)) (parts : List ℕ) (p i a : ℕ) (own : Range) (r : ℕ → Range) → ReadsFrom b files parts p i a own r
    → falls_of b a r (get_or parts p 0) (length files) ≤ own.least
falls-within b files parts p i a own r reads = let least = has-least b files parts p i a own r reads in omega arith

pub rises-within : (b : BookTerms) (files : List (List Call)) (parts : List ℕ) (p i a : ℕ) (own : Range) (r : ℕ → Range) → ReadsFrom b files parts p i a own r
    → own.greatest + rises_of b a r (get_or parts p 0) (length files) ≤ total_of b
rises-within b files parts p i a own r reads =
    let has = has-highest b files parts p i a own r reads in
    let greatest = has-greatest b files parts p i a own r reads in
    let way = way-stage b files has.stage reads.are has.is in
    let total = way.total in
    let size = way.fit.balances in
    let a_in = reads.a_in in
    let one = get_or-le-sum_by (λ (n : ℕ). n) has.stage.ledger.balances a 0 (omega arith) in
    omega arith

-- a balance that is read is between the two sums
record Between (b : BookTerms) (files : List (List Call)) (parts : List ℕ) (p a v : ℕ) (own : Range) (r : ℕ → Range) : Type 0 where
  low : own.least ≤ v + falls_of b a r (get_or parts p 0) (length files)
  high : v ≤ own.greatest + rises_of b a r (get_or parts p 0) (length files)

between : (b : BookTerms) (files : List (List Call)) (parts : List ℕ) (p i a : ℕ) (own : Range) (r : ℕ → Range) (t : StageTerms) (u : ℕ → StageTerms) → ReadsFrom b files parts p i a own r
    → Splits b files parts t u → (own.least ≤ get_or (u (get_or parts p 0)).ledger.balances a 0) × (get_or (u (get_or parts p 0)).ledger.balances a 0 ≤ own.greatest)
    → Between b files parts p a (get_or t.ledger.balances a 0) own r
between b files parts p i a own r t u reads splits here =
    let k : ℕ = get_or parts p 0 in
    let n : ℕ = length files in
    let f : ℕ → ℕ = λ (j : ℕ). get_or (u j).ledger.balances a 0 in
    let at : (j : ℕ) → k ≡ j → (own.least ≤ f j) × (f j ≤ own.greatest) = λ j same. subst (λ (m : ℕ). (own.least ≤ f m) × (f m ≤ own.greatest)) same here in
    let held : (j : ℕ) → j < n → HoldsAt b (files_of_part files parts j) a (f j) = λ j j_in. record { stage = u j; is = splits.each j j_in; has = refl } in
    let low = sum-up n (at_else k own.least (λ (j : ℕ). (r j).least)) f (λ j j_in. at_or_off k j
    (λ same. let x = at_else-at k own.least j (λ (m : ℕ). (r m).least) (sym same) in let y = (at j same).0 in omega arith)
    (λ off. let x = at_else-off k own.least j (λ (m : ℕ). (r m).least) off in let y = (reads.ranges j j_in).low (f j) (held j j_in) in omega arith)) in
    let high = sum-up n f (at_else k own.greatest (λ (j : ℕ). (r j).greatest)) (λ j j_in. at_or_off k j
    (λ same. let x = at_else-at k own.greatest j (λ (m : ℕ). (r m).greatest) (sym same) in let y = (at j same).1 in omega arith)
    (λ off. let x = at_else-off k own.greatest j (λ (m : ℕ). (r m).greatest) off in let y = (reads.ranges j j_in).high (f j) (held j j_in) in omega arith)) in
    let brings = splits.brings a reads.a_in in
    let opens_low = sum-opened b files k own.least a (reads.parted.known p reads.p_in) in
    let opens_high = sum-opened b files k own.greatest a (reads.parted.known p reads.p_in) in
    let lows = sum-lowest b files parts k own.least a r reads.a_in reads.ranges in
    let highs = sum-highest b files parts k own.greatest a r reads.a_in reads.ranges in
    record { low = omega arith; high = omega arith }

read-listed : (range : Range) (v : ℕ) (y : Reply) → y ≡ Balance v → range.least ≤ v → v ≤ range.greatest → IsListed (read_replies range) y
read-listed range v y is low high = subst (IsListed (read_replies range)) (sym is) (range, refl, low, high)

reads-balance : (b : BookTerms) (files : List (List Call)) (p i a : ℕ) (t : StageTerms) (v : ℕ) → p < length files → slice_get (get_or files p []) i ≡ Some (Read a) → IsStage b files t → get_or t.made p 0 ≡ i
    → get_or t.ledger.balances a 0 ≡ v → Comes b files p i (Balance v)
reads-balance b files p i a t v p_in is stage before has = subst (λ (n : ℕ). Comes b files p i (Balance n)) has (comes-before b files p i (Read a) t p_in stage is before)

pub read-just : (b : BookTerms) (files : List (List Call)) (parts : List ℕ) (p i a : ℕ) (own range : Range) (r : ℕ → Range) → ReadsFrom b files parts p i a own r
    → range.least + falls_of b a r (get_or parts p 0) (length files) ≡ own.least → range.greatest ≡ own.greatest + rises_of b a r (get_or parts p 0) (length files)
    → AreJust (Comes b files p i) (read_replies range)
read-just b files parts p i a own range r reads least greatest =
    let low = has-lowest b files parts p i a own r reads in
    let high = has-highest b files parts p i a own r reads in
    let low_is = has-least b files parts p i a own r reads in
    let high_is = has-greatest b files parts p i a own r reads in
    record {
      all = λ y comes. all y comes;
      done = λ t. absurd (true≢false (sym t));
      short = λ t. absurd (true≢false (sym t));
      full = λ t. absurd (true≢false (sym t));
      not_owner = λ t. absurd (true≢false (sym t));
      least = λ other same.
          let one : range.least ≡ other.least = cc in
          reads-balance b files p i a low.stage other.least reads.p_in reads.reads low.is low.before (omega arith);
      greatest = λ other same.
          let one : range.greatest ≡ other.greatest = cc in
          reads-balance b files p i a high.stage other.greatest reads.p_in reads.reads high.is high.before (omega arith);
    }
  where
    k : ℕ
    k = get_or parts p 0

    all : (y : Reply) → Comes b files p i y → IsListed (read_replies range) y
    all y comes =
        let down = comes-down b files parts p i y reads.are reads.parted reads.p_in comes in
        let at = down.at in
        let next = at.next in
        let is = reads.reads in
        let calls : at.call ≡ Read a = cc in
        let told : y ≡ Balance (get_or at.stage.ledger.balances a 0) = at.answered ∙ ap (λ (c : Call). (step at.stage.ledger p c).reply) calls in
        let part_told : Comes b (files_of_part files parts k) p i (Balance (get_or (down.of k).ledger.balances a 0)) =
        subst (Comes b (files_of_part files parts k) p i) (ap (λ (c : Call). (step (down.of k).ledger p c).reply) calls) down.there in
        let within = between b files parts p i a own r at.stage down.of reads down.splits (reads.all (get_or (down.of k).ledger.balances a 0) part_told) in
        let low = within.low in
        let high = within.high in
        read-listed range (get_or at.stage.ledger.balances a 0) y told (omega arith) (omega arith)
