-- Amounts that are moved, of all balances and of those that are kept.
use Rattle.std.proofs.Common.{◌≡◌, ℕ, ◌+◌, ◌-◌, ◌<◌, ◌≤◌, None, Some, All, List, length, get_or, set, drop, sum, refl, sym, ap, subst, ◌∙◌, arith}
use Rattle.at_orders.proofs.Prelude.{get_or-le-sum_by, sum_by-set, AreTargetsOn, TargetPair, amount_of, LedgerState, balance_of, credited, moved, amount_of-drop_more, credited-drop_all, credited-drop_more, sum-set_more, GroundTerms, ledger_at, requests_at, AreKept, ArePlaces, HasNumbers, IsGround, IsStanding, Stage}
use Rattle.at_orders.proofs.Keeping.{kept-known, kept-other, kept-set}
use Rattle.at_orders.proofs.Moved.{moved_in, sum-moved}

-- so many targets have their amounts, of all balances and of those that are kept
pub record IsCreditedTo (g : GroundTerms) (kept all : List ℕ) (targets : List TargetPair) (i : ℕ) : Type 0 where
  pub now : List ℕ
  pub are : AreKept g kept now
  pub rest : credited now (drop i targets) ≡ credited all targets
  pub total : sum now + amount_of (drop i targets) ≡ sum all + amount_of targets

pub credited-none : (g : GroundTerms) (kept all : List ℕ) (targets : List TargetPair) → AreKept g kept all → IsCreditedTo g kept all targets 0
credited-none g kept all targets are = record { now = all; are = are; rest = refl; total = refl }

pub credited-all : (g : GroundTerms) (kept all : List ℕ) (targets : List TargetPair) (i : ℕ) → length targets ≤ i → IsCreditedTo g kept all targets i
    → AreKept g kept (credited all targets)
credited-all g kept all targets i past done =
    subst (AreKept g kept) (sym (credited-drop_all done.now targets i past) ∙ done.rest) done.are

-- one more target, whose balance may be kept
more-of : (g : GroundTerms) (new all : List ℕ) (targets : List TargetPair) (i : ℕ) (now : List ℕ) → length now ≡ length g.book.accounts
    → AreTargetsOn (length g.book.accounts) targets → i < length targets
    → credited now (drop i targets) ≡ credited all targets → sum now + amount_of (drop i targets) ≡ sum all + amount_of targets
    → AreKept g new (set now (get_or targets i (0, 0)).0 (get_or now (get_or targets i (0, 0)).0 0 + (get_or targets i (0, 0)).1)) → IsCreditedTo g new all targets (i + 1)
more-of g new all targets i now size known within rest total are = record {
  now = set now t.0 (get_or now t.0 0 + t.1);
  are = are;
  rest = sym (credited-drop_more now targets i within) ∙ rest;
  total =
      let inside : t.0 < length g.book.accounts = known i (0, 0) within in
      let grown = sum-set_more now t.0 t.1 (omega arith) in
      let more = amount_of-drop_more targets i within in
      omega (arith, more, grown, total);
}
  where
    t : TargetPair
    t = get_or targets i (0, 0)

pub credited-kept : (g : GroundTerms) (kept all : List ℕ) (targets : List TargetPair) (i place : ℕ) → ArePlaces (length g.book.accounts) g.named g.places
    → length kept ≡ length g.named → AreTargetsOn (length g.book.accounts) targets → i < length targets → get_or g.places (get_or targets i (0, 0)).0 None ≡ Some place
    → IsCreditedTo g kept all targets i → IsCreditedTo g (set kept place (get_or kept place 0 + (get_or targets i (0, 0)).1)) all targets (i + 1)
credited-kept g kept all targets i place law sized known within is done =
    more-of g (set kept place (get_or kept place 0 + t.1)) all targets i done.now done.are.size known within done.rest done.total
    (subst (λ (n : ℕ). AreKept g (set kept place (n + t.1)) (set done.now t.0 (get_or done.now t.0 0 + t.1))) (done.are.each t.0 place is)
    (kept-set g kept done.now t.0 place (get_or done.now t.0 0 + t.1) law sized is done.are))
  where
    t : TargetPair
    t = get_or targets i (0, 0)

pub credited-other : (g : GroundTerms) (kept all : List ℕ) (targets : List TargetPair) (i : ℕ) → AreTargetsOn (length g.book.accounts) targets → i < length targets
    → get_or g.places (get_or targets i (0, 0)).0 None ≡ None → IsCreditedTo g kept all targets i → IsCreditedTo g kept all targets (i + 1)
credited-other g kept all targets i known within none done =
    more-of g kept all targets i done.now done.are.size known within done.rest done.total
    (kept-other g kept done.now t.0 (get_or done.now t.0 0 + t.1) none done.are)
  where
    t : TargetPair
    t = get_or targets i (0, 0)

-- a kept balance has room for the amount of the next target
pub credited-fits : (g : GroundTerms) (kept all : List ℕ) (targets : List TargetPair) (i place most : ℕ) → ArePlaces (length g.book.accounts) g.named g.places
    → i < length targets → get_or g.places (get_or targets i (0, 0)).0 None ≡ Some place → sum all + amount_of targets < most
    → IsCreditedTo g kept all targets i → get_or kept place 0 + (get_or targets i (0, 0)).1 < most
credited-fits g kept all targets i place most law within is fits done =
    let t : TargetPair = get_or targets i (0, 0) in
    let here = done.are.each t.0 place is in
    let few = get_or-le-sum_by (λ n. n) done.now t.0 0 (kept-known g kept done.now t.0 place law done.are is) in
    let more = amount_of-drop_more targets i within in
    let total = done.total in
    omega (arith, here, few, more, total, fits)

-- the ledger with the balances that are known to stand
pub has-all : (g : GroundTerms) (s : Stage) → (standing : IsStanding g s) → HasNumbers g s (ledger_at g s standing.all)
has-all g s standing = record { is = refl; kept = standing.kept }

pub covered-all : (g : GroundTerms) (s : Stage) (source : ℕ) (targets : List TargetPair) → (standing : IsStanding g s)
    → ((l : LedgerState) → HasNumbers g s l → amount_of targets ≤ balance_of l source) → amount_of targets ≤ get_or standing.all source 0
covered-all g s source targets standing covered = covered (ledger_at g s standing.all) (has-all g s standing)

-- what an account has fits 64 bits
pub amount-few : (g : GroundTerms) (s : Stage) (source amount : ℕ) → IsGround g → (standing : IsStanding g s) → source < length g.book.accounts → amount ≤ get_or standing.all source 0
    → amount < 18446744073709551616
amount-few g s source amount ground standing within covered =
    let size = standing.kept.size in
    let most = get_or-le-sum_by (λ n. n) standing.all source 0 (omega arith) in
    let total = standing.total in
    let few = ground.book.begun.total in
    omega (arith, most, total, few, covered)

-- and so does what is left with the amount that is taken
pub taken-few : (g : GroundTerms) (s : Stage) (source amount : ℕ) → IsGround g → (standing : IsStanding g s) → source < length g.book.accounts → amount ≤ get_or standing.all source 0
    → sum (set standing.all source (get_or standing.all source 0 - amount)) + amount < 18446744073709551616
taken-few g s source amount ground standing within covered =
    let size = standing.kept.size in
    let taken = sum_by-set (λ n. n) standing.all source (get_or standing.all source 0 - amount) 0 (omega arith) in
    let total = standing.total in
    let few = ground.book.begun.total in
    omega (arith, taken, total, few, covered)

-- the amounts are moved, of all balances and of those that are kept
module _ (g : GroundTerms) (s u : Stage) (source : ℕ) (targets : List TargetPair) (kept : List ℕ)
    (debited : (all : List ℕ) → AreKept g s.balances.items all → AreKept g kept (set all source (get_or all source 0 - amount_of targets)))
    (added : (all : List ℕ) → AreKept g kept all → AreKept g u.balances.items (credited all targets))
    (made : u.made.items ≡ s.made.items) (sent : u.sent.items ≡ s.sent.items) where
  pub moved-has : (l : LedgerState) → HasNumbers g s l → HasNumbers g u (moved l source targets)
  moved-has l has = record {
    is = (λ i. record { book = g.book; balances = moved_in l.balances source targets; sent = sent i; asked = requests_at g (made i) })
        ∙ ap (λ (x : LedgerState). record x { balances = moved_in l.balances source targets }) has.is;
    kept = added (set l.balances source (get_or l.balances source 0 - amount_of targets)) (debited l.balances has.kept);
  }

  pub standing-moved : (standing : IsStanding g s) → source < length g.book.accounts → AreTargetsOn (length g.book.accounts) targets
      → amount_of targets ≤ get_or standing.all source 0 → length u.balances.items ≡ length g.named → IsStanding g u
  standing-moved standing within known covered sized =
      let size = standing.kept.size in
      record {
        counts = ap (length {A = ℕ}) made ∙ standing.counts;
        balances = sized;
        all = moved_in standing.all source targets;
        kept = added (set standing.all source (get_or standing.all source 0 - amount_of targets)) (debited standing.all standing.kept);
        total = sum-moved standing.all source targets (omega arith) (subst (λ (n : ℕ). AreTargetsOn n targets) (sym size) known) covered ∙ standing.total;
        sent = ap (length {A = ℕ}) sent ∙ standing.sent;
        sent_room = subst (All (λ n. n ≤ g.book.own_room)) (sym sent) standing.sent_room;
      }
