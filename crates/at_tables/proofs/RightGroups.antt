-- The groups have all sets of owners that have a payment to agree on, and no other.
use Rattle.std.proofs.Common.{◌≡◌, ℕ, zero, suc, ◌<◌, ◌⊎◌, inl, inr, All, Bool, true, false, ◌&&◌, cond, List, [], ◌∷◌, length, get_or, map, fold, refl, sym, ap, subst, ◌∙◌, arith, bytes_eq}
use Rattle.std.specs.Prelude.{Contains, nat_lt}
use Rattle.at_tables.proofs.Prelude.{AllByRecursion, IsStrictlySortedBy, Ordering, Less, Equal, Greater, match_ordering, nat_cmp, ordering_then, insert_key, slice_cmp, ltb-true, bytes_eq-Decides, CmpEqualImpliesEq, exact_bytes, exact_unsigned, All-insert_key, AccountTerms, is_shared, no_account, BookTerms, account_of, Call, AreGroups, GroupTerms, group_cmp, group_of_owners, groups_of, is_agreed_by, with_group, count_first, count_in, is_by_owner_of, is_shared_by}
use Rattle.at_tables.proofs.GroupLaws.{with_group-some}
use Rattle.at_tables.proofs.SumLaws.{count_if, files_of, over, over-suc, over_files}

module _ {K : Type 0} (cmp : K → K → Ordering) where
  -- a key that is there stays
  pub insert_key-keeps : (keys : List K) (key q : K) → Contains keys q → Contains (insert_key cmp keys key) q
  insert_key-keeps [] key q there = absurd (omega (arith, there.1))
  insert_key-keeps (k ∷ keys) key q (zero, within, is) = first (cmp key k) is
    where
      first : (o : Ordering) → k ≡ q → Contains (match_ordering o (key ∷ k ∷ keys) (k ∷ keys) (k ∷ insert_key cmp keys key)) q
      first Less e = (1, omega arith, e)
      first Equal e = (0, omega arith, e)
      first Greater e = (0, omega arith, e)
  insert_key-keeps (k ∷ keys) key q (suc i, within, is) =
      let there : Contains keys q = (i, omega arith, is) in
      later (cmp key k) (insert_key-keeps keys key q there)
    where
      later : (o : Ordering) → Contains (insert_key cmp keys key) q → Contains (match_ordering o (key ∷ k ∷ keys) (k ∷ keys) (k ∷ insert_key cmp keys key)) q
      later Less next = (suc (suc i), omega arith, is)
      later Equal next = (suc i, within, is)
      later Greater next = (suc next.0, omega (arith, next.1), next.2)

  -- the key that is inserted is there
  pub insert_key-has : CmpEqualImpliesEq cmp → (keys : List K) (key : K) → Contains (insert_key cmp keys key) key
  insert_key-has exact [] key = (0, omega arith, refl)
  insert_key-has exact (k ∷ keys) key = by (cmp key k) refl (insert_key-has exact keys key)
    where
      by : (o : Ordering) → cmp key k ≡ o → Contains (insert_key cmp keys key) key → Contains (match_ordering o (key ∷ k ∷ keys) (k ∷ keys) (k ∷ insert_key cmp keys key)) key
      by Less e next = (0, omega arith, refl)
      by Equal e next = (0, omega arith, sym (exact key k e))
      by Greater e next = (suc next.0, omega (arith, next.1), next.2)

ordering_then-equal : (o p : Ordering) → ordering_then o p ≡ Equal → (o ≡ Equal) × (p ≡ Equal)
ordering_then-equal Less p e = absurd (let h : Less ≡ Equal = e in cc)
ordering_then-equal Equal p e = (refl, e)
ordering_then-equal Greater p e = absurd (let h : Greater ≡ Equal = e in cc)

group_cmp-exact : CmpEqualImpliesEq group_cmp
group_cmp-exact g h e =
    let both = ordering_then-equal (nat_cmp h.payments g.payments) (slice_cmp nat_cmp g.owners h.owners) e in
    let payments : h.payments ≡ g.payments = exact_unsigned h.payments g.payments both.0 in
    let owners : g.owners ≡ h.owners = exact_bytes g.owners h.owners both.1 in
    let the : ℕ → List ℕ → GroupTerms = λ n xs. record { payments = n; owners = xs } in
    ap (λ (n : ℕ). the n g.owners) (sym payments) ∙ ap (λ (xs : List ℕ). the h.payments xs) owners

with_group-keeps : (groups : List GroupTerms) (g q : GroupTerms) → Contains groups q → Contains (with_group groups g) q
with_group-keeps groups g q there = by (nat_lt 0 g.payments)
  where
    by : (some : Bool) → Contains (cond some (insert_key group_cmp groups g) groups) q
    by true = insert_key-keeps group_cmp groups g q there
    by false = there

module _ (f : AccountTerms → GroupTerms) where
  groups-keep : (accounts : List AccountTerms) (groups : List GroupTerms) (q : GroupTerms) → Contains groups q → Contains (fold with_group groups (map f accounts)) q
  groups-keep [] groups q there = there
  groups-keep (t ∷ accounts) groups q there = groups-keep accounts (with_group groups (f t)) q (with_group-keeps groups (f t) q there)

  -- the group of each account that has a payment is there
  groups-have : (accounts : List AccountTerms) (groups : List GroupTerms) (a : ℕ) → a < length accounts → 0 < (f (get_or accounts a no_account)).payments
      → Contains (fold with_group groups (map f accounts)) (f (get_or accounts a no_account))
  groups-have [] groups a within some = absurd (omega arith)
  groups-have (t ∷ accounts) groups zero within some =
      let here : Contains (with_group groups (f t)) (f t) = subst (λ (gs : List GroupTerms). Contains gs (f t)) (sym (with_group-some groups (f t) some)) (insert_key-has group_cmp group_cmp-exact groups (f t)) in
      groups-keep accounts (with_group groups (f t)) (f t) here
  groups-have (t ∷ accounts) groups (suc a) within some = groups-have accounts (with_group groups (f t)) a (omega arith) some

  -- what holds of the group of each account that has a payment holds of each group
  groups-are : (P : GroupTerms → Type 0) → ((t : AccountTerms) → 0 < (f t).payments → P (f t)) → (accounts : List AccountTerms) (groups : List GroupTerms) → All P groups
      → All P (fold with_group groups (map f accounts))
  groups-are P each [] groups all = all
  groups-are P each (t ∷ accounts) groups all = groups-are P each accounts (with_group groups (f t)) (by (nat_lt 0 (f t).payments) refl)
    where
      by : (some : Bool) → nat_lt 0 (f t).payments ≡ some → All P (cond some (insert_key group_cmp groups (f t)) groups)
      by true e = All-insert_key group_cmp (f t) P groups all (each t (ltb-true 0 (f t).payments e))
      by false e = all

-- a sum that is above 0 has a part that is
over-some : (n : ℕ) (g : ℕ → ℕ) → 0 < over n g → (a : ℕ) × (a < n) × (0 < g a)
over-some zero g some = absurd (omega (arith, some))
over-some (suc n) g some = by (λ more. over-some n g more) (let split : (0 < g n) ⊎ (g n ≡ 0) = grind arith in split)
  where
    by : (0 < over n g → (a : ℕ) × (a < n) × (0 < g a)) → (0 < g n) ⊎ (g n ≡ 0) → (a : ℕ) × (a < suc n) × (0 < g a)
    by below (inl here) = (n, omega arith, here)
    by below (inr none) = let part = below (omega (arith, over-suc n g, some)) in (part.0, omega (arith, part.1), part.2)

counted-alike : (b : BookTerms) (owners : List ℕ) (a n : ℕ) → 0 < count_if (is_shared_by owners (account_of b a)) n → (account_of b a).owners ≡ owners
counted-alike b owners a n some = let t = account_of b a in (bytes_eq-Decides t.owners owners).0 (by (is_shared t) (bytes_eq t.owners owners) some)
  where
    by : (shared same : Bool) → 0 < count_if (shared && same) n → same ≡ true
    by true true h = refl
    by true false h = absurd (omega (arith, h))
    by false same h = absurd (omega (arith, h))

pub groups_of-counted : (b : BookTerms) (files : List (List Call)) → All (λ g. (0 < g.payments) × (g.payments ≡ count_in (is_agreed_by g.owners b) files)) (groups_of b files)
groups_of-counted b files =
    groups-are (group_of_owners b files) (λ g. (0 < g.payments) × (g.payments ≡ count_in (is_agreed_by g.owners b) files)) (λ t some. (some, refl)) b.accounts [] (λ k d within. absurd (omega arith))

pub groups_of-all : (b : BookTerms) (files : List (List Call)) (owners : List ℕ) → 0 < count_in (is_agreed_by owners b) files
    → Contains (groups_of b files) (record { payments = count_in (is_agreed_by owners b) files; owners = owners })
groups_of-all b files owners some =
    let part = over-some (length b.accounts) (files_of b owners files (length files)) (subst (λ (n : ℕ). 0 < n) (sym (over_files b owners files (length files))) some) in
    let same : (account_of b part.0).owners ≡ owners = counted-alike b owners part.0 (count_first (is_by_owner_of part.0 b) files (length files)) part.2 in
    let group : List ℕ → GroupTerms = λ xs. record { payments = count_in (is_agreed_by xs b) files; owners = xs } in
    let counted : 0 < count_in (is_agreed_by (account_of b part.0).owners b) files = subst (λ (xs : List ℕ). 0 < count_in (is_agreed_by xs b) files) (sym same) some in
    subst (λ (xs : List ℕ). Contains (groups_of b files) (group xs)) same (groups-have (group_of_owners b files) b.accounts [] part.0 part.1 counted)

all-map : {K T : Type 0} (P : T → Type 0) (f : K → T) (keys : List K) → AllByRecursion (λ k. P (f k)) keys → AllByRecursion P (map f keys)
all-map P f [] all = all
all-map P f (k ∷ keys) all = (all.0, all-map P f keys all.1)

all-same : {K : Type 0} (P Q : K → Type 0) → ((k : K) → P k → Q k) → (keys : List K) → AllByRecursion P keys → AllByRecursion Q keys
all-same P Q each [] all = all
all-same P Q each (k ∷ keys) all = (each k all.0, all-same P Q each keys all.1)

-- keys in order, seen through a function that keeps the order
pub sorted-map : {K T : Type 0} (R : K → K → Ordering) (S : T → T → Ordering) (f : K → T) (keys : List K) → IsStrictlySortedBy R keys
    → ((x y : K) → R x y ≡ S (f x) (f y)) → IsStrictlySortedBy S (map f keys)
unfolding IsStrictlySortedBy
sorted-map R S f [] sorted same = sorted
sorted-map R S f (k ∷ keys) sorted same = (
  all-map (λ y. S (f k) y ≡ Less) f keys (all-same (λ y. R k y ≡ Less) (λ y. S (f k) (f y) ≡ Less) (λ y less. sym (same k y) ∙ less) keys sorted.0),
  sorted-map R S f keys sorted.1 same,
)

pub groups_of-AreGroups : (b : BookTerms) (files : List (List Call)) → IsStrictlySortedBy group_cmp (groups_of b files) → AreGroups b files (groups_of b files)
groups_of-AreGroups b files sorted = record { counted = groups_of-counted b files; ordered = sorted; all = groups_of-all b files }
