-- Totals in their map, and groups in their set.
use Rattle.std.proofs.Common.{◌≡◌, ℕ, suc, ◌+◌, ◌<◌, All, Bool, true, false, cond, List, [], ◌∷◌, ◌++◌, length, take, map, fold, refl, ap, subst, ◌∙◌, arith, bytes_eq, Vec, Option, Some, unwrap_or}
use Rattle.at_tables.proofs.Prelude.{Ordering, Less, Equal, Greater, is_eq, match_ordering, nat_cmp, get_by, insert_key, slice_cmp, Global, lt-ltb, map-append, take_more, fold_push, is_eq-slice_cmp, bytes_eq-Decides, AccountTerms, no_account, BookTerms, account_of, Call, GroupTerms, group_cmp, group_of_owners, groups_among, is_agreed_by, with_group, count_in, Totals, total_in}

abbrev the_group : ℕ → List ℕ → GroupTerms
the_group payments owners = record { payments = payments; owners = owners }

-- the total of owners by their list
abbrev total_at : Totals → List ℕ → ℕ
total_at totals owners = unwrap_or (get_by (λ k. slice_cmp nat_cmp owners k.items) totals) 0

by_case : (same : Bool) (had n : ℕ) (o : Option ℕ) → (same ≡ true → had ≡ unwrap_or o 0) → unwrap_or (cond same (Some (had + n)) o) 0 ≡ unwrap_or o 0 + cond same n 0
by_case true had n o is = omega (arith, is refl)
by_case false had n o is = omega arith

-- a total that was added to
pub total_in-step : (old new : Totals) (owners others : Vec ℕ Global) (total n : ℕ) → total ≡ total_in old owners + n
    → get_by (λ k. slice_cmp nat_cmp others.items k.items) new ≡ cond (is_eq (slice_cmp nat_cmp owners.items others.items)) (Some total) (get_by (λ k. slice_cmp nat_cmp others.items k.items) old)
    → total_in new others ≡ total_in old others + cond (bytes_eq owners.items others.items) n 0
total_in-step old new owners others total n is got =
    let o : Option ℕ = get_by (λ k. slice_cmp nat_cmp others.items k.items) old in
    let same : bytes_eq owners.items others.items ≡ true → total_in old owners ≡ unwrap_or o 0 = λ e. ap (total_at old) ((bytes_eq-Decides owners.items others.items).0 e) in
    ap (λ (v : Option ℕ). unwrap_or v 0) got
    ∙ ap (λ (test : Bool). unwrap_or (cond test (Some total) o) 0) (is_eq-slice_cmp owners.items others.items)
    ∙ ap (λ (v : ℕ). unwrap_or (cond (bytes_eq owners.items others.items) (Some v) o) 0) is
    ∙ by_case (bytes_eq owners.items others.items) (total_in old owners) n o same

map-match_ordering : {K T : Type 0} (f : K → T) (o : Ordering) (less equal greater : List K)
    → map f (match_ordering o less equal greater) ≡ match_ordering o (map f less) (map f equal) (map f greater)
map-match_ordering f Less less equal greater = refl
map-match_ordering f Equal less equal greater = refl
map-match_ordering f Greater less equal greater = refl

-- a key in its place, seen through a function that keeps the order
pub map-insert_key : {K T : Type 0} (R : K → K → Ordering) (S : T → T → Ordering) (f : K → T) → ((x y : K) → R x y ≡ S (f x) (f y))
    → (keys : List K) (key : K) → map f (insert_key R keys key) ≡ insert_key S (map f keys) (f key)
map-insert_key R S f same [] key = refl
map-insert_key {K} {T} R S f same (k ∷ keys) key =
    map-match_ordering f (R key k) (key ∷ k ∷ keys) (k ∷ keys) (k ∷ insert_key R keys key)
    ∙ ap (λ (o : Ordering). match_ordering o (f key ∷ f k ∷ map f keys) (f k ∷ map f keys) (f k ∷ map f (insert_key R keys key))) (same key k)
    ∙ ap (λ (rest : List T). match_ordering (S (f key) (f k)) (f key ∷ f k ∷ map f keys) (f k ∷ map f keys) (f k ∷ rest)) (map-insert_key R S f same keys key)

-- a group with a payment takes its place
pub with_group-some : (groups : List GroupTerms) (g : GroupTerms) → 0 < g.payments → with_group groups g ≡ insert_key group_cmp groups g
with_group-some groups g some = rw (lt-ltb 0 g.payments some) refl

-- one more account
pub groups_among-more : (b : BookTerms) (files : List (List Call)) (a : ℕ) → a < length b.accounts
    → groups_among b files (take (a + 1) b.accounts) ≡ with_group (groups_among b files (take a b.accounts)) (group_of_owners b files (account_of b a))
groups_among-more b files a within =
    let more : take (a + 1) b.accounts ≡ take a b.accounts ++ account_of b a ∷ [] = take_more b.accounts a no_account within in
    ap (groups_among b files) more
    ∙ ap (fold with_group []) (map-append (group_of_owners b files) (take a b.accounts) (account_of b a ∷ []))
    ∙ fold_push with_group [] (map (group_of_owners b files) (take a b.accounts)) (group_of_owners b files (account_of b a))

-- the group of an account by its numbers
pub group-same : (b : BookTerms) (files : List (List Call)) (t : AccountTerms) (payments : ℕ) (owners : List ℕ) → owners ≡ t.owners → payments ≡ count_in (is_agreed_by owners b) files
    → the_group payments owners ≡ group_of_owners b files t
group-same b files t payments owners is counted = ap (λ (n : ℕ). the_group n owners) counted ∙ ap (λ (xs : List ℕ). the_group (count_in (is_agreed_by xs b) files) xs) is

-- the first key, and the others
pub first_of : {K : Type 0} (P : K → Type 0) (keys rest : List K) (key : K) → keys ≡ key ∷ rest → All P keys → P key
first_of {K} P keys rest key is all = let here = subst (All P) is all in here 0 key (omega arith)

pub rest_of : {K : Type 0} (P : K → Type 0) (keys rest : List K) (key : K) → keys ≡ key ∷ rest → All P keys → All P rest
rest_of {K} P keys rest key is all = λ k d within. let here = subst (All P) is all in here (suc k) d (omega arith)
