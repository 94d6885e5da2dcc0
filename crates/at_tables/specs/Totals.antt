-- The payments of sets of owners, added up over their accounts.
use Rattle.std.specs.Prelude.{◌≡◌, ℕ, Bool, ◌&&◌, bytes_eq, List, map, sum, slice_index, unwrap_or, if◌then◌else◌, Vec}
use Rattle.at_tables.specs.Prelude.{BTreeMap, get_by, nat_cmp, slice_cmp, Global, range_with_len, AccountTerms, is_shared, BookTerms, account_of}

-- a number for each set of owners
abbrev pub Totals : Type 0
Totals = BTreeMap (Vec ℕ Global) ℕ

-- that of these owners, and 0 where there is none
abbrev pub total_in : Totals → Vec ℕ Global → ℕ
total_in totals owners = unwrap_or (get_by (λ k. slice_cmp nat_cmp owners.items k.items) totals) 0

-- just these owners share the account
abbrev pub is_shared_by : List ℕ → AccountTerms → Bool
is_shared_by owners t = is_shared t && bytes_eq t.owners owners

-- the number of an account, if just these owners share it
abbrev pub part_of : BookTerms → List ℕ → List ℕ → ℕ → ℕ
part_of b counts owners a = if is_shared_by owners (account_of b a) then slice_index counts a else 0

-- the numbers of the first accounts that just these owners share
abbrev pub sum_first : BookTerms → List ℕ → List ℕ → ℕ → ℕ
sum_first b counts owners accounts = sum (map (part_of b counts owners) (range_with_len 0 accounts))

-- the numbers of the first accounts are added up
abbrev pub AreTotals : BookTerms → List ℕ → ℕ → Totals → Type 0
AreTotals b counts accounts totals = (owners : Vec ℕ Global) → total_in totals owners ≡ sum_first b counts owners.items accounts
