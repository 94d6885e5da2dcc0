-- The oldest of a list of requests that are left.
use Rattle.std.proofs.Common.{◌≡◌, ℕ, ◌<◌, List, length, Option, Some, sym, subst, ◌∙◌}
use Rattle.at_requests.proofs.Prelude.{get_or_default, Contains-get_or, Contains, IsBefore, IsFirstBelow, IsNotDone, IsOldestOf, request_in, OpenRequest}

-- the one at a position of an element
request_in-Contains : (list : List OpenRequest) (x : OpenRequest) (there : Contains list x) → request_in list there.0 ≡ x
request_in-Contains list x there = get_or_default list there.0 _ x there.1 ∙ there.2

-- it is one of those
pub within-IsFirstBelow : (list : List OpenRequest) (done : List ℕ) (n m : ℕ) (first : Option ℕ) → first ≡ Some m → IsFirstBelow list done n first → m < n
within-IsFirstBelow list done n m first is found = (subst (IsFirstBelow list done n) is found).0

-- it is the oldest
pub IsOldestOf-IsFirstBelow : (list : List OpenRequest) (done : List ℕ) (first : Option ℕ) (m : ℕ) (x : OpenRequest) → first ≡ Some m
    → IsFirstBelow list done (length list) first → x ≡ request_in list m → IsOldestOf list done x
IsOldestOf-IsFirstBelow list done first m x is found same =
    let (within, left, before) = subst (IsFirstBelow list done (length list)) is found in
    subst (IsOldestOf list done) (sym same)
    (record {
      among = Contains-get_or list m _ within;
      left = left;
      first = λ y there y_left.
          let at = request_in-Contains list y there in
          subst (IsBefore (request_in list m)) at (before there.0 there.1 (subst (IsNotDone done) (sym at) y_left));
    })
