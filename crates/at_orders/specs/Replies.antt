-- The replies of a call, one more at a time.
use Rattle.std.specs.Prelude.{◌≡◌, ℕ, ◌≤◌, IsTrue, true, false, min, max, Option, Some, None}
use Rattle.at_orders.specs.Prelude.{Reply, Done, Short, NotOwner, Full, Balance}
use Rattle.at_orders.specs.declared.replies.Range.{Range}
use Rattle.at_orders.specs.declared.replies.Replies.{Replies}

-- one balance alone
abbrev pub range_at : ℕ → Range
range_at v = record { least = v; greatest = v }

-- and another balance
abbrev pub range_with : Range → ℕ → Range
range_with range v = record { least = min range.least v; greatest = max range.greatest v }

-- and another balance, where there may be none so far
abbrev pub balances_with : Option Range → ℕ → Range
balances_with None v = range_at v
balances_with (Some range) v = range_with range v

-- no reply
abbrev pub no_replies : Replies
no_replies = record { done = false; short = false; full = false; not_owner = false; balances = None }

-- the balances of a read
abbrev pub read_replies : Range → Replies
read_replies range = record no_replies { balances = Some range }

-- and another reply
abbrev pub replies_with : Replies → Reply → Replies
replies_with r Done = record r { done = true }
replies_with r Short = record r { short = true }
replies_with r Full = record r { full = true }
replies_with r NotOwner = record r { not_owner = true }
replies_with r (Balance v) = record r { balances = Some (balances_with r.balances v) }

-- the reply is among these
abbrev pub IsListed : Replies → Reply → Type 0
IsListed r Done = IsTrue r.done
IsListed r Short = IsTrue r.short
IsListed r Full = IsTrue r.full
IsListed r NotOwner = IsTrue r.not_owner
IsListed r (Balance v) = (range : Range) × (r.balances ≡ Some range) × (range.least ≤ v) × (v ≤ range.greatest)

-- these are the replies that can be: each is listed, and none else, but for balances between the least and the greatest
pub record AreJust (CanBe : Reply → Type 0) (r : Replies) : Type 0 where
  pub all : (reply : Reply) → CanBe reply → IsListed r reply
  pub done : IsTrue r.done → CanBe Done
  pub short : IsTrue r.short → CanBe Short
  pub full : IsTrue r.full → CanBe Full
  pub not_owner : IsTrue r.not_owner → CanBe NotOwner
  pub least : (range : Range) → r.balances ≡ Some range → CanBe (Balance range.least)
  pub greatest : (range : Range) → r.balances ≡ Some range → CanBe (Balance range.greatest)
