-- Which texts are numbers, and which number each is.
use Rattle.std.specs.Prelude.{ℕ, ◌^◌, Bool, ◌&&◌, ◌||◌, ◌==◌, List, length, slice_index, nat_lt, Option, Some, None, if◌then◌else◌}
use Rattle.at_base.specs.Prelude.{is_ascii_digit, list_all, digits_value}

-- one byte, or any number of them whose first is above `0`
abbrev pub begins_canonical : List ℕ → Bool
begins_canonical text = (length text == 1) || nat_lt 48 (slice_index text 0)

-- digits alone, either one of them or any number whose first isn't 0
abbrev pub is_canonical : List ℕ → Bool
is_canonical text = list_all is_ascii_digit text && begins_canonical text

-- the number below 2 ^ 64 whose canonical decimal the text is, if there is one
unfoldable pub number_of : List ℕ → Option ℕ
number_of text = if is_canonical text && nat_lt (digits_value 10 text) (2 ^ 64) then Some (digits_value 10 text) else None
