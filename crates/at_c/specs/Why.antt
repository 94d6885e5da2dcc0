-- The numbers of the causes for which bytes spell no book.
use Rattle.std.specs.Prelude.{ℕ}
use Rattle.at_c.specs.Prelude.{BookError, BookWhy}

abbrev pub limit_number : BookError → ℕ
limit_number BookError.NoProcess = 8
limit_number BookError.TooManyProcesses = 9
limit_number BookError.NoAccount = 10
limit_number BookError.TooManyAccounts = 11
limit_number (BookError.OwnerOutOfRange account) = 12
limit_number (BookError.OwnersNotRising account) = 13
limit_number (BookError.TooManyOwners account) = 14
limit_number BookError.RoomOutOfRange = 15
limit_number (BookError.RoundsOverLimit account) = 16
limit_number (BookError.TotalOverLimit account) = 17

-- the numbers of causes for which bytes spell no book; of limit_number those of limits that a book would break
abbrev pub why_number : BookWhy → ℕ
why_number BookWhy.Version = 1
why_number BookWhy.Shape = 2
why_number BookWhy.Number = 3
why_number BookWhy.AccountOrder = 4
why_number BookWhy.Name = 5
why_number BookWhy.NameTwice = 6
why_number BookWhy.UnknownOwner = 7
why_number (BookWhy.Book error) = limit_number error
