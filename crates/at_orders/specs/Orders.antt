-- The orders of the files' calls, and which replies of a call come in them.
use Rattle.std.specs.Prelude.{◌≡◌, ℕ, ◌+◌, ◌<◌, List, [], length, slice_index_or, Contains}
use Rattle.at_orders.specs.Prelude.{BookTerms, Legal, Whole, Call, Line, Reply}
use Rattle.at_orders.specs.Replies.{AreJust}
use Rattle.at_orders.specs.declared.replies.Replies.{Replies}

-- all calls of the files in one order, in which each process makes its own as its file has them, with the ledger's replies
pub record IsOrder (b : BookTerms) (files : List (List Call)) (lines : List Line) : Type 0 where
  pub legal : Legal b lines
  pub whole : Whole files lines

-- some order gives this reply to call i of the process, where its calls count from 0
pub record Comes (b : BookTerms) (files : List (List Call)) (process i : ℕ) (reply : Reply) : Type 0 where
  pub lines : List Line
  pub order : IsOrder b files lines
  pub line : Line
  pub stands : Contains lines line
  pub made_by : line.process ≡ process
  pub number : line.number ≡ i + 1
  pub answered : line.reply ≡ reply

-- each call of each file has just the replies that some order gives it
pub record AreAnswers (b : BookTerms) (files : List (List Call)) (answers : List (List Replies)) : Type 0 where
  pub processes : length answers ≡ length files
  pub calls : (p : ℕ) → p < length files → length (slice_index_or answers p []) ≡ length (slice_index_or files p [])
  pub replies : (p i : ℕ) (r : Replies) → p < length files → i < length (slice_index_or files p [])
      → AreJust (Comes b files p i) (slice_index_or (slice_index_or answers p []) i r)
