-- Overviews: what the seats of one caller have seen, put together.
use Rattle.std.specs.Prelude.{◌≡◌, [], List}
use Rattle.at_board.specs.Prelude.{TableId, BookTerms, IsHistory, IsPrefix, count_of, longer, Publication}
use Rattle.at_board.specs.Knowledge.Agreement.{AgreesWithSeen}
use Rattle.at_board.specs.Knowledge.Seats.{BoardTerms}
use Rattle.at_board.specs.Steps.Note.{IsNote}
use Rattle.at_board.specs.declared.knowledge.Knowledge.{Knowledge}

-- an overview by the identity and the book of its board, and the publications that it has
pub record OverviewTerms : Type 0 where
  pub board : TableId
  pub book : BookTerms
  pub seen : List Publication

-- the overview belongs to the board
pub record IsOverviewOf (overview : OverviewTerms) (board : BoardTerms) : Type 0 where
  pub id : overview.board ≡ board.id
  pub book : overview.book ≡ board.book

-- the publications that a seat has seen, with nothing else of what it knows
abbrev pub seen_alone : Knowledge → Knowledge
seen_alone v = record v { requests = []; decisions = []; parts = [] }

-- an overview is a note that has seen publications alone
pub record IsOverview (v : Knowledge) : Type 0 where
  pub note : IsNote v
  pub requests : v.requests ≡ []
  pub decisions : v.decisions ≡ []

-- an overview has taken in a seat: it begins with both lists, and has just the records of the seat's process that the seat has seen
pub record TakesIn (b : BookTerms) (before : List Publication) (v : Knowledge) (after : List Publication) : Type 0 where
  pub is : after ≡ longer before v.seen
  pub more : IsPrefix before after
  pub told : IsPrefix v.seen after
  pub own : count_of v.first after ≡ count_of v.first v.seen
  pub history : IsHistory b after

-- a seat has learned what an overview has, and nothing else: its list begins with both, and has no more of its own process
pub record LearnsOverview (b : BookTerms) (before : Knowledge) (seen : List Publication) (after : Knowledge) : Type 0 where
  pub same : after ≡ record before { seen = longer before.seen seen }
  pub more : IsPrefix before.seen after.seen
  pub told : IsPrefix seen after.seen
  pub own : count_of before.first after.seen ≡ count_of before.first before.seen
  pub history : IsHistory b after.seen
  pub agrees : AgreesWithSeen after
