-- What a seat knows that has learned a note.
use Rattle.std.specs.Prelude.{◌≡◌, ◌++◌, []}
use Rattle.at_board.specs.Prelude.{BookTerms, IsHistory, IsPrefix, count_of, longer}
use Rattle.at_board.specs.Knowledge.Agreement.{AgreesWithSeen}
use Rattle.at_board.specs.declared.knowledge.Knowledge.{Knowledge}

-- what a seat knows, with all that a note has seen
abbrev pub learned : Knowledge → Knowledge → Knowledge
learned v w = record v {
  seen = longer v.seen w.seen;
  requests = v.requests ++ w.requests;
  decisions = v.decisions ++ w.decisions;
}

-- what is left to a seat or a note that was joined to a seat
abbrev pub spent_knowledge : Knowledge
spent_knowledge = record {
  book = record { processes = 0; own_room = 0; request_room = 0; accounts = [] };
  seen = [];
  requests = [];
  decisions = [];
  first = 0;
  parts = [];
}

-- a seat has learned a note: its list begins with its old one and with the note's, and has no more of its own process
pub record Learns (b : BookTerms) (before note after : Knowledge) : Type 0 where
  pub more : IsPrefix before.seen after.seen
  pub own : count_of before.first after.seen ≡ count_of before.first before.seen
  pub told : IsPrefix note.seen after.seen
  pub history : IsHistory b after.seen
  pub agrees : AgreesWithSeen after
  pub same : after ≡ learned before note
