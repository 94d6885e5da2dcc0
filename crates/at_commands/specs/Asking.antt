-- Passes with the calls that are to be made by them, before there are jobs for these.
use Rattle.std.specs.Prelude.{◌≡◌, ◌^◌, ◌<◌, Bool, List, [], length, map, All, None, Some, if◌then◌else◌}
use Rattle.at_commands.specs.Prelude.{IsCallOn, Call, PassTerms, Stands, JobTerms}
use Rattle.at_commands.specs.declared.playing.Asked.{Asked}

-- each of the passes with the calls of one of these files, in order
pub record AreAsked (passes : List PassTerms) (files : List (List Call)) (asked : List Asked) : Type 0 where
  pub passes_are : map (λ (a : Asked). a.pass) asked ≡ passes
  pub files_are : map (λ (a : Asked). a.calls.items) asked ≡ files

-- a job may be made of the pass and the calls: the pass has made none, and these are on its book and few
pub record MayBeAsked (a : Asked) : Type 0 where
  pub stands : Stands a.pass []
  pub unmade : a.pass.past ≡ []
  pub accounts : All (IsCallOn (length a.pass.knows.book.accounts)) a.calls.items
  pub few : length a.calls.items < 2 ^ 32

-- the job of the pass and the calls, of which none is made. It notes costs, or doesn't
abbrev pub job_asked : Bool → Asked → JobTerms
job_asked notes a = record { pass = a.pass; calls = a.calls.items; receipts = []; costs = if notes then Some [] else None }
