-- What calls may take, as numbers: of three processes, account 0 has all as owners and account 1 has one. Whoever changes what bounds a
-- call changes these too.
use Rattle.std.specs.Prelude.{ℕ, ◌+◌, ◌*◌, ◌≤◌, [], ◌∷◌}
use Rattle.at_object.specs.Prelude.{BookTerms, Read, Transfer, Receipt, decides_made}
use Rattle.at_object.specs.Calls.{StaysWithin}
use Rattle.at_object.specs.Passes.{PassTerms, counted_anew}

-- a book of three processes with an account of all three and one of the first, of which the bounds' numbers are
abbrev pub three_processes : BookTerms
three_processes = record {
  processes = 3;
  own_room = 4;
  request_room = 4;
  accounts = record { opening = 100; owners = 0 ∷ 1 ∷ 2 ∷ [] } ∷ record { opening = 100; owners = 0 ∷ [] } ∷ [];
}

pub few-read : (before after : PassTerms) (account : ℕ) (r : Receipt) → StaysWithin three_processes before after (Read account) r
    → after.steps ≤ before.steps + 15 + 7 * counted_anew before after
few-read before after account r within = within.few

pub few-alone : (before after : PassTerms) (to amount : ℕ) (r : Receipt)
    → StaysWithin three_processes before after (Transfer 1 to amount) r
    → after.steps ≤ before.steps + 26 + 7 * counted_anew before after
few-alone before after to amount r within = within.few

pub few-shared : (before after : PassTerms) (to amount : ℕ) (r : Receipt)
    → StaysWithin three_processes before after (Transfer 0 to amount) r
    → after.steps ≤ before.steps + 136 + 7 * counted_anew before after
few-shared before after to amount r within = within.few

pub few_decided-shared : (before after : PassTerms) (to amount : ℕ) (r : Receipt)
    → StaysWithin three_processes before after (Transfer 0 to amount) r → decides_made 0 before.knows after.knows ≤ 3
few_decided-shared before after to amount r within = within.few_decided
