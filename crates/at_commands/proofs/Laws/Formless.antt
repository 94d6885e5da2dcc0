-- Words are refused exactly where they ask for nothing, and those that keep no ledger leave none.
use Rattle.std.proofs.Common.{◌≡◌, ◌↔◌, Option, Some, None, refl}
use Rattle.at_commands.proofs.Prelude.{Usage, Words, Found, Outcome}
use Rattle.at_commands.specs.Table.{Leaves}
use Rattle.at_commands.specs.Words.{Wanted}

pub Leaves-formless : (wanted : Option Wanted) (s : Found) (o : Outcome) → Leaves wanted s o → (o.answer ≡ Usage Words) ↔ (wanted ≡ None)
Leaves-formless (Some asked) s o left = (λ is. absurd (left.formed is), λ none. absurd (cc))
Leaves-formless None s o left = (λ is. refl, λ none. left)
