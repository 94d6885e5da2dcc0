use Rattle.at_commands.proofs.agreeing.agreement.Goals as goal

pub agree-requires-clause-size : goal.agree-requires-clause-size
agree-requires-clause-size g c = λ _ _. record { some = c.requires.some; few = c.requires.few }
