-- What `verify` refuses, and takes.
use Rattle.std.proofs.Common.{ℕ, List, Ok, ap, refl, sym}
use Rattle.at_commands.proofs.Prelude.{Status, NotLegal, PaysBytes, calls_given}
use Rattle.at_commands.specs.Claims.{Claim, IsRight, IsWrongAt, RefusesClaim, Verifies, verify_terms}
use Rattle.at_commands.specs.Commanding.{AreRead}
use Rattle.at_commands.proofs.Laws.SpelledLoaded.{Accepts-payments}

-- a report of a run has no wrong line
IsRight-no_wrong : (c : Claim) (line : ℕ) → IsRight c → IsWrongAt c line → ⊥
IsRight-no_wrong c line right wrong = wrong.wrong (record { report = c.further; is = right; same = refl })

-- a right report is refused for nothing of its own
pub verify-complete : (c : Claim) (refusal : Status) → IsRight c → RefusesClaim c refusal → ⊥
verify-complete c (NotLegal line expected) right wrong = IsRight-no_wrong c line right wrong.0
verify-complete c refusal right wrong = wrong

-- a report that a text is printed of is right
pub verify-right : (c : Claim) (text : List ℕ) → Verifies c text → IsRight c
verify-right c text verifies = verifies.report.is

-- what the files spell is read, and the report is what its file holds
pub verify_terms-read : AreRead calls_given PaysBytes verify_terms
verify_terms-read = record {
  accepts = Accepts-payments;
  read = λ files book words l bytes report is spelled. ap Ok (sym spelled);
}
