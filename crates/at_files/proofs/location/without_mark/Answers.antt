use Rattle.std.proofs.Common.{◌∷◌, [], None, Some}
use Rattle.at_files.proofs.Prelude.{Decides-eqb, strip_prefix_is}
use Rattle.at_files.proofs.LocationLaws.{strip_bom-marked, strip_bom-without}
use Rattle.at_files.proofs.location.without_mark.Goals as goal

pub returns-in-Some : goal.returns-in-Some
returns-in-Some c =
    strip_bom-marked c.args.bytes.now c.in-Some.rest.now (strip_prefix_is Decides-eqb c.args.bytes.now (239 ∷ 187 ∷ 191 ∷ []) (Some c.in-Some.rest) c.in-Some.ensures.cases)

pub returns-in-None : goal.returns-in-None
returns-in-None c =
    strip_bom-without c.args.bytes.now (strip_prefix_is Decides-eqb c.args.bytes.now (239 ∷ 187 ∷ 191 ∷ []) None c.in-None.ensures.cases)
