use Rattle.std.proofs.Common.{arith}
use Rattle.at_files.proofs.DeliveryLaws.{Delivers-written, Delivers-accepted}
use Rattle.at_files.proofs.deliveries.read_deliveries.Goals as goal

pub returns-clause-delivers : goal.returns-clause-delivers
returns-clause-delivers c = Delivers-written _ _ _ (let few = c.len-known.ensures.few in let same = c.len-known.ensures.length in omega arith) c.requires c.read_items.ensures.ok

pub returns-clause-accepts : goal.returns-clause-accepts
returns-clause-accepts c = λ deliveries delivers. Delivers-accepted _ _ _ deliveries (let few = c.len-known.ensures.few in let same = c.len-known.ensures.length in omega arith) c.requires c.read_items.ensures.bad delivers
