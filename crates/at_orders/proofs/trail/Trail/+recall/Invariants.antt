use Rattle.at_orders.proofs.trail.Trail.+recall.Given as goal

abbrev pub decreases-recall : goal.decreases-recall
decreases-recall l = l.i
