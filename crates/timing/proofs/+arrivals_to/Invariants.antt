-- `timing::arrivals_to` calls itself for the train ahead: the train number falls.
use Rattle.timing.proofs.+arrivals_to.Given as goal

abbrev pub decreases-arrivals_to : goal.decreases-arrivals_to
decreases-arrivals_to l = l.i
