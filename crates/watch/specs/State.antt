-- THE STATE THAT A CALLER HOLDS, AND THE SEARCH'S PROGRESS.
use Rattle.std.specs.Prelude.{None, not, cond, ℕ, eqb, pos, replicate}
use Rattle.model.specs.Limits.{order_counts}
use Rattle.model.specs.declared.Refusal.TheVariants.{NoSchedule}
use Rattle.model.specs.declared.RoundReply.{RoundReply}
use Rattle.model.specs.declared.RoundReply.TheVariants.{GoesOn, Ended, Refused}
use Rattle.search.specs.declared.Progress.{Progress}
use Rattle.watch.specs.declared.State.{State}

-- the state of no search
abbrev pub no_state : State
no_state =
    record {
      pairs = 0;
      rounds = 0;
      limit = pos 0;
      last = 0;
      ended = 0;
      train = replicate order_counts.most 0;
      latest = replicate order_counts.most 0;
    }

-- the progress that a state stands for; the times of the last round are not kept
abbrev pub progress_of : State → Progress
progress_of x =
    record {
      latest = x.latest;
      train = x.train;
      recorded = None;
      limit = x.limit;
      last = x.last;
      rounds = x.rounds;
      ended = not (eqb x.ended 0);
    }

-- what is kept of a progress, beside how many pairs are recorded
abbrev pub state_of : Progress → (pairs : ℕ) → State
state_of p pairs =
    record {
      pairs = pairs;
      rounds = p.rounds;
      limit = p.limit;
      last = p.last;
      ended = cond p.ended 1 0;
      train = p.train;
      latest = p.latest;
    }

-- what is said of a state: it goes on, or "no schedule (step 2 stops round 1)", where nothing is recorded, or how many pairs and rounds
abbrev pub said_of : State → RoundReply
said_of x = cond (eqb x.ended 0) GoesOn (cond (eqb x.pairs 0) (Refused NoSchedule) (Ended x.pairs x.rounds))
