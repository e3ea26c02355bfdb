use Rattle.sets.proofs.Sweeping.{sweep_step, sweep_end}
use Rattle.groups.proofs.Finding.{first_apart}
use Rattle.groups.proofs.standing.first_unpaired.Goals as goal

pub loop-a-preserved : goal.loop-a-preserved
loop-a-preserved g c = (tt, tt, sweep_step _ _ _ _ _ c.loop-a.invariant.2 c.in-Some.ensures.steps.1 c.in_default.ensures)

pub returns-in-Some-first_apart : goal.returns-in-Some-first_apart
returns-in-Some-first_apart g c = first_apart _ _ _ _ _ _ c.loop-a.invariant.2 c.in-Some.ensures.steps.0 c.in-Some-first_apart.ensures

pub returns : goal.returns
returns g c = sweep_end _ _ _ c.loop-a.invariant.2 c.in-None.ensures.steps.0
