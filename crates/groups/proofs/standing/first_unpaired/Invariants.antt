use Rattle.rules.specs.Standings.{PairsAbove}
use Rattle.network.specs.Graphs.{links_of}
use Rattle.sets.proofs.Sweeping.{Swept}
use Rattle.groups.proofs.standing.first_unpaired.Given as goal

abbrev pub invariant-loop-a : goal.invariant-loop-a
invariant-loop-a g l =
    (goal.iterator-loop-a g).can_next l.a-iterator × (goal.iterator-loop-a g).is_finite l.a-iterator
    × Swept l.part.set.word (PairsAbove (links_of l.part.graph.now) (g.M.GroupModel.meaning l.model) l.part.set.word) l.a-iterator.rest.word
