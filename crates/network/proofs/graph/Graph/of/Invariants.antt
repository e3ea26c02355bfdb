use Rattle.network.proofs.Rows.{Filled}
use Rattle.network.proofs.graph.Graph.of.Given as goal

abbrev pub invariant-loop-a : goal.invariant-loop-a
invariant-loop-a g l =
    (goal.iterator-loop-a g).can_next l.a-iterator × (goal.iterator-loop-a g).is_finite l.a-iterator
    × Filled (g.N.Network.links l.net) l.a-iterator.rest.word l.rows
