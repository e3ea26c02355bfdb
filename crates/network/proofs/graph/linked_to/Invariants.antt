use Rattle.network.proofs.Rows.{LinkedSoFar}
use Rattle.network.proofs.graph.linked_to.Given as goal

abbrev pub invariant-loop-b : goal.invariant-loop-b
invariant-loop-b g l =
    (goal.iterator-loop-b g).can_next l.b-iterator × (goal.iterator-loop-b g).is_finite l.b-iterator
    × LinkedSoFar (g.N.Network.links l.net l.a) l.b-iterator.rest.word l.row.word
