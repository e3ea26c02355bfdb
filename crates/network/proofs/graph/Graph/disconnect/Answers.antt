use Rattle.std.proofs.Common.{rules}
use Rattle.network.proofs.Rows.{disconnected}
use Rattle.network.proofs.graph.Graph.disconnect.Goals as goal

pub invariant_of-self : goal.invariant_of-self
invariant_of-self c = record { lawful = (disconnected _ _ _ _ _ _ (search rules) c.args.self.now.lawful c.in_ok-check_ends.ensures c.without.ensures c.without-2.ensures).0 }

pub returns-clause-after : goal.returns-clause-after
returns-clause-after c = (c.in_ok-check_ends.ensures, (disconnected _ _ _ _ _ _ (search rules) c.args.self.now.lawful c.in_ok-check_ends.ensures c.without.ensures c.without-2.ensures).1)
