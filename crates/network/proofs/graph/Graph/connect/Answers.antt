use Rattle.std.proofs.Common.{rules}
use Rattle.network.proofs.Rows.{connected}
use Rattle.network.proofs.graph.Graph.connect.Goals as goal

pub invariant_of-self : goal.invariant_of-self
invariant_of-self c = record { lawful = (connected _ _ _ _ _ _ (search rules) c.args.self.now.lawful c.in_ok-check_ends.ensures c.with.ensures c.with-2.ensures).0 }

pub returns-clause-after : goal.returns-clause-after
returns-clause-after c = (c.in_ok-check_ends.ensures, (connected _ _ _ _ _ _ (search rules) c.args.self.now.lawful c.in_ok-check_ends.ensures c.with.ensures c.with-2.ensures).1)
