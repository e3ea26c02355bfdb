use Rattle.std.proofs.Common.{replicate, rules}
use Rattle.rules.specs.Links.{no_links}
use Rattle.rules.proofs.Links.{no_links_lawful}
use Rattle.network.proofs.Rows.{lawful_rows, no_rows}
use Rattle.network.proofs.graph.Graph.new.Goals as goal

pub invariant_of-result : goal.invariant_of-result
invariant_of-result c =
    record { lawful = lawful_rows c.args.n (replicate 64 c.empty.result) no_links (no_rows c.empty.result c.empty.ensures 64) (no_links_lawful c.args.n (search rules) (search rules)) }

pub returns : goal.returns
returns c = (search rules, (search rules, no_rows c.empty.result c.empty.ensures 64))
