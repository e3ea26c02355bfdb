use Rattle.std.proofs.Common.{◌≡◌, ◌∙◌}
use Rattle.rules.specs.Links.{shared}
use Rattle.network.specs.Graphs.{members_of, links_of}
use Rattle.network.proofs.Rows.{count_shared, unknown_shared}
use Rattle.network.proofs.graph.Graph.shared.Goals as goal

pub returns : goal.returns
returns c =
    let graph = c.args.self.now in
    let S = c.args.set.word in
    let value : c.size.result ≡ shared (links_of graph) c.args.a c.args.b S =
    c.size.ensures.value
    ∙ count_shared (links_of graph) c.args.a c.args.b S c.neighbours.result.word c.neighbours-2.result.word
    c.intersection.result.word c.intersection-2.result.word c.neighbours.ensures c.neighbours-2.ensures c.intersection.ensures c.intersection-2.ensures in
    record {
      value = value;
      unknown = λ out. value ∙ unknown_shared (members_of graph) (links_of graph) c.args.a c.args.b S graph.lawful out;
    }
