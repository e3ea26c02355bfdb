use Rattle.std.proofs.Common.{T, leb, rules, tests}
use Rattle.rules.specs.Links.{shared}
use Rattle.network.specs.Graphs.{links_of}
use Rattle.sets.proofs.Sweeping.{any_of}
use Rattle.models.proofs.Triangles.{triangle_told}
use Rattle.models.proofs.vertex_triangle.in_triangle.Goals as goal

pub returns : goal.returns
returns c =
    let l = links_of c.args.part.now.graph.now in
    let S = c.args.part.now.set.word in
    triangle_told l S c.args.a c.neighbours.result.word c.args.part.now.numbers c.neighbours.ensures c.any.result
    (any_of _ c.neighbours.result (λ b. T (leb 1 (shared l c.args.a b S))) _ (λ x q call. search (rules, tests)) (λ x q call. search (rules, tests))
    c.members.result _ c.any.result c.members.ensures c.any.ensures.ran)
