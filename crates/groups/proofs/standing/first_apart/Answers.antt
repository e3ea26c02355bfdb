use Rattle.std.proofs.Common.{T, rules, tests}
use Rattle.network.specs.Graphs.{links_of}
use Rattle.sets.proofs.Sweeping.{find_first}
use Rattle.groups.proofs.Finding.{found_above}
use Rattle.groups.proofs.standing.first_apart.Goals as goal

pub returns : goal.returns
returns g c =
    let l = links_of c.args.part.now.graph.now in
    let m = g.M.GroupModel.meaning c.args.model.now in
    let S = c.args.part.now.set.word in
    found_above S c.args.a c.above.result.word c.above.ensures l m c.find.result
    (find_first _ c.above.result (λ b. T (m.pairs l S c.args.a b)) _ (λ x q call. search (rules, tests)) (λ x q call. search (rules, tests))
    c.members.result _ c.find.result c.members.ensures c.find.ensures.ran)
