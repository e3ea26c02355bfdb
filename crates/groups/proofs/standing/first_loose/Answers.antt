use Rattle.std.proofs.Common.{T, rules, tests}
use Rattle.network.specs.Graphs.{links_of}
use Rattle.sets.proofs.Sweeping.{find_first}
use Rattle.groups.proofs.Finding.{found_loose}
use Rattle.groups.proofs.standing.first_loose.Goals as goal

pub returns : goal.returns
returns g c =
    let l = links_of c.args.part.now.graph.now in
    let m = g.M.GroupModel.meaning c.args.model.now in
    let S = c.args.part.now.set.word in
    found_loose l m S c.find.result
    (find_first _ c.args.part.now.set (λ a. T (m.fits l S a)) _ (λ x q call. search (rules, tests)) (λ x q call. search (rules, tests))
    c.members.result _ c.find.result c.members.ensures c.find.ensures.ran)
