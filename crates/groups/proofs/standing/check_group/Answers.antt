use Rattle.groups.proofs.Finding.{stands_unknown, stands_loose, stands_apart, stands_group}
use Rattle.groups.proofs.standing.check_group.Goals as goal

pub returns-in-Some : goal.returns-in-Some
returns-in-Some g c = stands_unknown _ _ _ _ _ _ c.args.part.now.numbers c.above.ensures c.n.ensures.value _ c.in-Some.ensures

pub returns-in-Some-first_loose : goal.returns-in-Some-first_loose
returns-in-Some-first_loose g c = stands_loose _ _ _ _ _ _ c.args.part.now.numbers c.above.ensures c.n.ensures.value _ c.in_default.ensures c.in-Some-first_loose.ensures

pub returns-in-Some-first_unpaired : goal.returns-in-Some-first_unpaired
returns-in-Some-first_unpaired g c =
    stands_apart _ _ _ _ _ _ c.args.part.now.numbers c.above.ensures c.n.ensures.value _ _ c.in_default.ensures c.in_default-first_loose.ensures c.in-Some-first_unpaired.ensures

pub returns : goal.returns
returns g c =
    stands_group _ _ _ _ _ _ c.args.part.now.numbers c.above.ensures c.n.ensures.value c.if-is_empty.ensures c.in_default.ensures c.in_default-first_loose.ensures
    c.in_default-first_unpaired.ensures c.n.ensures.lawful (g.met.M.GroupModel.lawful c.args.model.now _ _ c.n.ensures.lawful)
