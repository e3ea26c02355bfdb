use Rattle.groups.proofs.sheet.judge_sheet.Goals as goal

pub returns : goal.returns
returns g c =
    let part = c.induced.ensures in
    rw (← c.of-graph.ensures.members, ← c.of-graph.ensures.links, ← part.graph)
    (rw part.graph c.in_ok-set.ensures.0, (c.induced.result.set.word, rw part.set c.in_ok-set.ensures.1, c.check_group.ensures))
