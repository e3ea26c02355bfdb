use Rattle.std.proofs.Common.{sym, ap, ◌∙◌}
use Rattle.rules.specs.Links.{Links, link_count}
use Rattle.rules.proofs.Links.{count_none}
use Rattle.network.specs.Graphs.{members_of}
use Rattle.matrix.proofs.matrix.MatrixNetwork.new.Goals as goal

pub invariant_of-result : goal.invariant_of-result
invariant_of-result c =
    let n = members_of c.in_ok-new.field-0 in
    record { counted = sym (ap (λ (l : Links). link_count n l) c.in_ok-new.ensures.1.1 ∙ count_none n) }
