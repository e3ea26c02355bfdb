use Rattle.std.proofs.Common.{ℕ, sym, ap, ◌∙◌, arith}
use Rattle.rules.specs.Links.{link_count}
use Rattle.network.specs.Graphs.{members_of, links_of}
use Rattle.matrix.proofs.Counts.{one_more, link_taken}
use Rattle.matrix.proofs.matrix.MatrixNetwork.link.Goals as goal

pub invariant_of-self-2 : goal.invariant_of-self-2
invariant_of-self-2 c =
    let m = c.args.self.now in
    let done = c.in_ok-connect.ensures in
    let more = one_more _ _ _ _ _ m.graph.lawful done.after.0 (sym c.linked.ensures ∙ c.if-linked.false) done.after.1 in
    record { counted = omega (arith, m.counted, more, ap (λ (n : ℕ). link_count n (links_of c.connect.new.self)) done.members) }

pub returns-clause-after : goal.returns-clause-after
returns-clause-after c =
    let m = c.args.self.now in
    let done = c.in_ok-connect.ensures in
    (link_taken (members_of m.graph) c.args.a c.args.b (links_of m.graph) done.after.0 (sym c.linked.ensures ∙ c.if-linked.false) (omega (arith, m.counted)), done.after.1)
