use Rattle.std.proofs.Common.{◌≡◌, ℕ, suc, sym, ap, ◌∙◌, arith}
use Rattle.rules.specs.Links.{link_count}
use Rattle.rules.proofs.Links.{count_few}
use Rattle.network.specs.Graphs.{members_of, links_of}
use Rattle.matrix.proofs.Counts.{one_less, unlink_taken}
use Rattle.matrix.proofs.matrix.MatrixNetwork.unlink.Goals as goal

fewer : (c : goal.In_ok-disconnect) → suc (link_count (members_of c.disconnect.new.self) (links_of c.disconnect.new.self)) ≡ c.args.self.now.count
fewer c =
    let m = c.args.self.now in
    let done = c.in_ok-disconnect.ensures in
    let less = one_less _ _ _ _ _ m.graph.lawful done.after.0 (sym c.linked.ensures ∙ c.if-not-linked.false) done.after.1 in
    omega (arith, m.counted, less, ap (λ (n : ℕ). link_count n (links_of c.disconnect.new.self)) done.members)

pub overflow_sub-self : goal.overflow_sub-self
overflow_sub-self c = omega (arith, fewer c)

pub invariant_of-self-2 : goal.invariant_of-self-2
invariant_of-self-2 c = record { counted = omega (arith, fewer c) }

pub returns-clause-after : goal.returns-clause-after
returns-clause-after c =
    let m = c.args.self.now in
    let done = c.in_ok-disconnect.ensures in
    (unlink_taken (members_of m.graph) c.args.a c.args.b (links_of m.graph) done.after.0 (sym c.linked.ensures ∙ c.if-not-linked.false), done.after.1)

pub returns-clause-freed : goal.returns-clause-freed
returns-clause-freed c =
    let m = c.args.self.now in
    let done = c.in_ok-disconnect.ensures in
    let less = one_less _ _ _ _ _ m.graph.lawful done.after.0 (sym c.linked.ensures ∙ c.if-not-linked.false) done.after.1 in
    omega (arith, less, count_few (members_of m.graph) (links_of m.graph) m.graph.lawful.few)
