use Rattle.std.proofs.Common.{ℕ, ◌&&◌, sym, subst}
use Rattle.rules.specs.Links.{LawfulLinks}
use Rattle.rules.specs.Sets.{inside}
use Rattle.sets.proofs.Sweeping.{same_set}
use Rattle.network.proofs.Rows.{fill_none}
use Rattle.network.proofs.graph.Graph.of.Goals as goal

pub loop-a-init : goal.loop-a-init
loop-a-init g c =
    let links = g.N.Network.links c.args.net.now in
    let laws = subst (λ (n : ℕ). LawfulLinks n links) (sym c.n-members.ensures) (g.met.N.Network.lawful c.args.net.now) in
    let all = same_set c.into_iter-a-iterator.result.rest.word c.up_to.result.word (λ a. inside c.n-members.result a && inside 64 a) (cc) c.up_to.ensures in
    (tt, tt, fill_none links c.n-members.result c.into_iter-a-iterator.result.rest.word c.empty-rows.result laws all c.empty-rows.ensures)
