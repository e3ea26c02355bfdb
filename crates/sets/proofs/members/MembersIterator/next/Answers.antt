use Rattle.std.proofs.Common.{arith, rules}
use Rattle.rules.proofs.Members.{size_laws}
use Rattle.sets.proofs.members.MembersIterator.next.Goals as goal
use Rattle.std.proofs.iter.Next.{firm}

pub returns-clause-goes : goal.returns-clause-goes
returns-clause-goes c =
    let lowest = c.in_ok-smallest.ensures in
    let fewer = size_laws.falls c.args.self.now.rest.word c.in_ok-smallest.smallest c.without-self.result.word lowest.number lowest.member c.without-self.ensures in
    firm (tt, tt, omega arith) (λ h. search rules)
