use Rattle.std.proofs.Common.{rules}
use Rattle.rules.proofs.Members.{smallest}
use Rattle.sets.proofs.member_set.MemberSet.smallest.Goals as goal

pub returns : goal.returns
returns c = smallest c.args.self.word c.if-is_empty.ensures (search rules)
