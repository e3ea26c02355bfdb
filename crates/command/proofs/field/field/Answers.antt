-- The digits that were counted are those of the number in front, or there is none.
use Rattle.std.proofs.Common.{arith}
use Rattle.command.proofs.Numbers.{counted_len, field_made}
use Rattle.command.proofs.field.field.Goals as goal

pub returns-then-n-eq0 : goal.returns-then-n-eq0
returns-then-n-eq0 c x more p =
    omega (arith, counted_len c.in_ok-rest.ensures c.digits-n.ensures p, c.then-n-eq0.either)

pub returns : goal.returns
returns c =
    field_made c.in_ok-rest.ensures c.digits-n.ensures (omega arith) c.if-n-gt-MOST_DIGITS.false
    c.split_at.ensures.front c.split_at.ensures.back c.value.ensures
