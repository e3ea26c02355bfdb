-- A line has one number in front at most, so where bytes follow it, no number ends the line.
use Rattle.std.proofs.Common.{length, ap, arith}
use Rattle.command.proofs.Numbers.{one_field}
use Rattle.command.proofs.field.last_field.Goals as goal

pub returns-in_err-x : goal.returns-in_err-x
returns-in_err-x c = rw c.from_residual.ensures (λ x. c.in_err-x.ensures x _)

pub returns-in_default : goal.returns-in_default
returns-in_default c x last = omega (arith, c.in_default.len_at_least, ap length (one_field c.in_ok-x.ensures last).1)
