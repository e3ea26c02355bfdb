-- Two numbers, or no such command.
use Rattle.command.proofs.Forms.{link_made, link_none, link_refused}
use Rattle.command.proofs.link_of.Goals as goal

pub returns-in_err-a : goal.returns-in_err-a
returns-in_err-a c = rw c.from_residual.ensures (link_none c.in_err-a.ensures)

pub returns-in_err-b : goal.returns-in_err-b
returns-in_err-b c = rw c.from_residual-in_err-b.ensures (link_refused c.in_ok-a.ensures c.in_err-b.ensures)

pub returns : goal.returns
returns c = link_made c.in_ok-a.ensures c.in_ok-b.ensures
