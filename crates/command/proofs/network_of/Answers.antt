-- A number, a model and its parameter, or no such command.
use Rattle.command.proofs.Forms.{network_made, network_none, network_unnamed, network_refused}
use Rattle.command.proofs.network_of.Goals as goal

pub returns-in_err-n : goal.returns-in_err-n
returns-in_err-n c = rw c.from_residual.ensures (network_none c.in_err-n.ensures)

pub returns-in_err-model : goal.returns-in_err-model
returns-in_err-model c = rw c.from_residual-in_err-model.ensures (network_unnamed c.in_ok-n.ensures c.in_err-model.ensures)

pub returns-in_err-t : goal.returns-in_err-t
returns-in_err-t c =
    rw c.from_residual-in_err-t.ensures (network_refused _ c.in_ok-n.ensures c.in_ok-model.ensures c.in_err-t.ensures)

pub returns : goal.returns
returns c = network_made c.in_ok-n.ensures c.in_ok-model.ensures c.in_ok-t.ensures
