-- Each turn reads one number more; at the end the sheet has them all, and before it a line that goes wrong says nothing.
use Rattle.std.proofs.Common.{arith}
use Rattle.std.proofs.lemmas.Grind.{common_steps}
use Rattle.command.proofs.Numbers.{one_field, field_len}
use Rattle.command.proofs.Sheets.{continued_more}
use Rattle.command.proofs.Forms.{sheet_made, sheet_refused}
use Rattle.command.proofs.sheet_of.Goals as goal

pub returns-in_err-number : goal.returns-in_err-number
returns-in_err-number c =
    rw c.from_residual.ensures
    (sheet_refused c.loop-rest.invariant.read c.loop-rest-test.ensures (λ x more _. c.in_err-number.ensures x more))

-- the number in front takes more than one byte
pub returns-in_err-ok : goal.returns-in_err-ok
returns-in_err-ok c =
    rw c.from_residual-in_err-ok.ensures (sheet_refused c.loop-rest.invariant.read c.loop-rest-test.ensures (λ x more small f.
    let one = one_field c.in_ok-number.ensures f in
    grind (arith, common_steps)))

pub loop-rest-smaller : goal.loop-rest-smaller
loop-rest-smaller c = omega (arith, field_len c.in_ok-number.ensures)

pub loop-rest-preserved : goal.loop-rest-preserved
loop-rest-preserved c =
    record {
      read =
          continued_more c.loop-rest.invariant.read c.in_ok-number.ensures (grind (arith, common_steps))
          (grind (arith, common_steps)) c.push.ensures.after;
      room = omega (arith, field_len c.in_ok-number.ensures, c.push.ensures.len);
    }

pub returns : goal.returns
returns c = sheet_made c.loop-rest.invariant.read c.loop-rest-test.ensures
