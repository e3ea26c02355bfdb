-- The sheet has the numbers up to `rest`, and each took two bytes at least.
use Rattle.std.proofs.Common.{◌+◌, ◌*◌, ◌≤◌, length, take}
use Rattle.command.proofs.Sheets.{Continued}
use Rattle.command.proofs.sheet_of.Given as goal

abbrev pub invariant-loop-rest : goal.invariant-loop-rest
invariant-loop-rest l =
    record {
      read : Continued l.fields (take l.sheet.len l.sheet.bytes) l.rest;
      room : 2 * l.sheet.len + length l.rest ≤ length l.fields;
    }

abbrev pub decreases-loop-rest : goal.decreases-loop-rest
decreases-loop-rest l = length l.rest
