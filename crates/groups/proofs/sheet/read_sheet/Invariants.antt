use Rattle.network.specs.Graphs.{members_of}
use Rattle.groups.proofs.Sheets.{Naming}
use Rattle.groups.proofs.sheet.read_sheet.Given as goal

abbrev pub invariant-loop-number : goal.invariant-loop-number
invariant-loop-number l = Naming (members_of l.graph) l.sheet l.number-index l.named.word
