-- What it means that a line was read as a command, or refused. Assumes nothing.
use Rattle.std.specs.Prelude.{◌≡◌, ℕ, List, take, Some, None, Option}
use Rattle.command.specs.Grammar.{Spelled, network, link, sheet, Written}
use Rattle.command.specs.declared.Command.{Command}
use Rattle.command.specs.declared.Command.TheVariants.{Network, Link, Sheet}

-- the command as it is said
abbrev pub says : Command → Spelled
says (Network n m t) = network n m t
says (Link a b) = link a b
says (Sheet s) = sheet (take s.len s.bytes)

-- the one command that P allows, or none where it allows none
abbrev pub Spells : (Spelled → Type 0) → Option Command → Type 0
Spells P (Some c) = P (says c) × ((d : Spelled) → P d → d ≡ says c)
Spells P None = (d : Spelled) → P d → ⊥

-- the answer is what the line says, and the line says nothing else; or there is no answer, and the line says nothing
abbrev pub Reads : List ℕ → Option Command → Type 0
Reads line r = Spells (λ c. Written c line) r
