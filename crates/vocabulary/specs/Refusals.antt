-- The number of each refusal. Assumes nothing.
use Rattle.std.specs.Prelude.{ℕ}
use Rattle.vocabulary.specs.declared.refusal.Refusal.{Refusal}
use Rattle.vocabulary.specs.declared.refusal.Refusal.TheVariants.{OutOfRange, SameMember, AlreadyLinked, NotLinked, NoRoom, BadSheet, BadParameter}

abbrev pub refusal_number : Refusal → ℕ
refusal_number OutOfRange = 1
refusal_number SameMember = 2
refusal_number AlreadyLinked = 4
refusal_number NotLinked = 5
refusal_number NoRoom = 6
refusal_number BadSheet = 9
refusal_number BadParameter = 10
