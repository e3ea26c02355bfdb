-- What is written of a standing. Assumes nothing.
use Rattle.std.specs.Prelude.{ℕ, List, ◌++◌, codes, decimal}
use Rattle.vocabulary.specs.declared.standing.Standing.{Standing}
use Rattle.vocabulary.specs.declared.standing.Standing.TheVariants.{Empty, Unknown, Loose, Apart, Group}

abbrev pub standing_text : Standing → List ℕ
standing_text Empty = codes "empty"
standing_text (Unknown a) = codes "unknown " ++ decimal a
standing_text (Loose a) = codes "loose " ++ decimal a
standing_text (Apart a b) = codes "apart " ++ (decimal a ++ (codes " " ++ decimal b))
standing_text Group = codes "group"
