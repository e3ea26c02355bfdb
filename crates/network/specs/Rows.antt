-- The links that rows of sets hold. Assumes nothing.
use Rattle.std.specs.Prelude.{zero, suc, false, List, slice_index_or}
use Rattle.sets.specs.declared.member_set.MemberSet.{MemberSet}
use Rattle.rules.specs.Sets.{has}
use Rattle.rules.specs.Links.{Links}

abbrev pub nobody : MemberSet
nobody = record { word = 0 }

-- b is linked to a when it stands in a's row, the (a - 1)th
abbrev pub adjacent : List MemberSet → Links
adjacent rows zero b = false
adjacent rows (suc k) b = has (slice_index_or rows k nobody).word b
