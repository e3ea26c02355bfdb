-- Words of sets. Assumes nothing.
use Rattle.std.specs.Prelude.{ℕ, Some, None, Option}
use Rattle.sets.specs.declared.member_set.MemberSet.{MemberSet}

abbrev pub word_of : Option MemberSet → Option ℕ
word_of None = None
word_of (Some s) = Some s.word
