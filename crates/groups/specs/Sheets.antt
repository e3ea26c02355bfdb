-- What is read off a sheet, and how its set stands. Assumes nothing.
use Rattle.std.specs.Prelude.{ℕ, List, Result}
use Rattle.vocabulary.specs.declared.refusal.Refusal.{Refusal}
use Rattle.vocabulary.specs.declared.standing.Standing.{Standing}
use Rattle.rules.specs.Links.{Links}
use Rattle.rules.specs.Lists.{Named}
use Rattle.rules.specs.Refusals.{Answers}
use Rattle.rules.specs.Sheets.{sheet_refusal}
use Rattle.rules.specs.Models.{Meaning}
use Rattle.rules.specs.Standings.{StandsOnly}
use Rattle.sets.specs.declared.member_set.MemberSet.{MemberSet}

abbrev pub SheetRead : ℕ → List ℕ → Result MemberSet Refusal → Type 0
SheetRead n sheet r = Answers (sheet_refusal n sheet) (λ set. Named sheet set.word) r

-- how the sheet's set stands in the network of n members with the links l
abbrev pub SheetJudged : ℕ → Links → Meaning → List ℕ → Result Standing Refusal → Type 0
SheetJudged n l m sheet r = Answers (sheet_refusal n sheet) (λ standing. (S : ℕ) × Named sheet S × StandsOnly n l m S standing) r
