-- One member and those above it in a set. Assumes nothing.
use Rattle.std.specs.Prelude.{ℕ, Some, None, Option}
use Rattle.rules.specs.Links.{Links}
use Rattle.rules.specs.Models.{Meaning}
use Rattle.rules.specs.Standings.{PairsAbove, NextApart}

-- the smallest member of S above a that does not pair with a in S, none where a pairs with every member above it
abbrev pub FirstAbove : Links → Meaning → ℕ → ℕ → Option ℕ → Type 0
FirstAbove l m S a None = PairsAbove l m S a
FirstAbove l m S a (Some b) = NextApart l m S a b
