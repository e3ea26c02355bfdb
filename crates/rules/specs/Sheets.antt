-- A sheet: a list of member numbers in any order. Assumes nothing.
use Rattle.std.specs.Prelude.{ℕ, Bool, true, false, List, [], ◌∷◌, None, Option}
use Rattle.vocabulary.specs.declared.refusal.Refusal.{Refusal}
use Rattle.vocabulary.specs.declared.refusal.Refusal.TheVariants.{OutOfRange, BadSheet}
use Rattle.rules.specs.Lists.{on}
use Rattle.rules.specs.Refusals.{try, unknown}

abbrev pub no_numbers : List ℕ → Bool
no_numbers [] = true
no_numbers (x ∷ xs) = false

-- number by number: no member of the network, or named before
abbrev pub naming_refusal : ℕ → List ℕ → List ℕ → Option Refusal
naming_refusal n before [] = None
naming_refusal n before (x ∷ xs) = try (unknown n x) OutOfRange (try (on before x) BadSheet (naming_refusal n (x ∷ before) xs))

-- a sheet over a network of n members
abbrev pub sheet_refusal : ℕ → List ℕ → Option Refusal
sheet_refusal n sheet = try (no_numbers sheet) BadSheet (naming_refusal n [] sheet)
