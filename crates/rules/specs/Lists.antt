-- Lists of members. Assumes nothing.
use Rattle.std.specs.Prelude.{◌≡◌, ℕ, Bool, false, ◌||◌, List, [], ◌∷◌, ◌==◌}
use Rattle.rules.specs.Sets.{has}

-- a stands on the list
abbrev pub on : List ℕ → ℕ → Bool
on [] a = false
on (x ∷ xs) a = x == a || on xs a

-- S is the set of those on the list
abbrev pub Named : List ℕ → ℕ → Type 0
Named list S = (a : ℕ) → has S a ≡ on list a
