-- The members of a set one by one. Assumes nothing.
use Rattle.std.specs.Prelude.{◌≡◌, ℕ, Some, None, Option}
use Rattle.rules.specs.Sets.{EmptySet, Leaves, Lowest}

-- the smallest member comes and leaves the set; none comes when nobody is left
abbrev pub Taken : ℕ → Option ℕ → ℕ → Type 0
Taken S None R = EmptySet S × (R ≡ S)
Taken S (Some v) R = Lowest S v × Leaves S v R
