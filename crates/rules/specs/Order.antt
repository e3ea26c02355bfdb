-- The order of sets. Assumes nothing.
use Rattle.std.specs.Prelude.{◌≡◌, ℕ, ◌<◌, T, ◌⊎◌, Some, None, Option, ◌≢◌}
use Rattle.rules.specs.Sets.{has, size, SetOf}

-- S holds the smallest member in which S and R differ
pub record HoldsFirst (S R : ℕ) : Type 0 where
  pub at : ℕ
  pub held : T (has S at)
  pub lacks : T (has R at) → ⊥
  pub below : (a : ℕ) → a < at → has S a ≡ has R a

-- S is better than R: it has more members, or as many and holds the smallest member in which they differ
abbrev pub Better : ℕ → ℕ → Type 0
Better S R = (size R < size S) ⊎ ((size S ≡ size R) × HoldsFirst S R)

-- S is better than the best: "none" is worse than every set with a member, and the empty set is not better than none
abbrev pub Beats : ℕ → Option ℕ → Type 0
Beats S None = (a : ℕ) × T (has S a)
Beats S (Some R) = Better S R

-- no set is better than itself, what is better than a better one is better, and of two different sets one is better
pub record OrderLaws : Type 0 where
  pub irreflexive : (S : ℕ) → Better S S → ⊥
  pub transitive : (S R Q : ℕ) → Better S R → Better R Q → Better S Q
  pub connected : (S R : ℕ) → SetOf 64 S → SetOf 64 R → (S ≢ R) → Better S R ⊎ Better R S
