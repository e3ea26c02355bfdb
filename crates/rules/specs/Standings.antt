-- How a set stands in a network under a model. Assumes nothing.
use Rattle.std.specs.Prelude.{◌≡◌, ℕ, ◌<◌, T, Some, None, Option}
use Rattle.vocabulary.specs.declared.standing.Standing.{Standing}
use Rattle.vocabulary.specs.declared.standing.Standing.TheVariants as standing
use Rattle.rules.specs.Sets.{has, inside, EmptySet, SetOf}
use Rattle.rules.specs.Links.{Links}
use Rattle.rules.specs.Models.{Meaning, AllFit, Group}

-- a is the smallest member of S of which P is not true
pub record FirstNot (S : ℕ) (P : ℕ → Type 0) (a : ℕ) : Type 0 where
  pub member : T (has S a)
  pub fails : P a → ⊥
  pub earlier : (x : ℕ) → T (has S x) → x < a → P x

-- x pairs in S with every member above it
abbrev pub PairsAbove : Links → Meaning → ℕ → ℕ → Type 0
PairsAbove l m S x = (y : ℕ) → T (has S y) → x < y → T (m.pairs l S x y)

-- b is the smallest member of S above a that does not pair with a in S
pub record NextApart (l : Links) (m : Meaning) (S a b : ℕ) : Type 0 where
  pub member : T (has S b)
  pub above : a < b
  pub unpaired : T (m.pairs l S a b) → ⊥
  pub next : (y : ℕ) → T (has S y) → a < y → y < b → T (m.pairs l S a y)

-- a and b are members of S that do not pair in it: a is the smallest that does not pair with some member above it, b the smallest above a that does not pair with a
pub record FirstApart (l : Links) (m : Meaning) (S a b : ℕ) : Type 0 where
  pub one : T (has S a)
  pub two : NextApart l m S a b
  pub smallest : (x : ℕ) → T (has S x) → x < a → PairsAbove l m S x

-- the smallest member that does not fit, none where each fits
abbrev pub FirstLoose : Links → Meaning → ℕ → Option ℕ → Type 0
FirstLoose l m S None = AllFit l m S
FirstLoose l m S (Some a) = FirstNot S (λ x. T (m.fits l S x)) a

-- the first two that do not pair, none where each pairs with every member above it
abbrev pub FirstUnpaired : Links → Meaning → ℕ → Option (ℕ × ℕ) → Type 0
FirstUnpaired l m S None = (a : ℕ) → T (has S a) → PairsAbove l m S a
FirstUnpaired l m S (Some p) = FirstApart l m S p.0 p.1

-- the ways in which S stands in a network of n members with the links l
abbrev pub Stands : ℕ → Links → Meaning → ℕ → Standing → Type 0
Stands n l m S standing.Empty = EmptySet S
Stands n l m S (standing.Unknown a) = FirstNot S (λ x. T (inside n x)) a
Stands n l m S (standing.Loose a) = SetOf n S × FirstNot S (λ x. T (m.fits l S x)) a
Stands n l m S (standing.Apart a b) = SetOf n S × AllFit l m S × FirstApart l m S a b
Stands n l m S standing.Group = Group n l m S

-- the one way in which S stands
pub record StandsOnly (n : ℕ) (l : Links) (m : Meaning) (S : ℕ) (r : Standing) : Type 0 where
  pub stands : Stands n l m S r
  pub only : (other : Standing) → Stands n l m S other → other ≡ r
