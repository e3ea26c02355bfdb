-- Paths inside a set, distance by them, and families of paths that are apart. Assumes nothing.
use Rattle.std.specs.Prelude.{◌≡◌, ℕ, ◌≤◌, T, ◌⊎◌, List, [], ◌∷◌, length, Some, None, Option, ◌≢◌}
use Rattle.std.specs.List.{AllByRecursion}
use Rattle.rules.specs.Sets.{has}
use Rattle.rules.specs.Links.{Links}
use Rattle.rules.specs.Lists.{on}

abbrev pub first : List ℕ → Option ℕ
first [] = None
first (x ∷ p) = Some x

abbrev pub last : List ℕ → Option ℕ
last [] = None
last (x ∷ []) = Some x
last (x ∷ (y ∷ p)) = last (y ∷ p)

-- nobody stands on the list twice
abbrev pub Differ : List ℕ → Type 0
Differ [] = Unit {0}
Differ (x ∷ p) = (T (on p x) → ⊥) × Differ p

-- each is linked to the next
abbrev pub Chained : Links → List ℕ → Type 0
Chained l [] = Unit {0}
Chained l (x ∷ []) = Unit {0}
Chained l (x ∷ (y ∷ p)) = T (l x y) × Chained l (y ∷ p)

-- p is a path from a to b in S: different members of S, the first a and the last b, each linked to the next
pub record PathIn (l : Links) (S a b : ℕ) (p : List ℕ) : Type 0 where
  pub inside_set : (x : ℕ) → T (on p x) → T (has S x)
  pub differ : Differ p
  pub chained : Chained l p
  pub starts : first p ≡ Some a
  pub ends : last p ≡ Some b

-- how many links a path takes
abbrev pub path_length : List ℕ → ℕ
path_length [] = 0
path_length (x ∷ p) = length p

-- the distance of a and b in S is at most k
abbrev pub DistanceUpTo : ℕ → Links → ℕ → ℕ → ℕ → Type 0
DistanceUpTo k l S a b = (p : List ℕ) × PathIn l S a b p × (path_length p ≤ k)

-- two paths from a to b are apart: they are different and share nothing but their ends
abbrev pub Apart : ℕ → ℕ → List ℕ → List ℕ → Type 0
Apart a b p q = (p ≢ q) × ((x : ℕ) → T (on p x) → T (on q x) → (x ≡ a) ⊎ (x ≡ b))

-- every two of the paths from a to b are apart
abbrev pub EveryTwoApart : ℕ → ℕ → List (List ℕ) → Type 0
EveryTwoApart a b [] = Unit {0}
EveryTwoApart a b (p ∷ ps) = AllByRecursion (Apart a b p) ps × EveryTwoApart a b ps

-- t paths from a to b in S, every two of them apart
pub record DisjointPaths (t : ℕ) (l : Links) (S a b : ℕ) (ps : List (List ℕ)) : Type 0 where
  pub number : length ps ≡ t
  pub paths : AllByRecursion (PathIn l S a b) ps
  pub apart : EveryTwoApart a b ps
