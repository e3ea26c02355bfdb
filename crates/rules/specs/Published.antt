-- The published definitions of the models, and what it is to agree with one. Assumes nothing.
use Rattle.std.specs.Prelude.{ℕ, ◌≤◌, T, ◌↔◌, List, ◌≢◌}
use Rattle.std.specs.List.{AllByRecursion}
use Rattle.rules.specs.Sets.{has, Within, SetOf, Remains, size}
use Rattle.rules.specs.Links.{Links, LawfulLinks}
use Rattle.rules.specs.Models.{Meaning, Group}
use Rattle.rules.specs.Paths.{path_length, DistanceUpTo, DisjointPaths}

-- a 2-club: every two members are joined inside the set by a path of at most two links
abbrev pub TwoClub : Links → ℕ → Type 0
TwoClub l S = (a b : ℕ) → T (has S a) → T (has S b) → DistanceUpTo 2 l S a b

-- a t-robust 2-club: every two members are joined inside the set by t paths of at most two links that share nothing but their ends
abbrev pub RobustClub : ℕ → Links → ℕ → Type 0
RobustClub t l S = (a b : ℕ) → T (has S a) → T (has S b) → (a ≢ b) → (ps : List (List ℕ)) × DisjointPaths t l S a b ps × AllByRecursion (λ p. path_length p ≤ 2) ps

-- a t-hereditary 2-club: whatever set of at most t members leaves, those that remain are a 2-club
abbrev pub HereditaryClub : ℕ → Links → ℕ → Type 0
HereditaryClub t l S = (U R : ℕ) → Within U S → size U ≤ t → Remains S U R → TwoClub l R

-- a, b and c are members of S, every two of them linked; they differ, since nobody is linked to itself
pub record Triangle (l : Links) (S a b c : ℕ) : Type 0 where
  pub one : T (has S a)
  pub two : T (has S b)
  pub three : T (has S c)
  pub one_two : T (l a b)
  pub one_three : T (l a c)
  pub two_three : T (l b c)

-- a vertex-triangle 2-club: every member lies in a triangle of the set
abbrev pub VertexTriangleClub : Links → ℕ → Type 0
VertexTriangleClub l S = TwoClub l S × ((a : ℕ) → T (has S a) → (b : ℕ) × (c : ℕ) × Triangle l S a b c)

-- an edge-triangle 2-club: every link of the set lies in a triangle of the set
abbrev pub EdgeTriangleClub : Links → ℕ → Type 0
EdgeTriangleClub l S = TwoClub l S × ((a b : ℕ) → T (has S a) → T (has S b) → T (l a b) → (c : ℕ) × Triangle l S a b c)

-- in every network, a set with at least one member is a group of the model exactly when the published definition holds of it
abbrev pub Agrees : Meaning → (Links → ℕ → Type 0) → Type 0
Agrees m Published = (n : ℕ) (l : Links) (S a : ℕ) → LawfulLinks n l → SetOf n S → T (has S a) → Group n l m S ↔ Published l S
