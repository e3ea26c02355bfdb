-- Small networks with what is known of them. Assumes nothing.
use Rattle.std.specs.Prelude.{ℕ, T, List, [], ◌∷◌}
use Rattle.vocabulary.specs.declared.standing.Standing.{Standing}
use Rattle.vocabulary.specs.declared.standing.Standing.TheVariants as standing
use Rattle.vocabulary.specs.declared.model_kind.ModelKind.{ModelKind}
use Rattle.vocabulary.specs.declared.model_kind.ModelKind.TheVariants as kind
use Rattle.rules.specs.Sets.{has, SetOf}
use Rattle.rules.specs.Links.{Links, no_links, linking, LawfulLinks}
use Rattle.rules.specs.Lists.{Named}
use Rattle.rules.specs.Models.{Group}
use Rattle.rules.specs.Standings.{StandsOnly}
use Rattle.rules.specs.Kinds.{rule, published}

-- the links that a list names, each by its two ends
abbrev pub links_among : List (ℕ × ℕ) → Links
links_among [] = no_links
links_among (p ∷ rest) = linking p.0 p.1 (links_among rest)

-- a network that is written down: how many members it has, and the list of its links
pub record SmallNetwork : Type 0 where
  pub members : ℕ
  pub links : List (ℕ × ℕ)

-- 1 is linked to each of the others
abbrev pub star : SmallNetwork
star = record { members = 5; links = (1, 2) ∷ (1, 3) ∷ (1, 4) ∷ (1, 5) ∷ [] }

-- the triangles 1 2 3 and 4 5 6, joined corner to corner
abbrev pub prism : SmallNetwork
prism = record { members = 6; links = (1, 2) ∷ (1, 3) ∷ (2, 3) ∷ (4, 5) ∷ (4, 6) ∷ (5, 6) ∷ (1, 4) ∷ (2, 5) ∷ (3, 6) ∷ [] }

-- each of 1 2 3 is linked to each of 4 5 6
abbrev pub two_rows : SmallNetwork
two_rows = record { members = 6; links = (1, 4) ∷ (1, 5) ∷ (1, 6) ∷ (2, 4) ∷ (2, 5) ∷ (2, 6) ∷ (3, 4) ∷ (3, 5) ∷ (3, 6) ∷ [] }

-- 1 and 3 are linked to 2
abbrev pub path : SmallNetwork
path = record { members = 3; links = (1, 2) ∷ (2, 3) ∷ [] }

abbrev pub all_five : List ℕ
all_five = 1 ∷ 2 ∷ 3 ∷ 4 ∷ 5 ∷ []

abbrev pub all_six : List ℕ
all_six = 1 ∷ 2 ∷ 3 ∷ 4 ∷ 5 ∷ 6 ∷ []

-- the list names a set, and P is true of every set that it names
abbrev pub OfThose : List ℕ → (ℕ → Type 0) → Type 0
OfThose list P = ((S : ℕ) × Named list S) × ((S : ℕ) → Named list S → P S)

abbrev pub Lawful : SmallNetwork → Type 0
Lawful net = LawfulLinks net.members (links_among net.links)

-- S is a group, by the rule of the model and by its published definition
abbrev pub IsGroup : SmallNetwork → ModelKind → ℕ → ℕ → Type 0
IsGroup net k t S = Group net.members (links_among net.links) (rule k t) S × published k t (links_among net.links) S

-- S is no group, by either
abbrev pub IsNoGroup : SmallNetwork → ModelKind → ℕ → ℕ → Type 0
IsNoGroup net k t S = (Group net.members (links_among net.links) (rule k t) S → ⊥) × (published k t (links_among net.links) S → ⊥)

abbrev pub AreGroup : SmallNetwork → ModelKind → ℕ → List ℕ → Type 0
AreGroup net k t list = OfThose list (IsGroup net k t)

abbrev pub AreNoGroup : SmallNetwork → ModelKind → ℕ → List ℕ → Type 0
AreNoGroup net k t list = OfThose list (IsNoGroup net k t)

-- no set with a member is a group
abbrev pub NoGroup : SmallNetwork → ModelKind → ℕ → Type 0
NoGroup net k t = (S a : ℕ) → SetOf net.members S → T (has S a) → IsNoGroup net k t S

-- those on the list stand in this way only
abbrev pub StandOnly : SmallNetwork → ModelKind → ℕ → List ℕ → Standing → Type 0
StandOnly net k t list r = OfThose list (λ S. StandsOnly net.members (links_among net.links) (rule k t) S r)

pub record WorkedFacts : Type 0 where
  pub star_lawful : Lawful star
  pub prism_lawful : Lawful prism
  pub two_rows_lawful : Lawful two_rows
  pub path_lawful : Lawful path
  pub star_plain : AreGroup star kind.Plain 0 all_five
  pub star_no_vertex_triangle : NoGroup star kind.VertexTriangle 0
  pub prism_vertex_triangle : AreGroup prism kind.VertexTriangle 0 all_six
  pub prism_not_edge_triangle : AreNoGroup prism kind.EdgeTriangle 0 all_six
  pub prism_side_edge_triangle : AreGroup prism kind.EdgeTriangle 0 (1 ∷ 2 ∷ 3 ∷ [])
  pub prism_side_robust_2 : AreGroup prism kind.Robust 2 (1 ∷ 2 ∷ 3 ∷ [])
  pub prism_side_not_robust_3 : AreNoGroup prism kind.Robust 3 (1 ∷ 2 ∷ 3 ∷ [])
  pub two_rows_hereditary_2 : AreGroup two_rows kind.Hereditary 2 all_six
  pub two_rows_not_hereditary_3 : AreNoGroup two_rows kind.Hereditary 3 all_six
  pub two_rows_not_robust_2 : AreNoGroup two_rows kind.Robust 2 all_six
  pub path_ends_apart : StandOnly path kind.Plain 0 (1 ∷ 3 ∷ []) (standing.Apart 1 3)
