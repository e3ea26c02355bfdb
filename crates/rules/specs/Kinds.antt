-- The models by name: parameter, rule and published definition of each. Assumes nothing.
use Rattle.std.specs.Prelude.{◌≡◌, ℕ, Bool, not, ◌&&◌, None, Option, Result, ◌==◌, nat_le}
use Rattle.vocabulary.specs.declared.refusal.Refusal.{Refusal}
use Rattle.vocabulary.specs.declared.refusal.Refusal.TheVariants.{BadParameter}
use Rattle.vocabulary.specs.declared.model_kind.ModelKind.{ModelKind}
use Rattle.vocabulary.specs.declared.model_kind.ModelKind.TheVariants as kind
use Rattle.rules.specs.Links.{Links}
use Rattle.rules.specs.Refusals.{try, Answers}
use Rattle.rules.specs.Models.{Meaning, plain, robust, hereditary, vertex_triangle, edge_triangle}
use Rattle.rules.specs.Published.{TwoClub, RobustClub, HereditaryClub, VertexTriangleClub, EdgeTriangleClub, Agrees}

-- the parameters that a model takes
abbrev pub in_range : ModelKind → ℕ → Bool
in_range kind.Plain t = t == 0
in_range kind.Robust t = nat_le 1 t && nat_le t 64
in_range kind.Hereditary t = nat_le t 63
in_range kind.VertexTriangle t = t == 0
in_range kind.EdgeTriangle t = t == 0

abbrev pub rule : ModelKind → ℕ → Meaning
rule kind.Plain t = plain
rule kind.Robust t = robust t
rule kind.Hereditary t = hereditary t
rule kind.VertexTriangle t = vertex_triangle
rule kind.EdgeTriangle t = edge_triangle

abbrev pub published : ModelKind → ℕ → Links → ℕ → Type 0
published kind.Plain t = TwoClub
published kind.Robust t = RobustClub t
published kind.Hereditary t = HereditaryClub t
published kind.VertexTriangle t = VertexTriangleClub
published kind.EdgeTriangle t = EdgeTriangleClub

-- why no model is made
abbrev pub parameter_refusal : ModelKind → ℕ → Option Refusal
parameter_refusal k t = try (not (in_range k t)) BadParameter None

-- a model is made exactly when its parameter is in range; then it answers by its rule, and its groups are the published ones
abbrev pub ModelMade : {M : Type 0} → (M → Meaning) → ModelKind → ℕ → Result M Refusal → Type 0
ModelMade meaning k t r = Answers (parameter_refusal k t) (λ m. (meaning m ≡ rule k t) × Agrees (meaning m) (published k t)) r
