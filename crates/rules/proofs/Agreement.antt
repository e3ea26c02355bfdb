-- Each model's groups are the published ones, where its parameter is in range. Assumes nothing.
use Rattle.std.proofs.Common.{◌≡◌, ℕ, T, None, arith}
use Rattle.vocabulary.specs.declared.model_kind.ModelKind.{ModelKind}
use Rattle.vocabulary.specs.declared.model_kind.ModelKind.TheVariants as kind
use Rattle.rules.specs.Published.{Agrees}
use Rattle.rules.specs.Kinds.{in_range, rule, published, parameter_refusal}
use Rattle.std.proofs.lemmas.Bool.Decides.{nat_tests}
use Rattle.rules.proofs.Published.{plain_agrees, hereditary_agrees, vertex_triangle_agrees, edge_triangle_agrees}
use Rattle.rules.proofs.Robust.{robust_agrees}

pub agrees : (k : ModelKind) (t : ℕ) → T (in_range k t) → Agrees (rule k t) (published k t)
agrees kind.Plain t i = plain_agrees
agrees kind.Robust t i = robust_agrees t (grind (arith, nat_tests))
agrees kind.Hereditary t i = hereditary_agrees t
agrees kind.VertexTriangle t i = vertex_triangle_agrees
agrees kind.EdgeTriangle t i = edge_triangle_agrees

-- the groups of a model that is made are the published ones
pub made_agrees : (k : ModelKind) (t : ℕ) → parameter_refusal k t ≡ None → Agrees (rule k t) (published k t)
made_agrees k t taken = agrees k t (grind (arith, nat_tests))
