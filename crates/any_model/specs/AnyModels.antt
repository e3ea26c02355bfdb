-- What a model means that is one of several: what the one means. Assumes nothing.
use Rattle.rules.specs.Models.{Meaning, plain, robust, hereditary, vertex_triangle, edge_triangle}
use Rattle.any_model.specs.declared.any_model.AnyModel.{AnyModel}
use Rattle.any_model.specs.declared.any_model.AnyModel.TheVariants as model

abbrev pub meaning_of : AnyModel → Meaning
meaning_of (model.Plain m) = plain
meaning_of (model.Robust m) = robust m.t
meaning_of (model.Hereditary m) = hereditary m.t
meaning_of (model.VertexTriangle m) = vertex_triangle
meaning_of (model.EdgeTriangle m) = edge_triangle
