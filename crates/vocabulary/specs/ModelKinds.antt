-- The letter of each model. Assumes nothing.
use Rattle.std.specs.Prelude.{◌≡◌, ℕ, ◌≢◌, Ok, Err, Result}
use Rattle.vocabulary.specs.declared.model_kind.ModelKind.{ModelKind}
use Rattle.vocabulary.specs.declared.model_kind.ModelKind.TheVariants.{Plain, Robust, Hereditary, VertexTriangle, EdgeTriangle}
use Rattle.vocabulary.specs.declared.model_kind.UnknownLetter.{UnknownLetter}

-- the letter that names a model: `P`, `R`, `H`, `V` or `E`
abbrev pub model_letter : ModelKind → ℕ
model_letter Plain = 80
model_letter Robust = 82
model_letter Hereditary = 72
model_letter VertexTriangle = 86
model_letter EdgeTriangle = 69

-- the model that the letter names; or the letter back, and it names no model
abbrev pub NamesModel : ℕ → Result ModelKind UnknownLetter → Type 0
NamesModel letter (Ok m) = letter ≡ model_letter m
NamesModel letter (Err e) = (e.0 ≡ letter) × ((m : ModelKind) → letter ≢ model_letter m)
