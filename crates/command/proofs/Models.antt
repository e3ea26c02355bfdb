-- A line's model is one space and the model's letter, so there is only one way to read it.
use Rattle.std.proofs.Common.{◌≡◌, List, ℕ, arith}
use Rattle.vocabulary.specs.declared.model_kind.ModelKind.{ModelKind}
use Rattle.vocabulary.specs.ModelKinds.{model_letter}
use Rattle.command.specs.Scan.{ModelField}

-- a letter names at most one model
one_letter : (a b : ModelKind) → model_letter a ≡ model_letter b → a ≡ b
one_letter a b e = grind arith

-- one line has at most one model in front
pub one_model : (line : List ℕ) (a b : ModelKind) (rest more : List ℕ) → ModelField line a rest → ModelField line b more
    → (a ≡ b) × (rest ≡ more)
one_model line a b rest more p q = (one_letter a b (cc), cc)
