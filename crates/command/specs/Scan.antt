-- One field on a line, a number or a model, and what follows it. Assumes nothing.
use Rattle.std.specs.Prelude.{◌≡◌, ℕ, ◌≤◌, List, [], ◌∷◌, ◌++◌, length, take, drop, All}
use Rattle.vocabulary.specs.declared.model_kind.ModelKind.{ModelKind}
use Rattle.vocabulary.specs.ModelKinds.{model_letter}
use Rattle.command.specs.Grammar.{Digit, Numeral}

-- a number has ended: no digit follows
abbrev pub Stops : List ℕ → Type 0
Stops [] = Unit {0}
Stops (b ∷ bs) = Digit b → ⊥

-- the first n bytes are digits, and no more
pub record Counted (line : List ℕ) (n : ℕ) : Type 0 where
  pub len : n ≤ length line
  pub digits : All Digit (take n line)
  pub stops : Stops (drop n line)

-- a space, all the digits that follow it, which write x, and what is left
pub record Field (line : List ℕ) (x : ℕ) (rest : List ℕ) : Type 0 where
  pub digits : List ℕ
  pub numeral : Numeral digits x
  pub whole : line ≡ 32 ∷ (digits ++ rest)
  pub stops : Stops rest

-- a space, the letter of the model m, and what is left
abbrev pub ModelField : List ℕ → ModelKind → List ℕ → Type 0
ModelField line m rest = line ≡ 32 ∷ (model_letter m ∷ rest)
