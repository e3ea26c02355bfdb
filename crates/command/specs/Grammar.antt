-- How a line is written: what each command looks like as bytes. Assumes nothing.
use Rattle.std.specs.Prelude.{◌≡◌, ℕ, ◌+◌, ◌-◌, ◌*◌, ◌≤◌, List, [], ◌∷◌, ◌++◌, length, fold, All}
use Rattle.vocabulary.specs.declared.model_kind.ModelKind.{ModelKind}
use Rattle.vocabulary.specs.ModelKinds.{model_letter}

-- a byte from `0` to `9`
abbrev pub Digit : ℕ → Type 0
Digit b = (48 ≤ b) × (b ≤ 57)

-- the number that digits write: ten times what stands before, and the digit
abbrev pub number_written : List ℕ → ℕ
number_written ds = fold (λ n d. n * 10 + (d - 48)) 0 ds

-- the digits that write x: one to seven of them
pub record Numeral (ds : List ℕ) (x : ℕ) : Type 0 where
  pub some : 1 ≤ length ds
  pub few : length ds ≤ 7
  pub digits : All Digit ds
  pub value : x ≡ number_written ds

-- a command as it is said, without the spare places of a sheet
pub data Spelled : Type 0 where
  network : ℕ → ModelKind → ℕ → Spelled
  link : ℕ → ℕ → Spelled
  sheet : List ℕ → Spelled

-- numbers of one byte, each written behind a space
abbrev pub Fields : List ℕ → List ℕ → Type 0
Fields line [] = line ≡ []
Fields line (x ∷ xs) = (ds : List ℕ) × ((rest : List ℕ) × (Numeral ds x × (x ≤ 255) × (line ≡ 32 ∷ (ds ++ rest)) × Fields rest xs))

-- what the line of a command looks like: its letter, as 78 for `N`, 76 for `L` and 75 for `K`, and each number or model letter behind a space; `K` alone is the empty sheet
abbrev pub Form : Spelled → List ℕ → Type 0
Form (network n m t) line =
    (ds : List ℕ) × ((es : List ℕ) × (Numeral ds n × Numeral es t × (line ≡ 78 ∷ (32 ∷ (ds ++ (32 ∷ (model_letter m ∷ (32 ∷ es))))))))
Form (link a b) line = (ds : List ℕ) × ((es : List ℕ) × (Numeral ds a × Numeral es b × (line ≡ 76 ∷ (32 ∷ (ds ++ (32 ∷ es))))))
Form (sheet xs) line = (rest : List ℕ) × ((line ≡ 75 ∷ rest) × Fields rest xs)

-- the line is written so as to say the command c
pub record Written (c : Spelled) (line : List ℕ) : Type 0 where
  pub short : length line ≤ 1000
  pub form : Form c line
