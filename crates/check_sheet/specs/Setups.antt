-- A network with its model, as a line `N` asks for them. Assumes nothing.
use Rattle.std.specs.Prelude.{◌≡◌, ℕ, Option, Result}
use Rattle.vocabulary.specs.declared.refusal.Refusal.{Refusal}
use Rattle.vocabulary.specs.declared.model_kind.ModelKind.{ModelKind}
use Rattle.rules.specs.Links.{Links, no_links}
use Rattle.std.specs.Option.{option_or}
use Rattle.rules.specs.Refusals.{making_refusal, Answers}
use Rattle.rules.specs.Models.{Meaning}
use Rattle.rules.specs.Published.{Agrees}
use Rattle.rules.specs.Kinds.{rule, published, parameter_refusal}
use Rattle.matrix.specs.Matrices.{members_of, links_of}
use Rattle.any_model.specs.AnyModels.{meaning_of}
use Rattle.check_sheet.specs.declared.setup.Setup.{Setup}

-- the network has n members and the links l, and its groups are those of m
pub record SetupIs (n : ℕ) (l : Links) (m : Meaning) (s : Setup) : Type 0 where
  pub members : members_of s.net ≡ n
  pub links : links_of s.net ≡ l
  pub meaning : meaning_of s.model ≡ m

-- the network's refusals are tried before the model's
abbrev pub setup_refusal : ℕ → ModelKind → ℕ → Option Refusal
setup_refusal n k t = option_or (making_refusal n) (parameter_refusal k t)

-- a network without links, under a model whose groups are the published ones
pub record Begun (n : ℕ) (k : ModelKind) (t : ℕ) (s : Setup) : Type 0 where
  pub is : SetupIs n no_links (rule k t) s
  pub agrees : Agrees (rule k t) (published k t)

abbrev pub SetupMade : ℕ → ModelKind → ℕ → Result Setup Refusal → Type 0
SetupMade n k t r = Answers (setup_refusal n k t) (Begun n k t) r
