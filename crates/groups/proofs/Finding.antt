-- What the loops over members have found when they end. Assumes nothing.
use Rattle.std.proofs.Common.{◌≡◌, ℕ, ◌<◌, ◌≤◌, false, ◌&&◌, T, ltb, ap, ◌∙◌, subst, inl, inr, arith}
use Rattle.std.proofs.lemmas.Bool.{cases_lt, cases_order}
use Rattle.std.proofs.lemmas.Bool.Decides.{nat_tests}
use Rattle.vocabulary.specs.declared.standing.Standing.{Standing}
use Rattle.vocabulary.specs.declared.standing.Standing.TheVariants as standing
use Rattle.rules.specs.Sets.{has, inside, EmptySet, SetOf, Lowest}
use Rattle.rules.specs.Links.{Links, LawfulLinks}
use Rattle.rules.specs.Models.{Meaning, LawfulModel, AllFit}
use Rattle.std.specs.Prelude.{Option, Some, None, MatchOption}
use Rattle.rules.specs.Standings.{FirstNot, FirstLoose, PairsAbove, NextApart, FirstApart, Stands, StandsOnly}
use Rattle.groups.specs.Searches.{FirstAbove}
use Rattle.rules.proofs.Members.{inside_from, inside_to, inside_of, set_word, some_tells}
use Rattle.rules.proofs.Standings.{one_standing}
use Rattle.sets.proofs.Sweeping.{Swept, sweep_earlier}

-- B has the members of S above a
module _ (S a B : ℕ) (B_is : (y : ℕ) → has B y ≡ (has S y && ltb a y)) where
  above_from : (y : ℕ) → T (has S y) → a < y → T (has B y)
  above_from y t h = let b = B_is y in grind (arith, nat_tests)

  above_in : (y : ℕ) → T (has B y) → T (has S y)
  above_in y t = let b = B_is y in grind (arith, nat_tests)

  above_over : (y : ℕ) → T (has B y) → a < y
  above_over y t = let b = B_is y in grind (arith, nat_tests)

  -- what was found among them
  pub found_above : (l : Links) (m : Meaning) (r : Option ℕ) → MatchOption r ((y : ℕ) → T (has B y) → T (m.pairs l S a y)) (FirstNot B (λ y. T (m.pairs l S a y))) → FirstAbove l m S a r
  found_above l m None all = λ y t h. all y (above_from y t h)
  found_above l m (Some b) first = record {
    member = above_in b first.member;
    above = above_over b first.member;
    unpaired = first.fails;
    next = λ y t h g. first.earlier y (above_from y t h) g;
  }

pub found_loose : (l : Links) (m : Meaning) (S : ℕ) (r : Option ℕ) → MatchOption r (AllFit l m S) (FirstNot S (λ a. T (m.fits l S a))) → FirstLoose l m S r
found_loose l m S None all = all
found_loose l m S (Some a) first = first

pub first_apart : (l : Links) (m : Meaning) (S rest a b : ℕ) → Swept S (PairsAbove l m S) rest → Lowest rest a → NextApart l m S a b → FirstApart l m S a b
first_apart l m S rest a b swept low next = record { one = swept.within a low.member; two = next; smallest = sweep_earlier S _ rest a swept low }

-- ---- how a set stands; B has the members of S that the network does not

module _ (n : ℕ) (l : Links) (m : Meaning) (S B top : ℕ) (numbers : SetOf 64 S) (B_top : (y : ℕ) → has B y ≡ (has S y && ltb top y)) (top_is : top ≡ n) where
  B_is : (y : ℕ) → has B y ≡ (has S y && ltb n y)
  B_is y = B_top y ∙ ap (λ (k : ℕ). has S y && ltb k y) top_is

  only : (r : Standing) → Stands n l m S r → StandsOnly n l m S r
  only r x = record { stands = x; only = λ other y. one_standing n l m S other r y x }

  known : (x : ℕ) → T (has S x) → x ≤ n → T (inside n x)
  known x t h = inside_of n x (inside_from 64 x (numbers x t)) h

  all_known : EmptySet B → SetOf n S
  all_known none x t = elim (cases_lt n x) [ inl g ↦ absurd (subst T (none x) (above_from S n B B_is x t g)) | inr g ↦ known x t g ]

  pub stands_unknown : (a : ℕ) → Lowest B a → StandsOnly n l m S (standing.Unknown a)
  stands_unknown a low = only (standing.Unknown a) (record {
    member = above_in S n B B_is a low.member;
    fails = λ i. let h = above_over S n B B_is a low.member in let g = inside_to n a i in omega arith;
    earlier = λ x t h. elim (cases_lt n x) [ inl g ↦ absurd (let k = low.least x (above_from S n B B_is x t g) in omega arith) | inr g ↦ known x t g ];
  })

  pub stands_loose : (a : ℕ) → EmptySet B → FirstNot S (λ x. T (m.fits l S x)) a → StandsOnly n l m S (standing.Loose a)
  stands_loose a none first = only (standing.Loose a) (all_known none, first)

  pub stands_apart : (a b : ℕ) → EmptySet B → AllFit l m S → FirstApart l m S a b → StandsOnly n l m S (standing.Apart a b)
  stands_apart a b none fit first = only (standing.Apart a b) (all_known none, fit, first)

  pub stands_group : (EmptySet S → ⊥) → EmptySet B → AllFit l m S → ((a : ℕ) → T (has S a) → PairsAbove l m S a) → LawfulLinks n l → LawfulModel n l m → StandsOnly n l m S standing.Group
  stands_group some none fit above N M = only standing.Group (record {
    members = all_known none;
    some = some_tells S false (set_word 64 S numbers) some;
    all_fit = fit;
    all_pair = λ a b i j d. elim (cases_order a b) [
      | inl e ↦ absurd (d e)
      | inr (inl h) ↦ above a i b j h
      | inr (inr h) ↦ subst T (M.either_order S b a (all_known none)) (above b j a i h)
    ];
  })
