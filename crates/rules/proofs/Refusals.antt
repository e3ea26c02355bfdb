-- What follows from a refusal of the ends of a link, given or not. Assumes nothing.
use Rattle.std.proofs.Common.{◌≡◌, ℕ, Bool, true, false, T, None, Option, refl, arith}
use Rattle.std.proofs.lemmas.Bool.Decides.{nat_tests}
use Rattle.vocabulary.specs.declared.refusal.Refusal.{Refusal}
use Rattle.rules.specs.Sets.{inside}
use Rattle.rules.specs.Refusals.{try, ends_refusal}

-- a test that did not turn the call down, and one that did not let it pass
pub not_tried : (test : Bool) (e : Refusal) (rest : Option Refusal) → try test e rest ≡ None → (test ≡ false) × (rest ≡ None)
not_tried true e rest q = cc
not_tried false e rest q = (refl, q)

pub record TwoMembers (n a b : ℕ) : Type 0 where
  pub one : T (inside n a)
  pub two : T (inside n b)
  pub differ : a ≡ b → ⊥

pub ends_passed : (n a b : ℕ) → ends_refusal n a b None ≡ None → TwoMembers n a b
ends_passed n a b q = record { one = grind (arith, nat_tests); two = grind (arith, nat_tests); differ = λ e. grind (arith, nat_tests) }

pub ends_rest : (n a b : ℕ) (rest : Option Refusal) → ends_refusal n a b None ≡ None → ends_refusal n a b rest ≡ rest
ends_rest n a b rest q = let p = ends_passed n a b q in let i = p.one in let j = p.two in let d = p.differ in grind (arith, nat_tests)
