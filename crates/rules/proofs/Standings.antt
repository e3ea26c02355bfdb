-- A set stands in one way only. Assumes nothing.
use Rattle.std.proofs.Common.{◌≡◌, ℕ, T, sym, refl, ap, subst, ap₂, inl, inr, arith}
use Rattle.std.proofs.lemmas.Bool.{cases_order}
use Rattle.vocabulary.specs.declared.standing.Standing.{Standing}
use Rattle.vocabulary.specs.declared.standing.Standing.TheVariants as standing
use Rattle.rules.specs.Links.{Links}
use Rattle.rules.specs.Models.{Meaning, AllFit, Group}
use Rattle.rules.specs.Standings.{FirstNot, FirstApart, Stands}

one_first : (S : ℕ) (P : ℕ → Type 0) (a b : ℕ) → FirstNot S P a → FirstNot S P b → a ≡ b
one_first S P a b x y = elim (cases_order a b) [
  | inl e ↦ e
  | inr (inl h) ↦ absurd (x.fails (y.earlier a x.member h))
  | inr (inr h) ↦ absurd (y.fails (x.earlier b y.member h))
]

module _ (n : ℕ) (l : Links) (m : Meaning) (S : ℕ) where
  one_apart : (a b c d : ℕ) → FirstApart l m S a b → FirstApart l m S c d → (a ≡ c) × (b ≡ d)
  one_apart a b c d x y = elim (cases_order a c) [
    | inl e ↦ (e, second (subst (λ (z : ℕ). FirstApart l m S z d) (sym e) y))
    | inr (inl h) ↦ absurd (x.two.unpaired (y.smallest a x.one h b x.two.member x.two.above))
    | inr (inr h) ↦ absurd (y.two.unpaired (x.smallest c y.one h d y.two.member y.two.above))
  ]
    where
      second : FirstApart l m S a d → b ≡ d
      second z = elim (cases_order b d) [
        | inl e ↦ e
        | inr (inl h) ↦ absurd (x.two.unpaired (z.two.next b x.two.member x.two.above h))
        | inr (inr h) ↦ absurd (z.two.unpaired (x.two.next d z.two.member z.two.above h))
      ]

  loose_fits : (a : ℕ) → FirstNot S (λ x. T (m.fits l S x)) a → AllFit l m S → ⊥
  loose_fits a x f = x.fails (f a x.member)

  apart_group : (a b : ℕ) → FirstApart l m S a b → Group n l m S → ⊥
  apart_group a b x g = x.two.unpaired (g.all_pair a b x.one x.two.member (λ e. let h = x.two.above in omega arith))

  pub one_standing : (r s : Standing) → Stands n l m S r → Stands n l m S s → r ≡ s
  one_standing standing.Empty standing.Empty x y = refl
  one_standing standing.Empty (standing.Unknown a) x y = absurd (subst T (x a) y.member)
  one_standing standing.Empty (standing.Loose a) x y = absurd (subst T (x a) y.1.member)
  one_standing standing.Empty (standing.Apart a b) x y = absurd (subst T (x a) y.2.one)
  one_standing standing.Empty standing.Group x y = absurd (subst T (x y.some.0) y.some.1)
  one_standing (standing.Unknown a) standing.Empty x y = absurd (subst T (y a) x.member)
  one_standing (standing.Unknown a) (standing.Unknown b) x y = ap standing.Unknown (one_first S _ a b x y)
  one_standing (standing.Unknown a) (standing.Loose b) x y = absurd (x.fails (y.0 a x.member))
  one_standing (standing.Unknown a) (standing.Apart b c) x y = absurd (x.fails (y.0 a x.member))
  one_standing (standing.Unknown a) standing.Group x y = absurd (x.fails (y.members a x.member))
  one_standing (standing.Loose a) standing.Empty x y = absurd (subst T (y a) x.1.member)
  one_standing (standing.Loose a) (standing.Unknown b) x y = absurd (y.fails (x.0 b y.member))
  one_standing (standing.Loose a) (standing.Loose b) x y = ap standing.Loose (one_first S _ a b x.1 y.1)
  one_standing (standing.Loose a) (standing.Apart b c) x y = absurd (loose_fits a x.1 y.1)
  one_standing (standing.Loose a) standing.Group x y = absurd (loose_fits a x.1 y.all_fit)
  one_standing (standing.Apart a b) standing.Empty x y = absurd (subst T (y a) x.2.one)
  one_standing (standing.Apart a b) (standing.Unknown c) x y = absurd (y.fails (x.0 c y.member))
  one_standing (standing.Apart a b) (standing.Loose c) x y = absurd (loose_fits c y.1 x.1)
  one_standing (standing.Apart a b) (standing.Apart c d) x y = let e = one_apart a b c d x.2 y.2 in ap₂ standing.Apart e.0 e.1
  one_standing (standing.Apart a b) standing.Group x y = absurd (apart_group a b x.2 y)
  one_standing standing.Group standing.Empty x y = absurd (subst T (y x.some.0) x.some.1)
  one_standing standing.Group (standing.Unknown a) x y = absurd (y.fails (x.members a y.member))
  one_standing standing.Group (standing.Loose a) x y = absurd (loose_fits a y.1 x.all_fit)
  one_standing standing.Group (standing.Apart a b) x y = absurd (apart_group a b y.2 x)
  one_standing standing.Group standing.Group x y = refl
