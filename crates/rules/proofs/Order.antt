-- The order of sets: its laws, and how sizes and the lowest digit in which two words differ decide it. Assumes nothing.
use Rattle.std.proofs.Common.{◌≡◌, ℕ, ◌+◌, Bool, true, false, T, ◌⊎◌, sym, ◌∙◌, subst, inl, inr, arith}
use lib.Bits.{bit_xor}
use lib.Count.{count_trailing_zeros}
use Rattle.std.proofs.lemmas.Bool.{cases_Bool, cases_order}
use Rattle.std.proofs.lemmas.Bool.Decides.{nat_tests}
use Rattle.std.specs.Prelude.{Option, Some, None, MatchOption}
use Rattle.rules.specs.Sets.{Tells, differs, has, SetOf, size, Smallest, Lowest}
use Rattle.rules.specs.Order.{HoldsFirst, Better, OrderLaws}
use Rattle.rules.proofs.Digits.{has_xor}
use Rattle.rules.proofs.Members.{same_members, set_word, smallest}

-- ---- the smallest number in which two sets differ

-- v is the smallest member of a set that has exactly those in which S and R differ
holds_first : (S R D v : ℕ) → ((a : ℕ) → has D a ≡ differs (has S a) (has R a)) → Lowest D v → has S v ≡ true → HoldsFirst S R
holds_first S R D v D_is low t = let d = D_is v in let m = low.member in record {
  at = v;
  held = grind (arith, nat_tests);
  lacks = λ r. grind (arith, nat_tests);
  below = λ a h. let e = D_is a in let l = low.least a in grind (arith, nat_tests);
}

lacks_first : (S R D v : ℕ) → ((a : ℕ) → has D a ≡ differs (has S a) (has R a)) → Lowest D v → has S v ≡ false → HoldsFirst R S
lacks_first S R D v D_is low f =
    holds_first R S D v (λ a. let e = D_is a in grind (arith, nat_tests)) low (let d = D_is v in let m = low.member in grind (arith, nat_tests))

same_sets : (S R D : ℕ) → ((a : ℕ) → has D a ≡ differs (has S a) (has R a)) → ((a : ℕ) → has D a ≡ false) → S ≡ R
same_sets S R D D_is none = same_members S R (λ a. let d = D_is a in let n = none a in grind (arith, nat_tests))

first_differs : (S R : ℕ) → SetOf 64 S → SetOf 64 R → (S ≡ R → ⊥) → HoldsFirst S R ⊎ HoldsFirst R S
first_differs S R p q d =
    let D = bit_xor S R in
    let small = set_word 64 D (λ a t. let x = has_xor S R a in let i = p a in let j = q a in grind (arith, nat_tests)) in
    let low = smallest D (λ none. d (same_sets S R D (has_xor S R) none)) small in
    elim (cases_Bool (has S (count_trailing_zeros 64 D + 1))) [ inl t ↦ inl (holds_first S R D _ (has_xor S R) low t) | inr f ↦ inr (lacks_first S R D _ (has_xor S R) low f) ]

-- ---- laws

first_trans : (S R Q : ℕ) → HoldsFirst S R → HoldsFirst R Q → HoldsFirst S Q
first_trans S R Q f g = elim (cases_order f.at g.at) [
  | inl e ↦ absurd (f.lacks (subst (λ (x : ℕ). T (has R x)) (sym e) g.held))
  | inr (inl h) ↦ record { at = f.at; held = f.held; lacks = λ t. f.lacks (subst T (sym (g.below f.at h)) t); below = λ a l. f.below a l ∙ g.below a (omega arith) }
  | inr (inr h) ↦ record { at = g.at; held = subst T (sym (f.below g.at h)) g.held; lacks = g.lacks; below = λ a l. f.below a (omega arith) ∙ g.below a l }
]

pub better_irrefl : (S : ℕ) → Better S S → ⊥
better_irrefl S (inl h) = omega arith
better_irrefl S (inr h) = h.1.lacks h.1.held

pub better_trans : (S R Q : ℕ) → Better S R → Better R Q → Better S Q
better_trans S R Q (inl h) (inl k) = inl (omega arith)
better_trans S R Q (inl h) (inr k) = inl (omega (arith, k.0))
better_trans S R Q (inr h) (inl k) = inl (omega (arith, h.0))
better_trans S R Q (inr h) (inr k) = inr (h.0 ∙ k.0, first_trans S R Q h.1 k.1)

pub order_laws : OrderLaws
order_laws = record {
  irreflexive = better_irrefl;
  transitive = better_trans;
  connected = λ S R p q d. elim (cases_order (size S) (size R)) [
    | inl e ↦ elim (first_differs S R p q d) [ inl f ↦ inl (inr (e, f)) | inr f ↦ inr (inr (sym e, f)) ]
    | inr (inl h) ↦ inr (inl h)
    | inr (inr h) ↦ inl (inl h)
  ];
}

-- ---- as the program compares

-- of two sets of one size, the smallest member in which they differ decides, if there is one
pub first_decides : (S R D : ℕ) (first : Option ℕ) (b : Bool) → size S ≡ size R → ((a : ℕ) → has D a ≡ differs (has S a) (has R a)) → Smallest D first
    → MatchOption first (b ≡ false) (λ v. b ≡ has S v) → Tells b (Better S R)
first_decides S R D None b same D_is none e = rw e (λ h. better_irrefl R (subst (λ (x : ℕ). Better x R) (same_sets S R D D_is none) h))
first_decides S R D (Some v) true same D_is low e = inr (same, holds_first S R D v D_is low (sym e))
first_decides S R D (Some v) false same D_is low e = λ h. better_irrefl S (better_trans S R S h (inr (sym same, lacks_first S R D v D_is low (sym e))))
