-- A triangle at a member, looked for among its neighbours in the set. Assumes nothing.
use Rattle.std.proofs.Common.{◌≡◌, ℕ, Bool, true, false, ◌&&◌, T, leb, sym, inl, inr, arith}
use Rattle.std.proofs.lemmas.Bool.{cases_Bool}
use Rattle.std.proofs.lemmas.Bool.Decides.{nat_tests}
use Rattle.rules.specs.Sets.{has, SetOf}
use Rattle.rules.specs.Links.{Links, shared}
use Rattle.rules.specs.Models.{in_triangle}
use Rattle.rules.proofs.Tallies.{one_passes, some_passes}
use Rattle.rules.proofs.Members.{inside_from, inside_to}
use Rattle.sets.proofs.Sweeping.{AnyOf}

-- near has the neighbours of a in S
pub triangle_told : (l : Links) (S a near : ℕ) → SetOf 64 S → ((b : ℕ) → has near b ≡ (l a b && has S b)) → (r : Bool) → AnyOf near (λ b. T (leb 1 (shared l a b S))) r → r ≡ in_triangle l S a
triangle_told l S a near numbers near_is true (b, n, t) =
    let e = near_is b in
    let i : T (has S b) = grind (arith, nat_tests) in
    let here = numbers b i in
    let one = one_passes (λ b. has S b && (l a b && leb 1 (shared l a b S))) b 64 (inside_from 64 b here) (inside_to 64 b here) (grind (arith, nat_tests)) in
    grind (arith, nat_tests)
triangle_told l S a near numbers near_is false none = elim (cases_Bool (in_triangle l S a)) [
  | inl t ↦
      let (b, q) = some_passes (λ b. has S b && (l a b && leb 1 (shared l a b S))) 64 (grind (arith, nat_tests)) in
      let e = near_is b in
      let n = none b in
      grind (arith, nat_tests)
  | inr f ↦ sym f
]
