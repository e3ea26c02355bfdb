-- The models obey the laws. Assumes nothing.
use Rattle.std.proofs.Common.{◌≡◌, ℕ, suc, ◌≤◌, Bool, ◌&&◌, T, leb, arith}
use Rattle.std.proofs.lemmas.Bool.Decides.{nat_tests}
use Rattle.rules.specs.Sets.{has, Within}
use Rattle.rules.specs.Links.{Links, LawfulLinks, shared}
use Rattle.rules.specs.Models.{LawfulModel, in_triangle, by_count, Grows, plain, vertex_triangle, plain_enough, robust_enough, hereditary_enough, edge_triangle_enough}
use Rattle.rules.proofs.Tallies.{tally_same, tally_mono}

-- ---- the number shared

shared_wider : (l : Links) (S R a b : ℕ) → Within S R → shared l a b S ≤ shared l a b R
shared_wider l S R a b w = tally_mono _ _ 64 (λ k h t. let i = w (suc k) in grind (arith, nat_tests))

pub shared_turned : (l : Links) (S a b : ℕ) → shared l a b S ≡ shared l b a S
shared_turned l S a b = tally_same _ _ 64 (λ k h. grind (arith, nat_tests))

-- ---- every member fits, and two pair by a test of their link and the number that they share; the more they share the better

pub by_count_lawful : (test : Bool → ℕ → Bool) → Grows test
    → (n : ℕ) (l : Links) → LawfulLinks n l → LawfulModel n l (by_count test)
by_count_lawful test mono n l N = record {
  fits_wider = λ S R a small w. w a;
  pairs_wider = λ S R a b small w t.
      let i = w a in
      let j = w b in
      let more = mono (l a b) (shared l a b S) (shared l a b R) (shared_wider l S R a b w) in
      grind (arith, nat_tests);
  either_order = λ S a b small. let e = N.both_ways a b in let s = shared_turned l S a b in grind (arith, nat_tests);
  fits_member = λ S a small t. t;
  pairs_member = λ S a b small t. grind (arith, nat_tests);
  pairs_two = λ S a small t. grind (arith, nat_tests);
}

pub plain_grows : Grows plain_enough
plain_grows x c d h t = grind (arith, nat_tests)

pub robust_grows : (t : ℕ) → Grows (robust_enough t)
robust_grows t x c d h q = grind (arith, nat_tests)

pub hereditary_grows : (t : ℕ) → Grows (hereditary_enough t)
hereditary_grows t x c d h q = grind (arith, nat_tests)

pub edge_triangle_grows : Grows edge_triangle_enough
edge_triangle_grows x c d h t = grind (arith, nat_tests)

-- ---- a triangle of a set is one of every set that holds it

triangle_wider : (l : Links) (S R a : ℕ) → Within S R → T (in_triangle l S a) → T (in_triangle l R a)
triangle_wider l S R a w t =
    let more = tally_mono (λ b. has S b && (l a b && leb 1 (shared l a b S))) (λ b. has R b && (l a b && leb 1 (shared l a b R))) 64
    (λ k h q. let i = w (suc k) in let s = shared_wider l S R a (suc k) w in grind (arith, nat_tests)) in
    grind (arith, nat_tests)

pub vertex_triangle_lawful : (n : ℕ) (l : Links) → LawfulLinks n l → LawfulModel n l vertex_triangle
vertex_triangle_lawful n l N = record {
  fits_wider = λ S R a small w t. let i = w a in let r = triangle_wider l S R a w in grind (arith, nat_tests);
  pairs_wider = P.pairs_wider;
  either_order = P.either_order;
  fits_member = λ S a small t. grind (arith, nat_tests);
  pairs_member = P.pairs_member;
  pairs_two = P.pairs_two;
}
  where
    P : LawfulModel n l plain
    P = by_count_lawful plain_enough plain_grows n l N
