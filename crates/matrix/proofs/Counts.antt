-- The number of links after one more and one less, and the refusals that are left. Assumes nothing.
use Rattle.std.proofs.Common.{◌≡◌, ℕ, suc, ◌<◌, true, false, None, arith}
use Rattle.std.proofs.lemmas.Bool.Decides.{nat_tests}
use Rattle.rules.specs.Links.{Links, LawfulLinks, linking, unlinking, link_count}
use Rattle.rules.specs.Refusals.{ends_refusal, link_refusal, unlink_refusal}
use Rattle.rules.proofs.Links.{count_linking, count_unlinking, count_few}
use Rattle.rules.proofs.Refusals.{TwoMembers, ends_passed}
use Rattle.matrix.specs.Matrices.{room, NeverFull}

pub never_full : NeverFull
never_full n a b l N i j d free = omega (arith, count_few n (linking a b l) N.few, count_linking n a b i j d l N.both_ways free)

module _ (n a b : ℕ) (l k : Links) (laws : LawfulLinks n l) (ends : ends_refusal n a b None ≡ None) where
  two : TwoMembers n a b
  two = ends_passed n a b ends

  pub one_more : l a b ≡ false → k ≡ linking a b l → link_count n k ≡ suc (link_count n l)
  one_more free e = rw e (count_linking n a b two.one two.two two.differ l laws.both_ways free)

  pub one_less : l a b ≡ true → k ≡ unlinking a b l → suc (link_count n k) ≡ link_count n l
  one_less held e = rw e (count_unlinking n a b two.one two.two two.differ l laws.both_ways held)

-- no refusal is left where neither end is refused
pub link_taken : (n a b : ℕ) (l : Links) → ends_refusal n a b None ≡ None → l a b ≡ false → link_count n l < room → link_refusal n room l a b ≡ None
link_taken n a b l ends free few = grind (arith, nat_tests)

pub unlink_taken : (n a b : ℕ) (l : Links) → ends_refusal n a b None ≡ None → l a b ≡ true → unlink_refusal n l a b ≡ None
unlink_taken n a b l ends held = grind (arith, nat_tests)
