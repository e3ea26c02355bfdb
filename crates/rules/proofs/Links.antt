-- The links after one more or one less: they stay lawful, and their number changes by one. Assumes nothing.
use Rattle.std.proofs.Common.{◌≡◌, ℕ, zero, suc, ◌+◌, ◌-◌, ◌<◌, ◌≤◌, Bool, true, false, ◌&&◌, T, ltb, sym, refl, ap, ◌∙◌, inl, inr, suc-add, zero-add, arith}
use mathlib.Core.Path.{fun_ext}
use Rattle.std.proofs.lemmas.Bool.{cases_eq, cases_order}
use Rattle.std.proofs.lemmas.Bool.Decides.{nat_tests}
use Rattle.rules.specs.Sets.{inside, tally}
use Rattle.rules.specs.Links.{Links, no_links, BothWays, NotItself, OnlyMembers, LawfulLinks, linking, unlinking, sum, link_count}
use Rattle.rules.proofs.Members.{inside_from, inside_to}
use Rattle.rules.proofs.Refusals.{TwoMembers}
use Rattle.rules.proofs.Tallies.{tally_same, tally_none, tally_one}

-- ---- the laws are kept, each by itself

pub linking_both : (a b : ℕ) (l : Links) → BothWays l → BothWays (linking a b l)
linking_both a b l h x y = let e = h x y in grind (arith, nat_tests)

pub linking_itself : (a b : ℕ) (l : Links) → (a ≡ b → ⊥) → NotItself l → NotItself (linking a b l)
linking_itself a b l d h x = let e = h x in grind (arith, nat_tests)

pub linking_only : (n a b : ℕ) (l : Links) → T (inside n a) → T (inside n b) → OnlyMembers n l → OnlyMembers n (linking a b l)
linking_only n a b l i j h x y out = let e = h x y out in grind (arith, nat_tests)

pub unlinking_both : (a b : ℕ) (l : Links) → BothWays l → BothWays (unlinking a b l)
unlinking_both a b l h x y = let e = h x y in grind (arith, nat_tests)

pub unlinking_itself : (a b : ℕ) (l : Links) → NotItself l → NotItself (unlinking a b l)
unlinking_itself a b l h x = let e = h x in grind (arith, nat_tests)

pub unlinking_only : (n a b : ℕ) (l : Links) → OnlyMembers n l → OnlyMembers n (unlinking a b l)
unlinking_only n a b l h x y out = let e = h x y out in grind (arith, nat_tests)

-- ---- and together

pub no_links_lawful : (n : ℕ) → 1 ≤ n → n ≤ 64 → LawfulLinks n no_links
no_links_lawful n some few = record { some = some; few = few; both_ways = λ a b. refl; not_itself = λ a. refl; only_members = λ a b h. refl }

pub linking_lawful : (n a b : ℕ) (l : Links) → TwoMembers n a b → LawfulLinks n l → LawfulLinks n (linking a b l)
linking_lawful n a b l ends laws = record {
  some = laws.some;
  few = laws.few;
  both_ways = linking_both a b l laws.both_ways;
  not_itself = linking_itself a b l ends.differ laws.not_itself;
  only_members = linking_only n a b l ends.one ends.two laws.only_members;
}

pub unlinking_lawful : (n a b : ℕ) (l : Links) → LawfulLinks n l → LawfulLinks n (unlinking a b l)
unlinking_lawful n a b l laws = record {
  some = laws.some;
  few = laws.few;
  both_ways = unlinking_both a b l laws.both_ways;
  not_itself = unlinking_itself a b l laws.not_itself;
  only_members = unlinking_only n a b l laws.only_members;
}

-- ---- how many there are

sum_same : (f g : ℕ → ℕ) (n : ℕ) → ((k : ℕ) → k < n → g (suc k) ≡ f (suc k)) → sum g n ≡ sum f n
unfolding sum
sum_same f g zero s = refl
sum_same f g (suc n) s = let e = s n (omega arith) in let r = sum_same f g n (λ k h. s k (omega arith)) in omega arith

sum_one : (f g : ℕ → ℕ) (v n : ℕ) → 1 ≤ v → v ≤ n → g v ≡ suc (f v) → ((k : ℕ) → (k ≡ v → ⊥) → g k ≡ f k) → sum g n ≡ suc (sum f n)
unfolding sum
sum_one f g v zero l h z s = absurd (omega arith)
sum_one f g v (suc n) l h z s = elim (cases_eq (suc n) v) [
  | inl e ↦ let r = sum_same f g n (λ k h. s (suc k) (omega arith)) in grind arith
  | inr d ↦ omega (arith, s (suc n) d, sum_one f g v n l (omega arith) z s)
]

-- one link more, at its smaller member
count_up : (n a b : ℕ) (l : Links) → 1 ≤ a → a < b → b ≤ n → l a b ≡ false → link_count n (linking a b l) ≡ suc (link_count n l)
count_up n a b l la ab bn z =
    sum_one (λ x. tally (λ y. ltb x y && l x y) n) (λ x. tally (λ y. ltb x y && linking a b l x y) n) a n la (omega arith)
    (tally_one (λ y. ltb a y && l a y) (λ y. ltb a y && linking a b l a y) b n (omega arith) bn (grind (arith, nat_tests)) (grind (arith, nat_tests)) (λ y d. grind (arith, nat_tests)))
    (λ x d. tally_same (λ y. ltb x y && linking a b l x y) (λ y. ltb x y && l x y) n (λ k h. grind (arith, nat_tests)))

linking_turned : (a b : ℕ) (l : Links) → linking a b l ≡ linking b a l
linking_turned a b l = fun_ext (λ x. fun_ext (λ y. grind (arith, nat_tests)))

module _ (n a b : ℕ) (i : T (inside n a)) (j : T (inside n b)) (d : a ≡ b → ⊥) where
  pub count_linking : (l : Links) → BothWays l → l a b ≡ false → link_count n (linking a b l) ≡ suc (link_count n l)
  count_linking l both z = elim (cases_order a b) [
    | inl e ↦ absurd (d e)
    | inr (inl lt) ↦ count_up n a b l (inside_from n a i) lt (inside_to n b j) z
    | inr (inr lt) ↦ ap (link_count n) (linking_turned a b l) ∙ count_up n b a l (inside_from n b j) lt (inside_to n a i) (both b a ∙ z)
  ]

  -- what is left and the link again are the links before
  again : (l : Links) → BothWays l → l a b ≡ true → linking a b (unlinking a b l) ≡ l
  again l both h = let e = both b a in fun_ext (λ x. fun_ext (λ y. grind (arith, nat_tests)))

  pub count_unlinking : (l : Links) → BothWays l → l a b ≡ true → suc (link_count n (unlinking a b l)) ≡ link_count n l
  count_unlinking l both h =
      sym (count_linking (unlinking a b l) (unlinking_both a b l both) (grind (arith, nat_tests))) ∙ ap (link_count n) (again l both h)

pub count_none : (n : ℕ) → link_count n no_links ≡ 0
unfolding sum
count_none n = sum_same (λ a. 0) (λ a. tally (λ b. ltb a b && false) n) n (λ k h. tally_same (λ b. ltb (suc k) b && false) (λ b. false) n (λ j g. grind (arith, nat_tests)) ∙ tally_none n) ∙ zeros n
  where
    zeros : (k : ℕ) → sum (λ a. 0) k ≡ 0
    zeros zero = refl
    zeros (suc k) = omega (arith, zeros k)

-- ---- how many there can be

tally_above : (p : ℕ → Bool) (a n : ℕ) → tally (λ y. ltb a y && p y) n ≤ n - a
unfolding tally
tally_above p a zero = omega arith
tally_above p a (suc n) = let r = tally_above p a n in grind (arith, nat_tests)

sum_le : (f g : ℕ → ℕ) (n : ℕ) → ((k : ℕ) → f k ≤ g k) → sum f n ≤ sum g n
unfolding sum
sum_le f g zero h = omega arith
sum_le f g (suc n) h = omega (arith, h (suc n), sum_le f g n h)

sum_wider : (f : ℕ → ℕ) (n k : ℕ) → sum f n ≤ sum f (k + n)
unfolding sum
sum_wider f n zero = rw zero-add (omega arith)
sum_wider f n (suc k) = rw (suc-add k n) (omega (arith, sum_wider f n k))

all_pairs : sum (λ a. 64 - a) 64 ≡ 2016
unfolding sum
all_pairs = refl

pub count_few : (n : ℕ) (l : Links) → n ≤ 64 → link_count n l ≤ 2016
count_few n l h =
    let a = sum_le (λ x. tally (λ y. ltb x y && l x y) n) (λ x. 64 - x) n (λ x. omega (arith, tally_above (l x) x n)) in
    let e : (64 - n) + n ≡ 64 = omega arith in
    omega (arith, a, (rw e at (sum_wider (λ x. 64 - x) n (64 - n))), all_pairs)
