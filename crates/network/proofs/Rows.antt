-- Rows of sets that hold the links of a network: filled, counted, and with one link more or less. Assumes nothing.
use Rattle.std.proofs.Common.{◌≡◌, ℕ, zero, suc, ◌-◌, Bool, false, not, ◌&&◌, ◌||◌, eqb, List, length, get_or, set, None, replicate, refl, ap, ◌∙◌, arith, length-set, get_or-set_other, get_or-set_same}
use mathlib.Core.Path.{fun_ext}
use Rattle.std.proofs.lemmas.Bool.Decides.{nat_tests}
use Rattle.rules.specs.Sets.{has, inside, size, EmptySet}
use Rattle.rules.specs.Links.{Links, no_links, LawfulLinks, linking, unlinking, shared}
use Rattle.rules.proofs.Digits.{nobody as nobody_in}
use Rattle.rules.specs.Refusals.{ends_refusal}
use Rattle.rules.proofs.Links.{linking_lawful, unlinking_lawful}
use Rattle.rules.proofs.Refusals.{TwoMembers, ends_passed}
use Rattle.rules.proofs.Tallies.{tally_same, tally_none}
use Rattle.sets.specs.declared.member_set.MemberSet.{MemberSet}
use Rattle.network.specs.Rows.{nobody, adjacent}

-- rows that hold the links l are lawful where these are
pub lawful_rows : (n : ℕ) (rows : List MemberSet) (l : Links) → adjacent rows ≡ l → LawfulLinks n l → LawfulLinks n (adjacent rows)
lawful_rows n rows l e laws = rw e laws

-- ---- rows filled one by one

-- of the members that may be linked to somebody, those that have come, as rest has left, and are
abbrev pub LinkedSoFar : (ℕ → Bool) → ℕ → ℕ → Type 0
LinkedSoFar linked rest row = (b : ℕ) → has row b ≡ (linked b && not (has rest b))

-- the rows of those that have come, as rest has left, hold their links, and the others nobody
abbrev pub Filled : Links → ℕ → List MemberSet → Type 0
Filled l rest rows = (length rows ≡ 64) × ((a b : ℕ) → adjacent rows a b ≡ (l a b && not (has rest a)))

pub no_rows : (S : MemberSet) → ((b : ℕ) → has S.word b ≡ false) → (n : ℕ) → adjacent (replicate n S) ≡ no_links
no_rows S none n = fun_ext (λ a. fun_ext (λ b. at a b))
  where
    empty : (n k b : ℕ) → has (get_or (replicate n S) k nobody).word b ≡ false
    empty zero k b = nobody_in b
    empty (suc n) zero b = none b
    empty (suc n) (suc k) b = empty n k b

    at : (a b : ℕ) → adjacent (replicate n S) a b ≡ false
    at zero b = refl
    at (suc k) b = empty n k b

pub fill_none : (l : Links) (n all : ℕ) (S : MemberSet) → LawfulLinks n l → ((a : ℕ) → has all a ≡ (inside n a && inside 64 a)) → EmptySet S.word → Filled l all (replicate 64 S)
fill_none l n all S laws all_is none = (
  refl,
  λ a b.
      let e : adjacent (replicate 64 S) a b ≡ false = ap (λ (r : Links). r a b) (no_rows S none 64) in
      let i = all_is a in
      let o = laws.only_members a b in
      let few = laws.few in
      e ∙ grind (arith, nat_tests),
)

-- ---- counts

-- the members of a set that stand in two rows
pub count_shared : (l : Links) (a b S ra rb both all : ℕ) → ((k : ℕ) → has ra k ≡ l a k) → ((k : ℕ) → has rb k ≡ l b k)
    → ((k : ℕ) → has both k ≡ (has ra k && has rb k)) → ((k : ℕ) → has all k ≡ (has both k && has S k)) → size all ≡ shared l a b S
count_shared l a b S ra rb both all ea eb eboth eall =
    tally_same _ _ 64 (λ k h. let p = ea (suc k) in let q = eb (suc k) in let r = eboth (suc k) in let s = eall (suc k) in grind (arith, nat_tests))

-- who is linked to nobody shares nobody
pub unknown_shared : (n : ℕ) (l : Links) (a b S : ℕ) → LawfulLinks n l → (inside n a && inside n b) ≡ false → shared l a b S ≡ 0
unknown_shared n l a b S laws out = tally_same _ (λ k. false) 64 (λ k h. let p = laws.only_members a (suc k) in let q = laws.only_members b (suc k) in grind (arith, nat_tests)) ∙ tally_none 64

-- ---- one link more, and one less

-- the rows of a and b written anew, as q and r
module _ (rows : List MemberSet) (n a b : ℕ) (q r : MemberSet) (long : length rows ≡ 64) (laws : LawfulLinks n (adjacent rows)) (ends : ends_refusal n a b None ≡ None) where
  abbrev after : List MemberSet
  after = set (set rows (a - 1) q) (b - 1) r

  two : TwoMembers n a b
  two = ends_passed n a b ends

  -- the rows of a, of b, and of all others
  rewritten : (k : ℕ) → (suc k ≡ b → get_or after k nobody ≡ r) × (suc k ≡ a → get_or after k nobody ≡ q) × ((suc k ≡ a → ⊥) → (suc k ≡ b → ⊥) → get_or after k nobody ≡ get_or rows k nobody)
  rewritten k = let t = two in grind (arith, nat_tests, get_or-set_other {A = MemberSet}, get_or-set_same {A = MemberSet}, length-set {A = MemberSet})

  kept : get_or (set rows (a - 1) q) (b - 1) nobody ≡ get_or rows (b - 1) nobody
  kept = let t = two in get_or-set_other rows (a - 1) (b - 1) q nobody (λ e. grind (arith, nat_tests))

  pub connected : ((y : ℕ) → has q.word y ≡ ((eqb y b && inside 64 b) || has (get_or rows (a - 1) nobody).word y))
      → ((y : ℕ) → has r.word y ≡ ((eqb y a && inside 64 a) || has (get_or (set rows (a - 1) q) (b - 1) nobody).word y))
      → LawfulLinks n (adjacent after) × (adjacent after ≡ linking a b (adjacent rows))
  connected wrote_a wrote_b = (rw e (linking_lawful n a b (adjacent rows) two laws), e)
    where
      at : (x y : ℕ) → adjacent after x y ≡ linking a b (adjacent rows) x y
      at zero y = let t = two in grind (arith, nat_tests)
      at (suc k) y = let t = two in let f = kept in let w = rewritten k in let p = wrote_a y in let s = wrote_b y in grind (arith, nat_tests)

      e : adjacent after ≡ linking a b (adjacent rows)
      e = fun_ext (λ x. fun_ext (λ y. at x y))

  pub disconnected : ((y : ℕ) → has q.word y ≡ (has (get_or rows (a - 1) nobody).word y && not (eqb y b)))
      → ((y : ℕ) → has r.word y ≡ (has (get_or (set rows (a - 1) q) (b - 1) nobody).word y && not (eqb y a)))
      → LawfulLinks n (adjacent after) × (adjacent after ≡ unlinking a b (adjacent rows))
  disconnected wrote_a wrote_b = (rw e (unlinking_lawful n a b (adjacent rows) laws), e)
    where
      at : (x y : ℕ) → adjacent after x y ≡ unlinking a b (adjacent rows) x y
      at zero y = let t = two in grind (arith, nat_tests)
      at (suc k) y = let t = two in let f = kept in let w = rewritten k in let p = wrote_a y in let s = wrote_b y in grind (arith, nat_tests)

      e : adjacent after ≡ unlinking a b (adjacent rows)
      e = fun_ext (λ x. fun_ext (λ y. at x y))
