-- Tests that compute, and what they show of small networks: the set that a list names, lawful links, groups, two that are apart. Assumes nothing.
use Rattle.std.proofs.Common.{◌≡◌, ℕ, zero, suc, ◌-◌, ◌*◌, ◌%◌, ◌^◌, ◌≤◌, Bool, true, false, not, ◌&&◌, T, eqb, ltb, List, [], ◌∷◌, sym, ◌∙◌, subst, inl, inr, arith, T_not}
use lib.Bits.{bit_or}
use Rattle.std.proofs.lemmas.Bool.{cases_Bool, cases_eq}
use Rattle.std.proofs.lemmas.Bool.Decides.{nat_tests}
use Rattle.vocabulary.specs.declared.standing.Standing.TheVariants as standing
use Rattle.vocabulary.specs.declared.model_kind.ModelKind.{ModelKind}
use Rattle.rules.specs.Sets.{has, inside, SetOf}
use Rattle.rules.specs.Links.{Links, LawfulLinks}
use Rattle.rules.specs.Lists.{on, Named}
use Rattle.rules.specs.Sheets.{no_numbers}
use Rattle.rules.specs.Models.{Meaning, Group}
use Rattle.rules.specs.Standings.{Stands}
use Rattle.rules.specs.Kinds.{in_range, rule}
use Rattle.rules.specs.Worked.{SmallNetwork, links_among, OfThose, Lawful, IsNoGroup, AreGroup, AreNoGroup, NoGroup, StandOnly}
use Rattle.rules.proofs.Digits.{has_one, has_or, nobody}
use Rattle.rules.proofs.Members.{same_members, inside_from, inside_to, set_word}
use Rattle.rules.proofs.Links.{no_links_lawful, linking_lawful}
use Rattle.rules.proofs.Refusals.{TwoMembers}
use Rattle.rules.proofs.Standings.{one_standing}
use Rattle.rules.proofs.Agreement.{agrees}

-- ---- tests

-- c where b passes, and true where it does not
abbrev if : Bool → Bool → Bool
if true c = c
if false c = true

-- the test passes at each number from 1 to n
unfoldable pub every : (ℕ → Bool) → ℕ → Bool
every p zero = true
every p (suc k) = elim (p (suc k)) [ true ↦ every p k | false ↦ false ]

every_at : (p : ℕ → Bool) (n : ℕ) → T (every p n) → (a : ℕ) → T (inside n a) → T (p a)
unfolding every
every_at p zero t a i = grind (arith, nat_tests)
every_at p (suc n) t a i = elim (cases_eq a (suc n)) [ inl e ↦ grind (arith, nat_tests) | inr d ↦ every_at p n (grind (arith, nat_tests)) a (grind (arith, nat_tests)) ]

every_make : (p : ℕ → Bool) (n : ℕ) → ((a : ℕ) → T (inside n a) → T (p a)) → T (every p n)
unfolding every
every_make p zero f = tt
every_make p (suc n) f =
    let here = f (suc n) (grind (arith, nat_tests)) in
    let rest = every_make p n (λ a i. f a (grind (arith, nat_tests))) in
    grind (arith, nat_tests)

-- ---- the set that a list names

abbrev all_inside : ℕ → List ℕ → Bool
all_inside n [] = true
all_inside n (x ∷ xs) = inside n x && all_inside n xs

-- the word of the set that a list names
abbrev word_of : List ℕ → ℕ
word_of [] = 0
word_of (x ∷ xs) = bit_or ((1 * 2 ^ (x - 1)) % 2 ^ 64) (word_of xs)

module _ (n : ℕ) (few : n ≤ 64) where
  word_named : (list : List ℕ) → T (all_inside n list) → Named list (word_of list)
  word_named [] t a = nobody a
  word_named (x ∷ xs) t a =
      let o = has_or ((1 * 2 ^ (x - 1)) % 2 ^ 64) (word_of xs) a in
      let one = has_one x a (grind (arith, nat_tests)) (grind (arith, nat_tests)) in
      let rest = word_named xs (grind (arith, nat_tests)) a in
      grind (arith, nat_tests)

  on_inside : (list : List ℕ) → T (all_inside n list) → (a : ℕ) → T (on list a) → T (inside n a)
  on_inside [] t a s = absurd s
  on_inside (x ∷ xs) t a s = let rest = on_inside xs (grind (arith, nat_tests)) a in grind (arith, nat_tests)

  word_members : (list : List ℕ) → T (all_inside n list) → SetOf n (word_of list)
  word_members list t a i = on_inside list t a (subst T (word_named list t a) i)

  word_some : (list : List ℕ) → T (all_inside n list) → T (not (no_numbers list)) → (a : ℕ) × T (has (word_of list) a)
  word_some [] t some = absurd some
  word_some (x ∷ xs) t some = let e = word_named (x ∷ xs) t x in (x, grind (arith, nat_tests))

  -- what is true of the word is true of every set that the list names
  of_those : (list : List ℕ) {P : ℕ → Type 0} → T (all_inside n list) → P (word_of list) → OfThose list P
  of_those list {P} t p =
      ((word_of list, word_named list t), λ S e. subst P (same_members (word_of list) S (λ a. word_named list t a ∙ sym (e a))) p)

-- ---- lawful links

abbrev proper_links : ℕ → List (ℕ × ℕ) → Bool
proper_links n [] = true
proper_links n (p ∷ rest) = inside n p.0 && (inside n p.1 && (not (eqb p.0 p.1) && proper_links n rest))

pub lawful : (net : SmallNetwork) → T (inside 64 net.members) → T (proper_links net.members net.links) → Lawful net
lawful net i t = of_list net.links t
  where
    of_list : (list : List (ℕ × ℕ)) → T (proper_links net.members list) → LawfulLinks net.members (links_among list)
    of_list [] t = no_links_lawful net.members (inside_from 64 net.members i) (inside_to 64 net.members i)
    of_list (p ∷ rest) t =
        let ends : TwoMembers net.members p.0 p.1 = record { one = grind arith; two = grind arith; differ = λ e. grind (arith, nat_tests) } in
        linking_lawful net.members p.0 p.1 (links_among rest) ends (of_list rest (grind arith))

-- ---- groups and two that are apart

module _ (n : ℕ) (l : Links) (m : Meaning) (S : ℕ) where
  -- b is a, or none of S, or pairs with a
  unfoldable pub pairs_with : ℕ → ℕ → Bool
  pairs_with a b = if (has S b && not (eqb a b)) (m.pairs l S a b)

  -- a is none of S, or fits and pairs with each other member
  unfoldable pub belongs : ℕ → Bool
  belongs a = if (has S a) (m.fits l S a && every (pairs_with a) n)

  abbrev all_belong : Bool
  all_belong = every belongs n

  group_from : SetOf n S → (a : ℕ) × T (has S a) → T all_belong → Group n l m S
  unfolding belongs pairs_with
  group_from members some t = record {
    members = members;
    some = some;
    all_fit = λ a i. let r = every_at belongs n t a (members a i) in grind (arith, nat_tests);
    all_pair = λ a b i j d.
        let r = every_at belongs n t a (members a i) in
        let p = every_at (pairs_with a) n (grind (arith, nat_tests)) b (members b j) in
        grind (arith, nat_tests);
  }

  group_to : Group n l m S → T all_belong
  unfolding belongs pairs_with
  group_to g = every_make belongs n (λ a _. elim (cases_Bool (has S a)) [
    | inl i ↦
        let t : T (has S a) = grind arith in
        let row = every_make (pairs_with a) n (λ b _. let p = g.all_pair a b t in grind (arith, nat_tests)) in
        let f = g.all_fit a t in
        grind (arith, nat_tests)
    | inr i ↦ grind (arith, nat_tests)
  ])

  -- y is none of S above x, or pairs with x
  unfoldable pub pairs_above : ℕ → ℕ → Bool
  pairs_above x y = if (has S y && ltb x y) (m.pairs l S x y)

  -- x is none of S, or not below a, or pairs with all above it
  unfoldable pub pairs_before : ℕ → ℕ → Bool
  pairs_before a x = if (has S x && ltb x a) (every (pairs_above x) n)

  pub apart_from : SetOf n S → (a b : ℕ) → T (every (λ x. if (has S x) (m.fits l S x)) n) → T (has S a && (has S b && (ltb a b && not (m.pairs l S a b))))
      → T (every (pairs_before a) n) → T (every (λ y. if (ltb y b) (pairs_above a y)) n) → Stands n l m S (standing.Apart a b)
  unfolding pairs_before pairs_above
  apart_from members a b fit two before between = (
    members,
    λ x i. let f = every_at (λ x. if (has S x) (m.fits l S x)) n fit x (members x i) in grind (arith, nat_tests),
    record {
      one = grind arith;
      two = record {
        member = grind arith;
        above = grind (arith, nat_tests);
        unpaired = λ p. grind arith;
        next = λ y i h k. let p = every_at (λ y. if (ltb y b) (pairs_above a y)) n between y (members y i) in grind (arith, nat_tests);
      };
      smallest = λ x i h y j k.
          let r = every_at (pairs_before a) n before x (members x i) in
          let p = every_at (pairs_above x) n (grind (arith, nat_tests)) y (members y j) in
          grind (arith, nat_tests);
    },
  )

-- ---- what is known of a small network

module _ (net : SmallNetwork) (k : ModelKind) (t : ℕ) where
  abbrev n : ℕ
  n = net.members

  abbrev l : Links
  l = links_among net.links

  abbrev m : Meaning
  m = rule k t

  module _ (L : Lawful net) where
    -- a set with a member in which not all belong
    is_no_group : (S a : ℕ) → SetOf n S → T (has S a) → T (in_range k t) → T (not (all_belong n l m S)) → IsNoGroup net k t S
    is_no_group S a members i ok fails =
        let none : Group n l m S → ⊥ = λ g. T_not (all_belong n l m S) fails (group_to n l m S g) in
        (none, λ p. none ((agrees k t ok n l S a L members i).1 p))

    pub are_group : (list : List ℕ) → T (all_inside n list) → T (not (no_numbers list)) → T (in_range k t) → T (all_belong n l m (word_of list)) → AreGroup net k t list
    are_group list i filled ok passed =
        let some = word_some n L.few list i filled in
        let members = word_members n L.few list i in
        let g = group_from n l m (word_of list) members some passed in
        of_those n L.few list i (g, (agrees k t ok n l (word_of list) some.0 L members some.1).0 g)

    pub are_no_group : (list : List ℕ) → T (all_inside n list) → T (not (no_numbers list)) → T (in_range k t) → T (not (all_belong n l m (word_of list))) → AreNoGroup net k t list
    are_no_group list i filled ok failed =
        let some = word_some n L.few list i filled in
        of_those n L.few list i (is_no_group (word_of list) some.0 (word_members n L.few list i) some.1 ok failed)

    pub no_group : T (in_range k t) → T (every (λ S. not (all_belong n l m S)) (2 ^ n - 1)) → NoGroup net k t
    no_group ok failed S a members i =
        let small = set_word n S members in
        let none = nobody a in
        let some : S ≡ 0 → ⊥ = λ e. grind (arith, nat_tests) in
        is_no_group S a members i ok (every_at (λ R. not (all_belong n l m R)) (2 ^ n - 1) failed S (grind (arith, nat_tests)))

    pub stand_apart : (list : List ℕ) (a b : ℕ) → T (all_inside n list) → (SetOf n (word_of list) → Stands n l m (word_of list) (standing.Apart a b)) → StandOnly net k t list (standing.Apart a b)
    stand_apart list a b i apart =
        let stands = apart (word_members n L.few list i) in
        of_those n L.few list i (record { stands = stands; only = λ other s. one_standing n l m (word_of list) other (standing.Apart a b) s stands })
