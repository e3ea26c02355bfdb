-- Models, their laws and their groups. Assumes nothing.
use Rattle.std.specs.Prelude.{◌≡◌, ℕ, ◌+◌, ◌-◌, ◌≤◌, Bool, ◌&&◌, ◌||◌, T, ◌≢◌, nat_le}
use Rattle.rules.specs.Sets.{has, two_of, Within, SetOf, tally}
use Rattle.rules.specs.Links.{Links, shared}

-- what a model means: whether a member fits a set, and whether two members pair in it, from the links, the set and those asked about alone
pub record Meaning : Type 0 where
  pub fits : Links → ℕ → ℕ → Bool
  pub pairs : Links → ℕ → ℕ → ℕ → Bool

-- the laws of a model in a network of n members with the links l
pub record LawfulModel (n : ℕ) (l : Links) (m : Meaning) : Type 0 where
  -- narrowing: who fits or pairs in a set does so in every set of the network that holds it
  pub fits_wider : (S R a : ℕ) → SetOf n R → Within S R → T (m.fits l S a) → T (m.fits l R a)
  pub pairs_wider : (S R a b : ℕ) → SetOf n R → Within S R → T (m.pairs l S a b) → T (m.pairs l R a b)
  -- either order
  pub either_order : (S a b : ℕ) → SetOf n S → m.pairs l S a b ≡ m.pairs l S b a
  -- about somebody outside the set, or one member twice, the answer is no
  pub fits_member : (S a : ℕ) → SetOf n S → T (m.fits l S a) → T (has S a)
  pub pairs_member : (S a b : ℕ) → SetOf n S → T (m.pairs l S a b) → T (has S a) × T (has S b)
  pub pairs_two : (S a : ℕ) → SetOf n S → T (m.pairs l S a a) → ⊥

abbrev pub AllFit : Links → Meaning → ℕ → Type 0
AllFit l m S = (a : ℕ) → T (has S a) → T (m.fits l S a)

abbrev pub AllPair : Links → Meaning → ℕ → Type 0
AllPair l m S = (a b : ℕ) → T (has S a) → T (has S b) → (a ≢ b) → T (m.pairs l S a b)

-- a group of a network of n members: a set of them with at least one, in which each fits and every two pair
pub record Group (n : ℕ) (l : Links) (m : Meaning) (S : ℕ) : Type 0 where
  pub members : SetOf n S
  pub some : (a : ℕ) × T (has S a)
  pub all_fit : AllFit l m S
  pub all_pair : AllPair l m S

-- some member of S is linked to a, and another member of S to both
abbrev pub in_triangle : Links → ℕ → ℕ → Bool
in_triangle l S a = nat_le 1 (tally (λ b. has S b && (l a b && nat_le 1 (shared l a b S))) 64)

-- each member fits, and two pair by a test of whether they are linked and how many members of the set they share
abbrev pub by_count : (Bool → ℕ → Bool) → Meaning
by_count test = record { fits = λ l S a. has S a; pairs = λ l S a b. two_of S a b && test (l a b) (shared l a b S) }

-- sharing more never turns a yes into a no
abbrev pub Grows : (Bool → ℕ → Bool) → Type 0
Grows test = (linked : Bool) (few many : ℕ) → few ≤ many → T (test linked few) → T (test linked many)

-- when a link and the number shared are enough for two members to pair
-- plain: linked, or at least one member shared
abbrev pub plain_enough : Bool → ℕ → Bool
plain_enough linked shared = linked || nat_le 1 shared

-- robust: linked and at least t - 1 shared, or at least t shared
abbrev pub robust_enough : ℕ → Bool → ℕ → Bool
robust_enough t linked shared = (linked && nat_le (t - 1) shared) || nat_le t shared

-- hereditary: linked, or at least t + 1 shared
abbrev pub hereditary_enough : ℕ → Bool → ℕ → Bool
hereditary_enough t linked shared = linked || nat_le (t + 1) shared

-- edge triangle: at least one shared, linked or not
abbrev pub edge_triangle_enough : Bool → ℕ → Bool
edge_triangle_enough linked shared = nat_le 1 shared

abbrev pub plain : Meaning
plain = by_count plain_enough

abbrev pub robust : ℕ → Meaning
robust t = by_count (robust_enough t)

abbrev pub hereditary : ℕ → Meaning
hereditary t = by_count (hereditary_enough t)

abbrev pub edge_triangle : Meaning
edge_triangle = by_count edge_triangle_enough

-- two pair as in plain; a member fits when two members of the set are linked to it and to each other
abbrev pub vertex_triangle : Meaning
vertex_triangle = record { fits = λ l S a. has S a && in_triangle l S a; pairs = plain.pairs }
