-- Sets of members as words: member a stands at the binary digit a - 1, so a word of 64 digits is a set of members 1 to 64. Assumes nothing.
use Rattle.std.specs.Prelude.{◌≡◌, ℕ, zero, suc, ◌+◌, ◌/◌, ◌%◌, ◌^◌, ◌≤◌, Bool, true, false, cond, not, ◌&&◌, T, Some, None, Option, ◌==◌, nat_le}

-- the answer of a test is yes exactly when P is true (std's `Decides` says it by two arrows, this one is read by the answer)
abbrev pub Tells : Bool → Type 0 → Type 0
Tells true P = P
Tells false P = P → ⊥

-- one of the two, and not both
abbrev pub differs : Bool → Bool → Bool
differs b c = cond b (not c) c

-- a is one of the numbers 1 to n
abbrev pub inside : ℕ → ℕ → Bool
inside n a = nat_le 1 a && nat_le a n

-- a is a member of S
unfoldable pub has : ℕ → ℕ → Bool
has S zero = false
has S (suc k) = S / 2 ^ k % 2 == 1

-- a and b are two different members of S
abbrev pub two_of : ℕ → ℕ → ℕ → Bool
two_of S a b = has S a && (has S b && not (a == b))

-- nobody is a member of S
abbrev pub EmptySet : ℕ → Type 0
EmptySet S = (a : ℕ) → has S a ≡ false

-- every member of S is one of R
abbrev pub Within : ℕ → ℕ → Type 0
Within S R = (a : ℕ) → T (has S a) → T (has R a)

-- every member of S is one of the members 1 to n
abbrev pub SetOf : ℕ → ℕ → Type 0
SetOf n S = (a : ℕ) → T (has S a) → T (inside n a)

-- R is S without v
abbrev pub Leaves : ℕ → ℕ → ℕ → Type 0
Leaves S v R = (a : ℕ) → has R a ≡ (has S a && not (a == v))

-- R is what remains of S when the members of U leave
abbrev pub Remains : ℕ → ℕ → ℕ → Type 0
Remains S U R = (a : ℕ) → has R a ≡ (has S a && not (has U a))

-- how many of the numbers 1 to n pass the test
unfoldable pub tally : (ℕ → Bool) → ℕ → ℕ
tally test zero = 0
tally test (suc k) = cond (test (suc k)) 1 0 + tally test k

-- how many members S has
abbrev pub size : ℕ → ℕ
size S = tally (has S) 64

-- v is the smallest member of S
pub record Lowest (S v : ℕ) : Type 0 where
  pub number : T (inside 64 v)
  pub member : T (has S v)
  pub least : (a : ℕ) → T (has S a) → v ≤ a

-- the smallest member, none where there is no member
abbrev pub Smallest : ℕ → Option ℕ → Type 0
Smallest S None = EmptySet S
Smallest S (Some v) = Lowest S v

-- sets with the same members are the same
abbrev pub SameMembers : Type 0
SameMembers = (S R : ℕ) → ((a : ℕ) → has S a ≡ has R a) → S ≡ R

-- a set within another has at most its size, and one that a member leaves has one member fewer
pub record SizeLaws : Type 0 where
  pub grows : (S R : ℕ) → Within S R → size S ≤ size R
  pub falls : (S v R : ℕ) → T (inside 64 v) → T (has S v) → Leaves S v R → size R + 1 ≡ size S
