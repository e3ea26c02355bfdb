-- Links, their number, what a link more or less makes of them, and the count of shared neighbours. Assumes nothing.
use Rattle.std.specs.Prelude.{◌≡◌, ℕ, zero, suc, ◌+◌, ◌≤◌, Bool, false, not, ◌&&◌, ◌||◌, ◌==◌, nat_lt}
use Rattle.rules.specs.Sets.{has, inside, tally}

-- which members are linked
abbrev pub Links : Type 0
Links = ℕ → ℕ → Bool

abbrev pub no_links : Links
no_links a b = false

abbrev pub BothWays : Links → Type 0
BothWays l = (a b : ℕ) → l a b ≡ l b a

abbrev pub NotItself : Links → Type 0
NotItself l = (a : ℕ) → l a a ≡ false

-- the first of two linked numbers is a member, and so, both ways, is the second
abbrev pub OnlyMembers : ℕ → Links → Type 0
OnlyMembers n l = (a b : ℕ) → inside n a ≡ false → l a b ≡ false

-- the links of a network of n members: a link joins two different members, both ways at once
pub record LawfulLinks (n : ℕ) (l : Links) : Type 0 where
  pub some : 1 ≤ n
  pub few : n ≤ 64
  pub both_ways : BothWays l
  pub not_itself : NotItself l
  pub only_members : OnlyMembers n l

-- x and y are the two, in either order
abbrev pub joins : ℕ → ℕ → ℕ → ℕ → Bool
joins a b x y = (x == a && y == b) || (x == b && y == a)

-- the links with that of a and b added, all others as they are
abbrev pub linking : ℕ → ℕ → Links → Links
linking a b l x y = joins a b x y || l x y

-- the links with that of a and b taken away, all others as they are
abbrev pub unlinking : ℕ → ℕ → Links → Links
unlinking a b l x y = not (joins a b x y) && l x y

-- the sum over the numbers 1 to n
unfoldable pub sum : (ℕ → ℕ) → ℕ → ℕ
sum f zero = 0
sum f (suc k) = f (suc k) + sum f k

-- how many links there are, each counted once, at its smaller member
abbrev pub link_count : ℕ → Links → ℕ
link_count n l = sum (λ a. tally (λ b. nat_lt a b && l a b) n) n

-- how many members of S are linked to both a and b
abbrev pub shared : Links → ℕ → ℕ → ℕ → ℕ
shared l a b S = tally (λ k. has S k && (l a k && l b k)) 64
