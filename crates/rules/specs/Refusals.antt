-- What the calls of a network turn down, in the order in which they try it, and what they leave. Assumes nothing.
use Rattle.std.specs.Prelude.{◌≡◌, ℕ, ◌<◌, Bool, cond, not, ◌||◌, Some, None, Ok, Err, Option, Result, OnOk, ◌==◌, nat_le}
use Rattle.vocabulary.specs.declared.refusal.Refusal.{Refusal}
use Rattle.vocabulary.specs.declared.refusal.Refusal.TheVariants.{OutOfRange, SameMember, AlreadyLinked, NotLinked, NoRoom}
use Rattle.rules.specs.Sets.{inside}
use Rattle.rules.specs.Links.{Links, no_links, linking, unlinking, link_count}

-- turned down with e if the test says yes, and else as the rest says
abbrev pub try : Bool → Refusal → Option Refusal → Option Refusal
try test e rest = cond test (Some e) rest

-- no member of 1 to n
abbrev pub unknown : ℕ → ℕ → Bool
unknown n a = not (inside n a)

-- the two ends of a link, and else as the rest says
abbrev pub ends_refusal : ℕ → ℕ → ℕ → Option Refusal → Option Refusal
ends_refusal n a b rest = try (unknown n a || unknown n b) OutOfRange (try (a == b) SameMember rest)

-- why no network of n members is made
abbrev pub making_refusal : ℕ → Option Refusal
making_refusal n = try (not (inside 64 n)) OutOfRange None

-- why a and b are not linked, where the network holds the links l and has room for so many
abbrev pub link_refusal : ℕ → ℕ → Links → ℕ → ℕ → Option Refusal
link_refusal n room l a b = ends_refusal n a b (try (l a b) AlreadyLinked (try (nat_le room (link_count n l)) NoRoom None))

-- why a and b are not unlinked
abbrev pub unlink_refusal : ℕ → Links → ℕ → ℕ → Option Refusal
unlink_refusal n l a b = ends_refusal n a b (try (not (l a b)) NotLinked None)

-- taken where there is no refusal, and else turned down with it
abbrev pub Checks : Option Refusal → Result (Unit {0}) Refusal → Type 0
Checks refusal (Ok _) = refusal ≡ None
Checks refusal (Err e) = refusal ≡ Some e

-- taken where there is no refusal, and P is true of what is answered; else turned down with it
abbrev pub Answers : {A : Type 0} → Option Refusal → (A → Type 0) → Result A Refusal → Type 0
Answers refusal P (Ok x) = (refusal ≡ None) × P x
Answers refusal P (Err e) = refusal ≡ Some e

-- a new network has n members and no links
abbrev pub Made : {N : Type 0} → (N → ℕ) → (N → Links) → ℕ → Result N Refusal → Type 0
Made members links n r = Answers (making_refusal n) (λ net. (members net ≡ n) × (links net ≡ no_links)) r

-- done, and the links found are those after it; or turned down with the refusal, and they are as before
abbrev pub Edited : Option Refusal → Links → Links → Links → Result (Unit {0}) Refusal → Type 0
Edited refusal before after found (Ok _) = (refusal ≡ None) × (found ≡ after)
Edited refusal before after found (Err e) = (refusal ≡ Some e) × (found ≡ before)

-- the links k after a link or an unlink that found the links l
abbrev pub AfterLink : ℕ → ℕ → Links → ℕ → ℕ → Links → Result (Unit {0}) Refusal → Type 0
AfterLink n room l a b k r = Edited (link_refusal n room l a b) l (linking a b l) k r

abbrev pub AfterUnlink : ℕ → Links → ℕ → ℕ → Links → Result (Unit {0}) Refusal → Type 0
AfterUnlink n l a b k r = Edited (unlink_refusal n l a b) l (unlinking a b l) k r

-- the same of two members that are joined or parted whether or not they were linked
abbrev pub Connected : ℕ → Links → ℕ → ℕ → Links → Result (Unit {0}) Refusal → Type 0
Connected n l a b k r = Edited (ends_refusal n a b None) l (linking a b l) k r

abbrev pub Disconnected : ℕ → Links → ℕ → ℕ → Links → Result (Unit {0}) Refusal → Type 0
Disconnected n l a b k r = Edited (ends_refusal n a b None) l (unlinking a b l) k r

-- a place is free again after a taken unlink
abbrev pub Freed : ℕ → ℕ → Links → Result (Unit {0}) Refusal → Type 0
Freed n room k r = OnOk r (link_count n k < room)
