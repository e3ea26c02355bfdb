-- Sets by their members: when they are the same, how large they are, and their smallest member. Assumes nothing.
use Rattle.std.proofs.Common.{◌≡◌, ℕ, zero, suc, ◌+◌, ◌-◌, ◌*◌, ◌/◌, ◌%◌, ◌^◌, ◌<◌, ◌≤◌, Bool, true, false, not, ◌&&◌, T, eqb, sym, ◌∙◌, inl, inr, mod-lt, div-add-mod', zero-mul, add-one, arith, pow_pos, shr-shr, w64}
use lib.Bits.{bit_and, bit_or}
use lib.Count.{count_trailing_zeros}
use Rattle.std.proofs.lemmas.Nat.Bits.{bit_at-trailing_zeros, same_from_bits, bit_at-zero, bit_at-lt}
use Rattle.std.proofs.lemmas.Bool.{cases_Bool, cases_lt}
use Rattle.std.proofs.lemmas.Bool.Decides.{nat_tests}
use Rattle.rules.specs.Sets.{Tells, inside, has, Within, SetOf, EmptySet, Lowest, SameMembers, SizeLaws}
use Rattle.rules.proofs.Digits.{has_zero, has_and, has_or, has_one, has_above, nobody}
use Rattle.rules.proofs.Tallies.{tally_same, tally_mono, tally_without}

-- ---- sets with the same members

pub same_members : SameMembers
unfolding has
same_members S R e = same_from_bits S R (λ k. let d = e (suc k) in let s = bit_at-lt S k in let r = bit_at-lt R k in grind (arith, nat_tests))

pub no_members : (S : ℕ) → S ≡ 0 → EmptySet S
no_members S e a = rw e (nobody a)

pub empty_word : (S : ℕ) → EmptySet S → S ≡ 0
empty_word S none = same_members S 0 (λ a. none a ∙ sym (nobody a))

pub empty_tells : (S : ℕ) → Tells (eqb S 0) (EmptySet S)
empty_tells S = let f = no_members S in let g = empty_word S in grind (arith, nat_tests)

-- ---- where members stand

pub inside_from : (n a : ℕ) → T (inside n a) → 1 ≤ a
inside_from n a t = grind (arith, nat_tests)

pub inside_to : (n a : ℕ) → T (inside n a) → a ≤ n
inside_to n a t = grind (arith, nat_tests)

pub inside_of : (n a : ℕ) → 1 ≤ a → a ≤ n → T (inside n a)
inside_of n a l h = grind (arith, nat_tests)

pub word_set : (S : ℕ) → S < 2 ^ 64 → SetOf 64 S
word_set S h zero t = let e = has_zero S in grind (arith, nat_tests)
word_set S h (suc k) t = elim (cases_lt k 64) [ inl l ↦ grind (arith, nat_tests) | inr l ↦ let e = has_above 64 S k h l in grind (arith, nat_tests) ]

-- a set of the members 1 to n is a word below 2 ^ n
pub set_word : (n S : ℕ) → SetOf n S → S < 2 ^ n
unfolding has
set_word n S small =
    let empty : S / 2 ^ n ≡ 0 = same_from_bits (S / 2 ^ n) 0 (λ k. let i = small (suc (n + k)) in let z = bit_at-zero k in let e = shr-shr S n k in let d = bit_at-lt S (n + k) in grind (arith, nat_tests)) in
    let e : S / 2 ^ n * 2 ^ n ≡ 0 = rw empty (zero-mul (2 ^ n)) in
    omega (arith, mod-lt S (pow_pos n), e, div-add-mod' S (2 ^ n))

-- a is a member of S when the digit D of a alone is one of the word S
pub has_digit : (S D a : ℕ) → S < 2 ^ 64 → ((b : ℕ) → has D b ≡ (eqb b a && inside 64 a)) → not (eqb (bit_and S D) 0) ≡ has S a
has_digit S D a h D_is =
    let i = word_set S h a in
    let both : has (bit_and S D) a ≡ has S a = let e = has_and S D a in let d = D_is a in grind (arith, nat_tests) in
    let gone = λ (b : ℕ) (e : bit_and S D ≡ 0). no_members (bit_and S D) e b in
    let none : has S a ≡ false → bit_and S D ≡ 0 = λ f. empty_word (bit_and S D) (λ b. let e = has_and S D b in let d = D_is b in grind (arith, nat_tests)) in
    let g = gone a in
    grind (arith, nat_tests)

-- the members of S that R lacks are none exactly when S is within R
pub subset_tells : (S R D : ℕ) (b : Bool) → ((a : ℕ) → has D a ≡ (has S a && not (has R a))) → Tells b (EmptySet D) → Tells b (Within S R)
subset_tells S R D true D_is none = λ a t. let d = D_is a in let n = none a in grind (arith, nat_tests)
subset_tells S R D false D_is some = λ w. some (λ a. let d = D_is a in let i = w a in grind (arith, nat_tests))

-- there is a set of those that pass a test
pub gathered : (p : ℕ → Bool) (n : ℕ) → n ≤ 64 → (S : ℕ) × ((a : ℕ) → has S a ≡ (inside n a && p a))
gathered p zero few = (0, λ a. nobody a ∙ grind (arith, nat_tests))
gathered p (suc n) few =
    let (S, S_is) = gathered p n (omega arith) in
    elim (cases_Bool (p (suc n))) [
      | inl e ↦ let D = (1 * 2 ^ (suc n - 1)) % 2 ^ 64 in (bit_or S D, λ a. let s = S_is a in let d = has_one (suc n) a (omega arith) few in let o = has_or S D a in grind (arith, nat_tests))
      | inr e ↦ (S, λ a. let s = S_is a in grind (arith, nat_tests))
    ]

-- ---- sizes

pub size_laws : SizeLaws
size_laws = record {
  grows = λ S R w. tally_mono (has S) (has R) 64 (λ k l. w (suc k));
  falls = λ S v R i t leaves.
      let e = tally_same (has R) (λ a. has S a && not (eqb a v)) 64 (λ k l. leaves (suc k)) in
      omega (arith, e, tally_without (has S) v 64 (inside_from 64 v i) (inside_to 64 v i) t);
}

-- ---- the smallest member

some_word : (S : ℕ) → (EmptySet S → ⊥) → 0 < S
some_word zero some = absurd (some nobody)
some_word (suc S) some = omega arith

pub smallest : (S : ℕ) → (EmptySet S → ⊥) → S < 2 ^ 64 → Lowest S (count_trailing_zeros 64 S + 1)
unfolding has
smallest S some h =
    let d = some_word S some in
    let (few, one, below) = bit_at-trailing_zeros w64 S d h in
    rw add-one (record {
      number = grind (arith, nat_tests);
      member = grind (arith, nat_tests);
      least = least below;
    })
  where
    least : ((i : ℕ) → i < count_trailing_zeros 64 S → S / 2 ^ i % 2 ≡ 0) → (a : ℕ) → T (has S a) → suc (count_trailing_zeros 64 S) ≤ a
    least below zero t = absurd t
    least below (suc k) t = let z = below k in grind (arith, nat_tests)

-- a set that is not empty has a member
pub some_tells : (S : ℕ) (b : Bool) → S < 2 ^ 64 → Tells b (EmptySet S) → Tells (not b) ((a : ℕ) × T (has S a))
some_tells S true h none = λ p. let n = none p.0 in let t = p.1 in grind (arith, nat_tests)
some_tells S false h some = (count_trailing_zeros 64 S + 1, (smallest S some h).member)
