-- The members of words that are made by operations on binary digits. Assumes nothing.
use Rattle.std.proofs.Common.{◌≡◌, ℕ, zero, suc, ◌-◌, ◌*◌, ◌/◌, ◌%◌, ◌^◌, ◌<◌, ◌≤◌, false, not, ◌&&◌, ◌||◌, eqb, refl, inl, inr, arith, w64}
use lib.Bits.{bit_and, bit_or, bit_xor}
use Rattle.std.proofs.lemmas.Nat.{one_shl}
use Rattle.std.proofs.lemmas.Nat.Bits.{bit_at_lowest, bit_at-suc, bit_at-zero, bit_at_and, bit_at_or, bit_at_xor, bit_at-pow_same, bit_at-pow_other, bit_at_ones, bit_at_not, bit_at_above, bit_at_ones_above, ones_shr}
use Rattle.std.proofs.lemmas.Bool.{cases_eq, cases_lt}
use Rattle.std.proofs.lemmas.Bool.Decides.{nat_tests}
use Rattle.rules.specs.Sets.{differs, inside, has}

pub has_zero : (S : ℕ) → has S 0 ≡ false
unfolding has
has_zero S = refl

pub nobody : (a : ℕ) → has 0 a ≡ false
unfolding has
nobody zero = refl
nobody (suc k) = let e = bit_at-zero k in grind (arith, nat_tests)

pub has_and : (S R a : ℕ) → has (bit_and S R) a ≡ (has S a && has R a)
unfolding has
has_and S R zero = refl
has_and S R (suc k) = let e = bit_at_and S R k in grind (arith, nat_tests)

pub has_or : (S R a : ℕ) → has (bit_or S R) a ≡ (has S a || has R a)
unfolding has
has_or S R zero = refl
has_or S R (suc k) = let e = bit_at_or S R k in grind (arith, nat_tests)

pub has_xor : (S R a : ℕ) → has (bit_xor S R) a ≡ differs (has S a) (has R a)
unfolding has
has_xor S R zero = refl
has_xor S R (suc k) = let e = bit_at_xor S R k in grind (arith, nat_tests)

pub has_first : (S : ℕ) → has S 1 ≡ eqb (S % 2) 1
unfolding has
has_first S = let e = bit_at_lowest S in grind arith

pub has_next : (S k : ℕ) → has S (suc (suc k)) ≡ has (S / 2) (suc k)
unfolding has
has_next S k = let e = bit_at-suc S k in grind arith

pub has_above : (n S k : ℕ) → S < 2 ^ n → n ≤ k → has S (suc k) ≡ false
unfolding has
has_above n S k h g = let e = bit_at_above S n k h g in grind arith

-- the one member a, as the program writes it
pub has_one : (a b : ℕ) → 1 ≤ a → a ≤ 64 → has ((1 * 2 ^ (a - 1)) % 2 ^ 64) b ≡ eqb b a
unfolding has
has_one a zero l h = grind (arith, nat_tests)
has_one a (suc k) l h =
    rw (one_shl (a - 1) 64 (omega arith)) (elim (cases_eq k (a - 1)) [
      | inl e ↦ let b = bit_at-pow_same k in grind (arith, nat_tests)
      | inr d ↦ let b = bit_at-pow_other (a - 1) k d in grind (arith, nat_tests)
    ])

-- the members of S that R lacks, as the program writes them
pub has_except : (S R a : ℕ) → S < 2 ^ 64 → R < 2 ^ 64 → has (bit_and S (2 ^ 64 - 1 - R)) a ≡ (has S a && not (has R a))
unfolding has
has_except S R zero h g = refl
has_except S R (suc k) h g =
    let e = bit_at_and S (2 ^ 64 - 1 - R) k in
    elim (cases_lt k 64) [
      | inl l ↦ let f = bit_at_not w64 R k g l in grind (arith, nat_tests)
      | inr l ↦ let f = bit_at_above S 64 k h l in grind (arith, nat_tests)
    ]

-- the members 1 to n, as the program writes them
pub has_up_to : (n a : ℕ) → n ≤ 64 → has ((2 ^ 64 - 1) / 2 ^ (64 - n)) a ≡ inside n a
unfolding has
has_up_to n zero h = refl
has_up_to n (suc k) h =
    let back : 64 - (64 - n) ≡ n = omega arith in
    rw (ones_shr 64 (64 - n) (omega arith), back) (elim (cases_lt k n) [
      | inl l ↦ let e = bit_at_ones n k l in grind (arith, nat_tests)
      | inr l ↦ let e = bit_at_ones_above n k l in grind (arith, nat_tests)
    ])
