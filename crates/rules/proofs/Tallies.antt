-- How many numbers pass a test. Assumes nothing.
use Rattle.std.proofs.Common.{◌≡◌, ℕ, zero, suc, ◌+◌, ◌^◌, ◌/◌, ◌<◌, ◌≤◌, Bool, true, false, cond, not, ◌&&◌, T, eqb, sym, refl, ap, inl, inr, arith}
use lib.Arith.{lt-one}
use lib.Count.{ones, ones_step}
use Rattle.std.proofs.lemmas.Bool.{cases_eq, cases_lt}
use Rattle.std.proofs.lemmas.Bool.Decides.{nat_tests}
use Rattle.rules.specs.Sets.{has, tally}
use Rattle.rules.proofs.Digits.{has_first, has_next}

pub tally_same : (p q : ℕ → Bool) (n : ℕ) → ((k : ℕ) → k < n → p (suc k) ≡ q (suc k)) → tally p n ≡ tally q n
unfolding tally
tally_same p q zero e = refl
tally_same p q (suc n) e = let h = e n (omega arith) in let r = tally_same p q n (λ k l. e k (omega arith)) in cc

pub tally_mono : (p q : ℕ → Bool) (n : ℕ) → ((k : ℕ) → k < n → T (p (suc k)) → T (q (suc k))) → tally p n ≤ tally q n
unfolding tally
tally_mono p q zero f = omega arith
tally_mono p q (suc n) f = let h = f n (omega arith) in let r = tally_mono p q n (λ k l. f k (omega arith)) in grind (arith, nat_tests)

pub tally_none : (n : ℕ) → tally (λ a. false) n ≡ 0
unfolding tally
tally_none zero = refl
tally_none (suc n) = let e = tally_none n in omega arith

-- one number of 1 to n more
pub tally_one : (p q : ℕ → Bool) (v n : ℕ) → 1 ≤ v → v ≤ n → p v ≡ false → q v ≡ true → ((k : ℕ) → (k ≡ v → ⊥) → q k ≡ p k) → tally q n ≡ suc (tally p n)
unfolding tally
tally_one p q v zero l h a b same = absurd (omega arith)
tally_one p q v (suc n) l h a b same = elim (cases_eq (suc n) v) [
  | inl e ↦ let r = tally_same q p n (λ k g. same (suc k) (omega arith)) in grind (arith, nat_tests)
  | inr d ↦ let r = tally_one p q v n l (omega arith) a b same in let s = same (suc n) d in grind (arith, nat_tests)
]

-- one that passes is counted, and then all others
pub tally_without : (p : ℕ → Bool) (v n : ℕ) → 1 ≤ v → v ≤ n → T (p v) → tally p n ≡ suc (tally (λ b. p b && not (eqb b v)) n)
tally_without p v n l h t = tally_one _ p v n l h (grind (arith, nat_tests)) (grind (arith, nat_tests)) (λ k d. grind (arith, nat_tests))

-- where one passes, at least one is counted
pub one_passes : (p : ℕ → Bool) (v n : ℕ) → 1 ≤ v → v ≤ n → T (p v) → 1 ≤ tally p n
one_passes p v n l h t = let e = tally_without p v n l h t in omega arith

-- where more pass q than p, some number passes q and not p
pub more_pass : (p q : ℕ → Bool) (n : ℕ) → tally p n < tally q n → (k : ℕ) × T (q k) × (T (p k) → ⊥)
unfolding tally
more_pass p q zero h = absurd (omega arith)
more_pass p q (suc n) h = elim (cases_lt (tally p n) (tally q n)) [ inl g ↦ more_pass p q n g | inr g ↦ (suc n, grind (arith, nat_tests), grind (arith, nat_tests)) ]

pub some_passes : (p : ℕ → Bool) (n : ℕ) → 1 ≤ tally p n → (k : ℕ) × T (p k)
some_passes p n h = let (k, t, _) = more_pass (λ b. false) p n (omega (arith, tally_none n)) in (k, t)

-- ---- the ones of a word

tally_first : (p : ℕ → Bool) (n : ℕ) → tally p (suc n) ≡ cond (p 1) 1 0 + tally (λ a. p (suc a)) n
unfolding tally
tally_first p zero = refl
tally_first p (suc n) = let e = tally_first p n in omega arith

pub tally_ones : (n S : ℕ) → S < 2 ^ n → tally (has S) n ≡ ones S
unfolding tally ones
tally_ones zero S h = ap ones (sym (lt-one h))
tally_ones (suc n) S h =
    let a = tally_first (has S) n in
    let b = has_first S in
    let c = tally_same (λ a. has S (suc a)) (has (S / 2)) n (λ k l. has_next S k) in
    let d = tally_ones n (S / 2) (omega arith) in
    let e = ones_step S in
    grind (arith, nat_tests)
