-- A sheet read number by number. Assumes nothing.
use Rattle.std.proofs.Common.{◌≡◌, ℕ, ◌+◌, ◌<◌, ◌≤◌, false, true, ◌&&◌, ◌||◌, eqb, List, [], ◌∷◌, length, get_or, drop, None, refl, add-one, arith, drop-cons}
use Rattle.std.proofs.lemmas.List.{drop_all}
use Rattle.std.proofs.lemmas.Bool.Decides.{nat_tests}
use Rattle.vocabulary.specs.declared.refusal.Refusal.TheVariants.{OutOfRange, BadSheet}
use Rattle.rules.specs.Sets.{has, inside, EmptySet}
use Rattle.rules.specs.Refusals.{try, unknown}
use Rattle.rules.specs.Lists.{on, Named}
use Rattle.rules.specs.Sheets.{naming_refusal, sheet_refusal}

-- after i numbers, those before are named and none of them was turned down
pub record Naming (n : ℕ) (sheet : List ℕ) (i S : ℕ) : Type 0 where
  pub before : List ℕ
  pub named : (a : ℕ) → has S a ≡ on before a
  pub tried : sheet_refusal n sheet ≡ naming_refusal n before (drop i sheet)
  pub whole : (a : ℕ) → on sheet a ≡ (on before a || on (drop i sheet) a)

pub naming_start : (n : ℕ) (sheet : List ℕ) (S : ℕ) → (length sheet ≡ 0 → ⊥) → EmptySet S → Naming n sheet 0 S
naming_start n [] S some none = absurd (some refl)
naming_start n (x ∷ xs) S some none = record { before = []; named = none; tried = refl; whole = λ a. refl }

module _ (n : ℕ) (sheet : List ℕ) (i S : ℕ) (inv : Naming n sheet i S) (more : i < length sheet) where
  next : drop i sheet ≡ get_or sheet i 0 ∷ drop (i + 1) sheet
  next = rw add-one (drop-cons sheet i 0 more)

  pub naming_next : sheet_refusal n sheet
      ≡ try (unknown n (get_or sheet i 0)) OutOfRange (try (has S (get_or sheet i 0)) BadSheet (naming_refusal n (get_or sheet i 0 ∷ inv.before) (drop (i + 1) sheet)))
  naming_next = let t = rw next at inv.tried in let d = inv.named (get_or sheet i 0) in grind (arith, nat_tests)

  pub naming_step : (R : ℕ) → inside n (get_or sheet i 0) ≡ true → has S (get_or sheet i 0) ≡ false → n ≤ 64
      → ((b : ℕ) → has R b ≡ ((eqb b (get_or sheet i 0) && inside 64 (get_or sheet i 0)) || has S b)) → Naming n sheet (i + 1) R
  naming_step R known new few wrote = record {
    before = get_or sheet i 0 ∷ inv.before;
    named = λ a. let w = wrote a in let d = inv.named a in grind (arith, nat_tests);
    tried = let t = naming_next in grind (arith, nat_tests);
    whole = λ a. let w = rw next at (inv.whole a) in grind (arith, nat_tests);
  }

pub naming_end : (n : ℕ) (sheet : List ℕ) (i S : ℕ) → Naming n sheet i S → length sheet ≤ i → (sheet_refusal n sheet ≡ None) × Named sheet S
naming_end n sheet i S inv over = (rw (drop_all i sheet over) at inv.tried, λ a. let d = inv.named a in let w = rw (drop_all i sheet over) at (inv.whole a) in grind (arith, nat_tests))
