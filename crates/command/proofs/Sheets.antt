-- The numbers of a sheet, read one after another.
use Rattle.std.proofs.Common.{◌≡◌, ℕ, ◌≤◌, List, [], ◌∷◌, ◌++◌, length, sym, refl, ap, subst, arith}
use Rattle.std.proofs.lemmas.List.{append_assoc}
use Rattle.command.specs.Grammar.{Fields}
use Rattle.command.specs.Scan.{Stops, Field}
use Rattle.command.proofs.Numbers.{one_field}

-- the numbers of `fields` are xs, and those of `rest` behind them
pub record Continued (fields xs rest : List ℕ) : Type 0 where
  pub made : (ys : List ℕ) → Fields rest ys → Fields fields (xs ++ ys)
  pub only : (zs : List ℕ) → Fields fields zs → (ys : List ℕ) × ((zs ≡ xs ++ ys) × Fields rest ys)

-- the first number of several
pub record Next (line : List ℕ) (ys : List ℕ) : Type 0 where
  pub x : ℕ
  pub more : List ℕ
  pub rest : List ℕ
  pub whole : ys ≡ x ∷ more
  pub small : x ≤ 255
  pub field : Field line x rest
  pub listed : Fields rest more

-- a space or nothing stands before the numbers, and either stops a number
fields_stop : (line ys : List ℕ) → Fields line ys → Stops line
fields_stop [] ys p = tt
fields_stop (b ∷ bs) [] p = λ d. cc
fields_stop (b ∷ bs) (y ∷ ys) p = λ d. let space : b ≡ 32 = cc p.1.1.2 in omega arith

-- where bytes are left, there is a number in front
pub next : (line ys : List ℕ) → (length line ≡ 0 → ⊥) → Fields line ys → Next line ys
next line [] some p = absurd (some (ap length p))
next line (y ∷ ys) some p =
    record {
      x = y;
      more = ys;
      rest = p.1.0;
      whole = refl;
      small = p.1.1.1;
      field = record { digits = p.0; numeral = p.1.1.0; whole = p.1.1.2; stops = fields_stop p.1.0 ys p.1.1.3 };
      listed = p.1.1.3;
    }

-- where none are left, there is no number
pub fields_none : (line ys : List ℕ) → line ≡ [] → Fields line ys → ys ≡ []
fields_none line [] e p = refl
fields_none line (y ∷ ys) e p = cc p.1.1.2

-- one number more
pub continued_more : {fields xs zs rest after : List ℕ} {x y : ℕ} → Continued fields xs rest → Field rest x after → x ≤ 255
    → y ≡ x → zs ≡ xs ++ (y ∷ []) → Continued fields zs after
continued_more {fields} {xs} {zs} {rest} {after} {x} {y} h f small same pushed =
    let e : zs ≡ xs ++ (x ∷ []) = cc in
    record {
      made = λ ys p. rw (e, append_assoc xs (x ∷ []) ys) (h.made (x ∷ ys) (f.digits, (after, (f.numeral, small, f.whole, p))));
      only = λ us p.
          let back = h.only us p in
          let n = next rest back.0 (λ none. omega (arith, ap length f.whole)) back.1.1 in
          let one = one_field f n.field in
          let listed : Fields after n.more = subst (λ (ys : List ℕ). Fields ys n.more) (sym one.1) n.listed in
          let whole : us ≡ zs ++ n.more = cc (e, back.1.0, n.whole, one.0, append_assoc xs (x ∷ []) n.more) in
          (n.more, (whole, listed));
    }
