-- A line's number is one space and all the digits behind it, so there is only one way to read it.
use Rattle.std.proofs.Common.{◌≡◌, ℕ, zero, suc, ◌+◌, ◌-◌, ◌*◌, ◌^◌, ◌<◌, ◌≤◌, List, [], ◌∷◌, ◌++◌, length, take, drop, sym, refl, ap, ◌∙◌, subst, add-one, pow-suc, lit<, arith}
use native.Mathlib.Nat.{pow-le-pow_right}
use Rattle.std.proofs.lemmas.List.{append-nil, length-append, length-take-le, take-append-drop}
use Rattle.std.proofs.lemmas.List.Elements.{All-head, All-tail}
use Rattle.std.proofs.lemmas.List.Sums.{fold_more}
use Rattle.std.specs.Prelude.{All}
use Rattle.command.specs.Grammar.{Digit, Numeral, number_written}
use Rattle.command.specs.Scan.{Stops, Counted, Field}

-- what stops does not begin with a digit
stops_not : (rest : List ℕ) (b : ℕ) (bs : List ℕ) → Stops rest → rest ≡ b ∷ bs → Digit b → ⊥
stops_not [] b bs st e d = cc
stops_not (c ∷ cs) b bs st e d = let same : b ≡ c = cc in st (subst Digit same d)

-- all digits in front, and what follows them: one cut
one_cut : (ds es rest more : List ℕ) → All Digit ds → All Digit es → Stops rest → Stops more
    → ds ++ rest ≡ es ++ more → (ds ≡ es) × (rest ≡ more)
one_cut [] [] rest more p q st su e = (refl, e)
one_cut [] (y ∷ es) rest more p q st su e = absurd (stops_not rest y (es ++ more) st e (All-head Digit y es q))
one_cut (x ∷ ds) [] rest more p q st su e = absurd (stops_not more x (ds ++ rest) su (sym e) (All-head Digit x ds p))
one_cut (x ∷ ds) (y ∷ es) rest more p q st su e =
    let tails = one_cut ds es rest more (All-tail Digit x ds p) (All-tail Digit y es q) st su (cc) in
    (cc, tails.1)

-- one line has at most one number in front
pub one_field : {line : List ℕ} {x y : ℕ} {rest more : List ℕ} → Field line x rest → Field line y more → (x ≡ y) × (rest ≡ more)
one_field {line} {x} {y} {rest} {more} p q =
    let same : p.digits ++ rest ≡ q.digits ++ more = cc in
    let cut = one_cut p.digits q.digits rest more p.numeral.digits q.numeral.digits p.stops q.stops same in
    (p.numeral.value ∙ ap number_written cut.0 ∙ sym q.numeral.value, cut.1)

-- the digits that were counted are those of the line's number
pub counted_len : {line xs rest : List ℕ} {n x : ℕ} → line ≡ 32 ∷ xs → Counted xs n → Field line x rest → (1 ≤ n) × (n ≤ 7)
counted_len {line} {xs} {rest} {n} e h p =
    let same : take n xs ++ drop n xs ≡ p.digits ++ rest = cc (take-append-drop n xs) in
    let cut = one_cut (take n xs) p.digits (drop n xs) rest h.digits p.numeral.digits h.stops p.stops same in
    let len : n ≡ length p.digits = omega (arith, ap length cut.0, length-take-le n xs h.len) in
    (omega (arith, p.numeral.some), omega (arith, p.numeral.few))

-- a space and the digits that were counted are a number
pub field_made : {line xs front back : List ℕ} {n x : ℕ} → line ≡ 32 ∷ xs → Counted xs n → 1 ≤ n → n ≤ 7
    → front ≡ take n xs → back ≡ drop n xs → x ≡ number_written front → Field line x back
field_made {line} {xs} {front} {back} {n} e h some few f b v =
    let len = length-take-le n xs h.len in
    record {
      digits = take n xs;
      numeral = record { some = omega arith; few = omega arith; digits = h.digits; value = v ∙ ap number_written f };
      whole = cc (take-append-drop n xs);
      stops = rw b h.stops;
    }

-- n digits write a number below the nth power of ten
number_below : (ds : List ℕ) → All Digit ds → (n : ℕ) → n ≤ length ds → number_written (take n ds) < 10 ^ n
number_below ds digits zero h = omega arith
number_below ds digits (suc n) h =
    let more = rw add-one at (fold_more (λ n d. n * 10 + (d - 48)) 0 ds n 0 h) in
    omega (arith, digits n 0 h, number_below ds digits n (omega arith), more, pow-suc 10 n)

-- six digits write a number below a million
pub number_small : (ds : List ℕ) → All Digit ds → (n : ℕ) → n ≤ length ds → n ≤ 6 → number_written (take n ds) < 1000000
number_small ds digits n h few =
    let million : 10 ^ n ≤ 1000000 = pow-le-pow_right (lit< tt) few in
    omega (arith, number_below ds digits n h)

-- a number takes two bytes at least
pub field_len : {line : List ℕ} {x : ℕ} {rest : List ℕ} → Field line x rest → length rest + 2 ≤ length line
field_len {line} {x} {rest} p = omega (arith, ap length p.whole, length-append p.digits rest, p.numeral.some)

-- a number at the end of a line
pub field_last : {line ds : List ℕ} {x : ℕ} → Numeral ds x → line ≡ 32 ∷ ds → Field line x []
field_last {line} {ds} n e = record { digits = ds; numeral = n; whole = cc (append-nil ds); stops = tt }

-- a number with a space behind it
pub field_spaced : {line ds rest : List ℕ} {x : ℕ} → Numeral ds x → line ≡ 32 ∷ (ds ++ 32 ∷ rest) → Field line x (32 ∷ rest)
field_spaced {line} {ds} n e = record { digits = ds; numeral = n; whole = e; stops = λ d. omega arith }
