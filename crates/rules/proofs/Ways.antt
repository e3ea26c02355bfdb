-- Paths of at most two links: the link itself, or by way of one member. Assumes nothing.
use Rattle.std.proofs.Common.{◌≡◌, ℕ, ◌≤◌, T, List, [], ◌∷◌, length, Some, sym, refl, ap, ◌∙◌, inl, inr, arith}
use Rattle.std.proofs.lemmas.Bool.{cases_eq}
use Rattle.std.proofs.lemmas.Bool.Decides.{nat_tests}
use Rattle.rules.specs.Sets.{has}
use Rattle.rules.specs.Links.{Links, LawfulLinks}
use Rattle.rules.specs.Paths.{PathIn, path_length, Apart}
use Rattle.rules.specs.Published.{TwoClub}

pub data Way : Type 0 where
  straight : Way
  by : ℕ → Way

-- the way leads from a to b in S
abbrev pub Leads : Links → ℕ → ℕ → ℕ → Way → Type 0
Leads l S a b straight = T (l a b)
Leads l S a b (by k) = T (has S k) × T (l a k) × T (l k b)

-- the path that a way takes
abbrev pub path_by : ℕ → ℕ → Way → List ℕ
path_by a b straight = a ∷ (b ∷ [])
path_by a b (by k) = a ∷ (k ∷ (b ∷ []))

some_same : (x y : ℕ) → Some x ≡ Some y → x ≡ y
some_same x y e = cc

-- ---- ways and paths from a to b

module _ (n : ℕ) (l : Links) (N : LawfulLinks n l) (S a b : ℕ) (i : T (has S a)) (j : T (has S b)) (d : a ≡ b → ⊥) where
  pub way_path : (w : Way) → Leads l S a b w → PathIn l S a b (path_by a b w)
  way_path straight t = record {
    inside_set = λ x q. grind (arith, nat_tests);
    differ = ((λ q. grind (arith, nat_tests)), ((λ q. q), tt));
    chained = (t, tt);
    starts = refl;
    ends = refl;
  }
  way_path (by k) (h, s, t) =
      let u = N.not_itself a in
      let v = N.not_itself k in
      record {
        inside_set = λ x q. grind (arith, nat_tests);
        differ = ((λ q. grind (arith, nat_tests)), ((λ q. grind (arith, nat_tests)), ((λ q. q), tt)));
        chained = (s, (t, tt));
        starts = refl;
        ends = refl;
      }

  pub way_short : (w : Way) → path_length (path_by a b w) ≤ 2
  way_short straight = omega arith
  way_short (by k) = omega arith

  -- there is no other path of at most two links
  pub path_way : (p : List ℕ) → PathIn l S a b p → path_length p ≤ 2 → (w : Way) × Leads l S a b w × (p ≡ path_by a b w)
  path_way [] q h = absurd (let z : ◌≡◌ {A = ℕ} 0 1 = cc q.starts in omega arith)
  path_way (x ∷ []) q h = absurd (d (sym (some_same x a q.starts) ∙ some_same x b q.ends))
  path_way (x ∷ (y ∷ [])) q h =
      let e = some_same x a q.starts in
      let f = some_same y b q.ends in
      let t = q.chained.0 in
      (straight, grind arith, cc)
  path_way (x ∷ (y ∷ (z ∷ []))) q h =
      let e = some_same x a q.starts in
      let f = some_same z b q.ends in
      let t = q.chained.0 in
      let u = q.chained.1.0 in
      let s = q.inside_set y in
      (by y, (grind (arith, nat_tests), grind arith, grind arith), cc)
  path_way (x ∷ (y ∷ (z ∷ (u ∷ p)))) q h = absurd (omega arith)

  -- ---- different ways take paths that are apart

  pub ways_apart : (v w : Way) → (v ≡ w → ⊥) → Apart a b (path_by a b v) (path_by a b w)
  ways_apart straight straight u = absurd (u refl)
  ways_apart straight (by h) u = ((λ e. let z : ◌≡◌ {A = ℕ} 2 3 = ap length e in omega arith), λ x p q. grind (arith, nat_tests))
  ways_apart (by k) straight u = ((λ e. let z : ◌≡◌ {A = ℕ} 3 2 = ap length e in omega arith), λ x p q. grind (arith, nat_tests))
  ways_apart (by k) (by h) u = ((λ e. u (ap by (cc))), λ x p q. let v : k ≡ h → ⊥ = λ e. u (ap by e) in grind (arith, nat_tests))

-- ---- a 2-club has a way between every two members

module _ (n : ℕ) (l : Links) (N : LawfulLinks n l) (S : ℕ) where
  pub club_from_ways : ((a b : ℕ) → T (has S a) → T (has S b) → (a ≡ b → ⊥) → (w : Way) × Leads l S a b w) → TwoClub l S
  club_from_ways ways a b i j = elim (cases_eq a b) [
    | inl e ↦ (
      a ∷ [],
      record { inside_set = λ x t. grind (arith, nat_tests); differ = ((λ t. t), tt); chained = tt; starts = refl; ends = ap Some e },
      omega arith,
    )
    | inr d ↦ let (w, t) = ways a b i j d in (path_by a b w, way_path n l N S a b i j d w t, way_short n l N S a b i j d w)
  ]

  pub way_in_club : TwoClub l S → (a b : ℕ) → T (has S a) → T (has S b) → (a ≡ b → ⊥) → (w : Way) × Leads l S a b w
  way_in_club c a b i j d =
      let (p, q, h) = c a b i j in
      let (w, t, e) = path_way n l N S a b i j d p q h in
      (w, t)
