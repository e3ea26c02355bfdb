-- The groups of the robust model are the published ones: paths that are apart are counted by the members between their ends. Assumes nothing.
use Rattle.std.proofs.Common.{◌≡◌, ℕ, zero, suc, ◌+◌, ◌-◌, ◌≤◌, Bool, false, cond, not, ◌&&◌, ◌||◌, T, eqb, leb, List, [], ◌∷◌, map, length, sym, refl, ap, ◌∙◌, subst, ap₂, inl, inr, zero-le, le_refl, arith}
use Rattle.std.proofs.lemmas.Bool.{cases_Bool}
use Rattle.std.proofs.lemmas.Bool.Decides.{nat_tests}
use Rattle.std.specs.List.{AllByRecursion}
use Rattle.std.proofs.lemmas.List.{length-map}
use Rattle.rules.specs.Sets.{has, inside, two_of, SetOf, tally}
use Rattle.rules.specs.Links.{Links, LawfulLinks, shared}
use Rattle.rules.specs.Models.{AllPair, robust}
use Rattle.rules.specs.Paths.{PathIn, path_length, Apart, EveryTwoApart, DisjointPaths}
use Rattle.rules.specs.Published.{RobustClub, Agrees}
use Rattle.rules.proofs.Tallies.{tally_without}
use Rattle.rules.proofs.Members.{inside_from, inside_to}
use Rattle.rules.proofs.Ways.{Way, straight, by, Leads, path_by, way_path, way_short, path_way, ways_apart}
use Rattle.rules.proofs.Published.{common, way_by, by_common, known, agrees_by_pairs}

-- ---- lists of different ways

abbrev Unlike : Way → Way → Type 0
Unlike v w = v ≡ w → ⊥

abbrev Different : List Way → Type 0
Different [] = Unit {0}
Different (w ∷ ws) = AllByRecursion (Unlike w) ws × Different ws

all_both : {X : Type 0} (P Q R : X → Type 0) → ((x : X) → P x → Q x → R x) → (xs : List X) → AllByRecursion P xs → AllByRecursion Q xs → AllByRecursion R xs
all_both P Q R f [] p q = tt
all_both P Q R f (x ∷ xs) p q = (f x p.0 q.0, all_both P Q R f xs p.1 q.1)

all_from : {X : Type 0} (P Q : X → Type 0) → ((x : X) → P x → Q x) → (xs : List X) → AllByRecursion P xs → AllByRecursion Q xs
all_from P Q f xs p = all_both P P Q (λ x a b. f x a) xs p p

all_map : {X Y : Type 0} (g : X → Y) (P : X → Type 0) (Q : Y → Type 0) → ((x : X) → P x → Q (g x)) → (xs : List X) → AllByRecursion P xs → AllByRecursion Q (map g xs)
all_map g P Q f [] p = tt
all_map g P Q f (x ∷ xs) p = (f x p.0, all_map g P Q f xs p.1)

-- ---- as many ways as pass

-- by one of 1 to n that passes
abbrev Passing : (ℕ → Bool) → ℕ → Way → Type 0
Passing p n straight = ⊥
Passing p n (by k) = T (p k) × (k ≤ n)

passing_up : (p : ℕ → Bool) (n : ℕ) (w : Way) → Passing p n w → Passing p (suc n) w
passing_up p n straight q = q
passing_up p n (by k) (t, h) = (t, omega arith)

passing_bent : (p : ℕ → Bool) (n : ℕ) (w : Way) → Passing p n w → Unlike straight w
passing_bent p n straight q e = q
passing_bent p n (by k) q e = let z : ◌≡◌ {A = ℕ} 0 1 = cc in omega arith

passing_below : (p : ℕ → Bool) (n : ℕ) (w : Way) → Passing p n w → Unlike (by (suc n)) w
passing_below p n straight q e = q
passing_below p n (by k) (t, h) e = let same : suc n ≡ k = cc in omega arith

choose : (p : ℕ → Bool) (n t : ℕ) → t ≤ tally p n → (ws : List Way) × (length ws ≡ t) × AllByRecursion (Passing p n) ws × Different ws
unfolding tally
choose p n zero h = ([], refl, tt, tt)
choose p zero (suc t) h = absurd (omega arith)
choose p (suc n) (suc t) h = elim (cases_Bool (p (suc n))) [
  | inl e ↦
      let (ws, q, c, d) = choose p n t (grind (arith, nat_tests)) in
      (by (suc n) ∷ ws, ap suc q, ((grind (arith, nat_tests), le_refl (suc n)), all_from _ _ (passing_up p n) ws c), (all_from _ _ (passing_below p n) ws c, d))
  | inr e ↦ let (ws, q, c, d) = choose p n (suc t) (grind (arith, nat_tests)) in (ws, q, all_from _ _ (passing_up p n) ws c, d)
]

-- ---- no more different ways than pass

-- straight where s says so, or by one of 1 to 64 that passes
abbrev Allowed : Bool → (ℕ → Bool) → Way → Type 0
Allowed s p straight = T s
Allowed s p (by k) = T (p k) × T (inside 64 k)

few_ways : (ws : List Way) (s : Bool) (p : ℕ → Bool) → AllByRecursion (Allowed s p) ws → Different ws → length ws ≤ cond s 1 0 + tally p 64
few_ways [] s p a d = zero-le
few_ways (straight ∷ ws) s p a d =
    let h = few_ways ws false p (all_both (Unlike straight) (Allowed s p) (Allowed false p) bent ws d.0 a.1) d.1 in
    let t = a.0 in
    grind (arith, nat_tests)
  where
    bent : (w : Way) → Unlike straight w → Allowed s p w → Allowed false p w
    bent straight u q = u refl
    bent (by k) u q = q
few_ways (by k ∷ ws) s p a d =
    let h = few_ways ws s (λ x. p x && not (eqb x k)) (all_both (Unlike (by k)) (Allowed s p) (Allowed s (λ x. p x && not (eqb x k))) other ws d.0 a.1) d.1 in
    let e = tally_without p k 64 (inside_from 64 k a.0.1) (inside_to 64 k a.0.1) a.0.0 in
    omega arith
  where
    other : (w : Way) → Unlike (by k) w → Allowed s p w → Allowed s (λ x. p x && not (eqb x k)) w
    other straight u q = q
    other (by h) u (t, g) = let d : h ≡ k → ⊥ = λ e. u (ap by (sym e)) in (grind (arith, nat_tests), g)

-- ---- different ways as paths that are apart, and back

module _ (n : ℕ) (l : Links) (N : LawfulLinks n l) (S a b : ℕ) (i : T (has S a)) (j : T (has S b)) (d : a ≡ b → ⊥) where
  ways_paths : (ws : List Way) → AllByRecursion (Leads l S a b) ws → Different ws
      → (ps : List (List ℕ)) × DisjointPaths (length ws) l S a b ps × AllByRecursion (λ p. path_length p ≤ 2) ps
  ways_paths ws leads different = (
    map (path_by a b) ws,
    record {
      number = length-map ws (path_by a b);
      paths = all_map (path_by a b) (Leads l S a b) (PathIn l S a b) (way_path n l N S a b i j d) ws leads;
      apart = apart ws different;
    },
    all_map (path_by a b) (Leads l S a b) (λ p. path_length p ≤ 2) (λ w t. way_short n l N S a b i j d w) ws leads,
  )
    where
      apart : (ws : List Way) → Different ws → EveryTwoApart a b (map (path_by a b) ws)
      apart [] u = tt
      apart (w ∷ ws) u = (all_map (path_by a b) (Unlike w) (Apart a b (path_by a b w)) (ways_apart n l N S a b i j d w) ws u.0, apart ws u.1)

  paths_ways : (ps : List (List ℕ)) → AllByRecursion (PathIn l S a b) ps → EveryTwoApart a b ps → AllByRecursion (λ p. path_length p ≤ 2) ps
      → (ws : List Way) × (ps ≡ map (path_by a b) ws) × AllByRecursion (Leads l S a b) ws × Different ws
  paths_ways [] paths apart short = ([], refl, tt, tt)
  paths_ways (p ∷ ps) paths apart short =
      let (w, t, e) = path_way n l N S a b i j d p paths.0 short.0 in
      let (ws, same, leads, different) = paths_ways ps paths.1 apart.1 short.1 in
      (w ∷ ws, ap₂ ◌∷◌ e same, (t, leads), (unlike w e ws (subst (AllByRecursion (Apart a b p)) same apart.0), different))
    where
      unlike : (w : Way) → p ≡ path_by a b w → (ws : List Way) → AllByRecursion (Apart a b p) (map (path_by a b) ws) → AllByRecursion (Unlike w) ws
      unlike w e [] q = tt
      unlike w e (v ∷ ws) q = ((λ f. q.0.0 (e ∙ ap (path_by a b) f)), unlike w e ws q.1)

-- ---- the rule

linked_and : (b x : Bool) (t c : ℕ) → T (b && ((x && leb (t - 1) c) || leb t c)) → leb t c ≡ false → T x × (t - 1 ≤ c)
linked_and b x t c p f = grind (arith, nat_tests)

module _ (n : ℕ) (l : Links) (N : LawfulLinks n l) (S : ℕ) (small : SetOf n S) (t : ℕ) (some : 1 ≤ t) where
  passing_leads : (a b : ℕ) (w : Way) → Passing (common l S a b) 64 w → Leads l S a b w
  passing_leads a b straight q = absurd q
  passing_leads a b (by k) q = way_by n l N S small a b k q.0

  leads_allowed : (a b : ℕ) (w : Way) → Leads l S a b w → Allowed (l a b) (common l S a b) w
  leads_allowed a b straight q = q
  leads_allowed a b (by k) q = (by_common n l N S small a b k q, known n l N S small k q.0)

  pairs_robust : AllPair l (robust t) S → RobustClub t l S
  pairs_robust pair a b i j d =
      elim (cases_Bool (leb t (shared l a b S))) [
        | inl f ↦
            let (ws, e, c, u) = choose (common l S a b) 64 t (grind (arith, nat_tests)) in
            made ws e (all_from _ _ (passing_leads a b) ws c) u
        | inr f ↦
            let (q, many) = linked_and (two_of S a b) (l a b) t (shared l a b S) (pair a b i j d) f in
            let (ws, e, c, u) = choose (common l S a b) 64 (t - 1) many in
            made (straight ∷ ws) (omega arith) (q, all_from _ _ (passing_leads a b) ws c) (all_from _ _ (passing_bent (common l S a b) 64) ws c, u)
      ]
    where
      made : (ws : List Way) → length ws ≡ t → AllByRecursion (Leads l S a b) ws → Different ws → (ps : List (List ℕ)) × DisjointPaths t l S a b ps × AllByRecursion (λ p. path_length p ≤ 2) ps
      made ws e leads different = rw e at (ways_paths n l N S a b i j d ws leads different)

  robust_pairs : RobustClub t l S → AllPair l (robust t) S
  robust_pairs R a b i j d =
      let (ps, family, short) = R a b i j d in
      let (ws, same, leads, different) = paths_ways n l N S a b i j d ps family.paths family.apart short in
      enough (family.number) (length-map ws (path_by a b)) (ap length same) (few_ways ws (l a b) (common l S a b) (all_from _ _ (leads_allowed a b) ws leads) different)
    where
      enough : {c d e : ℕ} → d ≡ t → e ≡ c → d ≡ e → c ≤ cond (l a b) 1 0 + shared l a b S → T (two_of S a b && ((l a b && leb (t - 1) (shared l a b S)) || leb t (shared l a b S)))
      enough p q r h = grind (arith, nat_tests)

pub robust_agrees : (t : ℕ) → 1 ≤ t → Agrees (robust t) (RobustClub t)
robust_agrees t some =
    agrees_by_pairs (λ x c. (x && leb (t - 1) c) || leb t c) (RobustClub t) (λ n l N S small. (pairs_robust n l N S small t some, robust_pairs n l N S small t some))
