-- The groups of the models are the published ones. Assumes nothing.
use Rattle.std.proofs.Common.{◌≡◌, ℕ, suc, ◌+◌, ◌≤◌, Bool, false, not, ◌&&◌, ◌||◌, T, leb, ◌⊎◌, refl, inl, inr, arith, ◌↔◌, leb→le}
use Rattle.std.proofs.lemmas.Bool.{cases_Bool, cases_lt}
use Rattle.std.proofs.lemmas.Bool.Decides.{nat_tests}
use Rattle.rules.specs.Sets.{has, inside, two_of, Within, SetOf, Remains, tally, size}
use Rattle.rules.specs.Links.{Links, LawfulLinks, shared}
use Rattle.rules.specs.Models.{AllPair, in_triangle, by_count, plain, hereditary, vertex_triangle, edge_triangle}
use Rattle.rules.specs.Published.{TwoClub, HereditaryClub, Triangle, VertexTriangleClub, EdgeTriangleClub, Agrees}
use Rattle.rules.proofs.Tallies.{tally_same, one_passes, more_pass, some_passes}
use Rattle.rules.proofs.Members.{inside_from, inside_to, gathered}
use Rattle.rules.proofs.Ways.{Way, straight, by, Leads, club_from_ways, way_in_club}

-- k is a member of S that a and b share
abbrev pub common : Links → ℕ → ℕ → ℕ → ℕ → Bool
common l S a b k = has S k && (l a k && l b k)

pub and_right : (b c : Bool) → T (b && c) → T c
and_right b c t = grind (arith, nat_tests)

-- two different members pair when they are linked or share k
near_from : (l : Links) (S a b k : ℕ) → T (has S a) → T (has S b) → (a ≡ b → ⊥) → T (l a b) ⊎ (k ≤ shared l a b S) → T (two_of S a b && (l a b || leb k (shared l a b S)))
near_from l S a b k i j d h = grind (arith, nat_tests)

near_to : (l : Links) (S a b k : ℕ) → T (two_of S a b && (l a b || leb k (shared l a b S))) → l a b ≡ false → k ≤ shared l a b S
near_to l S a b k t e = grind (arith, nat_tests)

remain_within : (S U R : ℕ) → Remains S U R → Within R S
remain_within S U R remains x t = let r = remains x in grind (arith, nat_tests)

module _ (n : ℕ) (l : Links) (N : LawfulLinks n l) (S : ℕ) (small : SetOf n S) where
  -- ---- a way by a member is one that the two share

  pub way_by : (a b k : ℕ) → T (common l S a b k) → Leads l S a b (by k)
  way_by a b k t = let e = N.both_ways b k in grind (arith, nat_tests)

  pub by_common : (a b k : ℕ) → Leads l S a b (by k) → T (common l S a b k)
  by_common a b k w = let e = N.both_ways k b in grind (arith, nat_tests)

  pub known : (a : ℕ) → T (has S a) → T (inside 64 a)
  known a i = let h = small a i in let few = N.few in grind (arith, nat_tests)

  at_least_one : (p : ℕ → Bool) (k : ℕ) → T (has S k) → T (p k) → 1 ≤ tally p 64
  at_least_one p k i t = one_passes p k 64 (inside_from 64 k (known k i)) (inside_to 64 k (known k i)) t

  one_shared : (a b : ℕ) → 1 ≤ shared l a b S → (k : ℕ) × Leads l S a b (by k)
  one_shared a b h = let (k, c) = some_passes (common l S a b) 64 h in (k, way_by a b k c)

  shared_one : (a b k : ℕ) → Leads l S a b (by k) → 1 ≤ shared l a b S
  shared_one a b k w = at_least_one (common l S a b) k w.0 (by_common a b k w)

  -- ---- plain: two pair exactly when a way leads from one to the other

  pairs_club : AllPair l plain S → TwoClub l S
  pairs_club pair = club_from_ways n l N S (λ a b i j d.
      elim (cases_Bool (l a b)) [ inl e ↦ (straight, grind arith) | inr e ↦ let (k, w) = one_shared a b (near_to l S a b 1 (pair a b i j d) e) in (by k, w) ])

  club_pairs : TwoClub l S → AllPair l plain S
  club_pairs c a b i j d = near (way_in_club n l N S c a b i j d)
    where
      near : (w : Way) × Leads l S a b w → T (two_of S a b && (l a b || leb 1 (shared l a b S)))
      near (straight, t) = near_from l S a b 1 i j d (inl t)
      near (by k, w) = near_from l S a b 1 i j d (inr (shared_one a b k w))

  -- ---- vertex triangle: a member fits exactly when it lies in a triangle

  corner : (a : ℕ) → T (has S a) → T (in_triangle l S a) → (b : ℕ) × (c : ℕ) × Triangle l S a b c
  corner a i t =
      let (b, q) = some_passes (λ x. has S x && (l a x && leb 1 (shared l a x S))) 64 (grind (arith, nat_tests)) in
      let (c, w) = one_shared a b (grind (arith, nat_tests)) in
      let e = N.both_ways c b in
      (b, c, record { one = i; two = grind (arith, nat_tests); three = w.0; one_two = grind (arith, nat_tests); one_three = w.1; two_three = grind (arith, nat_tests) })

  third_shared : (a b c : ℕ) → Triangle l S a b c → 1 ≤ shared l a b S
  third_shared a b c t = let e = N.both_ways b c in let u = t.two_three in shared_one a b c (t.three, t.one_three, grind arith)

  cornered : (a : ℕ) → (b : ℕ) × (c : ℕ) × Triangle l S a b c → T (in_triangle l S a)
  cornered a (b, c, t) =
      let h = third_shared a b c t in
      let i = t.two in
      let u = t.one_two in
      let more = at_least_one (λ x. has S x && (l a x && leb 1 (shared l a x S))) b i (grind (arith, nat_tests)) in
      grind (arith, nat_tests)

  -- ---- edge triangle: linked or not, two pair exactly when they share a member

  pub pairs_edges : AllPair l edge_triangle S → EdgeTriangleClub l S
  pairs_edges pair = (
    club_from_ways n l N S (λ a b i j d. let (k, w) = third a b i j d in (by k, w)),
    λ a b i j t.
        let n = N.not_itself a in
        let (k, w) = third a b i j (λ e. grind arith) in
        let e = N.both_ways k b in
        let u = w.2 in
        (k, record { one = i; two = j; three = w.0; one_two = t; one_three = w.1; two_three = grind arith }),
  )
    where
      third : (a b : ℕ) → T (has S a) → T (has S b) → (a ≡ b → ⊥) → (k : ℕ) × Leads l S a b (by k)
      third a b i j d = one_shared a b (leb→le 1 _ (and_right (two_of S a b) (leb 1 (shared l a b S)) (pair a b i j d)))

  pub edges_pair : EdgeTriangleClub l S → AllPair l edge_triangle S
  edges_pair (c, triangle) a b i j d = share (way_in_club n l N S c a b i j d)
    where
      share : (w : Way) × Leads l S a b w → T (two_of S a b && leb 1 (shared l a b S))
      share (straight, t) = let (k, u) = triangle a b i j t in let h = third_shared a b k u in grind (arith, nat_tests)
      share (by k, w) = let h = shared_one a b k w in grind (arith, nat_tests)

  -- ---- hereditary: one that two share stays when fewer leave than they share, and none stays when all of them leave

  stays : (U R a b k : ℕ) → Remains S U R → T (common l S a b k) → (T (has U k) → ⊥) → Leads l R a b (by k)
  stays U R a b k remains c out = let r = remains k in let e = N.both_ways b k in grind (arith, nat_tests)

  rest_of : (U : ℕ) → (R : ℕ) × Remains S U R
  rest_of U = let (R, R_is) = gathered (λ x. has S x && not (has U x)) 64 (omega arith) in (R, λ x. let r = R_is x in let k = known x in grind (arith, nat_tests))

  -- U has all that a and b share, and R those that remain without them
  module _ (a b U R : ℕ) (U_is : (x : ℕ) → has U x ≡ (inside 64 x && common l S a b x)) (remains : Remains S U R) where
    as_many : size U ≡ shared l a b S
    as_many = tally_same (has U) (common l S a b) 64 (λ k h. let u = U_is (suc k) in grind (arith, nat_tests))

    all_within : Within U S
    all_within x t = let u = U_is x in grind (arith, nat_tests)

    ends_stay : (x : ℕ) → T (has S x) → (x ≡ a) ⊎ (x ≡ b) → T (has R x)
    ends_stay x t e = let r = remains x in let u = U_is x in let na = N.not_itself a in let nb = N.not_itself b in grind (arith, nat_tests)

    none_stays : (w : Way) × Leads l R a b w → T (l a b)
    none_stays (straight, q) = q
    none_stays (by k, (q, s, u)) =
        let x = U_is k in
        let y = remains k in
        let e = N.both_ways b k in
        let z = known k in
        grind (arith, nat_tests)

  module _ (t : ℕ) where
    pairs_stay : AllPair l (hereditary t) S → HereditaryClub t l S
    pairs_stay pair U R within few remains = club_from_ways n l N R (λ a b i j d.
        elim (cases_Bool (l a b)) [
          | inl e ↦ (straight, grind arith)
          | inr e ↦
              let many = near_to l S a b (t + 1) (pair a b (inner a i) (inner b j) d) e in
              let (k, c, out) = more_pass (has U) (common l S a b) 64 (omega arith) in
              (by k, stays U R a b k remains c out)
        ])
      where
        inner : Within R S
        inner = remain_within S U R remains

    stay_pairs : HereditaryClub t l S → AllPair l (hereditary t) S
    stay_pairs H a b i j d = near_from l S a b (t + 1) i j d (elim (cases_lt t (shared l a b S)) [
      | inl h ↦ inr (omega arith)
      | inr h ↦
          let (U, U_is) = gathered (common l S a b) 64 (omega arith) in
          let (R, remains) = rest_of U in
          let club = H U R (all_within a b U R U_is remains) (omega (arith, as_many a b U R U_is remains)) remains in
          let stay = ends_stay a b U R U_is remains in
          inl (none_stays a b U R U_is remains (way_in_club n l N R club a b (stay a i (inl refl)) (stay b j (inr refl)) d))
    ])

-- ---- the groups of the models

-- of a model in which each member fits, the groups are the sets in which every two pair
pub agrees_by_pairs : (test : Bool → ℕ → Bool) (P : Links → ℕ → Type 0) → ((n : ℕ) (l : Links) → LawfulLinks n l → (S : ℕ) → SetOf n S → AllPair l (by_count test) S ↔ P l S)
    → Agrees (by_count test) P
agrees_by_pairs test P same n l S a N small i = (
  (λ g. (same n l N S small).0 g.all_pair),
  λ c. record { members = small; some = (a, i); all_fit = λ x t. t; all_pair = (same n l N S small).1 c },
)

pub plain_agrees : Agrees plain TwoClub
plain_agrees = agrees_by_pairs (λ x c. x || leb 1 c) TwoClub (λ n l N S small. (pairs_club n l N S small, club_pairs n l N S small))

pub hereditary_agrees : (t : ℕ) → Agrees (hereditary t) (HereditaryClub t)
hereditary_agrees t = agrees_by_pairs (λ x c. x || leb (t + 1) c) (HereditaryClub t) (λ n l N S small. (pairs_stay n l N S small t, stay_pairs n l N S small t))

pub edge_triangle_agrees : Agrees edge_triangle EdgeTriangleClub
edge_triangle_agrees = agrees_by_pairs (λ x c. leb 1 c) EdgeTriangleClub (λ n l N S small. (pairs_edges n l N S small, edges_pair n l N S small))

pub vertex_triangle_agrees : Agrees vertex_triangle VertexTriangleClub
vertex_triangle_agrees n l S a N small i = (
  (λ g. (pairs_club n l N S small g.all_pair, λ x t. corner n l N S small x t (and_right (has S x) (in_triangle l S x) (g.all_fit x t)))),
  λ (club, corners). record {
    members = small;
    some = (a, i);
    all_fit = λ x t. let f = cornered n l N S small x (corners x t) in grind (arith, nat_tests);
    all_pair = club_pairs n l N S small club;
  },
)
