-- A loop over the members of a set: what is true of those that have come. Assumes nothing.
use Rattle.std.proofs.Common.{◌≡◌, ℕ, ◌<◌, Bool, T, sym, ap, ◌∙◌, subst, inl, inr, arith}
use Rattle.std.proofs.lemmas.Bool.{cases_eq}
use Rattle.std.proofs.lemmas.Bool.Decides.{nat_tests}
use Rattle.std.specs.Prelude.{Option, Some, None, MatchOption, MatchBool, IfSome, List, [], ◌∷◌, true, false}
use Rattle.std.specs.Iterator.{Yields, FindsItem, ChecksAny}
use Rattle.std.specs.List.{FoldsTo}
use Rattle.std.specs.Fn.{CalledAt}
use denote.Param.Members.{Mut, Called}
use denote.Ref.{Bor}
use Rattle.rules.specs.Sets.{has, EmptySet, Leaves, Lowest}
use Rattle.rules.specs.Standings.{FirstNot}
use Rattle.sets.specs.Steps.{Taken}
use Rattle.sets.specs.declared.member_set.MemberSet.{MemberSet}
use Rattle.sets.specs.declared.members.Members.{Members}

-- of the members of S, those that are still to come are rest, and P is true of all others
pub record Swept (S : ℕ) (P : ℕ → Type 0) (rest : ℕ) : Type 0 where
  pub within : (a : ℕ) → T (has rest a) → T (has S a)
  pub passed : (a : ℕ) → T (has S a) → (T (has rest a) → ⊥) → P a

-- the members of a set by another name
pub same_set : (S R : ℕ) (p : ℕ → Bool) → S ≡ R → ((a : ℕ) → has R a ≡ p a) → (a : ℕ) → has S a ≡ p a
same_set S R p e R_is a = ap (λ (w : ℕ). has w a) e ∙ R_is a

pub sweep_start : (S : ℕ) (P : ℕ → Type 0) → Swept S P S
sweep_start S P = record { within = λ a t. t; passed = λ a t n. absurd (n t) }

-- all before the smallest one to come have come
pub sweep_earlier : (S : ℕ) (P : ℕ → Type 0) (rest v : ℕ) → Swept S P rest → Lowest rest v → (a : ℕ) → T (has S a) → a < v → P a
sweep_earlier S P rest v w low a t h = w.passed a t (λ r. let g = low.least a r in omega arith)

pub sweep_step : (S : ℕ) (P : ℕ → Type 0) (rest v left : ℕ) → Swept S P rest → Leaves rest v left → P v → Swept S P left
sweep_step S P rest v left w leaves here = record {
  within = λ a t. let l = leaves a in w.within a (grind (arith, nat_tests));
  passed = λ a t n. elim (cases_eq a v) [ inl e ↦ subst P (sym e) here | inr d ↦ let l = leaves a in w.passed a t (λ r. grind (arith, nat_tests)) ];
}

pub sweep_end : (S : ℕ) (P : ℕ → Type 0) (rest : ℕ) → Swept S P rest → EmptySet rest → (a : ℕ) → T (has S a) → P a
sweep_end S P rest w none a t = w.passed a t (subst T (none a))

-- ---- a search among the members of a set, where a call of f at x leaves f as it is and answers whether x is what is looked for

abbrev pub takes : Members → Option ℕ → Members → Type 0
takes s r t = Taken s.rest.word r t.rest.word

module _ {F : Type 0} (f : F) (set : MemberSet) (P : ℕ → Type 0) where
  abbrev S : ℕ
  S = set.word

  start : (s : Members) → s.rest ≡ set → Swept S P s.rest.word
  start s e = subst (λ (z : MemberSet). Swept S P z.word) (sym e) (sweep_start S P)

  -- members that came, each passed by f
  sweep_run : (R : F → ℕ → F → Type 0) → ((x : ℕ) (q : F) → R f x q → (q ≡ f) × P x) → (xs : List ℕ) (s t : Members) (j : F)
      → Swept S P s.rest.word → Yields takes s xs t → FoldsTo R f xs j → Swept S P t.rest.word × (j ≡ f)
  sweep_run R passed [] s t j w e m = (subst (λ (z : Members). Swept S P z.rest.word) e w, sym m)
  sweep_run R passed (x ∷ xs) s t j w (i, step, more) (q, call, calls) =
      let here = passed x q call in
      sweep_run R passed xs i t j (sweep_step S P s.rest.word x i.rest.word w step.1 here.1) more (subst (λ (z : F). FoldsTo R z xs j) here.0 calls)

  -- `find` of one of which P is not true
  pub find_first : (g : Mut F (Bor ℕ × Unit {0}) Bool) → ((x : ℕ) (q : F) → CalledAt g f x true q → P x → ⊥) → ((x : ℕ) (q : F) → CalledAt g f x false q → (q ≡ f) × P x)
      → (s u : Members) (r : Option ℕ) → s.rest ≡ set → FindsItem takes g s f r u → MatchOption r ((a : ℕ) → T (has set.word a) → P a) (FirstNot set.word P)
  find_first g found passed s u r e (xs, j, (t, ys, last), calls, at) = ends r last at
    where
      run : Swept S P t.rest.word × (j ≡ f)
      run = sweep_run (λ p x q. CalledAt g p x false q) passed xs s t j (start s e) ys calls

      ends : (r : Option ℕ) → takes t r u → IfSome r (λ x. (h : F) × CalledAt g j x true h) → MatchOption r ((a : ℕ) → T (has S a) → P a) (FirstNot S P)
      ends None last at = sweep_end S P t.rest.word run.0 last.0
      ends (Some v) last (h, call) = record {
        member = run.0.within v last.0.member;
        fails = found v h (subst (λ (z : F). CalledAt g z v true h) run.1 call);
        earlier = sweep_earlier S P t.rest.word v run.0 last.0;
      }

-- whether Q is true of some member of S
abbrev pub AnyOf : ℕ → (ℕ → Type 0) → Bool → Type 0
AnyOf S Q r = MatchBool r ((a : ℕ) × T (has S a) × Q a) ((a : ℕ) → T (has S a) → Q a → ⊥)

-- `any` of which Q is true
pub any_of : {F : Type 0} (f : F) (set : MemberSet) (Q : ℕ → Type 0) (g : Mut F (ℕ × Unit {0}) Bool) → ((x : ℕ) (q : F) → Called g f (x, tt) true q → Q x)
    → ((x : ℕ) (q : F) → Called g f (x, tt) false q → (q ≡ f) × (Q x → ⊥)) → (s u : Members) (r : Bool) → s.rest ≡ set → ChecksAny takes g s f r u → AnyOf set.word Q r
any_of {F} f set Q g found passed s u r e (xs, o, j, (t, ys, last), calls, at) = ends o last at
  where
    run : Swept set.word (λ x. Q x → ⊥) t.rest.word × (j ≡ f)
    run = sweep_run f set (λ x. Q x → ⊥) (λ p x q. Called g p (x, tt) false q) passed xs s t j (start f set (λ x. Q x → ⊥) s e) ys calls

    ends : (o : Option ℕ) → takes t o u → MatchOption o (r ≡ false) (λ x. (r ≡ true) × ((h : F) × Called g j (x, tt) true h)) → AnyOf set.word Q r
    ends None last never = subst (AnyOf set.word Q) (sym never) (sweep_end set.word (λ x. Q x → ⊥) t.rest.word run.0 last.0)
    ends (Some v) last (yes', (h, call)) =
        let it = found v h (subst (λ (z : F). Called g z (v, tt) true h) run.1 call) in
        subst (AnyOf set.word Q) (sym yes') (v, run.0.within v last.0.member, it)
