-- What a line with a given letter says, by the fields behind the letter.
use Rattle.std.proofs.Common.{◌≡◌, ℕ, ◌≤◌, true, false, eqb, List, [], ◌∷◌, length, sym, refl, arith}
use Rattle.std.proofs.lemmas.Bool.{eqb-false, eqb-true}
use Rattle.std.proofs.lemmas.List.{append-nil, nil_from_length}
use Rattle.vocabulary.specs.declared.model_kind.ModelKind.{ModelKind}
use Rattle.vocabulary.specs.ModelKinds.{model_letter}
use Rattle.command.specs.Grammar.{Spelled, network, link, sheet, Fields, Form}
use Rattle.command.specs.Scan.{Field, ModelField}
use Rattle.command.proofs.Numbers.{one_field, field_last, field_spaced}
use Rattle.command.proofs.Models.{one_model}
use Rattle.command.proofs.Sheets.{Continued, next, fields_none}

-- the bytes say the command c and no other
abbrev pub Says : Spelled → List ℕ → Type 0
Says c line = Form c line × ((d : Spelled) → Form d line → d ≡ c)

-- two lines that are one begin with one letter
same_head : {a b : ℕ} {xs ys : List ℕ} → a ∷ xs ≡ b ∷ ys → a ≡ b
same_head e = cc

-- `N`, a number, a model and the model's parameter
record Numbered (d : Spelled) (line : List ℕ) : Type 0 where
  pub n : ℕ
  pub m : ModelKind
  pub t : ℕ
  pub rest : List ℕ
  pub more : List ℕ
  pub said : d ≡ network n m t
  pub size : Field line n rest
  pub model : ModelField rest m more
  pub parameter : Field more t []

network_read : (d : Spelled) (line : List ℕ) → Form d (78 ∷ line) → Numbered d line
network_read (network n m t) line p =
    let es = p.1.0 in
    record {
      n = n;
      m = m;
      t = t;
      rest = 32 ∷ model_letter m ∷ 32 ∷ es;
      more = 32 ∷ es;
      said = refl;
      size = field_spaced p.1.1.0 (cc p.1.1.2);
      model = refl;
      parameter = field_last p.1.1.1 refl;
    }
network_read (link a b) line p = absurd (omega (arith, same_head p.1.1.2))
network_read (sheet xs) line p = absurd (omega (arith, same_head p.1.0))

-- what follows a number that was read
model_next : {d : Spelled} {n : ℕ} {line rest : List ℕ} → Field line n rest → (r : Numbered d line)
    → (r.n ≡ n) × ModelField rest r.m r.more
model_next p r = let one = one_field r.size p in (one.0, cc (one.1, r.model))

-- what follows a model that was read
parameter_next : {d : Spelled} {n : ℕ} {m : ModelKind} {line rest more : List ℕ} → Field line n rest → ModelField rest m more
    → (r : Numbered d line) → (r.m ≡ m) × Field more r.t []
parameter_next {d} {n} {m} {line} {rest} {more} p q r =
    let one = one_model rest r.m m r.more more (model_next p r).1 q in
    (one.0, rw one.1 at r.parameter)

pub network_made : {n t : ℕ} {m : ModelKind} {line rest more : List ℕ} → Field line n rest → ModelField rest m more
    → Field more t [] → Says (network n m t) (78 ∷ line)
network_made p q s = (
  (p.digits, (s.digits, (p.numeral, s.numeral, cc (p.whole, q, s.whole, append-nil s.digits)))),
  λ d f.
      let r = network_read d _ f in
      let last = parameter_next p q r in
      cc (r.said, (model_next p r).0, last.0, (one_field last.1 s).0),
)

-- the first number is missing
pub network_none : {line : List ℕ} → ((n : ℕ) (rest : List ℕ) → Field line n rest → ⊥) → (d : Spelled) → Form d (78 ∷ line) → ⊥
network_none none d f = let r = network_read d _ f in none r.n r.rest r.size

-- the first number is not followed by a model
pub network_unnamed : {n : ℕ} {line rest : List ℕ} → Field line n rest
    → ((m : ModelKind) (more : List ℕ) → ModelField rest m more → ⊥) → (d : Spelled) → Form d (78 ∷ line) → ⊥
network_unnamed p none d f = let r = network_read d _ f in none r.m r.more (model_next p r).1

-- the model is not followed by a last number
pub network_refused : {n : ℕ} (m : ModelKind) {line rest more : List ℕ} → Field line n rest → ModelField rest m more
    → ((t : ℕ) → Field more t [] → ⊥) → (d : Spelled) → Form d (78 ∷ line) → ⊥
network_refused m p q none d f = let r = network_read d _ f in none r.t (parameter_next p q r).1

-- `L` and two numbers
record Linked (d : Spelled) (line : List ℕ) : Type 0 where
  pub a : ℕ
  pub b : ℕ
  pub rest : List ℕ
  pub said : d ≡ link a b
  pub first : Field line a rest
  pub second : Field rest b []

link_read : (d : Spelled) (line : List ℕ) → Form d (76 ∷ line) → Linked d line
link_read (network n m t) line p = absurd (omega (arith, same_head p.1.1.2))
link_read (link x y) line p =
    record {
      a = x;
      b = y;
      rest = 32 ∷ p.1.0;
      said = refl;
      first = field_spaced p.1.1.0 (cc p.1.1.2);
      second = field_last p.1.1.1 refl;
    }
link_read (sheet xs) line p = absurd (omega (arith, same_head p.1.0))

-- what follows a number that was read
second_next : {d : Spelled} {a : ℕ} {line rest : List ℕ} → Field line a rest → (r : Linked d line) → (r.a ≡ a) × Field rest r.b []
second_next p r = let one = one_field r.first p in (one.0, rw one.1 at r.second)

pub link_made : {a b : ℕ} {line rest : List ℕ} → Field line a rest → Field rest b [] → Says (link a b) (76 ∷ line)
link_made p q = (
  (p.digits, (q.digits, (p.numeral, q.numeral, cc (p.whole, q.whole, append-nil q.digits)))),
  λ d f.
      let r = link_read d _ f in
      let second = second_next p r in
      cc (r.said, second.0, (one_field second.1 q).0),
)

-- the first number is missing
pub link_none : {line : List ℕ} → ((n : ℕ) (rest : List ℕ) → Field line n rest → ⊥) → (d : Spelled) → Form d (76 ∷ line) → ⊥
link_none none d f = let r = link_read d _ f in none r.a r.rest r.first

-- the first number is not followed by a last one
pub link_refused : {a : ℕ} {line rest : List ℕ} → Field line a rest → ((n : ℕ) → Field rest n [] → ⊥) → (d : Spelled) → Form d (76 ∷ line) → ⊥
link_refused p none d f = let r = link_read d _ f in none r.b (second_next p r).1

-- `K` and any number of numbers
record Marked (d : Spelled) (line : List ℕ) : Type 0 where
  pub xs : List ℕ
  pub said : d ≡ sheet xs
  pub fields : Fields line xs

sheet_read : (d : Spelled) (line : List ℕ) → Form d (75 ∷ line) → Marked d line
sheet_read (network n m t) line p = absurd (omega (arith, same_head p.1.1.2))
sheet_read (link a b) line p = absurd (omega (arith, same_head p.1.1.2))
sheet_read (sheet ys) line p =
    let same : line ≡ p.0 = cc p.1.0 in
    record { xs = ys; said = refl; fields = rw same p.1.1 }

-- no byte is left
pub sheet_made : {xs line rest : List ℕ} → Continued line xs rest → true ≡ eqb (length rest) 0 → Says (sheet xs) (75 ∷ line)
sheet_made {xs} {line} {rest} h e =
    let end = nil_from_length rest (eqb-true _ _ (sym e)) in
    let made : Fields line xs = rw append-nil at (h.made [] end) in (
      (line, (refl, made)),
      λ d p.
          let r = sheet_read d line p in
          let back = h.only r.xs r.fields in
          cc (r.said, back.1.0, fields_none rest back.0 end back.1.1, append-nil xs),
    )

-- bytes are left, and no number of one byte is in front of them
pub sheet_refused : {xs line rest : List ℕ} → Continued line xs rest → false ≡ eqb (length rest) 0
    → ((x : ℕ) (more : List ℕ) → x ≤ 255 → Field rest x more → ⊥) → (d : Spelled) → Form d (75 ∷ line) → ⊥
sheet_refused {xs} {line} {rest} h some none d p =
    let r = sheet_read d line p in
    let n = next rest _ (eqb-false _ _ (sym some)) (h.only r.xs r.fields).1.1 in
    none n.x n.rest n.small n.field
