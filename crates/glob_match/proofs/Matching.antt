-- Going back to the last `*` alone.
use Rattle.std.proofs.Common.{◌≡◌, ℕ, zero, suc, ◌+◌, ◌≤◌, Bool, true, false, ◌&&◌, ◌||◌, List, [], ◌∷◌, ◌++◌, length, drop, Option, Some, None, refl, sym, ap, ◌∙◌, arith, true≢false, length-drop, length-append, append_assoc}
use Rattle.byte_text.specs.Globs.{Token, any_list, one_char, fits as items_fit, tokens_meet}
use Rattle.glob_match.specs.Tokens.{with_token, Begins}
use Rattle.glob_match.specs.Matches.{some_end}

-- it takes one character
abbrev pub IsOne : Token → Type 0
IsOne any_list = ⊥
IsOne (one_char others items) = Unit {0}

abbrev pub fits : Token → ℕ → Bool
fits any_list c = false
fits (one_char others items) c = items_fit others items c

abbrev AreOnes : List Token → Type 0
AreOnes [] = Unit {0}
AreOnes (p ∷ ps) = IsOne p × AreOnes ps

-- so many parts of one character were met: the parts that are left, and the characters that are left
pub record Gone (ps : List Token) (name : List ℕ) (left : Option (List Token)) (rest : List ℕ) : Type 0 where
  pub mid : List Token
  pub others : List Token
  pub are_ones : AreOnes mid
  pub parts : ps ≡ mid ++ others
  pub left_is : left ≡ Some others
  pub here : rest ≡ drop (length mid) name
  pub long : length mid ≤ length name
  pub same : tokens_meet ps name ≡ tokens_meet others rest

pub at_start : (ps : List Token) (name : List ℕ) (left : Option (List Token)) → left ≡ Some ps → Gone ps name left name
at_start ps name left e = record { mid = []; others = ps; are_ones = tt; parts = refl; left_is = e; here = refl; long = omega arith; same = refl }

-- a part of one character asks for the first one
one_meets : (p : Token) → IsOne p → (ps : List Token) (c : ℕ) (cs : List ℕ) → tokens_meet (p ∷ ps) (c ∷ cs) ≡ (fits p c && tokens_meet ps cs)
one_meets any_list i ps c cs = absurd i
one_meets (one_char others items) i ps c cs = refl

one_none : (p : Token) → IsOne p → (ps : List Token) → tokens_meet (p ∷ ps) [] ≡ false
one_none any_list i ps = absurd i
one_none (one_char others items) i ps = refl

and_true : (a b : Bool) → (a && b) ≡ true → (a ≡ true) × (b ≡ true)
and_true true b e = (refl, e)
and_true false b e = absurd (true≢false (sym e))

-- parts of one character take as many characters as they are
ones_meet : (mid others : List Token) (name : List ℕ) → AreOnes mid → tokens_meet (mid ++ others) name ≡ true → (length mid ≤ length name) × (tokens_meet others (drop (length mid) name) ≡ true)
ones_meet [] others name a e = (omega arith, e)
ones_meet (p ∷ mid) others [] a e = absurd (true≢false (sym e ∙ one_none p a.0 (mid ++ others)))
ones_meet (p ∷ mid) others (c ∷ name) a e =
    let h = and_true (fits p c) (tokens_meet (mid ++ others) name) (sym (one_meets p a.0 (mid ++ others) c name) ∙ e) in
    let t = ones_meet mid others name a.1 h.1 in
    (omega (arith, t.0), t.1)

or_true : (a b : Bool) → a ≡ true → (a || b) ≡ true
or_true true b e = refl
or_true false b e = absurd (true≢false (sym e))

or_false : (a : Bool) → (a || false) ≡ true → a ≡ true
or_false true e = refl
or_false false e = e

or_right : (a b : Bool) → b ≡ true → (a || b) ≡ true
or_right true b e = refl
or_right false b e = e

-- a test that an end passes, at an end
pub end_from : (test : List ℕ → Bool) (name : List ℕ) (k : ℕ) → k ≤ length name → test (drop k name) ≡ true → some_end test name ≡ true
end_from test [] zero l e = or_true (test []) false e
end_from test [] (suc k) l e = absurd (omega (arith, l))
end_from test (c ∷ name) zero l e = or_true (test (c ∷ name)) (some_end test name) e
end_from test (c ∷ name) (suc k) l e = or_right (test (c ∷ name)) (some_end test name) (end_from test name k (omega (arith, l)) e)

-- the place of an end that passes
record Passes (test : List ℕ → Bool) (name : List ℕ) : Type 0 where
  pub at : ℕ
  pub within : at ≤ length name
  pub passes : test (drop at name) ≡ true

or_cases : (test : List ℕ → Bool) (c : ℕ) (name : List ℕ) (b : Bool) → test (c ∷ name) ≡ b → (some_end test name ≡ true → Passes test name) → (b || some_end test name) ≡ true → Passes test (c ∷ name)
or_cases test c name true e go h = record { at = 0; within = omega arith; passes = e }
or_cases test c name false e go h = let p = go h in record { at = suc p.at; within = omega (arith, p.within); passes = p.passes }

passes : (test : List ℕ → Bool) (name : List ℕ) → some_end test name ≡ true → Passes test name
passes test [] e = record { at = 0; within = omega arith; passes = or_false (test []) e }
passes test (c ∷ name) e = or_cases test c name (test (c ∷ name)) refl (passes test name) e

-- two tests that follow from each other
both : (a b : Bool) → (a ≡ true → b ≡ true) → (b ≡ true → a ≡ true) → a ≡ b
both true b f g = sym (f refl)
both false true f g = g refl
both false false f g = refl

never : (a : Bool) → (a ≡ true → ⊥) → a ≡ false
never true h = absurd (h refl)
never false h = refl

none : (m n : ℕ) → drop m [] ≡ drop {A = ℕ} n []
none zero zero = refl
none zero (suc n) = refl
none (suc m) zero = refl
none (suc m) (suc n) = refl

some_is : {x y : List Token} → Some x ≡ Some y → x ≡ y
some_is e = cc

none_some : {x : List Token} → None ≡ Some x → ⊥
none_some e = absurd cc

none_with : (others : List Token) (part : Token) → Some others ≡ with_token part None → ⊥
none_with others part e = absurd cc

AreOnes-append : (mid : List Token) (p : Token) → AreOnes mid → IsOne p → AreOnes (mid ++ p ∷ [])
AreOnes-append [] p a i = (i, tt)
AreOnes-append (q ∷ mid) p a i = (a.0, AreOnes-append mid p a.1 i)

dropped : (name : List ℕ) (m n : ℕ) → drop n (drop m name) ≡ drop (m + n) name
dropped name zero n = ap (λ (k : ℕ). drop k name) (omega arith)
dropped [] (suc m) n = none n (suc m + n)
dropped (c ∷ name) (suc m) n =
    let e : suc m + n ≡ suc (m + n) = omega arith in
    rw e (dropped name m n)

shifted : (name : List ℕ) (n p q : ℕ) → drop (p + q) (drop n name) ≡ drop q (drop n (drop p name))
shifted name n p q =
    let e : n + (p + q) ≡ p + n + q = omega arith in
    dropped name n (p + q) ∙ ap (λ (k : ℕ). drop k name) e ∙ sym (dropped name (p + n) q) ∙ ap (drop q) (sym (dropped name p n))

length-drop' : (m : ℕ) (name : List ℕ) → m ≤ length name → length (drop m name) + m ≡ length name
length-drop' m name l = omega (arith, length-drop m name, l)

-- at a `*`: whatever stood before it, an end behind it decides
pub at_star : (ps qs : List Token) (name : List ℕ) (left : Option (List Token)) (rest : List ℕ) → Gone ps name left rest → left ≡ Some (any_list ∷ qs)
    → (tokens_meet ps name ≡ some_end (tokens_meet qs) rest) × (some_end (tokens_meet ps) name ≡ some_end (tokens_meet qs) rest)
at_star ps qs name left rest g e =
    let others : g.others ≡ any_list ∷ qs = some_is (sym g.left_is ∙ e) in
    let now : tokens_meet ps name ≡ some_end (tokens_meet qs) rest = g.same ∙ ap (λ (x : List Token). tokens_meet x rest) others in
    let whole : ps ≡ g.mid ++ any_list ∷ qs = g.parts ∙ ap (λ (x : List Token). g.mid ++ x) others in
    let n = length g.mid in (
      now,
      both (some_end (tokens_meet ps) name) (some_end (tokens_meet qs) rest)
          (λ t.
          let p = passes (tokens_meet ps) name t in
          let m = ones_meet g.mid (any_list ∷ qs) (drop p.at name) g.are_ones (ap (λ (x : List Token). tokens_meet x (drop p.at name)) (sym whole) ∙ p.passes) in
          let q = passes (tokens_meet qs) (drop n (drop p.at name)) m.1 in
          let lens = length-drop' p.at name p.within in
          let lens2 = length-drop' n (drop p.at name) m.0 in
          let lens3 = length-drop' n name g.long in
          let back : drop (p.at + q.at) rest ≡ drop q.at (drop n (drop p.at name)) = ap (drop (p.at + q.at)) g.here ∙ shifted name n p.at q.at in
          end_from (tokens_meet qs) rest (p.at + q.at) (omega (arith, q.within, lens, lens2, lens3, ap length g.here)) (ap (tokens_meet qs) back ∙ q.passes))
          (λ t. end_from (tokens_meet ps) name 0 (omega arith) (now ∙ t)),
    )

abbrev token_of : {all rest : Option (List Token)} {c : ℕ} {hit : Bool} → Begins all rest c hit → Token
token_of b = one_char b.others b.items

begins_none : (rest : Option (List Token)) (others : List Token) (part : Token) → IsOne part → Some others ≡ with_token part rest → tokens_meet others [] ≡ true → ⊥
begins_none None others part i e t = absurd cc
begins_none (Some ps) others part i e t =
    let same : others ≡ part ∷ ps = some_is e in
    true≢false (sym t ∙ ap (λ (x : List Token). tokens_meet x []) same ∙ one_none part i ps)

-- one more part of one character
pub goes_on : (ps : List Token) (name : List ℕ) (left others : Option (List Token)) (rest : List ℕ) (c : ℕ) (after : List ℕ) → Gone ps name left rest → rest ≡ c ∷ after → Begins left others c true → Gone ps name others after
goes_on ps name left None rest c after g e b = absurd (none_with g.others (token_of b) (sym g.left_is ∙ b.same))
goes_on ps name left (Some qs) rest c after g e b =
    let same : g.others ≡ (token_of b) ∷ qs = some_is (sym g.left_is ∙ b.same) in
    let n = length g.mid in
    let count : length (g.mid ++ (token_of b) ∷ []) ≡ n + 1 = length-append g.mid ((token_of b) ∷ []) in
    let lens = length-drop' n name g.long in
    let behind : length (drop n name) ≡ suc (length after) = ap length (sym g.here ∙ e) in
    let here : after ≡ drop (n + 1) name = ap (drop 1) (sym e ∙ g.here) ∙ dropped name n 1 in
    record {
      mid = g.mid ++ (token_of b) ∷ [];
      others = qs;
      are_ones = AreOnes-append g.mid (token_of b) g.are_ones tt;
      parts = g.parts ∙ ap (λ (x : List Token). g.mid ++ x) same ∙ sym (append_assoc g.mid ((token_of b) ∷ []) qs);
      left_is = refl;
      here = here ∙ ap (λ (k : ℕ). drop k name) (sym count);
      long = omega (arith, count, lens, behind);
      same = g.same ∙ ap (λ (x : List Token). tokens_meet x rest) same ∙ ap (tokens_meet ((token_of b) ∷ qs)) e ∙ one_meets (token_of b) tt qs c after ∙ ap (λ (x : Bool). x && tokens_meet qs after) (sym b.hits);
    }

-- a character that does not meet its part
pub misses : (ps : List Token) (name : List ℕ) (left others : Option (List Token)) (rest : List ℕ) (c : ℕ) (after : List ℕ) → Gone ps name left rest → rest ≡ c ∷ after → Begins left others c false → tokens_meet ps name ≡ false
misses ps name left None rest c after g e b = absurd (none_with g.others (token_of b) (sym g.left_is ∙ b.same))
misses ps name left (Some qs) rest c after g e b =
    let same : g.others ≡ (token_of b) ∷ qs = some_is (sym g.left_is ∙ b.same) in
    g.same ∙ ap (λ (x : List Token). tokens_meet x rest) same ∙ ap (tokens_meet ((token_of b) ∷ qs)) e ∙ one_meets (token_of b) tt qs c after ∙ ap (λ (x : Bool). x && tokens_meet qs after) (sym b.hits)

-- the pattern has ended
pub pattern_ends : (ps : List Token) (name : List ℕ) (left : Option (List Token)) (rest : List ℕ) → Gone ps name left rest → left ≡ Some [] → tokens_meet ps name ≡ tokens_meet [] rest
pattern_ends ps name left rest g e = g.same ∙ ap (λ (x : List Token). tokens_meet x rest) (some_is (sym g.left_is ∙ e))

pub not_broken : (ps : List Token) (name : List ℕ) (left : Option (List Token)) (rest : List ℕ) → Gone ps name left rest → left ≡ None → ⊥
not_broken ps name left rest g e = none_some (sym e ∙ g.left_is)

-- at the end of the name, before a part of one character
pub at_name_end : (ps : List Token) (name : List ℕ) (left others : Option (List Token)) (rest : List ℕ) (c : ℕ) (hit : Bool) → Gone ps name left rest → rest ≡ [] → Begins left others c hit → some_end (tokens_meet ps) name ≡ false
at_name_end ps name left others rest c hit g e b = never (some_end (tokens_meet ps) name) (λ t.
    let p = passes (tokens_meet ps) name t in
    let m = ones_meet g.mid g.others (drop p.at name) g.are_ones (ap (λ (x : List Token). tokens_meet x (drop p.at name)) (sym g.parts) ∙ p.passes) in
    let lens = length-drop' p.at name p.within in
    let lens3 = length-drop' (length g.mid) name g.long in
    let empty : length (drop (length g.mid) name) ≡ 0 = ap length (sym g.here ∙ e) in
    let here : p.at ≡ 0 = omega (arith, m.0, lens, lens3, empty) in
    let now : tokens_meet ps name ≡ true = ap (λ (k : ℕ). tokens_meet ps (drop k name)) (sym here) ∙ p.passes in
    begins_none others g.others (token_of b) tt (sym g.left_is ∙ b.same) (sym (g.same ∙ ap (tokens_meet g.others) e) ∙ now))

-- the same, as a function says it
pub star_found : (ps : List Token) (name : List ℕ) (left behind : Option (List Token)) (rest : List ℕ) → Gone ps name left rest → left ≡ with_token any_list behind
    → (qs : List Token) × (behind ≡ Some qs) × (tokens_meet ps name ≡ some_end (tokens_meet qs) rest) × (some_end (tokens_meet ps) name ≡ some_end (tokens_meet qs) rest)
star_found ps name left None rest g e = absurd (none_some (sym e ∙ g.left_is))
star_found ps name left (Some qs) rest g e = let h = at_star ps qs name left rest g e in (qs, refl, h.0, h.1)

-- what is left decides
pub record Left (whole : Bool) (left : Option (List Token)) (name : List ℕ) : Type 0 where
  pub others : List Token
  pub left_is : left ≡ Some others
  pub same : whole ≡ some_end (tokens_meet others) name

pub met_here : (test : List ℕ → Bool) (name : List ℕ) → test name ≡ true → some_end test name ≡ true
met_here test name e = end_from test name 0 (omega arith) e

pub not_here : (test : List ℕ → Bool) (c : ℕ) (name : List ℕ) → test (c ∷ name) ≡ false → some_end test (c ∷ name) ≡ some_end test name
not_here test c name e = ap (λ (b : Bool). b || some_end test name) e

pub none_here : (test : List ℕ → Bool) → test [] ≡ false → some_end test [] ≡ false
none_here test e = rw e refl

pub short_fails : (test : List ℕ → Bool) (name : List ℕ) → some_end test name ≡ false → test name ≡ false
short_fails test name e = never (test name) (λ t. true≢false (sym (met_here test name t) ∙ e))
