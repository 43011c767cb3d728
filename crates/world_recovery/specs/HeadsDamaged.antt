-- What the log's definitions say of both sides, by their heads.
use Rattle.std.specs.Prelude.{nat_lt, if◌then◌else◌}
use Rattle.std.proofs.Common.{◌≡◌, ◌∙◌, ◌==◌, ℕ, Bool, true, false, [], ◌∷◌, length, Option, None, Some, option_map, refl, sym, ap, subst, arith}
use Rattle.std.proofs.lemmas.Bool.Decides.{nat_tests}
use Rattle.outside.specs.declared.sides.Side.{Side}
use Rattle.outside.specs.declared.sides.Side.TheVariants.{A, B}
use Rattle.outside.specs.Sides.{Sides, side_of}
use Rattle.append_log.specs.Heads.{start_of}
use Rattle.append_log.specs.declared.side_heads.Head.{Head}
use Rattle.append_log.specs.declared.side_heads.Head.TheVariants.{TooLong, Shut, Wrong, Open}
use Rattle.append_log.specs.declared.side_heads.Start.TheVariants.{Fresh, Standing, Damaged}
use Rattle.log_record.specs.Readings.{max_side, is_open, version_of, header_fault, too_long, wrong_header, equal_generations, no_header}
use Rattle.log_record.specs.Readings.{first_cause, cause_of, side_in_use}
use Rattle.world_recovery.specs.HeadsRead.{Says}

-- the first cause of six
abbrev Cause : Type 0
Cause = Option (Side × ℕ)

third : (a b c d e f : Cause) (x : Side × ℕ) → a ≡ None → b ≡ None → c ≡ Some x → first_cause (a ∷ b ∷ c ∷ d ∷ e ∷ f ∷ []) ≡ Some x
third a b c d e f x p q r = rw (p, q, r) refl

fourth : (a b c d e f : Cause) (x : Side × ℕ) → a ≡ None → b ≡ None → c ≡ None → d ≡ Some x → first_cause (a ∷ b ∷ c ∷ d ∷ e ∷ f ∷ []) ≡ Some x
fourth a b c d e f x p q r s = rw (p, q, r, s) refl

fifth : (a b c d e f : Cause) (x : Side × ℕ) → a ≡ None → b ≡ None → c ≡ None → d ≡ None → e ≡ Some x
    → first_cause (a ∷ b ∷ c ∷ d ∷ e ∷ f ∷ []) ≡ Some x
fifth a b c d e f x p q r s t = rw (p, q, r, s, t) refl

last : (a b c d e f x : Cause) → a ≡ None → b ≡ None → c ≡ None → d ≡ None → e ≡ None → f ≡ x
    → first_cause (a ∷ b ∷ c ∷ d ∷ e ∷ f ∷ []) ≡ first_cause (x ∷ [])
last a b c d e f x p q r s t u = rw (p, q, r, s, t, u) refl

-- the causes of one side
module _ (s : Sides) (side : Side) where
  long : nat_lt max_side (length (side_of s side)) ≡ true → too_long s side ≡ Some (side, max_side)
  long e = rw e refl

  short : nat_lt max_side (length (side_of s side)) ≡ false → too_long s side ≡ None
  short e = rw e refl

  wrong : (place : ℕ) → is_open (side_of s side) ≡ true → header_fault (side_of s side) ≡ Some place → wrong_header s side ≡ Some (side, place)
  wrong place o f = rw o (ap (option_map (λ place. (side, place))) f)

  right : is_open (side_of s side) ≡ true → header_fault (side_of s side) ≡ None → wrong_header s side ≡ None
  right o f = rw o (ap (option_map (λ place. (side, place))) f)

  shut : is_open (side_of s side) ≡ false → wrong_header s side ≡ None
  shut o = rw o refl

-- and of both
module _ (s : Sides) where
  too_long_a : Says s.a TooLong → cause_of s ≡ Some (A, max_side)
  too_long_a a = ap (λ (x : Cause). first_cause (x ∷ too_long s B ∷ wrong_header s A ∷ wrong_header s B ∷ equal_generations s ∷ no_header s ∷ []))
      (long s A a)

  too_long_b : nat_lt max_side (length s.a) ≡ false → Says s.b TooLong → cause_of s ≡ Some (B, max_side)
  too_long_b a b =
      ap (λ (x : Cause). first_cause (x ∷ too_long s B ∷ wrong_header s A ∷ wrong_header s B ∷ equal_generations s ∷ no_header s ∷ [])) (short s A a)
      ∙ ap (λ (x : Cause). first_cause (x ∷ wrong_header s A ∷ wrong_header s B ∷ equal_generations s ∷ no_header s ∷ [])) (long s B b)

  wrong_a : (place : ℕ) → Says s.a (Wrong place) → nat_lt max_side (length s.b) ≡ false → cause_of s ≡ Some (A, place)
  wrong_a place a b = third (too_long s A) (too_long s B) (wrong_header s A) (wrong_header s B) (equal_generations s) (no_header s) (A, place)
      (short s A a.0) (short s B b) (wrong s A place a.1 a.2)

  wrong_b : (place : ℕ) → nat_lt max_side (length s.a) ≡ false → wrong_header s A ≡ None → Says s.b (Wrong place) → cause_of s ≡ Some (B, place)
  wrong_b place a right_a b = fourth (too_long s A) (too_long s B) (wrong_header s A) (wrong_header s B) (equal_generations s) (no_header s)
      (B, place) (short s A a) (short s B b.0) right_a (wrong s B place b.1 b.2)

  -- two open sides
  both_equal : (v g n w h m : ℕ) → Says s.a (Open v g n) → Says s.b (Open w h m) → (g == h) ≡ true → cause_of s ≡ Some (B, 8)
  both_equal v g n w h m a b is =
      fifth (too_long s A) (too_long s B) (wrong_header s A) (wrong_header s B) (equal_generations s) (no_header s) (B, 8) (short s A a.0)
      (short s B b.0) (right s A a.1 a.2) (right s B b.1 b.2) (rw (a.1, b.1, a.3, b.3, is) refl)

  both_fine : (v g n w h m : ℕ) → Says s.a (Open v g n) → Says s.b (Open w h m) → (g == h) ≡ false → cause_of s ≡ None
  both_fine v g n w h m a b is =
      last (too_long s A) (too_long s B) (wrong_header s A) (wrong_header s B) (equal_generations s) (no_header s) None (short s A a.0)
      (short s B b.0) (right s A a.1 a.2) (right s B b.1 b.2) (rw (a.1, b.1, a.3, b.3, is) refl)
      (rw a.1 refl)

  -- one
  a_fine : (v g n m : ℕ) → Says s.a (Open v g n) → Says s.b (Shut m) → (cause_of s ≡ None) × (side_in_use s ≡ Some A)
  a_fine v g n m a b = (
    last (too_long s A) (too_long s B) (wrong_header s A) (wrong_header s B) (equal_generations s) (no_header s) None (short s A a.0) (short s B b.0)
        (right s A a.1 a.2) (shut s B b.1) (rw (a.1, b.1) refl) (rw a.1 refl),
    rw (a.1, b.1) refl,
  )

  b_fine : (n w h m : ℕ) → Says s.a (Shut n) → Says s.b (Open w h m) → (cause_of s ≡ None) × (side_in_use s ≡ Some B)
  b_fine n w h m a b = (
    last (too_long s A) (too_long s B) (wrong_header s A) (wrong_header s B) (equal_generations s) (no_header s) None (short s A a.0) (short s B b.0)
        (shut s A a.1) (right s B b.1 b.2) (rw a.1 refl) (rw (a.1, b.1) refl),
    rw (a.1, b.1) refl,
  )

  -- none
  some_byte : (m : ℕ) → (m == 0) ≡ false → nat_lt 0 m ≡ true
  some_byte m e = grind (arith, nat_tests)

  none_open : (n m : ℕ) → Says s.a (Shut n) → Says s.b (Shut m) → (m == 0) ≡ false → cause_of s ≡ Some (A, 0)
  none_open n m a b some =
      last (too_long s A) (too_long s B) (wrong_header s A) (wrong_header s B) (equal_generations s) (no_header s) (Some (A, 0)) (short s A a.0)
      (short s B b.0) (shut s A a.1) (shut s B b.1) (rw a.1 refl)
      (rw (a.1, b.1, (ap (nat_lt 0) (sym b.2) ∙ some_byte m some)) refl)

  cause_as : (x side : Side) (p place : ℕ) → cause_of s ≡ Some (x, p) → Damaged x p ≡ Damaged side place → cause_of s ≡ Some (side, place)
  cause_as x side p place is e =
      let sides : x ≡ side = cc e in
      let places : p ≡ place = cc e in
      is ∙ ap (λ (y : Side). Some (y, p)) sides ∙ ap (λ (k : ℕ). Some (side, k)) places

  by_equal : (v g n w h m : ℕ) (side : Side) (place : ℕ) (t : Bool) → (g == h) ≡ t → Says s.a (Open v g n) → Says s.b (Open w h m)
      → (if t then Damaged B 8 else if nat_lt h g then Standing A v g n else Standing B w h m) ≡ Damaged side place → cause_of s ≡ Some (side, place)
  by_equal v g n w h m side place true is a b e = cause_as B side 8 place (both_equal v g n w h m a b is) e
  by_equal v g n w h m side place false is a b e = absurd (not_damaged (nat_lt h g) e)
    where
      not_damaged : (t : Bool) → (if t then Standing A v g n else Standing B w h m) ≡ Damaged side place → ⊥
      not_damaged true e = absurd (cc e)
      not_damaged false e = absurd (cc e)

  by_byte : (n m : ℕ) (side : Side) (place : ℕ) (t : Bool) → (m == 0) ≡ t → Says s.a (Shut n) → Says s.b (Shut m)
      → (if t then Fresh else Damaged A 0) ≡ Damaged side place → cause_of s ≡ Some (side, place)
  by_byte n m side place true is a b e = absurd (cc e)
  by_byte n m side place false is a b e = cause_as A side 0 place (none_open n m a b is) e

  -- damage that the heads tell
  pub heads_damaged : (a b : Head) (side : Side) (place : ℕ) → Says s.a a → Says s.b b → start_of a b ≡ Damaged side place
      → cause_of s ≡ Some (side, place)
  heads_damaged TooLong b side place says_a says_b e = cause_as A side max_side place (too_long_a says_a) e
  heads_damaged (Shut n) TooLong side place says_a says_b e = cause_as B side max_side place (too_long_b says_a.0 says_b) e
  heads_damaged (Wrong p) TooLong side place says_a says_b e = cause_as B side max_side place (too_long_b says_a.0 says_b) e
  heads_damaged (Open v g n) TooLong side place says_a says_b e = cause_as B side max_side place (too_long_b says_a.0 says_b) e
  heads_damaged (Wrong p) (Shut m) side place says_a says_b e = cause_as A side p place (wrong_a p says_a says_b.0) e
  heads_damaged (Wrong p) (Wrong q) side place says_a says_b e = cause_as A side p place (wrong_a p says_a says_b.0) e
  heads_damaged (Wrong p) (Open w h m) side place says_a says_b e = cause_as A side p place (wrong_a p says_a says_b.0) e
  heads_damaged (Shut n) (Wrong q) side place says_a says_b e = cause_as B side q place (wrong_b q says_a.0 (shut s A says_a.1) says_b) e
  heads_damaged (Open v g n) (Wrong q) side place says_a says_b e = cause_as B side q place (wrong_b q says_a.0 (right s A says_a.1 says_a.2) says_b) e
  heads_damaged (Open v g n) (Open w h m) side place says_a says_b e = by_equal v g n w h m side place (g == h) refl says_a says_b e
  heads_damaged (Open v g n) (Shut m) side place says_a says_b e = absurd (cc e)
  heads_damaged (Shut n) (Open w h m) side place says_a says_b e = absurd (cc e)
  heads_damaged (Shut n) (Shut m) side place says_a says_b e = by_byte n m side place (m == 0) refl says_a says_b e

  -- a side in use, which no cause stands in the way of
  pub record IsInUse (side : Side) (version : ℕ) : Type 0 where
    pub fine : cause_of s ≡ None
    pub used : side_in_use s ≡ Some side
    pub versioned : version_of (side_of s side) ≡ version
    pub short : nat_lt max_side (length (side_of s side)) ≡ false

  by_less : (v g n w h m : ℕ) (side : Side) (j k len : ℕ) (t u : Bool) → (g == h) ≡ t → nat_lt h g ≡ u → Says s.a (Open v g n)
      → Says s.b (Open w h m)
      → (if t then Damaged B 8 else if u then Standing A v g n else Standing B w h m) ≡ Standing side j k len → IsInUse side j
  by_less v g n w h m side j k len true u is less a b e = absurd (cc e)
  by_less v g n w h m side j k len false true is less a b e =
      let sides : A ≡ side = cc e in
      let versions : v ≡ j = cc e in
      subst (λ (x : Side). IsInUse x j) sides
      (record { fine = both_fine v g n w h m a b is; used = rw (a.1, b.1, a.3, b.3, less) refl; versioned = a.4 ∙ versions; short = a.0 })
  by_less v g n w h m side j k len false false is less a b e =
      let sides : B ≡ side = cc e in
      let versions : w ≡ j = cc e in
      subst (λ (x : Side). IsInUse x j) sides
      (record { fine = both_fine v g n w h m a b is; used = rw (a.1, b.1, a.3, b.3, less) refl; versioned = b.4 ∙ versions; short = b.0 })

  not_standing : (m : ℕ) (side : Side) (j k len : ℕ) (t : Bool) → (if t then Fresh else Damaged A 0) ≡ Standing side j k len → ⊥
  not_standing m side j k len true e = absurd (cc e)
  not_standing m side j k len false e = absurd (cc e)

  pub heads_used : (a b : Head) (side : Side) (j k len : ℕ) → Says s.a a → Says s.b b → start_of a b ≡ Standing side j k len → IsInUse side j
  heads_used TooLong b side j k len says_a says_b e = absurd (cc e)
  heads_used (Shut n) TooLong side j k len says_a says_b e = absurd (cc e)
  heads_used (Wrong p) TooLong side j k len says_a says_b e = absurd (cc e)
  heads_used (Open v g n) TooLong side j k len says_a says_b e = absurd (cc e)
  heads_used (Wrong p) (Shut m) side j k len says_a says_b e = absurd (cc e)
  heads_used (Wrong p) (Wrong q) side j k len says_a says_b e = absurd (cc e)
  heads_used (Wrong p) (Open w h m) side j k len says_a says_b e = absurd (cc e)
  heads_used (Shut n) (Wrong q) side j k len says_a says_b e = absurd (cc e)
  heads_used (Open v g n) (Wrong q) side j k len says_a says_b e = absurd (cc e)
  heads_used (Open v g n) (Open w h m) side j k len says_a says_b e =
      by_less v g n w h m side j k len (g == h) (nat_lt h g) refl refl says_a says_b e
  heads_used (Open v g n) (Shut m) side j k len says_a says_b e =
      let sides : A ≡ side = cc e in
      let versions : v ≡ j = cc e in
      let fine = a_fine v g n m says_a says_b in
      subst (λ (x : Side). IsInUse x j) sides (record { fine = fine.0; used = fine.1; versioned = says_a.4 ∙ versions; short = says_a.0 })
  heads_used (Shut n) (Open w h m) side j k len says_a says_b e =
      let sides : B ≡ side = cc e in
      let versions : w ≡ j = cc e in
      let fine = b_fine n w h m says_a says_b in
      subst (λ (x : Side). IsInUse x j) sides (record { fine = fine.0; used = fine.1; versioned = says_b.4 ∙ versions; short = says_b.0 })
  heads_used (Shut n) (Shut m) side j k len says_a says_b e = absurd (not_standing m side j k len (m == 0) e)
