-- How logs grow, and that whoever opens one finds it so.
use Rattle.std.proofs.Common.{◌≡◌, ◌∙◌, ◌≤◌, ◌+◌, ℕ, List, [], ◌∷◌, ◌++◌, length, refl, sym, ap, subst, inl, inr, append-nil, append_assoc, arith}
use Rattle.byte_text.specs.Names.{Bytes}
use Rattle.outside.specs.Sides.{Sides, side_of}
use Rattle.outside.specs.declared.sides.Side.{Side}
use Rattle.log_sides.specs.Texts.{StandsFor, committed}
use Rattle.append_log.specs.Heads.{head_of, start_of}
use Rattle.append_log.specs.Logs.{StandsIn}
use Rattle.append_log.specs.Once.{stands_once}
use Rattle.append_log.specs.declared.side_heads.Start.{Start}
use Rattle.append_log.specs.declared.side_heads.Start.TheVariants.{Standing}
use Rattle.journal.specs.Logs.{Grows, HasGrown, HoldsLog, HoldsOf, HoldsOrNew, HoldsRound}
use Rattle.journal.specs.Openings.{first_generation, opened_generation}

-- a commit puts a batch behind the others, or none
pub committed_more : (batches : List Bytes) (batch : Bytes) → (more : List Bytes) × (committed batches batch ≡ batches ++ more)
committed_more batches [] = ([], sym (append-nil batches))
committed_more batches (byte ∷ bytes) = ((byte ∷ bytes) ∷ [], refl)

pub grows_kept : (g h : ℕ) (batches : List Bytes) → h ≡ g → Grows g h batches batches
grows_kept g h batches same = inl (same, ([], sym (append-nil batches)))

pub grows_none : (g : ℕ) (batches : List Bytes) → Grows g g batches batches
grows_none g batches = grows_kept g g batches refl

pub grows_committed : (g : ℕ) (batches : List Bytes) (batch : Bytes) → Grows g g batches (committed batches batch)
grows_committed g batches batch = inl (refl, committed_more batches batch)

-- what grew twice grew
pub grows_on : (g h k : ℕ) (xs ys zs : List Bytes) → Grows g h xs ys → Grows h k ys zs → Grows g k xs zs
grows_on g h k xs ys zs (inl one) (inl two) = inl (
  two.0 ∙ one.0,
  (
    one.1.0 ++ two.1.0,
    two.1.1 ∙ ap (λ (l : List Bytes). l ++ two.1.0) one.1.1 ∙ append_assoc xs one.1.0 two.1.0,
  ),
)
grows_on g h k xs ys zs (inl one) (inr two) = inr (omega (arith, one.0, two))
grows_on g h k xs ys zs (inr one) (inl two) = inr (omega (arith, one, two.0))
grows_on g h k xs ys zs (inr one) (inr two) = inr (omega (arith, one, two))

pub grown_of : (v g : ℕ) (batches : List Bytes) (s : Sides) → HoldsOf v g batches s → HasGrown g batches s
grown_of v g batches s holds = record { version = v; later = g; grown = batches; holds = holds; grows = grows_none g batches }

pub grown_on : (g h : ℕ) (xs ys : List Bytes) (s : Sides) → Grows g h xs ys → HasGrown h ys s → HasGrown g xs s
grown_on g h xs ys s grows has =
    record { version = has.version; later = has.later; grown = has.grown; holds = has.holds; grows = grows_on g h has.later xs ys has.grown grows has.grows }

-- what a commit leaves grew
pub round_grown : (v g : ℕ) (batches : List Bytes) (batch : Bytes) (s : Sides) → HoldsRound v g batches (committed batches batch) s → HasGrown g batches s
round_grown v g batches batch s (inl holds) = grown_of v g batches s holds
round_grown v g batches batch s (inr holds) =
    grown_on g g batches (committed batches batch) s (grows_committed g batches batch) (grown_of v g (committed batches batch) s holds)

-- and so did what the end of a rewriting leaves
pub new_grown : (v g : ℕ) (batches copied : List Bytes) (s : Sides) → HoldsOrNew v g batches copied s → HasGrown g batches s
new_grown v g batches copied s (inl holds) = grown_of v g batches s holds
new_grown v g batches copied s (inr holds) =
    record { version = _; later = g + 1; grown = copied; holds = holds; grows = inr (omega arith) }

-- a side in use is the one that another fact says
same_start : (s : Sides) (a b : Side) (v w g h m n : ℕ) → start_of (head_of s.a) (head_of s.b) ≡ Standing a v g m
    → start_of (head_of s.a) (head_of s.b) ≡ Standing b w h n → (a ≡ b) × (v ≡ w) × (g ≡ h)
same_start s a b v w g h m n one two = let same : Standing a v g m ≡ Standing b w h n = sym one ∙ two in (cc, cc, cc)

-- so the log of a side in use is one, of one generation
holds_same : (s : Sides) (v w g h : ℕ) (xs ys : List Bytes) → HoldsOf v g xs s → HoldsOf w h ys s → (g ≡ h) × (xs ≡ ys)
holds_same s v w g h xs ys one two =
    let a = one.0 in
    let b = two.0 in
    let same = same_start s a b v w g h (length (side_of s a)) (length (side_of s b)) one.1.used two.1.used in (
      same.2,
      stands_once v g xs ys (side_of s a) one.1.stands
          (subst (λ (x : Side). StandsFor v g ys (side_of s x)) (sym same.0)
          (subst (λ (n : ℕ). StandsFor n g ys (side_of s b)) (sym same.1)
          (subst (λ (n : ℕ). StandsFor w n ys (side_of s b)) (sym same.2) two.1.stands))),
    )

-- An opening that reads these batches finds what grew from others.
pub grown_opened : (s : Sides) (v g : ℕ) (batches earlier : List Bytes) → HoldsLog v batches s → HasGrown g earlier s
    → Grows g (opened_generation s) earlier batches
grown_opened s v g batches earlier (inl log) has =
    let same = holds_same s v has.version log.1 has.later batches has.grown (log.0, log.2) has.holds in
    let used : opened_generation s ≡ log.1 = ap first_generation log.2.used in
    subst (λ (n : ℕ). Grows g n earlier batches) (sym (used ∙ same.0))
    (subst (λ (l : List Bytes). Grows g has.later earlier l) (sym same.1) has.grows)
grown_opened s v g batches earlier (inr fresh) has = let used = has.holds.1.used in let none = fresh.0 in absurd (cc)
