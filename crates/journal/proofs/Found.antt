-- What an opening finds on a disk that is safe.
use Rattle.std.proofs.Common.{◌≡◌, ◌∙◌, ℕ, Bool, List, [], length, Option, Some, refl, sym, ap, subst, inl, inr, arith}
use Rattle.byte_text.specs.Names.{Bytes}
use Rattle.outside.specs.declared.sides.Side.{Side}
use Rattle.outside.specs.declared.sides.Side.TheVariants.{A, B}
use Rattle.outside.specs.Sides.{Sides, side_of, other_side}
use Rattle.outside.specs.SideLaws.{same_sides}
use Rattle.log_sides.specs.Texts.{StandsFor, newest}
use Rattle.log_sides.specs.Making.{WhileMade}
use Rattle.log_sides.specs.States.{SideIsSafe}
use Rattle.append_log.specs.Heads.{head_of, start_of, IsHeaded}
use Rattle.append_log.specs.Reading.{IsAtGate, IsEnd}
use Rattle.append_log.specs.Logs.{IsFresh}
use Rattle.append_log.specs.declared.side_heads.Head.{Head}
use Rattle.append_log.specs.declared.side_heads.Head.TheVariants.{Shut}
use Rattle.append_log.specs.declared.side_heads.Start.TheVariants.{Standing}
use Rattle.journal.specs.Logs.{IsBehind, HoldsLog}
use Rattle.journal.specs.Openings.{IsAllSafe, IsUsed}
use Rattle.journal.specs.Standing.{stands_in, not_open_head}
use Rattle.journal.specs.Starts.{fresh_shut, fresh_behind}

-- both sides, one by one
pub all_safe : (crashes : Bool) (seen : Option Sides) (images : Sides → Type 0) (s : Sides) → seen ≡ Some s
    → SideIsSafe crashes seen images A (λ x. x ≡ s.a) → SideIsSafe crashes seen images B (λ x. x ≡ s.b) → IsAllSafe crashes seen images s
all_safe crashes seen images s told a b = record { told = told; settled = λ yes c image. same_sides c s (a.settled yes c image ∙ a.has) (b.settled yes c image ∙ b.has) }

pub side_safe : (crashes : Bool) (seen : Option Sides) (images : Sides → Type 0) (s : Sides) (side : Side) (P : Bytes → Type 0) → IsAllSafe crashes seen images s
    → P (side_of s side) → SideIsSafe crashes seen images side P
side_safe crashes seen images s side P all has = record { contents = s; told = all.told; has = has; settled = λ yes c image. ap (λ (t : Sides). side_of t side) (all.settled yes c image) }

-- sides that are the same, one by one
pub same_by_side : (side : Side) (c s : Sides) → side_of c side ≡ side_of s side → side_of c (other_side side) ≡ side_of s (other_side side) → c ≡ s
same_by_side A c s here there = same_sides c s here there
same_by_side B c s here there = same_sides c s there here

-- a side that was read to its closed gate
pub stands_read : (v g : ℕ) (batches : List Bytes) (len gate : ℕ) (bytes : Bytes) → IsHeaded bytes v g len → IsAtGate v g batches len gate bytes → IsEnd v g batches bytes
    → StandsFor v g batches bytes
stands_read v g batches len gate bytes headed at end = record { numbered = headed.numbered; within = omega (arith, headed.short, at.whole); gate = end.gate; closed = end.closed; stale = end.stale; text = end.text }

pub holds_read : (s : Sides) (side : Side) (v g len : ℕ) (batches : List Bytes) → IsUsed s side v g len → StandsFor v g batches (side_of s side) → HoldsLog v batches s
holds_read s side v g len batches used stands =
    inl (side, g, record { used = used.used ∙ ap (λ (n : ℕ). Standing side v g n) used.headed.first.whole; stands = stands })

-- what a crash leaves while the first side is made holds no batch
pub holds_made : (s c : Sides) → IsFresh s → c.b ≡ s.b → WhileMade 1 s.a c.a → HoldsLog newest [] c
holds_made s c fresh there (inl (inl same)) = inr (subst IsFresh (sym (same_sides c s same there)) fresh, refl, refl)
holds_made s c fresh there (inl (inr closed)) =
    inr (ap (λ (h : Head). start_of h (head_of c.b)) (not_open_head c.a closed) ∙ ap (λ (l : Bytes). start_of (Shut (length c.a)) (head_of l)) there ∙ fresh_shut (head_of s.a) (head_of s.b) (length c.a) fresh, refl, refl)
holds_made s c fresh there (inr stands) = inl (A, 1, (stands_in c A newest 1 [] stands (subst (IsBehind 1) (sym there) (fresh_behind s 1 fresh))))
