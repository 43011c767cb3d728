-- What a line says is done.
use Rattle.std.proofs.Common.{◌≡◌, ℕ, Bool, sym, subst, List}
use Rattle.std.specs.Prelude.{Option, Result}
use Rattle.byte_text.specs.Names.{Bytes}
use Rattle.outside.specs.Sides.{Sides}
use Rattle.script_text.specs.declared.lines.ScriptLine.{ScriptLine}
use Rattle.durable_core.specs.Logged.{hall_of}
use Rattle.durable_core.specs.declared.cores.DurableCore.{DurableCore}
use Rattle.replay_run.specs.declared.halts.Halt.{Halt}
use Rattle.replay_run.specs.Played.{Played}
use Rattle.replay_run.specs.Traces.{Deed, trace}
use Rattle.replay_run.specs.Scripts.{Acts}
use Rattle.replay_run.specs.Undone.{ActsFail}
use Rattle.replay_run.specs.Standing.{Comes}
use Rattle.replay_run.proofs.Calling.{comes_as}

module _ {D : Type 0} (crashes : D → Bool) (seen : D → Option Sides) (images : D → Sides → Type 0) (moment : D → ℕ) (left_since : D → ℕ → Sides → Type 0) (faults : D → ℕ) where
  pub said_comes : (old new : DurableCore D) (p p' : Played) (said is : ScriptLine) (P : Bytes → List Deed → Type 0) (Q : Halt → List Deed → Type 0) (r : Result Bytes Halt) → said ≡ is
      → Comes crashes seen images moment left_since faults old new P Q r → ((out : Bytes) (deeds : List Deed) → P out deeds → (told : Bool) → Acts told p is (trace deeds out) p') → ((halt : Halt) (deeds : List Deed) → Q halt deeds → (told : Bool) → ActsFail told halt p is deeds (hall_of new))
      → Comes crashes seen images moment left_since faults old new (λ out deeds. (told : Bool) → Acts told p said (trace deeds out) p') (λ halt deeds. (told : Bool) → ActsFail told halt p said deeds (hall_of new)) r
  said_comes old new p p' said is P Q r same c so fail =
      subst (λ (z : ScriptLine). Comes crashes seen images moment left_since faults old new (λ out deeds. (told : Bool) → Acts told p z (trace deeds out) p') (λ halt deeds. (told : Bool) → ActsFail told halt p z deeds (hall_of new)) r) (sym same)
      (comes_as crashes seen images moment left_since faults old new P (λ out deeds. (told : Bool) → Acts told p is (trace deeds out) p') Q (λ halt deeds. (told : Bool) → ActsFail told halt p is deeds (hall_of new)) r c so fail)
