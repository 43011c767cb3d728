-- The next step of a rewriting.
use Rattle.std.specs.Prelude.{◌≡◌, ◌≤◌, ◌+◌, ◌^◌, ℕ, List, [], ◌∷◌, length, Result, Ok, Err, ◌⊎◌, if◌then◌else◌}
use Rattle.world_data.specs.declared.worlds.World.{World}
use Rattle.log_sides.specs.Texts.{newest}
use Rattle.world_model.specs.declared.events.CallOutcome.{CallOutcome}
use Rattle.world_model.specs.declared.events.CallOutcome.TheVariants as called
use Rattle.durable_core.specs.Pieces.{IsNextPiece}
use Rattle.durable_core.specs.Rewriting.{Item, items_left, is_ending, shown_by}
use Rattle.durable_core.specs.declared.rewritings.LastCopied.{LastCopied}
use Rattle.durable_core.specs.declared.rewritings.Rewriting.{Rewriting}
use Rattle.durable_core.specs.declared.rewritings.Rewriting.TheVariants as rewriting
use Rattle.durable_core.specs.declared.pieces.NextPiece.{NextPiece}
use Rattle.durable_core.specs.declared.steps.RewriteStep.{RewriteStep}
use Rattle.durable_core.specs.declared.steps.RewriteStep.TheVariants as step

-- all items were copied
pub record IsLastStep (r : Rewriting) (w : World) : Type 0 where
  pub last : LastCopied
  pub going : r ≡ rewriting.Going last
  pub none : items_left last w ≡ []

-- some are left, and the new side has room for the first of them
pub record IsCopyStep (r : Rewriting) (gate : ℕ) (w : World) (next : NextPiece) : Type 0 where
  pub from : LastCopied
  pub going : r ≡ rewriting.Going from
  pub first : Item
  pub rest : List Item
  pub some : items_left from w ≡ first ∷ rest
  pub piece : IsNextPiece from w next
  pub room : gate + length next.piece.records + 10 ≤ 2 ^ 62

-- the step comes next
abbrev pub IsNextStep : Rewriting → ℕ → World → RewriteStep → Type 0
IsNextStep r gate w step.Rest = r ≡ rewriting.Idle
IsNextStep r gate w step.Begin = r ≡ rewriting.Asked
IsNextStep r gate w (step.Copy next) = IsCopyStep r gate w next
IsNextStep r gate w step.Finish = IsLastStep r w

-- how many generations behind a step the log is
abbrev pub next_generation : Rewriting → World → ℕ → ℕ
next_generation r w generation = generation + (if is_ending (shown_by r w) then 1 else 0)

-- and of which version it is
abbrev pub next_version : Rewriting → World → ℕ → ℕ
next_version r w version = if is_ending (shown_by r w) then newest else version

-- a step ends with Ok, for want of memory, or where the disk failed, which alone is a failure of the log
abbrev pub ended : CallOutcome → Result Unit CallOutcome
ended called.LogFault = Err called.LogFault
ended answer = Ok tt

abbrev pub IsEnded : CallOutcome → Type 0
IsEnded answer = (answer ≡ called.Ok) ⊎ ((answer ≡ called.Memory) ⊎ (answer ≡ called.LogFault))
