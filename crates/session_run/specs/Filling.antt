-- Requests that are made of bytes, as many as one turn carries.
use Rattle.std.specs.Prelude.{◌≡◌, ◌⊎◌, ◌≤◌, ℕ, true, List, [], length, drop, None}
use Rattle.std.specs.List.{list_all}
use Rattle.byte_text.specs.Names.{Bytes}
use Rattle.resp_frames.specs.RequestReader.{Held}
use Rattle.world_model.specs.Outcomes.{is_proper}
use Rattle.world_model.specs.declared.events.Asked.{Asked}
use Rattle.session_run.specs.Feeds.{Feeds, EndsBroken, Reads, ReadsFault, asked_behind}
use Rattle.session_run.specs.declared.ends.InEnd.TheVariants.{Memory}
use Rattle.session_run.specs.declared.filling.Step.{Step}
use Rattle.session_run.specs.declared.filling.Step.TheVariants as step
use Rattle.session_run.specs.declared.filling.Fill.{Fill}
use Rattle.session_run.specs.declared.filling.Fill.TheVariants as fill
use Rattle.session_run.specs.declared.phases.Asking.{Asking}
use Rattle.session_run.specs.declared.phases.Asking.TheVariants.{Open, Breaking, Ended}

-- the first request of the bytes was made, or their fault met, or there is none; or memory ran out, and nothing is said
abbrev pub IsStep : ℕ → Held → Bytes → Held → List Asked → List Asked → Step → Type 0
IsStep n old bytes new before now (step.Next taken) = (taken ≤ length bytes) × Reads n old bytes new (drop taken bytes) before now
IsStep n old bytes new before now step.Dry = (now ≡ before) × Feeds n old bytes new [] []
IsStep n old bytes new before now step.Broken = ReadsFault n old bytes new before now
IsStep n old bytes new before now step.Memory = Unit {0}

-- the requests of the bytes were made, as far as this says
abbrev pub IsFill : ℕ → Held → Bytes → Held → List Asked → Fill → Type 0
IsFill n old bytes new asks (fill.Full taken) = (taken ≤ length bytes) × Feeds n old bytes new (drop taken bytes) asks × (63 ≤ length asks)
IsFill n old bytes new asks fill.Dry = Feeds n old bytes new [] asks
IsFill n old bytes new asks fill.Broken = Feeds n old bytes new [] asks × EndsBroken asks × (new ≡ None)
IsFill n old bytes new asks fill.Memory = Unit {0}

-- the bytes were made these requests, and a rest is kept only where there is no room for two more; or they went on as no request, which is
-- asked for last; or memory ran out, and nothing is said of them
abbrev pub IsFilled : ℕ → Held → Bytes → Held → Bytes → List Asked → Asking → Type 0
IsFilled n old bytes new rest asks Open = Feeds n old bytes new rest asks × ((rest ≡ []) ⊎ (63 ≤ length asks))
IsFilled n old bytes new rest asks Breaking = Feeds n old bytes new [] asks × EndsBroken asks × (rest ≡ []) × (new ≡ None)
IsFilled n old bytes new rest asks (Ended Memory) = Unit {0}
IsFilled n old bytes new rest asks (Ended end) = ⊥

-- no request ends in what the reader holds; a turn carries what is asked for; behind a fault the reader is dead
pub record IsFit (held : Held) (asked : List Asked) (asking : Asking) : Type 0 where
  pub dry : asked_behind held [] ≡ []
  pub few : length asked ≤ 64
  pub proper : list_all is_proper asked ≡ true
  pub dead : asking ≡ Breaking → held ≡ None
