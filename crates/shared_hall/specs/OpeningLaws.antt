-- What an opening gives is fit for a hall.
use Rattle.std.proofs.Common.{◌≡◌, ℕ, Bool, true, List, ◌∙◌, Option, Some, None, refl, sym, true≢false}
use Rattle.std.specs.Prelude.{is_some}
use Rattle.byte_text.specs.Names.{Bytes}
use Rattle.outside.specs.Crashes.{EachImage, LeavesOnly}
use Rattle.outside.specs.Sides.{Sides}
use Rattle.ordered_lists.specs.Reading.{both_of}
use Rattle.world_data.specs.Sound.{IsSoundWorld}
use Rattle.world_model.specs.Histories.{opening_hall}
use Rattle.journal.specs.Logs.{HasGrown}
use Rattle.durable_core.specs.Kept.{settled_log}
use Rattle.durable_core.specs.Logged.{hall_of, disk_of, IsLogOf}
use Rattle.durable_core.specs.Opened.{IsOpening}
use Rattle.durable_core.specs.Written.{KeepsGrown}
use Rattle.durable_core.specs.declared.cores.DurableCore.{DurableCore}
use Rattle.shared_hall.specs.Cores.{IsOpenedOn}

contents : (o : Option Sides) → is_some o ≡ true → (s : Sides) × (o ≡ Some s)
contents None is = absurd (true≢false (sym is))
contents (Some s) is = (s, refl)

-- a core that was opened over a disk
pub is_opened_on : {D : Type 0} (crashes : D → Bool) (seen : D → Option Sides) (images : D → Sides → Type 0) (moment : D → ℕ) (left_since : D → ℕ
    → Sides → Type 0) (faults : D → ℕ) (c : DurableCore D) (handed : D)
    → hall_of c ≡ opening_hall (hall_of c).world (hall_of c).logged → IsSoundWorld (hall_of c).world → crashes (disk_of c) ≡ crashes handed
    → ((s : Sides) → seen handed ≡ Some s → IsLogOf crashes seen images c (settled_log (hall_of c).world))
    → ((s : Sides) → seen handed ≡ Some s → crashes handed ≡ true → IsOpening images moment left_since (moment handed) (faults (disk_of c)) c)
    → ((s : Sides) → seen handed ≡ Some s → (before : ℕ) (earlier : List Bytes) → HasGrown before earlier s
    → KeepsGrown crashes seen images c.tail.journal before earlier)
    → ((s : Sides) → seen handed ≡ Some s → crashes handed ≡ true → (before : ℕ) (earlier : List Bytes) → HasGrown before earlier s
    → EachImage (images handed) (HasGrown before earlier) → LeavesOnly moment left_since handed (disk_of c) (HasGrown before earlier))
    → IsOpenedOn crashes seen images moment left_since faults c handed
is_opened_on crashes seen images moment left_since faults c handed hall sound told log safe grown left = record {
  hall = hall;
  sound = sound;
  told = λ tells. told ∙ (both_of (crashes handed) (is_some (seen handed)) tells).0;
  kept = λ tells _. let s = contents (seen handed) (both_of (crashes handed) (is_some (seen handed)) tells).1 in log s.0 s.1;
  stood = λ tells.
      let has = both_of (crashes handed) (is_some (seen handed)) tells in
      let s = contents (seen handed) has.1 in
      let o = safe s.0 s.1 has.0 in
      (o.opening, o.world, o.logged, o.stood);
  grown = λ tells before earlier was. grown was.sides was.told before earlier was.grown;
  left = λ tells before earlier was.
      left was.sides was.told (both_of (crashes handed) (is_some (seen handed)) tells).0 before earlier was.grown was.each;
}
