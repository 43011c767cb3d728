-- The world that a store keeps, what holds of its parts, and the hall of it with sessions.
use Rattle.std.specs.Prelude.{◌≡◌, ℕ, ◌+◌, ◌≤◌, true, false, List, length, map}
use Rattle.std.specs.List.{AllByRecursion, list_all}
use Rattle.world_data.specs.Limits.{max_moment, max_sessions}
use Rattle.world_data.specs.Sound.{is_sound_channel}
use Rattle.world_data.specs.declared.worlds.World.{World}
use Rattle.world_model.specs.Halls.{Hall}
use Rattle.keyspace.specs.Entries.{objects_in}
use Rattle.session_table.specs.Sessions.{State, session_of}
use Rattle.session_table.specs.Fans.{AreBare}
use Rattle.tile_core.specs.declared.stores.Store.{Store}
use Rattle.tile_core.specs.declared.stores.Sums.{Sums}
use Rattle.object_plans.specs.Moves.{world_with}
use Rattle.channel_plans.specs.Planned.{IsRecordedChannel}
use Rattle.object_plans.specs.Beside.{channels_weight}
use Rattle.object_plans.specs.Kept.{AreKept, most_kept}
use Rattle.tile_core.specs.Dues.{AreChannelsDueFrom, AreDueFrom}
use Rattle.tile_core.specs.Sessions.{Rises}

abbrev pub world_at : Store → World
world_at s = world_with s.hub.channels (objects_in s.objects)

abbrev pub sums_of : Store → Sums
sums_of s = record { weight = s.weight; due_from = s.due_from; channel_weight = s.channel_weight; channels_due_from = s.channels_due_from }

-- objects in order whose texts have their shapes, sound channels that are read back from their records, their weights at hand and not too much
-- together, and no deadline before the moment from which one may be due
pub record IsStore (s : Store) : Type 0 where
  pub kept : AreKept (objects_in s.objects) s.weight
  pub sound : list_all is_sound_channel s.hub.channels ≡ true
  pub recorded : AllByRecursion IsRecordedChannel s.hub.channels
  pub weighed : s.channel_weight ≡ channels_weight s.hub.channels
  pub light : s.weight + s.channel_weight ≤ most_kept
  pub due_from : AreDueFrom s.due_from (objects_in s.objects)
  pub channels_due_from : AreChannelsDueFrom s.channels_due_from s.hub.channels

-- the hall of these parts; no log can fail so far, so it never stops
abbrev pub hall_of : Store → ℕ → ℕ → ℕ → List State → Hall
hall_of store now logged drawn sessions = record {
  world = world_at store;
  now = now;
  logged = logged;
  stopped = false;
  drawn = drawn;
  sessions = map session_of sessions;
}

-- sessions by rising numbers, and not too many
pub record ArePresent (drawn : ℕ) (sessions : List State) : Type 0 where
  pub rises : Rises 0 drawn sessions
  pub few : length sessions ≤ max_sessions

-- the parts of a core; between calls nothing is staged
pub record IsSound (store : Store) (now drawn : ℕ) (sessions : List State) : Type 0 where
  pub kept : IsStore store
  pub early : now ≤ max_moment
  pub present : ArePresent drawn sessions
  pub bare : AreBare sessions
