-- A tick that is completed is the machine's.
use Rattle.std.proofs.Common.{◌≡◌, ℕ, ◌+◌, ◌<◌, ◌≤◌, Bool, true, false, refl, sym, ap, ◌∙◌, subst, List, max, map, arith}
use Rattle.world_data.specs.Limits.{max_moment, most_logged}
use Rattle.world_data.specs.declared.channels.Channel.{Channel}
use Rattle.world_data.specs.declared.worlds.World.{World}
use Rattle.world_model.specs.Halls.{Hall, NamesChanged}
use Rattle.world_model.specs.Histories.{Step}
use Rattle.world_model.specs.declared.events.CallOutcome.TheVariants as called
use Rattle.world_model.specs.declared.events.Event.TheVariants.{Tick}
use Rattle.world_model.specs.declared.events.Outcome.TheVariants.{Answered}
use Rattle.log_record.specs.EventWrites.{writes_of}
use Rattle.keyspace.specs.Entries.{objects_in}
use Rattle.session_table.specs.Sessions.{State, session_of}
use Rattle.session_table.specs.Fans.{ArePlaced}
use Rattle.object_plans.specs.Kept.{most_kept}
use Rattle.tile_core.specs.declared.ready.Gone.{Gone}
use Rattle.tile_core.specs.declared.stores.Store.{Store}
use Rattle.tile_core.specs.Answered.{AreNamed, AreRoomy, AreSessions, is_named}
use Rattle.object_plans.specs.Moves.{world_with}
use Rattle.tile_core.specs.Ready.{IsDueTaken, dues}
use Rattle.tile_core.specs.Stores.{ArePresent, IsSound, IsStore, hall_of, world_at}
use Rattle.tile_core.proofs.Called.{all_bare, numbers_placed}
use Rattle.tile_core.proofs.Calls.{as_many, rises_as, rises_placed, ticked}
use Rattle.tile_core.proofs.NamedChanges.{placed_named, roomy_as}
use Rattle.tile_core.proofs.Readying.{as_good, as_long}

module _ (before : Store) (now logged drawn : ℕ) (ss mid new : List State) (moment moment_now : ℕ) (store last : Store) (g : Gone)
    (kept : IsStore before) (present : ArePresent drawn ss) (is_now : moment_now ≡ max now moment) (same : map session_of mid ≡ map session_of ss) (taken : IsDueTaken before moment_now store g mid) (placed_ : ArePlaced mid new)
    (objects : objects_in last.objects ≡ objects_in store.objects) (same_channels : last.hub.channels ≡ store.hub.channels) (others : last ≡ record store { objects = last.objects; hub = last.hub }) where
  abbrev hall : Hall
  hall = hall_of before now logged drawn ss

  abbrev after : Hall
  after = hall_of last moment_now (logged + g.length) drawn new

  pub tick_sound : moment_now ≤ max_moment → IsSound last moment_now drawn new
  tick_sound early = record {
    kept = as_good store last objects same_channels (ap (λ (s : Store). s.weight) others) (ap (λ (s : Store). s.due_from) others) (ap (λ (s : Store). s.channel_weight) others) (ap (λ (s : Store). s.channels_due_from) others) taken.kept;
    early = early;
    present = record {
      rises = rises_placed 0 drawn mid new placed_ (rises_as 0 drawn mid ss same present.rises);
      few = let one = as_many mid new placed_ in let two = as_long mid ss same in let few = present.few in omega (arith, one, two, few);
    };
    bare = all_bare mid new placed_;
  }

  pub tick_short : g.length ≤ most_kept
  tick_short = taken.done.small

  world_is : world_at last ≡ world_at store
  world_is = ap (λ (cs : List Channel). world_with cs (objects_in last.objects)) same_channels ∙ ap (world_with store.hub.channels) objects

  pub tick_step : logged < most_logged → Step hall (Tick moment) (Answered called.Ok) after
  tick_step unspent =
      let taken_m : IsDueTaken before (max now moment) store g mid = subst (λ (k : ℕ). IsDueTaken before k store g mid) is_now taken in
      subst (λ (k : ℕ). Step hall (Tick moment) (Answered called.Ok) (hall_of last k (logged + g.length) drawn new)) (sym is_now)
      (subst (λ (w : World). Step hall (Tick moment) (Answered called.Ok) (record (hall_of last (max now moment) (logged + g.length) drawn new) { world = w })) (sym world_is)
      (ticked before now logged drawn ss mid new moment store g.length present.rises same taken_m.done placed_ taken_m.staged unspent))

  -- it does the writes of what is due
  pub tick_writes : writes_of hall (Tick moment) ≡ dues before moment_now
  tick_writes = ap (dues before) (sym is_now)

  module _ (named : List ℕ) (told : AreNamed named mid) where
    pub tick_named : NamesChanged named hall after
    tick_named k ne = by (is_named named k) refl
      where
        by : (b : Bool) → is_named named k ≡ b → is_named named k ≡ true
        by true e = e
        by false e = absurd (ne (placed_named named ss mid new same placed_ told k e))

    pub tick_room : AreRoomy named mid → AreSessions named after
    tick_room room = roomy_as named mid new (numbers_placed mid new placed_) room
