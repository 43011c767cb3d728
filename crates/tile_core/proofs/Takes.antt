-- Taking, closing and removing, in the words of the parts of a core.
use Rattle.std.proofs.Common.{◌≡◌, ℕ, ◌<◌, refl, sym, subst, true, false, List, length, take, drop}
use Rattle.std.specs.Prelude.{Some, slice_get, slice_set, remove}
use Rattle.world_data.specs.Limits.{take_frames}
use Rattle.world_model.specs.Halls.{Hall}
use Rattle.world_model.specs.Halls as halls
use Rattle.world_model.specs.Histories.{Step}
use Rattle.world_model.specs.declared.events.Event.TheVariants.{Take, Close, Remove}
use Rattle.world_model.specs.declared.events.Outcome.TheVariants.{Done, Given, Empty, Ended}
use Rattle.delivery_model.specs.Plans.{ending}
use Rattle.session_table.specs.Sessions.{State, session_of}
use Rattle.tile_core.specs.declared.stores.Store.{Store}
use Rattle.tile_core.specs.Sessions.{is_open, Rises, AreOthers}
use Rattle.tile_core.specs.Stores.{hall_of, world_at}
use Rattle.tile_core.proofs.Present.{found, none_found, none_removed, removed, changed, unchanged}
use Rattle.tile_core.proofs.Steps.{take_absent, take_ended, take_empty, take_given, close_done, remove_done}

module _ (store : Store) (now logged drawn : ℕ) (sessions : List State) (n : ℕ) where
  abbrev hall : Hall
  hall = hall_of store now logged drawn sessions

  -- the hall of these parts, with these sessions
  abbrev hall_with : List halls.Session → Hall
  hall_with ss = record { world = world_at store; now = now; logged = logged; stopped = false; drawn = drawn; sessions = ss }

  pub absent : AreOthers n sessions → Step hall (Take n) Ended hall
  absent o = subst (λ (ss : List halls.Session). Step hall (Take n) Ended (hall_with ss)) (none_removed sessions n o) (take_absent hall n refl (none_found sessions n o))

  pub close_absent : AreOthers n sessions → Step hall (Close n) Done hall
  close_absent o = subst (λ (ss : List halls.Session). Step hall (Close n) Done (hall_with ss)) (unchanged ending sessions n o) (close_done hall n refl)

  pub remove_absent : AreOthers n sessions → Step hall (Remove n) Done hall
  remove_absent o = subst (λ (ss : List halls.Session). Step hall (Remove n) Done (hall_with ss)) (none_removed sessions n o) (remove_done hall n refl)

  module _ (i : ℕ) (s : State) (rises : Rises 0 drawn sessions) (at : slice_get sessions i ≡ Some s) (numbered : s.number ≡ n) where
    pub empty : is_open s ≡ true → length s.mail.frames ≡ 0 → Step hall (Take n) Empty hall
    empty l e = take_empty hall n (session_of s) refl (found 0 drawn sessions i n s rises at numbered) l e

    pub ended : is_open s ≡ false → length s.mail.frames ≡ 0 → Step hall (Take n) Ended (hall_of store now logged drawn (remove sessions i))
    ended l e = subst (λ (ss : List halls.Session). Step hall (Take n) Ended (hall_with ss)) (removed 0 drawn sessions i n s rises at numbered) (take_ended hall n (session_of s) refl (found 0 drawn sessions i n s rises at numbered) l e)

    pub given : (v : State) → session_of v ≡ record (session_of s) { frames = drop take_frames s.mail.frames } → 0 < length s.mail.frames
        → Step hall (Take n) (Given (take take_frames s.mail.frames)) (hall_of store now logged drawn (slice_set sessions i v))
    given v is some =
        let left : halls.Session → halls.Session = λ t. record t { frames = drop take_frames t.frames } in
        subst (λ (ss : List halls.Session). Step hall (Take n) (Given (take take_frames s.mail.frames)) (hall_with ss)) (changed left 0 drawn sessions i n s v rises at numbered (sym is)) (take_given hall n (session_of s) refl (found 0 drawn sessions i n s rises at numbered) some)

    pub close_present : (v : State) → session_of v ≡ ending (session_of s) → Step hall (Close n) Done (hall_of store now logged drawn (slice_set sessions i v))
    close_present v is = subst (λ (ss : List halls.Session). Step hall (Close n) Done (hall_with ss)) (changed ending 0 drawn sessions i n s v rises at numbered (sym is)) (close_done hall n refl)

    pub remove_present : Step hall (Remove n) Done (hall_of store now logged drawn (remove sessions i))
    remove_present = subst (λ (ss : List halls.Session). Step hall (Remove n) Done (hall_with ss)) (removed 0 drawn sessions i n s rises at numbered) (remove_done hall n refl)
