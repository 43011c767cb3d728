-- What was made ready is done, whatever room it leaves.
use Rattle.std.proofs.Common.{◌≡◌, ℕ, ◌<◌, Bool, true, false, true≢false, refl, sym, ap, ◌∙◌, subst, List, [], ◌∷◌, length}
use Rattle.std.specs.Prelude.{Some, None, Option, slice_get}
use Rattle.std.proofs.lemmas.Option.{same_Some}
use Rattle.byte_text.specs.Names.{Bytes}
use Rattle.world_model.specs.Halls.{Session, is_live, placed_each}
use Rattle.delivery_model.specs.Placing.{dead_takes_none}
use Rattle.session_table.specs.Sessions.{AreReplies, State, session_of}
use Rattle.session_table.specs.Fans.{AreBare, ArePlaced, IsPlaced}
use Rattle.channel_plans.specs.declared.planned.Planned.{Planned}
use Rattle.tile_core.specs.declared.stores.Store.{Store}
use Rattle.tile_core.specs.Ready.{CanComplete, IsDoneIf, reply_frames}
use Rattle.tile_core.specs.Stores.{IsStore, world_at}
use Rattle.tile_core.proofs.Calls.{placed_at}
use Rattle.tile_core.proofs.Readying.{there_is}

-- a session that is served was served before
live_before : (s : Session) (frames : List Bytes) → is_live (placed_each s frames) ≡ true → is_live s ≡ true
live_before s frames lives = by (is_live s) refl
  where
    by : (b : Bool) → is_live s ≡ b → is_live s ≡ true
    by true e = e
    by false e = absurd (true≢false (sym lives ∙ ap is_live (dead_takes_none s frames e) ∙ e))

-- placing leaves the replies
pub can_placed : (store : Store) (old new : List State) (at : ℕ) (p : Option Planned) → at < length old → ArePlaced old new → CanComplete store old at p → CanComplete store new at p
can_placed store old new at None lt placed_ can = tt
can_placed store old new at (Some p) lt placed_ can = (can.0, can.1, replies)
  where
    replies : (t : State) → slice_get new at ≡ Some t → AreReplies (reply_frames p) t
    replies t here = λ lives.
        let s = there_is old at lt in
        let u = placed_at old new at s.0 placed_ s.1 in
        let is : u.0 ≡ t = same_Some u.0 t (sym u.1 ∙ here) in
        let placed_lives : is_live (session_of u.0) ≡ true = subst (λ (x : State). is_live (session_of x) ≡ true) (sym is) lives in
        let lived = live_before (session_of s.0) s.0.mail.staged (ap is_live (sym u.2.same) ∙ placed_lives) in
        ap (λ (x : State). x.mail.replies) (sym is) ∙ u.2.replies placed_lives ∙ can.2 s.0 s.1 lived

-- where nothing is staged, all is placed
pub none_placed : (sessions : List State) → AreBare sessions → ArePlaced sessions sessions
none_placed [] bare = tt
none_placed (s ∷ sessions) bare =
    let first : IsPlaced s s = record { same = sym (ap (placed_each (session_of s)) bare.0); bare = bare.0; replies = λ lives. refl } in
    (first, none_placed sessions bare.1)

-- keys that are given up leave the world
pub done_as : (before s t : Store) (placed_ new : List State) (at : ℕ) (p : Option Planned) → world_at t ≡ world_at s → (IsStore s → IsStore t) → IsDoneIf before placed_ at p s new → IsDoneIf before placed_ at p t new
done_as before s t placed_ new at None world kept d = (d.0, world ∙ d.1, λ is. kept (d.2 is))
done_as before s t placed_ new at (Some p) world kept d = record {
  caller = d.caller;
  here = d.here;
  answered = d.answered;
  set = d.set;
  reply = d.reply;
  staged = d.staged;
  world = world ∙ d.world;
  kept = λ held e plan is. kept (d.kept held e plan is);
}
