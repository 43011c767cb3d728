-- How events of a core end.
use Rattle.std.proofs.Common.{◌≡◌, ℕ, ◌+◌, ◌<◌, ◌≤◌, Bool, true, false, refl, sym, ap, inl, inr, List, [], ◌∷◌, ◌++◌, length, arith}
use Rattle.std.specs.Prelude.{Some, None, Option, nat_le, ◌||◌, ◌==◌, take, drop}
use Rattle.std.proofs.lemmas.Bool.Decides.{nat_tests}
use Rattle.byte_text.specs.Names.{Bytes}
use Rattle.world_data.specs.Limits.{most_logged, full_frames, full_bytes, max_sessions, most_drawn, take_frames}
use Rattle.world_model.specs.Halls.{Hall, Session, live, is_live, session_of, change_session, close_session, due, do_call, without_session}
use Rattle.world_data.specs.Frames.{frame_bytes}
use Rattle.world_model.specs.Histories.{Step}
use Rattle.world_model.specs.declared.events.Asked.{Asked}
use Rattle.world_model.specs.declared.events.CallOutcome.TheVariants as called
use Rattle.world_model.specs.declared.events.Event.TheVariants.{Enter, Call, Take, Tick, Close, Remove}
use Rattle.world_model.specs.declared.events.Outcome.TheVariants.{Done, TooMany, Entered, Answered, Given, Empty, Ended}

-- entering

abbrev is_crowded : Hall → Bool
is_crowded h = nat_le max_sessions (length h.sessions) || nat_le most_drawn h.drawn

pub enter_refused : (h : Hall) → h.stopped ≡ false → is_crowded h ≡ true → Step h Enter TooMany h
enter_refused h going t = rw (going, t) (refl, refl)

pub enter_lacks : (h : Hall) → h.stopped ≡ false → is_crowded h ≡ false → Step h Enter (Answered called.Memory) h
enter_lacks h going t = rw (going, t) (inr (inl (refl, (refl, refl))))

pub enter_done : (h : Hall) → h.stopped ≡ false → is_crowded h ≡ false
    → Step h Enter (Entered (h.drawn + 1)) (record h { drawn = h.drawn + 1; sessions = h.sessions ++ record { number = h.drawn + 1; subs = []; frames = []; stage = live } ∷ [] })
enter_done h going t = rw (going, t) (inr (inr (refl, refl)))

-- taking

abbrev frames_in : Option Session → List Bytes
frames_in None = []
frames_in (Some s) = s.frames

pub take_absent : (h : Hall) (n : ℕ) → h.stopped ≡ false → session_of h n ≡ None → Step h (Take n) Ended (without_session n h)
take_absent h n going e = rw (going, e) (refl, refl)

module _ (h : Hall) (n : ℕ) (s : Session) (going : h.stopped ≡ false) (here : session_of h n ≡ Some s) where
  pub take_ended : is_live s ≡ false → length s.frames ≡ 0 → Step h (Take n) Ended (without_session n h)
  take_ended l e = rw (going, here, l, e) (refl, refl)

  pub take_empty : is_live s ≡ true → length s.frames ≡ 0 → Step h (Take n) Empty h
  take_empty l e = rw (going, here, l, e) (refl, refl)

  pub take_given : 0 < length s.frames → Step h (Take n) (Given (take take_frames s.frames)) (change_session (λ t. record t { frames = drop take_frames t.frames }) n h)
  take_given some = by (is_live s) refl
    where
      none : (length s.frames == 0) ≡ false
      none = grind (arith, nat_tests)

      given : Given (take take_frames s.frames) ≡ Given (take take_frames (frames_in (session_of h n)))
      given = ap (λ (o : Option Session). Given (take take_frames (frames_in o))) (sym here)

      by : (t : Bool) → is_live s ≡ t → Step h (Take n) (Given (take take_frames s.frames)) (change_session (λ t. record t { frames = drop take_frames t.frames }) n h)
      by true l = rw (going, here, l, none) (inr (inr (given, refl)))
      by false l = rw (going, here, l, none) (inr (inr (given, refl)))

-- calling

abbrev is_full : Session → Bool
is_full s = nat_le full_frames (length s.frames) || nat_le full_bytes (frame_bytes s.frames)

module _ (h : Hall) (n moment : ℕ) (asked : Asked) (going : h.stopped ≡ false) where
  pub call_spent : most_logged ≤ h.logged → Step h (Call n moment asked) (Answered called.Spent) h
  call_spent le = let t : nat_le most_logged h.logged ≡ true = grind (arith, nat_tests) in rw (going, t) (refl, refl)

  module _ (unspent : h.logged < most_logged) where
    spent : nat_le most_logged h.logged ≡ false
    spent = grind (arith, nat_tests)

    pub call_gone : session_of h n ≡ None → Step h (Call n moment asked) (Answered called.Gone) h
    call_gone e = rw (going, spent, e) (refl, refl)

    pub call_closed : (s : Session) → session_of h n ≡ Some s → is_live s ≡ false → Step h (Call n moment asked) (Answered called.Gone) h
    call_closed s here closed = rw (going, spent, here, closed) (refl, refl)

    module _ (s : Session) (here : session_of h n ≡ Some s) (lives : is_live s ≡ true) where
      pub call_full : is_full s ≡ true → Step h (Call n moment asked) (Answered called.Full) h
      call_full f = rw (going, spent, here, lives, f) (refl, refl)

      module _ (open_ : is_full s ≡ false) where
        pub call_lacks : Step h (Call n moment asked) (Answered called.Memory) h
        call_lacks = rw (going, spent, here, lives, open_) (inr (inl (refl, (refl, refl))))

        pub call_done : Step h (Call n moment asked) (Answered called.Ok) (do_call (due h moment) n asked)
        call_done = rw (going, spent, here, lives, open_) (inr (inr (refl, refl)))

-- the clock

module _ (h : Hall) (moment : ℕ) (going : h.stopped ≡ false) where
  pub tick_spent : most_logged ≤ h.logged → Step h (Tick moment) (Answered called.Spent) h
  tick_spent le = let t : nat_le most_logged h.logged ≡ true = grind (arith, nat_tests) in rw (going, t) (refl, refl)

  pub tick_lacks : h.logged < most_logged → Step h (Tick moment) (Answered called.Memory) h
  tick_lacks lt = let t : nat_le most_logged h.logged ≡ false = grind (arith, nat_tests) in rw (going, t) (inr (inl (refl, (refl, refl))))

  pub tick_done : h.logged < most_logged → Step h (Tick moment) (Answered called.Ok) (due h moment)
  tick_done lt = let t : nat_le most_logged h.logged ≡ false = grind (arith, nat_tests) in rw (going, t) (inr (inr (refl, refl)))

-- closing and removing

pub close_done : (h : Hall) (n : ℕ) → h.stopped ≡ false → Step h (Close n) Done (close_session n h)
close_done h n going = rw going (inr (inr (refl, refl)))

pub remove_done : (h : Hall) (n : ℕ) → h.stopped ≡ false → Step h (Remove n) Done (without_session n h)
remove_done h n going = rw going (inr (inr (refl, refl)))
