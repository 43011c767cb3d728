-- Calls and ticks, in the words of the parts of a core.
use Rattle.std.proofs.Common.{◌≡◌, ◌≢◌, ℕ, zero, suc, ◌+◌, ◌<◌, ◌≤◌, Bool, true, false, refl, sym, ap, ◌∙◌, subst, inl, inr, List, [], ◌∷◌, ◌++◌, length, max, map}
use Rattle.std.specs.Prelude.{Some, Option, Result, Ok, Err, option_map, slice_get, slice_set, ◌⊎◌, if◌then◌else◌}
use Rattle.std.proofs.lemmas.List.{append-nil}
use Rattle.std.proofs.lemmas.Option.{same_Some}
use Rattle.byte_text.specs.Names.{Bytes}
use Rattle.byte_text.specs.Replies.{frame_text}
use Rattle.world_data.specs.Limits.{most_logged}
use Rattle.world_data.specs.declared.worlds.World.{World}
use Rattle.fence_model.specs.Writes.{Write}
use Rattle.world_model.specs.Effects.{Effect}
use Rattle.world_model.specs.Subscriptions.{Sub, with_subs}
use Rattle.world_model.specs.Commands.{reads}
use Rattle.world_model.specs.Halls as halls
use Rattle.world_model.specs.Halls.{Hall, apply_all, due, do_call, effect_of, is_live, is_session, placed, placed_each}
use Rattle.world_model.specs.Histories.{Step}
use Rattle.world_model.specs.declared.commands.Command.{Command}
use Rattle.world_model.specs.declared.faults.WordFault.{WordFault}
use Rattle.world_model.specs.declared.events.Asked.{Asked}
use Rattle.world_model.specs.declared.events.Asked.TheVariants.{Words, Broken}
use Rattle.world_model.specs.declared.events.CallOutcome.{CallOutcome}
use Rattle.world_model.specs.declared.events.CallOutcome.TheVariants as called
use Rattle.world_model.specs.declared.events.Event.TheVariants.{Call, Tick}
use Rattle.world_model.specs.declared.events.Outcome.TheVariants.{Answered}
use Rattle.log_record.specs.EventWrites.{asked_writes, call_writes, live_writes}
use Rattle.delivery_model.specs.Addressing.{addressed}
use Rattle.delivery_model.specs.Calls.{due_staged}
use Rattle.delivery_model.specs.Staging.{HaveOwnNumbers, Rise, after_all, all_to, changed_at, frames_to, has_room_for, heard, listens, placed_all, records_len, staged}
use Rattle.delivery_model.specs.Plans.{answered, brought, effect_of_asked, effect_of_read, ended_if, ending, subscribing}
use Rattle.delivery_model.specs.BySession.{by_sessions}
use Rattle.delivery_model.specs.Placing.{each_number, map_none, map_twice, placed_number}
use Rattle.delivery_model.specs.Rising.{rising}
use Rattle.delivery_model.specs.Serving.{found_holds, found_placed, lives_on, takes_all}
use Rattle.session_table.specs.Mail.{has_room_left}
use Rattle.session_table.specs.Sessions.{State, session_of}
use Rattle.session_table.specs.Fans.{ArePlaced, HaveStaged, IsPlaced}
use Rattle.session_table.specs.FanLaws.{hall_placed, placed_are}
use Rattle.channel_plans.specs.declared.planned.Planned.{Planned}
use Rattle.channel_plans.specs.declared.planned.Planned.TheVariants.{Objects, Channels, Subscribed}
use Rattle.tile_core.specs.declared.stores.Store.{Store}
use Rattle.channel_plans.specs.Planned.{IsPlanned}
use Rattle.tile_core.specs.Ready.{IsDueGone, IsRequestReady, dues, ending_if, planned_length, planned_writes, replied}
use Rattle.tile_core.specs.Sessions.{is_open, is_full, Rises, AreOthers, IsServed}
use Rattle.tile_core.specs.Stores.{hall_of, world_at}
use Rattle.tile_core.proofs.Present.{found, none_found, changed}
use Rattle.tile_core.proofs.Steps.{call_spent, call_gone, call_closed, call_full, call_lacks, call_done, tick_spent, tick_lacks, tick_done}

-- numbers of their own

rise : (low d : ℕ) (ss : List State) → Rises low d ss → Rise low (map session_of ss)
rise low d [] r = tt
rise low d (s ∷ ss) r = (r.0, rise s.number d ss r.1)

pub own_numbers : (d : ℕ) (ss : List State) → Rises 0 d ss → HaveOwnNumbers (map session_of ss)
own_numbers d ss r = rising 0 (map session_of ss) (rise 0 d ss r)

-- what was placed at a place

pub placed_at : (old new : List State) (i : ℕ) (s : State) → ArePlaced old new → slice_get old i ≡ Some s → (t : State) × (slice_get new i ≡ Some t) × IsPlaced s t
placed_at [] [] i s p at = absurd (cc)
placed_at [] (t ∷ new) i s p at = absurd p
placed_at (x ∷ old) [] i s p at = absurd p
placed_at (x ∷ old) (t ∷ new) zero s p at = let is : x ≡ s = cc in (t, refl, subst (λ (y : State). IsPlaced y t) is p.0)
placed_at (x ∷ old) (t ∷ new) (suc i) s p at = placed_at old new i s p.1 at

number_kept : (s t : State) → IsPlaced s t → t.number ≡ s.number
number_kept s t p = ap (λ (h : halls.Session). h.number) p.same ∙ each_number (session_of s) s.mail.staged

pub rises_placed : (low d : ℕ) (old new : List State) → ArePlaced old new → Rises low d old → Rises low d new
rises_placed low d [] [] p r = r
rises_placed low d [] (t ∷ new) p r = absurd p
rises_placed low d (s ∷ old) [] p r = absurd p
rises_placed low d (s ∷ old) (t ∷ new) p r =
    let same = number_kept s t p.0 in
    (subst (λ (n : ℕ). low < n) (sym same) r.0, rises_placed t.number d old new p.1 (subst (λ (n : ℕ). Rises n d old) (sym same) r.1))

pub as_many : (old new : List State) → ArePlaced old new → length new ≡ length old
as_many [] [] p = refl
as_many [] (t ∷ new) p = absurd p
as_many (s ∷ old) [] p = absurd p
as_many (s ∷ old) (t ∷ new) p = ap suc (as_many old new p.1)

pub rises_as : (low d : ℕ) (xs ys : List State) → map session_of xs ≡ map session_of ys → Rises low d ys → Rises low d xs
rises_as low d [] [] e r = r
rises_as low d [] (y ∷ ys) e r = absurd (cc)
rises_as low d (x ∷ xs) [] e r = absurd (cc)
rises_as low d (x ∷ xs) (y ∷ ys) e r =
    let first : session_of x ≡ session_of y = cc in
    let rest : map session_of xs ≡ map session_of ys = cc in
    let num : x.number ≡ y.number = ap (λ (h : halls.Session). h.number) first in
    (subst (λ (m : ℕ). low < m) (sym num) r.0, rises_as x.number d xs ys rest (subst (λ (m : ℕ). Rises m d ys) (sym num) r.1))

-- a session is changed at its number

fused : (f g : halls.Session → halls.Session) → ((s : halls.Session) → (f s).number ≡ s.number) → (n : ℕ) (ss : List halls.Session) → changed_at g n (changed_at f n ss) ≡ changed_at (λ s. g (f s)) n ss
fused f g keeps n ss = map_twice (λ s. if is_session n s then g s else s) (λ s. if is_session n s then f s else s) (λ s. if is_session n s then g (f s) else s) each ss
  where
    each : (s : halls.Session) → (if is_session n (if is_session n s then f s else s) then g (if is_session n s then f s else s) else (if is_session n s then f s else s)) ≡ (if is_session n s then g (f s) else s)
    each s = by (is_session n s) refl
      where
        by : (b : Bool) → is_session n s ≡ b → (if is_session n (if b then f s else s) then g (if b then f s else s) else (if b then f s else s)) ≡ (if b then g (f s) else s)
        by true e = ap (λ (k : Bool). if k then g (f s) else f s) (ap (λ (m : ℕ). is_session n (record s { number = m })) (keeps s) ∙ e)
        by false e = ap (λ (k : Bool). if k then g s else s) e

same_session : (f : halls.Session → halls.Session) → ((s : halls.Session) → f s ≡ s) → (n : ℕ) (ss : List halls.Session) → changed_at f n ss ≡ ss
same_session f same n ss = map_none (λ s. if is_session n s then f s else s) each ss
  where
    each : (s : halls.Session) → (if is_session n s then f s else s) ≡ s
    each s = by (is_session n s)
      where
        by : (b : Bool) → (if b then f s else s) ≡ s
        by true = same s
        by false = refl

own_frames : (n : ℕ) (frames : List Bytes) (ss : List halls.Session) → placed_all ss (all_to n frames) ≡ changed_at (λ s. placed_each s frames) n ss
own_frames n [] ss = sym (same_session (λ s. s) (λ s. refl) n ss)
own_frames n (f ∷ frames) ss = own_frames n frames (changed_at (placed f) n ss) ∙ fused (placed f) (λ s. placed_each s frames) (placed_number f) n ss

-- what an answer does to its session
abbrev answers_with : Effect → halls.Session → halls.Session
answers_with e s = ending_if e.closes (placed_each (subscribing e.subs s) (map frame_text e.replies))

answered_is : (n : ℕ) (e : Effect) (ss : List halls.Session) → answered n e ss ≡ changed_at (answers_with e) n ss
answered_is n e ss =
    let frames = map frame_text e.replies in
    let placing : halls.Session → halls.Session = λ s. placed_each (subscribing e.subs s) frames in
    let both : placed_all (changed_at (subscribing e.subs) n ss) (all_to n frames) ≡ changed_at placing n ss =
    own_frames n frames (changed_at (subscribing e.subs) n ss) ∙ fused (subscribing e.subs) (λ s. placed_each s frames) (λ s. refl) n ss in
    ap (ended_if e.closes n) both ∙ by e.closes placing (λ s. each_number (subscribing e.subs s) frames)
  where
    by : (b : Bool) (placing : halls.Session → halls.Session) → ((s : halls.Session) → (placing s).number ≡ s.number) → ended_if b n (changed_at placing n ss) ≡ changed_at (λ s. ending_if b (placing s)) n ss
    by true placing keeps = fused placing ending keeps n ss
    by false placing keeps = refl

-- for the session of a plan it is what the plan says
replies_as : (w : World) (total : ℕ) (held : List Sub) (e : Effect) (p : Planned) (s : halls.Session) → IsPlanned w total held e p → ((held ≡ s.subs) ⊎ (e.writes ≢ [])) → answers_with e s ≡ replied p s
replies_as w total held e (Objects p) s is either =
    ap (λ (d : Effect). answers_with d s) is.0.is ∙ ap (λ (f : Bytes). ending_if p.closes (placed f s)) (sym is.0.frame)
replies_as w total held e (Channels p) s is either =
    ap (λ (d : Effect). answers_with d s) is.0.is ∙ ap (λ (f : Bytes). placed f s) (sym is.0.frame)
replies_as w total held e (Subscribed p) s is (inr none) = absurd (none is.no_writes)
replies_as w total held e (Subscribed p) s is (inl same) =
    ap (λ (b : Bool). ending_if b (placed_each (subscribing e.subs s) (map frame_text e.replies))) is.goes_on
    ∙ ap (λ (subs : List Sub). placed_each (record s { subs = with_subs subs e.subs }) (map frame_text e.replies)) (sym same)
    ∙ ap (λ (subs : List Sub). placed_each (record s { subs = subs }) (map frame_text e.replies)) (sym is.subs)
    ∙ ap (placed_each (record s { subs = p.subs })) (sym is.frames)

writes_as : (w : World) (total : ℕ) (held : List Sub) (e : Effect) (p : Planned) → IsPlanned w total held e p → e.writes ≡ planned_writes p
writes_as w total held e (Objects p) is = ap (λ (d : Effect). d.writes) is.0.is
writes_as w total held e (Channels p) is = ap (λ (d : Effect). d.writes) is.0.is
writes_as w total held e (Subscribed p) is = is.no_writes

length_as : (w : World) (total : ℕ) (held : List Sub) (e : Effect) (p : Planned) → IsPlanned w total held e p → planned_length p ≡ records_len (planned_writes p)
length_as w total held e (Objects p) is = is.0.length_is
length_as w total held e (Channels p) is = is.0.length_is
length_as w total held e (Subscribed p) is = refl

-- what is asked changes the world as its effect says
asked_as : (h : Hall) (s : halls.Session) (asked : Asked) → asked_writes h s asked ≡ (effect_of_asked h.world h.now s.subs asked).writes
asked_as h s (Words words) = ap (λ (e : Effect). e.writes) (by (reads words))
  where
    by : (r : Result Command WordFault) → effect_of h s r ≡ effect_of_read h.world h.now s.subs r
    by (Ok c) = refl
    by (Err f) = refl
asked_as h s (Broken fault) = refl

-- the clock

module _ (before : Store) (now logged drawn : ℕ) (ss mid new : List State) (moment : ℕ) (store : Store) (len : ℕ) (rises : Rises 0 drawn ss) (same : map session_of mid ≡ map session_of ss) (e : IsDueGone before (max now moment) store len) where
  abbrev moment_now : ℕ
  moment_now = max now moment

  abbrev gone_ : List Write
  gone_ = dues before moment_now

  abbrev hall : Hall
  hall = hall_of before now logged drawn ss

  pub later_world : after_all (world_at before) gone_ ≡ world_at store
  later_world = e.world

  module _ (placed_ : ArePlaced mid new) (staged : HaveStaged (world_at before) gone_ mid) where
    pub clock : due hall moment ≡ hall_of store moment_now (logged + len) drawn new
    clock =
        hall_placed (hall_of before moment_now logged drawn ss) gone_ mid new (own_numbers drawn ss rises) (sym same) placed_ staged
        ∙ ap (λ (w : World). record (hall_of store moment_now (logged + records_len gone_) drawn new) { world = w }) later_world
        ∙ ap (λ (n : ℕ). hall_of store moment_now (logged + n) drawn new) (sym e.length_is)

    pub ticked : logged < most_logged → Step hall (Tick moment) (Answered called.Ok) (hall_of store moment_now (logged + len) drawn new)
    ticked unspent = subst (λ (h : Hall). Step hall (Tick moment) (Answered called.Ok) h) clock (tick_done hall moment refl unspent)

  -- a call of the session at a place, which is served and not full
  module _ (n i : ℕ) (asked : Asked) (s : State) (at : slice_get ss i ≡ Some s) (numbered : s.number ≡ n) (lives : is_open s ≡ true) (open_ : is_full s ≡ false) (unspent : logged < most_logged) (placed_ : ArePlaced mid new)
      (caller : State) (here : slice_get mid i ≡ Some caller) (as_was : session_of caller ≡ session_of s) where
    abbrev p : (t : State) × (slice_get new i ≡ Some t) × IsPlaced caller t
    p = placed_at mid new i caller placed_ here

    number_is : caller.number ≡ n
    number_is = ap (λ (h : halls.Session). h.number) as_was ∙ numbered

    mid_rises : Rises 0 drawn mid
    mid_rises = rises_as 0 drawn mid ss same rises

    new_rises : Rises 0 drawn new
    new_rises = rises_placed 0 drawn mid new placed_ mid_rises

    last_number : p.0.number ≡ n
    last_number = number_kept caller p.0 p.2 ∙ number_is

    live_caller : is_live (session_of caller) ≡ true
    live_caller = ap is_live as_was ∙ lives

    -- it is cut by what is due
    pub cut_done : HaveStaged (world_at before) gone_ mid → has_room_left caller.mail ≡ false → Step hall (Call n moment asked) (Answered called.Ok) (hall_of store moment_now (logged + len) drawn new)
    unfolding do_call
    cut_done staged room =
        let dead : is_live (session_of p.0) ≡ false = ap is_live p.2.same ∙ lives_on (session_of caller) caller.mail.staged live_caller ∙ room in
        subst (λ (h : Hall). Step hall (Call n moment asked) (Answered called.Ok) h) (ap (λ (h : Hall). do_call h n asked) (clock placed_ staged) ∙ not_done dead)
        (call_done hall n moment asked refl unspent (session_of s) (found 0 drawn ss i n s rises at numbered) lives open_)
      where
        not_done : is_live (session_of p.0) ≡ false → do_call (hall_of store moment_now (logged + len) drawn new) n asked ≡ hall_of store moment_now (logged + len) drawn new
        not_done dead = rw (found 0 drawn new i n p.0 new_rises p.1 last_number, dead) refl

    -- and then its call writes nothing
    pub cut_writes : HaveStaged (world_at before) gone_ mid → has_room_left caller.mail ≡ false → call_writes (due hall moment) n asked ≡ []
    cut_writes staged room = ap (λ (h : Hall). call_writes h n asked) (clock placed_ staged) ∙ rw (found 0 drawn new i n p.0 new_rises p.1 last_number, dead) refl
      where
        dead : is_live (session_of p.0) ≡ false
        dead = ap is_live p.2.same ∙ lives_on (session_of caller) caller.mail.staged live_caller ∙ room

    -- its request is done
    module _ (q : Planned) (ready : IsRequestReady before store moment_now asked caller mid q) (last : Store) (lasting : world_at last ≡ after_all (world_at store) (planned_writes q)) (v : State) (answer : session_of v ≡ replied q (session_of p.0)) where
      abbrev e_of : Effect
      e_of = effect_of_asked (world_at store) moment_now s.subs asked

      subs_are : caller.subs ≡ s.subs
      subs_are = ap (λ (h : halls.Session). h.subs) as_was

      plan : IsPlanned (world_at store) store.weight s.subs e_of q
      plan = subst (λ (subs : List Sub). IsPlanned (world_at store) store.weight subs (effect_of_asked (world_at store) moment_now subs asked) q) subs_are ready.plan

      room : has_room_for (session_of s) (heard (world_at before) gone_ (listens (session_of s))) ≡ true
      room = subst (λ (h : halls.Session). has_room_for h (heard (world_at before) gone_ (listens h)) ≡ true) as_was ready.roomy

      in_hall : halls.session_of hall n ≡ Some (session_of s)
      in_hall = found 0 drawn ss i n s rises at numbered

      writes_are : e_of.writes ≡ planned_writes q
      writes_are = writes_as (world_at store) store.weight s.subs e_of q plan

      -- what its call writes is what is planned
      pub done_writes : call_writes (due hall moment) n asked ≡ planned_writes q
      done_writes =
          ap (λ (o : Option halls.Session). live_writes (due hall moment) o asked) in_due
          ∙ ap (λ (b : Bool). if b then asked_writes (due hall moment) behind asked else []) lives
          ∙ asked_as (due hall moment) behind asked
          ∙ ap (λ (h : Hall). (effect_of_asked h.world h.now s.subs asked).writes) due_is
          ∙ ap (λ (w : World). (effect_of_asked w moment_now s.subs asked).writes) due_world
          ∙ writes_are
        where
          own : HaveOwnNumbers (map session_of ss)
          own = own_numbers drawn ss rises

          frames : List Bytes
          frames = heard (world_at before) gone_ (listens (session_of s))

          behind : halls.Session
          behind = record (session_of s) { frames = (session_of s).frames ++ frames }

          due_is : due hall moment ≡ record hall { now = moment_now; world = after_all (world_at before) gone_; logged = logged + records_len gone_; sessions = placed_all (map session_of ss) (staged (world_at before) (map session_of ss) gone_) }
          due_is = due_staged hall moment own

          due_world : after_all (world_at before) gone_ ≡ world_at store
          due_world = later_world

          in_due : halls.session_of (due hall moment) n ≡ Some behind
          in_due =
              ap (λ (h : Hall). halls.session_of h n) due_is
              ∙ found_placed n (map session_of ss) (staged (world_at before) (map session_of ss) gone_)
              ∙ ap (option_map (λ t. placed_each t (frames_to t.number (staged (world_at before) (map session_of ss) gone_)))) in_hall
              ∙ ap (λ (fs : List Bytes). Some (placed_each (session_of s) fs))
              (found_holds (λ t. frames_to t.number (staged (world_at before) (map session_of ss) gone_) ≡ heard (world_at before) gone_ (listens t)) n (session_of s) (map session_of ss) (addressed (world_at before) gone_ (map session_of ss) own) in_hall)
              ∙ ap (λ (t : halls.Session). Some t)
              (takes_all (session_of s) frames lives room)

      -- by sessions
      whole : do_call (due hall moment) n asked ≡ record hall { now = moment_now; world = after_all (world_at store) e_of.writes; logged = (logged + records_len gone_) + records_len e_of.writes; sessions = answered n e_of (brought (world_at before) (gone_ ++ e_of.writes) (map session_of ss)) }
      whole =
          by_sessions hall moment n asked (session_of s) (own_numbers drawn ss rises) in_hall lives room
          ∙ ap (λ (u : World). let d = effect_of_asked u moment_now s.subs asked in record hall { now = moment_now; world = after_all u d.writes; logged = (logged + records_len gone_) + records_len d.writes; sessions = answered n d (brought (world_at before) (gone_ ++ d.writes) (map session_of ss)) }) later_world

      brought_are : brought (world_at before) (gone_ ++ planned_writes q) (map session_of ss) ≡ map session_of new
      brought_are = ap (map (λ h. placed_each h (heard (world_at before) (gone_ ++ planned_writes q) (listens h)))) (sym same) ∙ sym (placed_are (world_at before) (gone_ ++ planned_writes q) mid new placed_ ready.staged)

      -- a caller that subscribes has the subscriptions that it had
      still : (s.subs ≡ p.0.subs) ⊎ (e_of.writes ≢ [])
      still = by e_of.writes refl
        where
          by : (ws : List Write) → e_of.writes ≡ ws → (s.subs ≡ p.0.subs) ⊎ (e_of.writes ≢ [])
          by (d ∷ ws) is = inr (λ none. absurd (let f : (d ∷ ws) ≡ [] = sym is ∙ none in cc))
          by [] is = inl (sym subs_are ∙ sym kept)
            where
              none : planned_writes q ≡ []
              none = sym writes_are ∙ is

              all_heard : HaveStaged (world_at before) gone_ mid
              all_heard = subst (λ (ws : List Write). HaveStaged (world_at before) ws mid) (ap (λ (ws : List Write). gone_ ++ ws) none ∙ append-nil gone_) ready.staged

              frames : List Bytes
              frames = heard (world_at before) gone_ (listens (session_of caller))

              taken : map session_of new ≡ map (λ h. placed_each h (heard (world_at before) gone_ (listens h))) (map session_of mid)
              taken = placed_are (world_at before) gone_ mid new placed_ all_heard

              stands : Some (session_of p.0) ≡ Some (placed_each (session_of caller) frames)
              stands = sym (mapped new i p.0 p.1) ∙ ap (λ (hs : List halls.Session). slice_get hs i) taken ∙ mapped_twice mid i caller here
                where
                  mapped : (xs : List State) (k : ℕ) (x : State) → slice_get xs k ≡ Some x → slice_get (map session_of xs) k ≡ Some (session_of x)
                  mapped [] k x e = absurd (cc)
                  mapped (y ∷ ys) zero x e = let is : y ≡ x = cc in ap (λ (z : State). Some (session_of z)) is
                  mapped (y ∷ ys) (suc k) x e = mapped ys k x e

                  mapped_twice : (xs : List State) (k : ℕ) (x : State) → slice_get xs k ≡ Some x → slice_get (map (λ h. placed_each h (heard (world_at before) gone_ (listens h))) (map session_of xs)) k ≡ Some (placed_each (session_of x) (heard (world_at before) gone_ (listens (session_of x))))
                  mapped_twice [] k x e = absurd (cc)
                  mapped_twice (y ∷ ys) zero x e = let is : y ≡ x = cc in ap (λ (z : State). Some (placed_each (session_of z) (heard (world_at before) gone_ (listens (session_of z))))) is
                  mapped_twice (y ∷ ys) (suc k) x e = mapped_twice ys k x e

              one : session_of p.0 ≡ placed_each (session_of caller) frames
              one = same_Some (session_of p.0) (placed_each (session_of caller) frames) stands

              kept : p.0.subs ≡ caller.subs
              kept = ap (λ (h : halls.Session). h.subs) (one ∙ takes_all (session_of caller) frames live_caller ready.roomy)

      last_sessions : answered n e_of (map session_of new) ≡ map session_of (slice_set new i v)
      last_sessions =
          answered_is n e_of (map session_of new)
          ∙ changed (answers_with e_of) 0 drawn new i n p.0 v new_rises p.1 last_number (replies_as (world_at store) store.weight s.subs e_of q (session_of p.0) plan still ∙ sym answer)

      total : (logged + records_len gone_) + records_len e_of.writes ≡ (logged + len) + planned_length q
      total = ap (λ (k : ℕ). (logged + k) + records_len e_of.writes) (sym e.length_is) ∙ ap (λ (ws : List Write). (logged + len) + records_len ws) writes_are ∙ ap (λ (k : ℕ). (logged + len) + k) (sym (length_as (world_at store) store.weight s.subs e_of q plan))

      pub made : do_call (due hall moment) n asked ≡ hall_of last moment_now ((logged + len) + planned_length q) drawn (slice_set new i v)
      made =
          whole
          ∙ ap (λ (ws : List Write). record hall { now = moment_now; world = after_all (world_at store) ws; logged = (logged + records_len gone_) + records_len e_of.writes; sessions = answered n e_of (brought (world_at before) (gone_ ++ ws) (map session_of ss)) }) writes_are
          ∙ ap (λ (hs : List halls.Session). record hall { now = moment_now; world = after_all (world_at store) (planned_writes q); logged = (logged + records_len gone_) + records_len e_of.writes; sessions = answered n e_of hs }) brought_are
          ∙ ap (λ (hs : List halls.Session). record hall { now = moment_now; world = after_all (world_at store) (planned_writes q); logged = (logged + records_len gone_) + records_len e_of.writes; sessions = hs }) last_sessions
          ∙ ap (λ (k : ℕ). record hall { now = moment_now; world = after_all (world_at store) (planned_writes q); logged = k; sessions = map session_of (slice_set new i v) }) total
          ∙ ap (λ (w : World). record hall { now = moment_now; world = w; logged = (logged + len) + planned_length q; sessions = map session_of (slice_set new i v) }) (sym lasting)

      pub done : Step hall (Call n moment asked) (Answered called.Ok) (hall_of last moment_now ((logged + len) + planned_length q) drawn (slice_set new i v))
      done = subst (λ (h : Hall). Step hall (Call n moment asked) (Answered called.Ok) h) made
          (call_done hall n moment asked refl unspent (session_of s) in_hall lives open_)

module _ (store : Store) (now logged drawn : ℕ) (sessions : List State) (moment : ℕ) where
  pub not_ticked : most_logged ≤ logged → Step (hall_of store now logged drawn sessions) (Tick moment) (Answered called.Spent) (hall_of store now logged drawn sessions)
  not_ticked le = tick_spent (hall_of store now logged drawn sessions) moment refl le

  pub tick_refused : logged < most_logged → Step (hall_of store now logged drawn sessions) (Tick moment) (Answered called.Memory) (hall_of store now logged drawn sessions)
  tick_refused unspent = tick_lacks (hall_of store now logged drawn sessions) moment refl unspent

module _ (store : Store) (now logged drawn : ℕ) (sessions : List State) (n moment : ℕ) (asked : Asked) where
  abbrev this_hall : Hall
  this_hall = hall_of store now logged drawn sessions

  pub spent : most_logged ≤ logged → Step this_hall (Call n moment asked) (Answered called.Spent) this_hall
  spent le = call_spent this_hall n moment asked refl le

  module _ (unspent : logged < most_logged) where
    pub gone : AreOthers n sessions → Step this_hall (Call n moment asked) (Answered called.Gone) this_hall
    gone o = call_gone this_hall n moment asked refl unspent (none_found sessions n o)

    module _ (i : ℕ) (s : State) (rises : Rises 0 drawn sessions) (at : slice_get sessions i ≡ Some s) (numbered : s.number ≡ n) where
      pub not_served : is_open s ≡ false → Step this_hall (Call n moment asked) (Answered called.Gone) this_hall
      not_served l = call_closed this_hall n moment asked refl unspent (session_of s) (found 0 drawn sessions i n s rises at numbered) l

      module _ (lives : is_open s ≡ true) where
        pub full : is_full s ≡ true → Step this_hall (Call n moment asked) (Answered called.Full) this_hall
        full f = call_full this_hall n moment asked refl unspent (session_of s) (found 0 drawn sessions i n s rises at numbered) lives f

        pub lacks : is_full s ≡ false → Step this_hall (Call n moment asked) (Answered called.Memory) this_hall
        lacks open_ = call_lacks this_hall n moment asked refl unspent (session_of s) (found 0 drawn sessions i n s rises at numbered) lives open_

-- a call that is not served
pub refused : (store : Store) (now logged drawn : ℕ) (sessions : List State) (n moment : ℕ) (asked : Asked) → logged < most_logged → Rises 0 drawn sessions → (answer : CallOutcome) → IsServed sessions n (Err answer)
    → Step (hall_of store now logged drawn sessions) (Call n moment asked) (Answered answer) (hall_of store now logged drawn sessions)
refused store now logged drawn sessions n moment asked u r called.Gone e =
    elim e [ inl o ↦ gone store now logged drawn sessions n moment asked u o | inr p ↦ not_served store now logged drawn sessions n moment asked u p.0 p.1.session r p.1.here p.1.numbered p.2 ]
refused store now logged drawn sessions n moment asked u r called.Full e = full store now logged drawn sessions n moment asked u e.0 e.1.session r e.1.here e.1.numbered e.2 e.3
refused store now logged drawn sessions n moment asked u r called.Ok e = absurd e
refused store now logged drawn sessions n moment asked u r called.LogFault e = absurd e
refused store now logged drawn sessions n moment asked u r called.Stopped e = absurd e
refused store now logged drawn sessions n moment asked u r called.Spent e = absurd e
refused store now logged drawn sessions n moment asked u r called.Memory e = absurd e
