-- A call that is completed is the machine's.
use Rattle.std.proofs.Common.{◌≡◌, ℕ, zero, suc, ◌+◌, ◌*◌, ◌<◌, ◌≤◌, Bool, true, false, true≢false, refl, sym, ap, ◌∙◌, subst, List, [], ◌∷◌, ◌++◌, length, max, map, lit≤, arith}
use Rattle.std.specs.Prelude.{Some, None, Option, Ok, find, slice_get, slice_set, if◌then◌else◌}
use Rattle.std.proofs.lemmas.Option.{same_Some}
use Rattle.byte_text.specs.ListLaws.{holds_at}
use Rattle.byte_text.specs.Names.{Bytes}
use Rattle.byte_text.specs.Replies.{frame_text}
use Rattle.world_data.specs.Limits.{max_moment, max_reply, most_logged}
use Rattle.world_data.specs.declared.worlds.World.{World}
use Rattle.fence_model.specs.Writes.{Write}
use Rattle.world_model.specs.Effects.{Effect}
use Rattle.world_model.specs.Subscriptions.{Sub}
use Rattle.world_model.specs.Halls as halls
use Rattle.world_model.specs.Halls.{Hall, NamesChanged, due, do_call}
use Rattle.world_model.specs.Histories.{Step}
use Rattle.world_model.specs.Histories as histories
use Rattle.world_model.specs.declared.events.Asked.{Asked}
use Rattle.world_model.specs.declared.events.CallOutcome.TheVariants as called
use Rattle.world_model.specs.declared.events.Event.TheVariants.{Call}
use Rattle.world_model.specs.declared.events.Outcome.TheVariants.{Answered}
use Rattle.log_record.specs.EventWrites.{call_writes, writes_of}
use Rattle.delivery_model.specs.Calls.{due_staged}
use Rattle.delivery_model.specs.Callers.{answer_fits, own_call}
use Rattle.delivery_model.specs.Plans.{FitBehind, IsReplied, effect_of_asked}
use Rattle.delivery_model.specs.Placing.{each_number}
use Rattle.delivery_model.specs.ChangedSessions.{ending_number}
use Rattle.delivery_model.specs.Silent.{heard_none}
use Rattle.delivery_model.specs.Staging.{Suffice, have_room, heard, listens}
use Rattle.session_table.specs.Sessions.{State, session_of}
use Rattle.session_table.specs.Fans.{AreBare, ArePlaced, IsPlaced}
use Rattle.session_table.specs.FanLaws.{bare_all}
use Rattle.object_plans.specs.Kept.{most_kept}
use Rattle.channel_plans.specs.declared.planned.Planned.{Planned}
use Rattle.channel_plans.specs.declared.planned.Planned.TheVariants.{Objects, Channels, Subscribed}
use Rattle.tile_core.specs.declared.ready.Ready.{Ready}
use Rattle.tile_core.specs.declared.stores.Store.{Store}
use Rattle.tile_core.specs.Answered.{AreNamed, AreRoomy, AreSessions, IsAnswered, is_named}
use Rattle.tile_core.specs.RecordSinks.{writes_if}
use Rattle.channel_plans.specs.Planned.{IsPlanned}
use Rattle.tile_core.specs.Ready.{IsCompleted, IsDone, IsDoneIf, IsReady, IsRestReady, IsSoundAnswer, CanComplete, dues, ending_if, length_if, planned_length, replied, reply_frames}
use Rattle.tile_core.specs.Sessions.{IsServed}
use Rattle.tile_core.specs.Stores.{ArePresent, IsSound, IsStore, hall_of, world_at}
use Rattle.tile_core.proofs.Calls.{as_many, cut_done, cut_writes, done, done_writes, later_world, made, own_numbers, placed_at, rises_as, rises_placed}
use Rattle.tile_core.proofs.Finishing.{bare_at, bare_set, present_set}
use Rattle.tile_core.proofs.NamedChanges.{changed_named, placed_named, roomy_as}
use Rattle.tile_core.proofs.Present.{found}
use Rattle.tile_core.proofs.Readying.{as_long, same_at}

pub all_bare : (old new : List State) → ArePlaced old new → AreBare new
all_bare old new p = bare_all IsPlaced (λ s t q. q.bare) old new p

pub numbers_placed : (old new : List State) → ArePlaced old new → map (λ (s : State). s.number) new ≡ map (λ (s : State). s.number) old
numbers_placed [] [] p = refl
numbers_placed [] (t ∷ new) p = absurd p
numbers_placed (s ∷ old) [] p = absurd p
numbers_placed (s ∷ old) (t ∷ new) p =
    let one : t.number ≡ s.number = ap (λ (h : halls.Session). h.number) p.0.same ∙ each_number (session_of s) s.mail.staged in
    ap (λ (n : ℕ). n ∷ map (λ (s : State). s.number) new) one ∙ ap (λ (ns : List ℕ). s.number ∷ ns) (numbers_placed old new p.1)

numbers_set : (xs : List State) (i : ℕ) (s v : State) → slice_get xs i ≡ Some s → v.number ≡ s.number → map (λ (t : State). t.number) (slice_set xs i v) ≡ map (λ (t : State). t.number) xs
numbers_set [] i s v at e = absurd (cc)
numbers_set (x ∷ xs) zero s v at e = let is : x ≡ s = cc in ap (λ (n : ℕ). n ∷ map (λ (t : State). t.number) xs) (e ∙ sym (ap (λ (t : State). t.number) is))
numbers_set (x ∷ xs) (suc i) s v at e = ap (λ (ns : List ℕ). x.number ∷ ns) (numbers_set xs i s v at e)

replied_number : (p : Planned) (s : halls.Session) → (replied p s).number ≡ s.number
replied_number (Objects p) s = by p.closes (halls.placed p.frame s) (each_number s (p.frame ∷ []))
  where
    by : (b : Bool) (t : halls.Session) → t.number ≡ s.number → (ending_if b t).number ≡ s.number
    by true t e = ending_number t ∙ e
    by false t e = e
replied_number (Channels p) s = each_number s (p.frame ∷ [])
replied_number (Subscribed p) s = each_number (record s { subs = p.subs }) p.frames.items

-- one short reply fits, and so do confirmations
fits : (w : World) (total : ℕ) (held : List Sub) (e : Effect) (p : Planned) → IsPlanned w total held e p → FitBehind (map frame_text e.replies)
fits w total held e (Objects p) is = answer_fits e (record { reply = is.0.reply; one = ap (λ (d : Effect). d.replies) is.0.is; none = ap (λ (d : Effect). d.subs) is.0.is; short = subst (λ (f : Bytes). length f ≤ max_reply) is.0.frame is.0.short })
fits w total held e (Channels p) is = answer_fits e (record { reply = is.0.reply; one = ap (λ (d : Effect). d.replies) is.0.is; none = ap (λ (d : Effect). d.subs) is.0.is; short = subst (λ (f : Bytes). length f ≤ max_reply) is.0.frame is.0.short })
fits w total held e (Subscribed p) is = is.fit

sound_answer : (w : World) (total : ℕ) (held : List Sub) (e : Effect) (p : Planned) → IsPlanned w total held e p → IsSoundAnswer p
sound_answer w total held e (Objects p) is = tt
sound_answer w total held e (Channels p) is = tt
sound_answer w total held e (Subscribed p) is = is.sound

short_length : (w : World) (total : ℕ) (held : List Sub) (e : Effect) (p : Planned) → IsPlanned w total held e p → planned_length p ≤ most_kept
short_length w total held e (Objects p) is = is.0.small
short_length w total held e (Channels p) is = is.0.small
short_length w total held e (Subscribed p) is = lit≤ tt

module _ (before : Store) (now logged drawn : ℕ) (ss mid : List State) (n i moment moment_now : ℕ) (asked : Asked) (store : Store) (r : Ready)
    (kept : IsStore before) (present : ArePresent drawn ss) (sv : IsServed ss n (Ok i)) (is_now : moment_now ≡ max now moment) (same : map session_of mid ≡ map session_of ss) (ready : IsReady before moment_now asked i store mid r) where
  abbrev hall : Hall
  hall = hall_of before now logged drawn ss

  abbrev gone_len : ℕ
  gone_len = r.gone.length

  abbrev s : State
  s = sv.0.session

  abbrev m : ℕ
  m = max now moment

  as_was : session_of ready.caller ≡ session_of s
  as_was = same_at mid ss i ready.caller s same ready.here sv.0.here

  ready_m : IsReady before m asked i store mid r
  ready_m = subst (λ (k : ℕ). IsReady before k asked i store mid r) is_now ready

  number_is : ready.caller.number ≡ n
  number_is = ap (λ (h : halls.Session). h.number) as_was ∙ sv.0.numbered

  -- what is made ready can be completed
  pub can : CanComplete store mid i r.planned
  can = by r.planned ready.rest
    where
      by : (p : Option Planned) → IsRestReady before store moment_now asked ready.caller mid p → CanComplete store mid i p
      by None q = tt
      by (Some p) q = (
        sound_answer (world_at store) store.weight ready.caller.subs (effect_of_asked (world_at store) moment_now ready.caller.subs asked) p q.plan,
        q.room,
        λ t at. λ live. subst (λ (u : State). u.mail.replies ≡ reply_frames p) (same_Some ready.caller t (sym ready.here ∙ at)) q.replies,
      )

  pub short : gone_len + length_if r.planned ≤ 2 * most_kept
  short = by r.planned ready.rest
    where
      due_short : gone_len ≤ most_kept
      due_short = ready.gone.small

      by : (p : Option Planned) → IsRestReady before store moment_now asked ready.caller mid p → gone_len + length_if p ≤ 2 * most_kept
      by None q = omega (arith, due_short)
      by (Some p) q = let one = short_length (world_at store) store.weight ready.caller.subs (effect_of_asked (world_at store) moment_now ready.caller.subs asked) p q.plan in omega (arith, due_short, one)

  module _ (unspent : logged < most_logged) (last : Store) (new : List State) (len : ℕ) (completed : IsCompleted store mid i r last new len) where
    abbrev after : Hall
    after = hall_of last moment_now (logged + len) drawn new

    abbrev placed_ : List State
    placed_ = completed.placed_

    at_placed : (t : State) × (slice_get placed_ i ≡ Some t) × IsPlaced ready.caller t
    at_placed = placed_at mid placed_ i ready.caller completed.are_placed ready.here

    mid_present : ArePresent drawn mid
    mid_present = record {
      rises = rises_as 0 drawn mid ss same present.rises;
      few = let long = as_long mid ss same in let few = present.few in omega (arith, long, few);
    }

    placed_present : ArePresent drawn placed_
    placed_present = record {
      rises = rises_placed 0 drawn mid placed_ completed.are_placed mid_present.rises;
      few = let long = as_many mid placed_ completed.are_placed in let few = mid_present.few in omega (arith, long, few);
    }

    -- the answered session keeps its number
    answered_number : (p : Planned) (d : IsDone store placed_ i p last new) → d.answered.number ≡ d.caller.number
    answered_number p d = ap (λ (h : halls.Session). h.number) d.reply ∙ replied_number p (session_of d.caller)

    caller_number : (p : Planned) (d : IsDone store placed_ i p last new) → d.caller.number ≡ n
    caller_number p d =
        let is : d.caller ≡ at_placed.0 = same_Some d.caller at_placed.0 (sym d.here ∙ at_placed.1) in
        ap (λ (t : State). t.number) is ∙ ap (λ (h : halls.Session). h.number) at_placed.2.same ∙ each_number (session_of ready.caller) ready.caller.mail.staged ∙ number_is

    -- the parts stay sound
    pub sound : moment_now ≤ max_moment → IsSound last moment_now drawn new
    sound early = by r.planned ready.rest completed.done
      where
        by : (p : Option Planned) → IsRestReady before store moment_now asked ready.caller mid p → IsDoneIf store placed_ i p last new → IsSound last moment_now drawn new
        by None q d = record {
          kept = d.2 ready.kept;
          early = early;
          present = subst (ArePresent drawn) (sym d.0) placed_present;
          bare = subst AreBare (sym d.0) (all_bare mid placed_ completed.are_placed);
        }
        by (Some p) q d =
            let bare = all_bare mid placed_ completed.are_placed in
            record {
              kept = d.kept ready.caller.subs (effect_of_asked (world_at store) moment_now ready.caller.subs asked) q.plan ready.kept;
              early = early;
              present = subst (ArePresent drawn) (sym d.set) (present_set drawn placed_ i d.caller d.answered placed_present d.here (answered_number p d));
              bare = subst AreBare (sym d.set) (bare_set placed_ i d.answered bare (d.staged ∙ bare_at placed_ i d.caller bare d.here));
            }

    -- the step
    pub step : Step hall (Call n moment asked) (Answered called.Ok) after
    step = subst (λ (k : ℕ). Step hall (Call n moment asked) (Answered called.Ok) (hall_of last k (logged + len) drawn new)) (sym is_now) (by r.planned ready_m.rest completed.done completed.length_is)
      where
        same_caller : ready_m.caller ≡ ready.caller
        same_caller = same_Some ready_m.caller ready.caller (sym ready_m.here ∙ ready.here)

        was : session_of ready_m.caller ≡ session_of s
        was = ap session_of same_caller ∙ as_was

        by : (p : Option Planned) → IsRestReady before store m asked ready_m.caller mid p → IsDoneIf store placed_ i p last new → len ≡ gone_len + length_if p → Step hall (Call n moment asked) (Answered called.Ok) (hall_of last m (logged + len) drawn new)
        by None q d is =
            let cut = cut_done before now logged drawn ss mid placed_ moment store gone_len present.rises same ready_m.gone n i asked s sv.0.here sv.0.numbered sv.1 sv.2 unspent completed.are_placed ready_m.caller ready_m.here was q.0 q.1 in
            let sum : logged + len ≡ logged + gone_len = omega (arith, is) in
            subst (λ (xs : List State). Step hall (Call n moment asked) (Answered called.Ok) (hall_of last m (logged + len) drawn xs)) (sym d.0)
            (subst (λ (k : ℕ). Step hall (Call n moment asked) (Answered called.Ok) (hall_of last m k drawn placed_)) (sym sum)
            (subst (λ (w : World). Step hall (Call n moment asked) (Answered called.Ok) (record (hall_of last m (logged + gone_len) drawn placed_) { world = w })) (sym d.1) cut))
        by (Some p) q d is =
            let t = placed_at mid placed_ i ready_m.caller completed.are_placed ready_m.here in
            let one : d.caller ≡ t.0 = same_Some d.caller t.0 (sym d.here ∙ t.1) in
            let reply : session_of d.answered ≡ replied p (session_of t.0) = d.reply ∙ ap (λ (x : State). replied p (session_of x)) one in
            let whole = done before now logged drawn ss mid placed_ moment store gone_len present.rises same ready_m.gone n i asked s sv.0.here sv.0.numbered sv.1 sv.2 unspent completed.are_placed ready_m.caller ready_m.here was p q last d.world d.answered reply in
            let sum : logged + len ≡ (logged + gone_len) + planned_length p = omega (arith, is) in
            subst (λ (xs : List State). Step hall (Call n moment asked) (Answered called.Ok) (hall_of last m (logged + len) drawn xs)) (sym d.set)
            (subst (λ (k : ℕ). Step hall (Call n moment asked) (Answered called.Ok) (hall_of last m k drawn (slice_set placed_ i d.answered))) (sym sum) whole)

    -- it does the writes of what was made ready
    pub writes : writes_of hall (Call n moment asked) ≡ dues before moment_now ++ writes_if r.planned
    writes =
        ap (λ (more : List Write). dues before m ++ more) (by r.planned ready_m.rest completed.done)
        ∙ ap (λ (k : ℕ). dues before k ++ writes_if r.planned) (sym is_now)
      where
        same_caller : ready_m.caller ≡ ready.caller
        same_caller = same_Some ready_m.caller ready.caller (sym ready_m.here ∙ ready.here)

        was : session_of ready_m.caller ≡ session_of s
        was = ap session_of same_caller ∙ as_was

        by : (p : Option Planned) → IsRestReady before store m asked ready_m.caller mid p → IsDoneIf store placed_ i p last new → call_writes (due hall moment) n asked ≡ writes_if p
        by None q d = cut_writes before now logged drawn ss mid placed_ moment store gone_len present.rises same ready_m.gone n i asked s sv.0.here sv.0.numbered sv.1 sv.2 unspent completed.are_placed ready_m.caller ready_m.here was q.0 q.1
        by (Some p) q d =
            let t = placed_at mid placed_ i ready_m.caller completed.are_placed ready_m.here in
            let one : d.caller ≡ t.0 = same_Some d.caller t.0 (sym d.here ∙ t.1) in
            let reply : session_of d.answered ≡ replied p (session_of t.0) = d.reply ∙ ap (λ (x : State). replied p (session_of x)) one in
            done_writes before now logged drawn ss mid placed_ moment store gone_len present.rises same ready_m.gone n i asked s sv.0.here sv.0.numbered sv.1 sv.2 unspent completed.are_placed ready_m.caller ready_m.here was p q last d.world d.answered reply

    -- who is another is named
    module _ (named : List ℕ) (told : AreNamed named mid) (caller_named : is_named named n ≡ true) where
      pub all_named : NamesChanged named hall after
      all_named k ne = by_name (is_named named k) refl
        where
          same_session : is_named named k ≡ false → find (halls.is_session k) (map session_of new) ≡ find (halls.is_session k) (map session_of ss)
          same_session e = by r.planned completed.done
            where
              by : (p : Option Planned) → IsDoneIf store placed_ i p last new → find (halls.is_session k) (map session_of new) ≡ find (halls.is_session k) (map session_of ss)
              by None d = ap (λ (xs : List State). find (halls.is_session k) (map session_of xs)) d.0 ∙ placed_named named ss mid placed_ same completed.are_placed told k e
              by (Some p) d =
                  let it : is_named named d.caller.number ≡ true = ap (is_named named) (caller_number p d) ∙ caller_named in
                  ap (λ (xs : List State). find (halls.is_session k) (map session_of xs)) d.set ∙ changed_named named ss mid placed_ same completed.are_placed told k i d.caller d.answered d.here (answered_number p d) it e

          by_name : (b : Bool) → is_named named k ≡ b → is_named named k ≡ true
          by_name true e = e
          by_name false e = absurd (ne (same_session e))

      pub room_left : AreRoomy named mid → AreSessions named after
      room_left room = by r.planned completed.done
        where
          by : (p : Option Planned) → IsDoneIf store placed_ i p last new → AreSessions named after
          by None d = roomy_as named mid new (ap (map (λ (t : State). t.number)) d.0 ∙ numbers_placed mid placed_ completed.are_placed) room
          by (Some p) d = roomy_as named mid new (ap (map (λ (t : State). t.number)) d.set ∙ numbers_set placed_ i d.caller d.answered d.here (answered_number p d) ∙ numbers_placed mid placed_ completed.are_placed) room

    -- a session without subscriptions has its reply
    pub answered_ : IsAnswered hall after moment n asked
    answered_ h_s in_hall bare = by r.planned ready_m.rest completed.done completed.length_is
      where
        own : halls.session_of hall n ≡ Some (session_of s)
        own = found 0 drawn ss i n s present.rises sv.0.here sv.0.numbered

        is_s : h_s ≡ session_of s
        is_s = same_Some h_s (session_of s) (sym in_hall ∙ own)

        no_subs : s.subs ≡ []
        no_subs = sym (ap (λ (h : halls.Session). h.subs) is_s) ∙ bare

        same_caller : ready_m.caller ≡ ready.caller
        same_caller = same_Some ready_m.caller ready.caller (sym ready_m.here ∙ ready.here)

        was : session_of ready_m.caller ≡ session_of s
        was = ap session_of same_caller ∙ as_was

        world_is : (due hall moment).world ≡ world_at store
        world_is =
            ap (λ (k : Hall). k.world) (due_staged hall moment (own_numbers drawn ss present.rises))
            ∙ later_world before now logged drawn ss mid placed_ moment store gone_len present.rises same ready_m.gone

        -- it hears nothing, and so it is not cut by what is due
        hears_nothing : (writes : List Write) → heard (world_at before) writes (listens (session_of ready_m.caller)) ≡ []
        hears_nothing writes = ap (heard (world_at before) writes) (ap listens was ∙ none) ∙ heard_none (world_at before) writes
          where
            none : listens (session_of s) ≡ []
            none = by_live (halls.is_live (session_of s))
              where
                by_live : (b : Bool) → (if b then s.subs else []) ≡ []
                by_live true = no_subs
                by_live false = refl

        nothing_staged : (all some : List Bytes) (frames : List Bytes) → all ≡ [] → Suffice frames all some → have_room frames some ≡ true
        nothing_staged all [] frames e f = refl
        nothing_staged all (x ∷ some) frames e f = absurd (let k : (x ∷ some) ++ f.rest ≡ [] = sym f.front ∙ e in cc)

        by : (p : Option Planned) → IsRestReady before store m asked ready_m.caller mid p → IsDoneIf store placed_ i p last new → len ≡ gone_len + length_if p
            → IsReplied (halls.session_of hall n) (halls.session_of after n) (map frame_text (effect_of_asked (due hall moment).world (max hall.now moment) h_s.subs asked).replies)
        by None q d is =
            let c = ready_m.caller in
            let staged = holds_at (λ t. Suffice t.mail.frames (heard (world_at before) (dues before m) (listens (session_of t))) t.mail.staged) mid i c q.0 ready_m.here in
            absurd (true≢false (sym (nothing_staged (heard (world_at before) (dues before m) (listens (session_of c))) c.mail.staged c.mail.frames (hears_nothing (dues before m)) staged) ∙ q.1))
        by (Some p) q d is =
            let t = placed_at mid placed_ i ready_m.caller completed.are_placed ready_m.here in
            let one : d.caller ≡ t.0 = same_Some d.caller t.0 (sym d.here ∙ t.1) in
            let reply : session_of d.answered ≡ replied p (session_of t.0) = d.reply ∙ ap (λ (x : State). replied p (session_of x)) one in
            let whole = made before now logged drawn ss mid placed_ moment store gone_len present.rises same ready_m.gone n i asked s sv.0.here sv.0.numbered sv.1 sv.2 unspent completed.are_placed ready_m.caller ready_m.here was p q last d.world d.answered reply in
            let subs_are : ready_m.caller.subs ≡ h_s.subs = ap (λ (h : halls.Session). h.subs) (was ∙ sym is_s) in
            let plan : IsPlanned (world_at store) store.weight h_s.subs (effect_of_asked (world_at store) m h_s.subs asked) p =
            subst (λ (held : List Sub). IsPlanned (world_at store) store.weight held (effect_of_asked (world_at store) m held asked) p) subs_are q.plan in
            let fit = subst (λ (w : World). FitBehind (map frame_text (effect_of_asked w m h_s.subs asked).replies)) (sym world_is)
            (fits (world_at store) store.weight h_s.subs (effect_of_asked (world_at store) m h_s.subs asked) p plan) in
            let live = ap halls.is_live is_s ∙ sv.1 in
            let open_ = ap histories.is_full is_s ∙ sv.2 in
            let said = own_call hall moment n asked h_s (own_numbers drawn ss present.rises) in_hall live open_ bare fit in
            let last_sessions : halls.session_of (do_call (due hall moment) n asked) n ≡ halls.session_of after n =
            ap (λ (k : Hall). halls.session_of k n) whole ∙ ap (λ (xs : List State). find (halls.is_session n) (map session_of xs)) (sym d.set) in
            subst (λ (o : Option halls.Session). IsReplied (halls.session_of hall n) o (map frame_text (effect_of_asked (due hall moment).world m h_s.subs asked).replies)) last_sessions said
