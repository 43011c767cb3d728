-- A whole call, and the finish of its plan.
use Rattle.std.proofs.Common.{◌≡◌, inl, inr, ℕ, ◌+◌, max, Bool, true, false, ◌&&◌, refl, sym, ◌∙◌, ap, subst, List, [], ◌∷◌, ◌++◌, arith}
use Rattle.std.specs.Prelude.{Option, Some, None, Result, Ok, Err, map, option_map, if◌then◌else◌}
use Rattle.std.specs.List.{AllByRecursion}
use Rattle.byte_text.specs.Names.{Bytes}
use Rattle.byte_text.specs.Replies.{frame_text}
use Rattle.byte_text.specs.declared.replies.Piece.{Piece}
use Rattle.world_model.specs.Subscriptions.{Sub}
use Rattle.world_model.specs.Effects.{Effect}
use Rattle.fence_model.specs.Writes.{Write, due_writes}
use Rattle.world_model.specs.Commands.{reads}
use Rattle.world_model.specs.Refusals.{broken_reply}
use Rattle.world_model.specs.Halls.{Hall, Session, is_live, is_session, session_of, place, place_all, placed_each, change_session, apply_all, due}
use Rattle.world_model.specs.Halls.{closed_if, close_session, do_effect, do_words, do_asked, do_live, do_call}
use Rattle.world_data.specs.declared.worlds.World.{World}
use Rattle.world_model.specs.declared.commands.Command.{Command}
use Rattle.world_model.specs.declared.faults.WordFault.{WordFault}
use Rattle.world_model.specs.declared.events.Asked.{Asked}
use Rattle.world_model.specs.declared.events.Asked.TheVariants.{Words, Broken}
use Rattle.world_model.specs.SessionLaws.{found_number}
use Rattle.delivery_model.specs.Staging.{AreStaged, Suffice, Delivery, HaveOwnNumbers, after_all, records_len, staged, frames_to, all_to, changed_at}
use Rattle.delivery_model.specs.Staging.{placed_all, has_room_for}
use Rattle.delivery_model.specs.Plans.{Part, CallPlan, IsPart, IsPartOf, IsCallPlan, SubscribesOrChanges, caller_behind, effect_of_read}
use Rattle.delivery_model.specs.Plans.{effect_of_asked, subscribing, ended_if, with_part, with_parts, last_world, part_length, finish}
use Rattle.delivery_model.specs.Placing.{map_same, all_by, of_sessions, own, map_none, map_twice, each_append, dead_takes_none, each_number}
use Rattle.delivery_model.specs.Applying.{apply_staged, staged_is}
use Rattle.delivery_model.specs.Serving.{found_placed, number_is, lives_on, takes_all}
use Rattle.delivery_model.specs.Effects.{either}

-- the steps of an effect, in the sessions alone

abbrev frames_of_replies : ℕ → List (List Piece) → List Delivery
frames_of_replies n replies = map (λ r. (n, frame_text r)) replies

replies_are : (n : ℕ) (replies : List (List Piece)) → frames_of_replies n replies ≡ all_to n (map frame_text replies)
replies_are n [] = refl
replies_are n (r ∷ replies) = ap (λ (list : List Delivery). (n, frame_text r) ∷ list) (replies_are n replies)

same_if : (b : Bool) (f : Session → Session) (s : Session) → f s ≡ s → (if b then f s else s) ≡ s
same_if true f s e = e
same_if false f s e = refl

pub none_changed : (n : ℕ) (f : Session → Session) (ss : List Session) → ((s : Session) → f s ≡ s) → changed_at f n ss ≡ ss
none_changed n f ss e = map_none (λ s. if is_session n s then f s else s) (λ s. same_if (is_session n s) f s (e s)) ss

closed_is : (b : Bool) (n : ℕ) (h : Hall) → closed_if b n h ≡ record h { sessions = ended_if b n h.sessions }
closed_is true n h = refl
closed_is false n h = refl

front_none : (some rest : List Bytes) → [] ≡ some ++ rest → some ≡ []
front_none [] rest e = refl
front_none (f ∷ some) rest e = absurd (cc)

-- a list that names none of the sessions
bare_kept : (list : List Delivery) (k : Session → Session) → ((s : Session) → (k s).number ≡ s.number) → (ss : List Session)
    → AllByRecursion (λ s. frames_to s.number list ≡ []) ss → AllByRecursion (λ s. frames_to s.number list ≡ []) (map k ss)
bare_kept list k keeps [] all = tt
bare_kept list k keeps (s ∷ ss) all = (ap (λ (m : ℕ). frames_to m list) (keeps s) ∙ all.0, bare_kept list k keeps ss all.1)

bare_placed : (list : List Delivery) (ss : List Session) → AllByRecursion (λ s. frames_to s.number list ≡ []) ss → placed_all ss list ≡ ss
bare_placed list ss all =
    own ss list
    ∙ map_same (λ s. placed_each s (frames_to s.number list)) (λ s. s) ss
    (all_by (λ s. frames_to s.number list ≡ []) (λ s. placed_each s (frames_to s.number list) ≡ s) (λ s b. ap (placed_each s) b) ss all)
    ∙ map_none (λ s. s) (λ s. refl) ss

subscribed_number : (b : Bool) (subs : List Sub) (s : Session) → (if b then subscribing subs s else s).number ≡ s.number
subscribed_number true subs s = refl
subscribed_number false subs s = refl

-- changes behind the replies and the new subscriptions, staged with the sessions as they were
module _ (h : Hall) (n : ℕ) (e : Effect) (fs : Session → List Bytes) (ss : List Session) (o : HaveOwnNumbers ss)
    (is : h.sessions ≡ map (λ s. placed_each s (fs s)) ss) where
  abbrev list : List Delivery
  list = all_to n (map frame_text e.replies)

  abbrev subscribed : List Session
  subscribed = changed_at (subscribing e.subs) n h.sessions

  abbrev told : Hall
  told = record h { sessions = placed_all subscribed list }

  -- the sessions, with the replies placed too
  with_replies : placed_all h.sessions list ≡ map (λ s. placed_each s (fs s ++ frames_to s.number list)) ss
  with_replies =
      ap (λ (xs : List Session). placed_all xs list) is
      ∙ own (map (λ s. placed_each s (fs s)) ss) list
      ∙ map_twice (λ s. placed_each s (frames_to s.number list)) (λ s. placed_each s (fs s)) (λ s. placed_each s (fs s ++ frames_to s.number list))
      (λ s. sym (each_append s (fs s) (frames_to (placed_each s (fs s)).number list) ∙ refl) ∙ again s) ss
    where
      again : (s : Session) → placed_each s (fs s ++ frames_to (placed_each s (fs s)).number list) ≡ placed_each s (fs s ++ frames_to s.number list)
      again s = ap (λ (k : ℕ). placed_each s (fs s ++ frames_to k list)) (each_number s (fs s))

  effect_told : place_all (change_session (subscribing e.subs) n h) (frames_of_replies n e.replies) ≡ told
  effect_told = of_sessions (change_session (subscribing e.subs) n h) (frames_of_replies n e.replies)
      ∙ ap (λ (l : List Delivery). record h { sessions = placed_all subscribed l }) (replies_are n e.replies)

  -- where nothing is brought, nothing is written
  nothing_written : (brings : List Delivery) → AreStaged h.world [] ss brings
      → placed_all (placed_all subscribed list) brings ≡ placed_all subscribed list
  nothing_written brings has =
      let f : Session → Session = λ s. if is_session n s then subscribing e.subs s else s in
      let g : Session → Session = λ s. placed_each s (frames_to s.number list) in
      let taken : Session → Session = λ s. placed_each s (fs s) in
      let bare : AllByRecursion (λ s. frames_to s.number brings ≡ []) ss = all_by (λ s. Suffice s.frames [] (frames_to s.number brings))
      (λ s. frames_to s.number brings ≡ []) (λ s b. front_none (frames_to s.number brings) b.rest b.front) ss has in
      let path : placed_all subscribed list ≡ map g (map f (map taken ss)) = own subscribed list ∙ ap (λ (ys : List Session). map g (map f ys)) is in
      let all = bare_kept brings g (λ s. each_number s (frames_to s.number list)) (map f (map taken ss))
      (bare_kept brings f (λ s. subscribed_number (is_session n s) e.subs s) (map taken ss)
      (bare_kept brings taken (λ s. each_number s (fs s)) ss bare)) in
      bare_placed brings (placed_all subscribed list)
      (subst (λ (xs : List Session). AllByRecursion (λ s. frames_to s.number brings ≡ []) xs) (sym path) all)

  changes_told : SubscribesOrChanges e → (brings : List Delivery) → AreStaged h.world e.writes ss brings
      → apply_all told e.writes ≡ record told
      { world = after_all h.world e.writes; logged = h.logged + records_len e.writes; sessions = placed_all (placed_all subscribed list) brings }
  changes_told (inl none) brings has =
      let same : subscribed ≡ h.sessions = ap (λ (subs : List Sub). changed_at (subscribing subs) n h.sessions) none
      ∙ none_changed n (subscribing []) h.sessions (λ s. refl) in
      apply_staged told e.writes (λ s. fs s ++ frames_to s.number list) ss o
      (ap (λ (xs : List Session). placed_all xs list) same ∙ with_replies) brings has
  changes_told (inr none) brings has =
      let more : h.logged ≡ h.logged + 0 = omega arith in
      let no_writes : placed_all (placed_all subscribed list) []
      ≡ placed_all (placed_all subscribed list) brings =
      sym (nothing_written brings (subst (λ (writes : List Write). AreStaged h.world writes ss brings) none has)) in
      subst (λ (writes : List Write). apply_all told writes
      ≡ record told {
        world = after_all h.world writes;
        logged = h.logged + records_len writes;
        sessions = placed_all (placed_all subscribed list) brings;
      }) (sym none)
      (ap (λ (m : ℕ). record told { logged = m }) more ∙ ap (λ (xs : List Session). record told { logged = h.logged + 0; sessions = xs }) no_writes)

  abbrev pub part_of_ : List Delivery → Part
  part_of_ brings = record {
    replies = map frame_text e.replies;
    subs = e.subs;
    brings = brings;
    world = after_all h.world e.writes;
    length = records_len e.writes;
    closes = e.closes;
  }

  pub effect_done : SubscribesOrChanges e → (brings : List Delivery) → AreStaged h.world e.writes ss brings
      → do_effect h n e ≡ record h {
        world = after_all h.world e.writes;
        logged = h.logged + records_len e.writes;
        sessions = with_part n (part_of_ brings) h.sessions;
      }
  effect_done which brings has =
      ap (λ (k : Hall). closed_if e.closes n (apply_all k e.writes)) effect_told
      ∙ ap (closed_if e.closes n) (changes_told which brings has)
      ∙ closed_is e.closes n
      (record told {
        world = after_all h.world e.writes;
        logged = h.logged + records_len e.writes;
        sessions = placed_all (placed_all subscribed list) brings;
      })

  -- the part is told by its fields
  part_is : (q : Part) → IsPart h.world ss e q → part_of_ q.brings ≡ q
  part_is q i =
      let p : Part = part_of_ q.brings in
      sym (ap (λ (x : List Bytes). record q { replies = x }) i.replies
      ∙ ap (λ (x : List Sub). record q { replies = p.replies; subs = x }) i.subs
      ∙ ap (λ (x : World). record q { replies = p.replies; subs = p.subs; world = x }) i.world
      ∙ ap (λ (x : ℕ). record q { replies = p.replies; subs = p.subs; world = p.world; length = x }) i.length_is
      ∙ ap (λ (x : Bool). record q { replies = p.replies; subs = p.subs; world = p.world; length = p.length; closes = x }) i.closes)

  pub part_done : SubscribesOrChanges e → (q : Part) → IsPart h.world ss e q
      → do_effect h n e ≡ record h { world = q.world; logged = h.logged + q.length; sessions = with_part n q h.sessions }
  part_done which q i = effect_done which q.brings i.brings
      ∙ ap (λ (p : Part). record h { world = p.world; logged = h.logged + p.length; sessions = with_part n p h.sessions }) (part_is q i)

-- what is asked has an effect
same_subs : (h : Hall) (n : ℕ) → change_session (subscribing []) n h ≡ h
same_subs h n = ap (λ (ss : List Session). record h { sessions = ss }) (none_changed n (subscribing []) h.sessions (λ s. refl))

pub asked_effect : (h : Hall) (s : Session) (asked : Asked) → do_asked h s asked ≡ do_effect h s.number (effect_of_asked h.world h.now s.subs asked)
asked_effect h s (Words words) = of_read (reads words)
  where
    of_read : (r : Result Command WordFault) → do_words h s r ≡ do_effect h s.number (effect_of_read h.world h.now s.subs r)
    of_read (Ok c) = refl
    of_read (Err f) = refl
asked_effect h s (Broken f) = ap (λ (k : Hall). close_session s.number (place k (s.number, frame_text (broken_reply f)))) (sym (same_subs h s.number))

-- the caller behind what is due, and its part
module _ (h : Hall) (n : ℕ) (asked : Asked) (dues : List Delivery) (ss : List Session) (o : HaveOwnNumbers ss)
    (is : h.sessions ≡ map (λ s. placed_each s (frames_to s.number dues)) ss) where
  abbrev got : Session → Session
  got s = placed_each s (frames_to s.number dues)

  abbrev done : Option Part → Hall
  done part = record h { world = last_world h.world part; logged = h.logged + part_length part; sessions = with_parts n part h.sessions }

  nothing : (part : Option Part) → part ≡ None → h ≡ done part
  nothing part none =
      let more : h.logged ≡ h.logged + 0 = omega arith in
      ap (λ (m : ℕ). record h { logged = m }) more ∙ ap done (sym none)

  part_of_served : (s : Session) (part : Option Part) → IsPartOf h.world h.now ss asked (Some s) part
      → do_effect h n (effect_of_asked h.world h.now s.subs asked) ≡ done part
  part_of_served s None i = absurd i
  part_of_served s (Some q) i =
      let e = effect_of_asked h.world h.now s.subs asked in
      part_done h n e (λ s. frames_to s.number dues) ss o is (either h.world h.now s.subs asked) q i

  served : (s : Session) (part : Option Part) → is_session n s ≡ true → is_live s ≡ true → has_room_for s (frames_to s.number dues) ≡ true
      → IsPartOf h.world h.now ss asked (Some s) part → do_asked h (got s) asked ≡ done part
  served s part found lives room i =
      let e = effect_of_asked h.world h.now s.subs asked in
      ap (λ (t : Session). do_asked h t asked) (takes_all s (frames_to s.number dues) lives room)
      ∙ asked_effect h (record s { frames = s.frames ++ frames_to s.number dues }) asked
      ∙ ap (λ (k : ℕ). do_effect h k e) (number_is n s found)
      ∙ part_of_served s part i

  when_live : (t : Session) → is_live t ≡ true → do_live h (Some t) asked ≡ do_asked h t asked
  when_live t e = rw e refl

  when_not : (t : Session) → is_live t ≡ false → do_live h (Some t) asked ≡ h
  when_not t e = rw e refl

  one_caller : (s : Session) (part : Option Part) → is_session n s ≡ true → (a b : Bool) → is_live s ≡ a
      → has_room_for s (frames_to s.number dues) ≡ b
      → IsPartOf h.world h.now ss asked (if a && b then Some s else None) part → do_live h (Some (got s)) asked ≡ done part
  one_caller s part found true true e r i = when_live (got s) (lives_on s (frames_to s.number dues) e ∙ r) ∙ served s part found e r i
  one_caller s part found true false e r i = when_not (got s) (lives_on s (frames_to s.number dues) e ∙ r) ∙ nothing part i
  one_caller s part found false b e r i = when_not (got s) (ap is_live (dead_takes_none s (frames_to s.number dues) e) ∙ e) ∙ nothing part i

  pub any_caller : (caller : Option Session) (part : Option Part) → ((s : Session) → caller ≡ Some s → is_session n s ≡ true)
      → IsPartOf h.world h.now ss asked (caller_behind dues caller) part → do_live h (option_map got caller) asked ≡ done part
  any_caller None part found i = nothing part i
  any_caller (Some s) part found i = one_caller s part (found s refl) (is_live s) (has_room_for s (frames_to s.number dues)) refl refl i

module _ (h : Hall) (moment : ℕ) (o : HaveOwnNumbers h.sessions) where
  abbrev now : ℕ
  now = max h.now moment

  abbrev writes : List Write
  writes = due_writes h.world now

  -- what is due, staged
  pub due_by : (list : List Delivery) → AreStaged h.world writes h.sessions list
      → due h moment ≡ record h {
        now = now;
        world = after_all h.world writes;
        logged = h.logged + records_len writes;
        sessions = placed_all h.sessions list;
      }
  due_by list has = apply_staged (record h { now = now }) writes (λ s. []) h.sessions o (sym (map_none (λ s. s) (λ s. refl) h.sessions)) list has

  pub due_staged : due h moment ≡ record h {
    now = now;
    world = after_all h.world writes;
    logged = h.logged + records_len writes;
    sessions = placed_all h.sessions (staged h.world h.sessions writes);
  }
  due_staged = due_by (staged h.world h.sessions writes) (staged_is h.world h.sessions writes o)

  module _ (n : ℕ) (asked : Asked) (p : CallPlan) (i : IsCallPlan h moment n asked p) where
    abbrev later : Hall
    later = record h { now = now; world = p.world; logged = h.logged + p.length; sessions = placed_all h.sessions p.dues }

    due_is : due h moment ≡ later
    due_is =
        due_by p.dues i.dues
        ∙ ap (λ (w : World). record later { world = w; logged = h.logged + records_len writes }) (sym i.world)
        ∙ ap (λ (l : ℕ). record later { logged = h.logged + l }) (sym i.length_is)

    call_is : do_call later n asked ≡ finish h moment n p
    unfolding do_call
    call_is =
        ap (λ (caller : Option Session). do_live later caller asked) (found_placed n h.sessions p.dues)
        ∙ any_caller later n asked p.dues h.sessions o (own h.sessions p.dues) (session_of h n) p.part (λ s f. found_number n s h.sessions f) i.part

    pub plan_does_call : finish h moment n p ≡ do_call (due h moment) n asked
    plan_does_call = sym (ap (λ (k : Hall). do_call k n asked) due_is ∙ call_is)
