-- A call, session by session: each is brought all that it hears of what is due and of the call, and then the caller has its replies.
use Rattle.std.proofs.Common.{◌≡◌, inl, inr, ℕ, ◌+◌, ◌==◌, max, Bool, true, false, ◌&&◌, refl, sym, ◌∙◌, ap, subst, List, [], ◌∷◌, ◌++◌, append-nil}
use Rattle.std.proofs.Common.{arith}
use Rattle.std.specs.Prelude.{◌⊎◌, Option, Some, None, find, map, Result, Ok, Err, if◌then◌else◌}
use Rattle.std.specs.List.{AllByRecursion}
use Rattle.std.proofs.lemmas.Bool.Decides.{nat_tests}
use Rattle.byte_text.specs.Names.{Bytes}
use Rattle.byte_text.specs.Replies.{frame_text}
use Rattle.fence_model.specs.Writes.{Write, due_writes}
use Rattle.world_data.specs.declared.worlds.World.{World}
use Rattle.world_model.specs.Subscriptions.{Sub}
use Rattle.world_model.specs.Effects.{Effect}
use Rattle.world_model.specs.Commands.{reads}
use Rattle.world_model.specs.declared.commands.Command.{Command}
use Rattle.world_model.specs.declared.faults.WordFault.{WordFault}
use Rattle.world_model.specs.declared.events.Asked.{Asked}
use Rattle.world_model.specs.declared.events.Asked.TheVariants.{Words, Broken}
use Rattle.world_model.specs.Halls.{Hall, Session, is_live, is_session, session_of, placed_each, due, do_call}
use Rattle.delivery_model.specs.Staging.{Delivery, HaveOwnNumbers, after_all, records_len, staged, frames_to, all_to, changed_at, placed_all, listens}
use Rattle.delivery_model.specs.Staging.{heard, has_room_for}
use Rattle.delivery_model.specs.Plans.{Part, CallPlan, IsPartOf, IsCallPlan, effect_of_asked, effect_of_read, subscribing, ended_if, part_of}
use Rattle.delivery_model.specs.Plans.{caller_behind, brought, answered}
use Rattle.delivery_model.specs.Placing.{own, each_number, each_append}
use Rattle.delivery_model.specs.Addressing.{addressed, to_other}
use Rattle.delivery_model.specs.Applying.{staged_is}
use Rattle.delivery_model.specs.Silent.{heard_none, heard_append}
use Rattle.delivery_model.specs.Effects.{four_keep}
use Rattle.delivery_model.specs.Calls.{plan_does_call}
use Rattle.delivery_model.specs.Serving.{found_holds}

changed_number : (b : Bool) (subs : List Sub) (s : Session) → (if b then subscribing subs s else s).number ≡ s.number
changed_number true subs s = refl
changed_number false subs s = refl

-- one session
module _ (w : World) (first second : List Write) (subs : List Sub) (n : ℕ) (frames : List Bytes) (dues brings : List Delivery) where
  abbrev due_to : Session → Session
  due_to s = placed_each s (frames_to s.number dues)

  abbrev joins : Session → Session
  joins s = if is_session n s then subscribing subs s else s

  abbrev replied : Session → Session
  replied s = placed_each s (frames_to s.number (all_to n frames))

  abbrev brought_to : Session → Session
  brought_to s = placed_each s (frames_to s.number brings)

  abbrev all_to_it : Session → Session
  all_to_it s = placed_each s (heard w (first ++ second) (listens s))

  -- what is staged for it, and that it is not the caller, or nothing is written, or it hears nothing
  pub record Knows (s : Session) : Type 0 where
    pub dues_are : frames_to s.number dues ≡ heard w first (listens s)
    pub brings_are : frames_to s.number brings ≡ heard (after_all w first) second (listens s)
    pub either_way : (is_session n s ≡ false) ⊎ ((second ≡ []) ⊎ (s.subs ≡ []))

  other_stays : (t : Session) → is_session n t ≡ false → replied (joins t) ≡ t
  other_stays t e = ap (λ (b : Bool). replied (if b then subscribing subs t else t)) e ∙ ap (placed_each t) (to_other t.number n frames e)

  number_stays : (s : Session) (t : Session) → t.number ≡ s.number → (replied (joins t)).number ≡ s.number
  number_stays s t e = each_number (joins t) (frames_to (joins t).number (all_to n frames)) ∙ changed_number (is_session n t) subs t ∙ e

  brings_none : (s t : Session) → t.number ≡ s.number → frames_to s.number brings ≡ [] → brought_to t ≡ t
  brings_none s t e none = ap (λ (m : ℕ). placed_each t (frames_to m brings)) e ∙ ap (placed_each t) none

  hears_all : (s : Session) → Knows s → heard w (first ++ second) (listens s) ≡ frames_to s.number dues ++ frames_to s.number brings
  hears_all s k =
      heard_append w first second (listens s)
      ∙ ap (λ (fs : List Bytes). fs ++ heard (after_all w first) second (listens s)) (sym k.dues_are)
      ∙ ap (λ (fs : List Bytes). frames_to s.number dues ++ fs) (sym k.brings_are)

  one_other : (s : Session) → Knows s → is_session n s ≡ false → brought_to (replied (joins (due_to s))) ≡ replied (joins (all_to_it s))
  one_other s k e =
      let t = due_to s in
      let u = all_to_it s in
      let number : t.number ≡ s.number = each_number s (frames_to s.number dues) in
      let t_other : is_session n t ≡ false = ap (λ (m : ℕ). m == n) number ∙ e in
      let u_other : is_session n u ≡ false = ap (λ (m : ℕ). m == n) (each_number s (heard w (first ++ second) (listens s))) ∙ e in
      ap brought_to (other_stays t t_other)
      ∙ ap (λ (m : ℕ). placed_each t (frames_to m brings)) number
      ∙ sym (each_append s (frames_to s.number dues) (frames_to s.number brings))
      ∙ ap (placed_each s) (sym (hears_all s k))
      ∙ sym (other_stays u u_other)

  one_same : (s : Session) → Knows s → frames_to s.number brings ≡ [] → brought_to (replied (joins (due_to s))) ≡ replied (joins (all_to_it s))
  one_same s k none =
      let t = due_to s in
      let same : t ≡ all_to_it s = ap (placed_each s)
      (sym (hears_all s k ∙ ap (λ (fs : List Bytes). frames_to s.number dues ++ fs) none ∙ append-nil (frames_to s.number dues))) in
      brings_none s (replied (joins t)) (number_stays s t (each_number s (frames_to s.number dues))) none
      ∙ ap (λ (x : Session). replied (joins x)) same

  hears_none : (s : Session) → s.subs ≡ [] → listens s ≡ []
  hears_none s e = by (is_live s)
    where
      by : (b : Bool) → (if b then s.subs else []) ≡ []
      by true = e
      by false = refl

  one : (s : Session) → Knows s → brought_to (replied (joins (due_to s))) ≡ replied (joins (all_to_it s))
  one s k = by k.either_way
    where
      by : (is_session n s ≡ false) ⊎ ((second ≡ []) ⊎ (s.subs ≡ [])) → brought_to (replied (joins (due_to s))) ≡ replied (joins (all_to_it s))
      by (inl e) = one_other s k e
      by (inr (inl e)) = one_same s k (k.brings_are ∙ ap (λ (writes : List Write). heard (after_all w first) writes (listens s)) e)
      by (inr (inr e)) = one_same s k (k.brings_are ∙ ap (heard (after_all w first) second) (hears_none s e) ∙ heard_none (after_all w first) second)

  each : (ss : List Session) → AllByRecursion Knows ss
      → map brought_to (map replied (map joins (map due_to ss))) ≡ map replied (map joins (map all_to_it ss))
  each [] all = refl
  each (s ∷ ss) all =
      ap (λ (t : Session). t ∷ map brought_to (map replied (map joins (map due_to ss)))) (one s all.0)
      ∙ ap (λ (ts : List Session). replied (joins (all_to_it s)) ∷ ts) (each ss all.1)

  pub by_each : (ss : List Session) → AllByRecursion Knows ss
      → placed_all (placed_all (changed_at (subscribing subs) n (placed_all ss dues)) (all_to n frames)) brings
      ≡ placed_all (changed_at (subscribing subs) n (brought w (first ++ second) ss)) (all_to n frames)
  by_each ss all =
      own (placed_all (changed_at (subscribing subs) n (placed_all ss dues)) (all_to n frames)) brings
      ∙ ap (map brought_to) (own (changed_at (subscribing subs) n (placed_all ss dues)) (all_to n frames))
      ∙ ap (λ (ts : List Session). map brought_to (map replied (map joins ts))) (own ss dues)
      ∙ each ss all
      ∙ sym (own (changed_at (subscribing subs) n (brought w (first ++ second) ss)) (all_to n frames))

-- the sessions of the hall

other_number : (n m k : ℕ) → (m == n) ≡ true → (k == m) ≡ false → (k == n) ≡ false
other_number n m k e f = grind (arith, nat_tests)

others_rest : (n : ℕ) (s : Session) (ss : List Session) → is_session n s ≡ true → AllByRecursion (λ t. is_session s.number t ≡ false) ss
    → AllByRecursion (λ t. is_session n t ≡ false) ss
others_rest n s [] e all = tt
others_rest n s (t ∷ ss) e all = (other_number n s.number t.number e all.0, others_rest n s ss e all.1)

left_all : (n : ℕ) (s : Session) (ss : List Session) → AllByRecursion (λ t. is_session n t ≡ false) ss
    → AllByRecursion (λ t. (is_session n t ≡ false) ⊎ (t ≡ s)) ss
left_all n s [] all = tt
left_all n s (t ∷ ss) all = (inl all.0, left_all n s ss all.1)

-- each is the caller or has another number
caller_alone : (n : ℕ) (s : Session) (ss : List Session) → HaveOwnNumbers ss → find (is_session n) ss ≡ Some s
    → AllByRecursion (λ t. (is_session n t ≡ false) ⊎ (t ≡ s)) ss
caller_alone n s [] o found = tt
caller_alone n s (t ∷ ss) o found = by (is_session n t) refl (caller_alone n s ss o.1)
  where
    by : (b : Bool) → is_session n t ≡ b → (find (is_session n) ss ≡ Some s → AllByRecursion (λ t. (is_session n t ≡ false) ⊎ (t ≡ s)) ss)
        → AllByRecursion (λ t. (is_session n t ≡ false) ⊎ (t ≡ s)) (t ∷ ss)
    by true e rest =
        let here : Some t ≡ Some s = sym (ap (λ (b : Bool). if b then Some t else find (is_session n) ss) e) ∙ found in
        let is : t ≡ s = cc in
        (inr is, left_all n s ss (others_rest n t ss e o.0))
    by false e rest = (inl e, rest (sym (ap (λ (b : Bool). if b then Some t else find (is_session n) ss) e) ∙ found))

-- the caller hears nothing, or its call writes nothing
hears_or_writes : (w : World) (now : ℕ) (subs : List Sub) (asked : Asked) → ((effect_of_asked w now subs asked).writes ≡ []) ⊎ (subs ≡ [])
hears_or_writes w now [] asked = inr refl
hears_or_writes w now (s ∷ subs) (Words words) = inl (of_read (reads words))
  where
    of_read : (r : Result Command WordFault) → (effect_of_read w now (s ∷ subs) r).writes ≡ []
    of_read (Ok c) = four_keep w now (s ∷ subs) c refl
    of_read (Err f) = refl
hears_or_writes w now (s ∷ subs) (Broken f) = inl refl

module _ (h : Hall) (moment n : ℕ) (asked : Asked) (s : Session) (o : HaveOwnNumbers h.sessions) (found : session_of h n ≡ Some s)
    (lives : is_live s ≡ true) where
  abbrev now : ℕ
  now = max h.now moment

  abbrev dues : List Write
  dues = due_writes h.world now

  abbrev later : World
  later = after_all h.world dues

  abbrev e : Effect
  e = effect_of_asked later now s.subs asked

  abbrev q : Part
  q = part_of later h.sessions e

  abbrev p : CallPlan
  p = record { dues = staged h.world h.sessions dues; world = later; length = records_len dues; part = Some q }

  behind : has_room_for s (heard h.world dues (listens s)) ≡ true → caller_behind p.dues (session_of h n) ≡ Some s
  behind room =
      let is : frames_to s.number p.dues ≡ heard h.world dues (listens s) = found_holds
      (λ t. frames_to t.number p.dues ≡ heard h.world dues (listens t)) n s h.sessions (addressed h.world dues h.sessions o) found in
      ap (caller_behind p.dues) found
      ∙ ap (λ (b : Bool). if b && has_room_for s (frames_to s.number p.dues) then Some s else None) lives
      ∙ ap (λ (fs : List Bytes). if has_room_for s fs then Some s else None) is
      ∙ ap (λ (b : Bool). if b then Some s else None) room

  is_plan : has_room_for s (heard h.world dues (listens s)) ≡ true → IsCallPlan h moment n asked p
  is_plan room = record {
    dues = staged_is h.world h.sessions dues o;
    world = refl;
    length_is = refl;
    part = subst (λ (c : Option Session). IsPartOf later now h.sessions asked c (Some q)) (sym (behind room))
        (record { replies = refl; subs = refl; brings = staged_is later h.sessions e.writes o; world = refl; length_is = refl; closes = refl });
  }

  abbrev Known : Session → Type 0
  Known t = Knows h.world dues e.writes e.subs n (map frame_text e.replies) p.dues q.brings t

  known : (t : Session) → frames_to t.number p.dues ≡ heard h.world dues (listens t)
      → frames_to t.number q.brings ≡ heard later e.writes (listens t) → (is_session n t ≡ false) ⊎ (t ≡ s) → Known t
  known t a b (inl other) = record { dues_are = a; brings_are = b; either_way = inl other }
  known t a b (inr same) = record { dues_are = a; brings_are = b; either_way = inr (by (hears_or_writes later now s.subs asked)) }
    where
      by : (e.writes ≡ []) ⊎ (s.subs ≡ []) → (e.writes ≡ []) ⊎ (t.subs ≡ [])
      by (inl none) = inl none
      by (inr none) = inr (ap (λ (u : Session). u.subs) same ∙ none)

  all_known : (ss : List Session) → AllByRecursion (λ t. frames_to t.number p.dues ≡ heard h.world dues (listens t)) ss
      → AllByRecursion (λ t. frames_to t.number q.brings ≡ heard later e.writes (listens t)) ss
      → AllByRecursion (λ t. (is_session n t ≡ false) ⊎ (t ≡ s)) ss → AllByRecursion Known ss
  all_known [] a b c = tt
  all_known (t ∷ ss) a b c = (known t a.0 b.0 c.0, all_known ss a.1 b.1 c.1)

  pub by_sessions : has_room_for s (heard h.world dues (listens s)) ≡ true
      → do_call (due h moment) n asked ≡ record h {
        now = now;
        world = after_all later e.writes;
        logged = (h.logged + records_len dues) + records_len e.writes;
        sessions = answered n e (brought h.world (dues ++ e.writes) h.sessions);
      }
  by_sessions room =
      sym (plan_does_call h moment o n asked p (is_plan room))
      ∙ ap (λ (ss : List Session). record h {
        now = now;
        world = after_all later e.writes;
        logged = (h.logged + records_len dues) + records_len e.writes;
        sessions = ended_if e.closes n ss;
      })
      (by_each h.world dues e.writes e.subs n (map frame_text e.replies) p.dues q.brings h.sessions
      (all_known h.sessions (addressed h.world dues h.sessions o) (addressed later e.writes h.sessions o) (caller_alone n s h.sessions o found)))
