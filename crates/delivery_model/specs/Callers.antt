-- The caller of a call: its own replies do not cut it.
use Rattle.std.proofs.Common.{◌≡◌, ◌≢◌, ℕ, ◌+◌, ◌≤◌, max, Bool, true, false, true≢false, ◌&&◌, ◌||◌, refl, sym, ◌∙◌, ap, subst, lit≤, List, [], ◌∷◌}
use Rattle.std.proofs.Common.{◌++◌, length, arith}
use Rattle.std.specs.Prelude.{Option, Some, None, find, map, nat_le, if◌then◌else◌}
use Rattle.std.proofs.lemmas.List.Sums.{sum_by-cons}
use Rattle.std.proofs.lemmas.Bool.Decides.{nat_tests}
use Rattle.byte_text.specs.Names.{Bytes}
use Rattle.byte_text.specs.Replies.{frame_text}
use Rattle.byte_text.specs.declared.replies.Piece.{Piece}
use Rattle.world_data.specs.Limits.{cap_frames, cap_bytes, full_frames, full_bytes, max_reply}
use Rattle.world_model.specs.Effects.{Effect}
use Rattle.fence_model.specs.Writes.{Write, due_writes}
use Rattle.world_model.specs.Halls.{Hall, Session, Stage, live, cut, closing, is_live, is_session, session_of, placed_each, due, do_call}
use Rattle.world_data.specs.Frames.{frame_bytes}
use Rattle.world_model.specs.Histories.{is_full}
use Rattle.world_data.specs.declared.worlds.World.{World}
use Rattle.world_model.specs.declared.events.Asked.{Asked}
use Rattle.world_model.specs.SessionLaws.{found_number}
use Rattle.delivery_model.specs.Staging.{HaveOwnNumbers, after_all, records_len, staged, frames_to, all_to, placed_all, has_room_for, listens, heard}
use Rattle.delivery_model.specs.Plans.{Part, CallPlan, IsPartOf, IsCallPlan, IsAnswer, FitBehind, IsReplied, caller_behind, effect_of_asked, part_of}
use Rattle.delivery_model.specs.Plans.{part_if, subscribing, ending, finish}
use Rattle.delivery_model.specs.Addressing.{addressed, to_own}
use Rattle.delivery_model.specs.Applying.{staged_is}
use Rattle.delivery_model.specs.Serving.{takes_all, found_holds, number_is}
use Rattle.delivery_model.specs.Calls.{plan_does_call, due_staged}
use Rattle.delivery_model.specs.Silent.{heard_none}
use Rattle.delivery_model.specs.ChangedSessions.{placed_some, caller_some}

-- every call has a plan
pub plan_of : Hall → ℕ → ℕ → Asked → CallPlan
plan_of h moment n asked =
    let now = max h.now moment in
    let writes = due_writes h.world now in
    let w = after_all h.world writes in
    let list = staged h.world h.sessions writes in
    record { dues = list; world = w; length = records_len writes; part = part_if w now h.sessions asked (caller_behind list (session_of h n)) }

part_is : (w : World) (now : ℕ) (ss : List Session) (asked : Asked) (caller : Option Session) → HaveOwnNumbers ss
    → IsPartOf w now ss asked caller (part_if w now ss asked caller)
part_is w now ss asked None o = refl
part_is w now ss asked (Some s) o =
    record {
      replies = refl;
      subs = refl;
      brings = staged_is w ss (effect_of_asked w now s.subs asked).writes o;
      world = refl;
      length_is = refl;
      closes = refl;
    }

pub plan_is : (h : Hall) (moment n : ℕ) (asked : Asked) → HaveOwnNumbers h.sessions → IsCallPlan h moment n asked (plan_of h moment n asked)
unfolding plan_of
plan_is h moment n asked o = record {
  dues = staged_is h.world h.sessions (due_writes h.world (max h.now moment)) o;
  world = refl;
  length_is = refl;
  part = part_is _ _ _ asked _ o;
}

-- room behind a queue that is not full

open_room : (a b m t : ℕ) (x y : Bool) → nat_le full_frames a ≡ x → nat_le full_bytes b ≡ y → (x || y) ≡ false → full_frames + m ≤ cap_frames
    → full_bytes + t ≤ cap_bytes → (nat_le (a + m) cap_frames && nat_le (b + t) cap_bytes) ≡ true
open_room a b m t true y p q e u v = absurd (cc)
open_room a b m t false true p q e u v = absurd (cc)
open_room a b m t false false p q e u v =
    let few : nat_le (a + m) cap_frames ≡ true = grind (arith, nat_tests) in
    let light : nat_le (b + t) cap_bytes ≡ true = grind (arith, nat_tests) in
    rw (few, light) refl

pub fits_behind : (s : Session) (frames : List Bytes) → is_full s ≡ false → FitBehind frames → has_room_for s frames ≡ true
fits_behind s [] e f = refl
fits_behind s (g ∷ frames) e f = open_room (length s.frames) (frame_bytes s.frames) (length (g ∷ frames)) (frame_bytes (g ∷ frames))
    (nat_le full_frames (length s.frames)) (nat_le full_bytes (frame_bytes s.frames)) refl refl e f.few f.light

not_cut : (s : Session) → is_live s ≡ true → s.stage ≢ cut
not_cut s e c = true≢false (sym e ∙ by s.stage c)
  where
    by : (g : Stage) → g ≡ cut → is_live (record s { stage = g }) ≡ false
    by live d = absurd (cc)
    by cut d = refl
    by closing d = refl

ended_frames : (b : Bool) (s : Session) → is_live s ≡ true
    → ((if b then ending s else s).frames ≡ s.frames) × ((if b then ending s else s).stage ≢ cut)
ended_frames true s e = (
  ap (λ (c : Bool). (if c then record s { stage = closing; subs = [] } else s).frames) e,
  λ d. absurd (wrong (sym (ap (λ (c : Bool). (if c then record s { stage = closing; subs = [] } else s).stage) e) ∙ d)),
)
  where
    wrong : closing ≡ cut → ⊥
    wrong d = absurd (cc)
ended_frames false s e = (refl, not_cut s e)

module _ (h : Hall) (moment n : ℕ) (asked : Asked) (s : Session) (o : HaveOwnNumbers h.sessions) (found : session_of h n ≡ Some s)
    (lives : is_live s ≡ true) (open_ : is_full s ≡ false) (bare : s.subs ≡ []) where
  abbrev now : ℕ
  now = max h.now moment

  abbrev writes : List Write
  writes = due_writes h.world now

  abbrev later : World
  later = after_all h.world writes

  abbrev e : Effect
  e = effect_of_asked later now s.subs asked

  abbrev frames : List Bytes
  frames = map frame_text e.replies

  abbrev q : Part
  q = part_of later h.sessions e

  -- nothing is staged for it
  hears_none : (w : World) (ds : List Write) → frames_to n (staged w h.sessions ds) ≡ []
  hears_none w ds =
      let num = number_is n s (found_number n s h.sessions found) in
      let deaf : listens s ≡ [] = ap (λ (b : Bool). if b then s.subs else []) lives ∙ bare in
      ap (λ (k : ℕ). frames_to k (staged w h.sessions ds)) (sym num)
      ∙ found_holds (λ t. frames_to t.number (staged w h.sessions ds) ≡ heard w ds (listens t)) n s h.sessions (addressed w ds h.sessions o) found
      ∙ ap (heard w ds) deaf ∙ heard_none w ds

  -- so its request is done
  abbrev p : CallPlan
  p = record { dues = staged h.world h.sessions writes; world = later; length = records_len writes; part = Some q }

  behind : caller_behind p.dues (session_of h n) ≡ Some s
  behind =
      let num = number_is n s (found_number n s h.sessions found) in
      let none : frames_to s.number p.dues ≡ [] = ap (λ (k : ℕ). frames_to k p.dues) num ∙ hears_none h.world writes in
      ap (caller_behind p.dues) found
      ∙ ap (λ (b : Bool). if b && has_room_for s (frames_to s.number p.dues) then Some s else None) lives
      ∙ ap (λ (fs : List Bytes). if has_room_for s fs then Some s else None) none

  is_plan : IsCallPlan h moment n asked p
  is_plan = record {
    dues = staged_is h.world h.sessions writes o;
    world = refl;
    length_is = refl;
    part = subst (λ (c : Option Session). IsPartOf later now h.sessions asked c (Some q)) (sym behind)
        (record { replies = refl; subs = refl; brings = staged_is later h.sessions e.writes o; world = refl; length_is = refl; closes = refl });
  }

  abbrev subscribed : Session
  subscribed = subscribing e.subs s

  abbrev told : Session
  told = record subscribed { frames = s.frames ++ frames }

  -- the caller behind the finish
  found_then : FitBehind frames → session_of (finish h moment n p) n ≡ Some (if e.closes then ending told else told)
  found_then fit =
      let first : find (is_session n) (placed_all h.sessions p.dues) ≡ Some s = placed_some n s h.sessions p.dues found
      ∙ ap (λ (fs : List Bytes). Some (placed_each s fs)) (hears_none h.world writes) in
      let told_is : placed_each subscribed (frames_to n (all_to n frames)) ≡ told = ap (placed_each subscribed) (to_own n frames)
      ∙ takes_all subscribed frames lives (fits_behind subscribed frames open_ fit) in
      let last : placed_each (placed_each subscribed (frames_to n (all_to n frames))) (frames_to n q.brings)
      ≡ told = ap (placed_each (placed_each subscribed (frames_to n (all_to n frames)))) (hears_none later e.writes) ∙ told_is in
      caller_some n s q (placed_all h.sessions p.dues) first ∙ ap (λ (t : Session). Some (if e.closes then ending t else t)) last

  pub replied : FitBehind frames → IsReplied (session_of h n) (session_of (do_call (due h moment) n asked) n) frames
  replied fit =
      let end = ended_frames e.closes told lives in
      record {
        before = s;
        after = if e.closes then ending told else told;
        was = found;
        is = sym (ap (λ (k : Hall). session_of k n) (plan_does_call h moment o n asked p is_plan)) ∙ found_then fit;
        placed = end.0;
        uncut = end.1;
      }

-- one short answer fits
pub answer_fits : (e : Effect) → IsAnswer e → FitBehind (map frame_text e.replies)
answer_fits e a = subst (λ (rs : List (List Piece)). FitBehind (map frame_text rs)) (sym a.one)
    (let short : length (frame_text a.reply) ≤ max_reply = a.short in
    record { few = lit≤ tt; light = omega (arith, short, sum_by-cons length (frame_text a.reply) []) })

pub own_call : (h : Hall) (moment n : ℕ) (asked : Asked) (s : Session) → HaveOwnNumbers h.sessions → session_of h n ≡ Some s → is_live s ≡ true
    → is_full s ≡ false → s.subs ≡ []
    → FitBehind (map frame_text (effect_of_asked (due h moment).world (max h.now moment) s.subs asked).replies)
    → IsReplied (session_of h n) (session_of (do_call (due h moment) n asked) n)
    (map frame_text (effect_of_asked (due h moment).world (max h.now moment) s.subs asked).replies)
own_call h moment n asked s o found lives open_ bare =
    subst (λ (w : World). FitBehind (map frame_text (effect_of_asked w (max h.now moment) s.subs asked).replies)
    → IsReplied (session_of h n) (session_of (do_call (due h moment) n asked) n)
    (map frame_text (effect_of_asked w (max h.now moment) s.subs asked).replies))
    (sym (ap (λ (k : Hall). k.world) (due_staged h moment o))) (replied h moment n asked s o found lives open_ bare)

one_fits : (f : Bytes) → length f ≤ max_reply → FitBehind (f ∷ [])
one_fits f short = record { few = lit≤ tt; light = omega (arith, short, sum_by-cons length f []) }

pub one_reply : (h : Hall) (moment n : ℕ) (asked : Asked) (s : Session) (reply : List Piece) → HaveOwnNumbers h.sessions → session_of h n ≡ Some s
    → is_live s ≡ true → is_full s ≡ false → s.subs ≡ []
    → (effect_of_asked (due h moment).world (max h.now moment) s.subs asked).replies ≡ reply ∷ [] → length (frame_text reply) ≤ max_reply
    → IsReplied (session_of h n) (session_of (do_call (due h moment) n asked) n) (frame_text reply ∷ [])
one_reply h moment n asked s reply o found lives open_ bare one short =
    subst (λ (rs : List (List Piece)). IsReplied (session_of h n) (session_of (do_call (due h moment) n asked) n) (map frame_text rs)) one
    (own_call h moment n asked s o found lives open_ bare
    (subst (λ (rs : List (List Piece)). FitBehind (map frame_text rs)) (sym one) (one_fits (frame_text reply) short)))
