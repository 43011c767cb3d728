-- Changes in order, session by session, and by what is staged.
use Rattle.std.proofs.Common.{◌≡◌, inl, inr, ℕ, ◌+◌, ◌≤◌, ◌==◌, Bool, true, false, ◌&&◌, length, length-append, refl, sym, ◌∙◌, ap, List, [], ◌∷◌}
use Rattle.std.proofs.Common.{◌++◌, append-nil, append_assoc, arith}
use Rattle.std.specs.Prelude.{map, nat_le}
use Rattle.std.specs.List.{AllByRecursion}
use Rattle.std.proofs.Math.Bool.{and-false}
use Rattle.std.proofs.lemmas.List.Sums.{sum_by-append}
use Rattle.std.proofs.lemmas.Bool.Decides.{nat_tests}
use Rattle.byte_text.specs.Names.{Bytes}
use Rattle.world_data.specs.Limits.{cap_frames, cap_bytes}
use Rattle.world_data.specs.Worlds.{after}
use Rattle.world_data.specs.Records.{record_len}
use Rattle.world_model.specs.Subscriptions.{Sub}
use Rattle.fence_model.specs.Writes.{Write}
use Rattle.world_model.specs.Halls.{is_live, Hall, Session, is_session, placed_each, place_all, apply, apply_all, deliveries}
use Rattle.world_data.specs.Frames.{frame_bytes}
use Rattle.world_data.specs.declared.worlds.World.{World}
use Rattle.delivery_model.specs.Staging.{AreStaged, Suffice, has_room_for, Delivery, HaveOwnNumbers, after_all, records_len, staged, frames_to}
use Rattle.delivery_model.specs.Staging.{placed_all, listens, heard_of, heard}
use Rattle.delivery_model.specs.Placing.{own, of_sessions, each_number, each_append, each_hears, dead_takes_none, map_twice, map_same, map_none}
use Rattle.delivery_model.specs.Placing.{all_by}
use Rattle.delivery_model.specs.Serving.{lives_on}
use Rattle.delivery_model.specs.Addressing.{addressed, addressed_one}

-- numbers stay apart where each is kept
module _ (k : Session → Session) (keeps : (s : Session) → (k s).number ≡ s.number) where
  apart : (n : ℕ) (ss : List Session) → AllByRecursion (λ t. is_session n t ≡ false) ss → AllByRecursion (λ t. is_session n t ≡ false) (map k ss)
  apart n [] all = tt
  apart n (s ∷ ss) all = (ap (λ (m : ℕ). m == n) (keeps s) ∙ all.0, apart n ss all.1)

  pub own_kept : (ss : List Session) → HaveOwnNumbers ss → HaveOwnNumbers (map k ss)
  own_kept [] o = tt
  own_kept (s ∷ ss) o = (rw (keeps s) (apart s.number ss o.0), own_kept ss o.1)

-- what a session takes that hears as before or is served no more
pub later : (s : Session) (frames : List Bytes) (sends : List Sub → List Bytes)
    → placed_each (placed_each s frames) (sends (listens (placed_each s frames))) ≡ placed_each (placed_each s frames) (sends (listens s))
later s frames sends = elim (each_hears s frames) [
  | inl e ↦ ap (λ (subs : List Sub). placed_each (placed_each s frames) (sends subs)) e
  | inr e ↦ dead_takes_none (placed_each s frames) (sends (listens (placed_each s frames))) e
      ∙ sym (dead_takes_none (placed_each s frames) (sends (listens s)) e)
]

-- a change
pub apply_each : (h : Hall) (d : Write) → HaveOwnNumbers h.sessions
    → apply h d ≡ record h {
      world = after h.world d.change;
      logged = h.logged + record_len d.change;
      sessions = map (λ s. placed_each s (heard_of h.world d (listens s))) h.sessions;
    }
unfolding apply
apply_each h d o =
    let base : Hall = record h { world = after h.world d.change; logged = h.logged + record_len d.change } in
    let list = deliveries h.world h.sessions d in
    of_sessions base list
    ∙ ap (λ (ss : List Session). record base { sessions = ss }) (own h.sessions list
    ∙ map_same (λ s. placed_each s (frames_to s.number list)) (λ s. placed_each s (heard_of h.world d (listens s))) h.sessions
    (all_by (λ s. frames_to s.number list ≡ heard_of h.world d (listens s))
    (λ s. placed_each s (frames_to s.number list) ≡ placed_each s (heard_of h.world d (listens s))) (λ s e. ap (placed_each s) e) h.sessions
    (addressed_one h.world d h.sessions o)))

hears_on : (w : World) (d : Write) (writes : List Write) (s : Session)
    → placed_each (placed_each s (heard_of w d (listens s))) (heard (after w d.change) writes (listens (placed_each s (heard_of w d (listens s)))))
    ≡ placed_each s (heard w (d ∷ writes) (listens s))
hears_on w d writes s = later s (heard_of w d (listens s)) (heard (after w d.change) writes)
    ∙ sym (each_append s (heard_of w d (listens s)) (heard (after w d.change) writes (listens s)))

-- changes in order
pub apply_hears : (h : Hall) (writes : List Write) → HaveOwnNumbers h.sessions
    → apply_all h writes ≡ record h {
      world = after_all h.world writes;
      logged = h.logged + records_len writes;
      sessions = map (λ s. placed_each s (heard h.world writes (listens s))) h.sessions;
    }
apply_hears h [] o =
    let more : h.logged ≡ h.logged + 0 = omega arith in
    ap (λ (n : ℕ). record h { logged = n }) more
    ∙ ap (λ (ss : List Session). record h { logged = h.logged + 0; sessions = ss }) (sym (map_none (λ s. s) (λ s. refl) h.sessions))
apply_hears h (d ∷ writes) o =
    let w = after h.world d.change in
    let hears : Session → Session = λ s. placed_each s (heard_of h.world d (listens s)) in
    let next : Hall = record h { world = w; logged = h.logged + record_len d.change; sessions = map hears h.sessions } in
    let sum : (h.logged + record_len d.change) + records_len writes ≡ h.logged + (record_len d.change + records_len writes) = omega arith in
    ap (λ (k : Hall). apply_all k writes) (apply_each h d o)
    ∙ apply_hears next writes (own_kept hears (λ s. each_number s (heard_of h.world d (listens s))) h.sessions o)
    ∙ ap (λ (n : ℕ). record next {
      world = after_all w writes;
      logged = n;
      sessions = map (λ s. placed_each s (heard w writes (listens s))) (map hears h.sessions);
    }) sum
    ∙ ap (λ (ss : List Session). record next
    { world = after_all w writes; logged = h.logged + (record_len d.change + records_len writes); sessions = ss })
    (map_twice (λ s. placed_each s (heard w writes (listens s))) hears (λ s. placed_each s (heard h.world (d ∷ writes) (listens s)))
    (hears_on h.world d writes) h.sessions)

-- a list that has what a session is brought, as far as it has room, does for all of it, behind other frames too

no_more_room : (s : Session) (fs frames : List Bytes) → has_room_for s frames ≡ false → has_room_for s (fs ++ frames) ≡ false
no_more_room s fs [] e = absurd (cc)
no_more_room s [] (f ∷ frames) e = e
no_more_room s (g ∷ fs) (f ∷ frames) e =
    less_room (length s.frames) (frame_bytes s.frames) (length (f ∷ frames)) (length ((g ∷ fs) ++ f ∷ frames)) (frame_bytes (f ∷ frames))
    (frame_bytes ((g ∷ fs) ++ f ∷ frames))
    (nat_le (length s.frames + length (f ∷ frames)) cap_frames) (nat_le (frame_bytes s.frames + frame_bytes (f ∷ frames)) cap_bytes) refl refl
    (omega (arith, length-append (g ∷ fs) (f ∷ frames))) (omega (arith, sum_by-append length (g ∷ fs) (f ∷ frames))) e
  where
    less_room : (a b m k l t : ℕ) (x y : Bool) → nat_le (a + m) cap_frames ≡ x → nat_le (b + l) cap_bytes ≡ y → m ≤ k → l ≤ t → (x && y) ≡ false
        → (nat_le (a + k) cap_frames && nat_le (b + t) cap_bytes) ≡ false
    less_room a b m k l t true true p q u v e = absurd (cc)
    less_room a b m k l t true false p q u v e = let f : nat_le (b + t) cap_bytes ≡ false = grind (arith, nat_tests) in
        rw f (and-false (nat_le (a + k) cap_frames))
    less_room a b m k l t false y p q u v e = let f : nat_le (a + k) cap_frames ≡ false = grind (arith, nat_tests) in rw f refl

-- without room it is cut on the way, and takes nothing more
cut_behind : (s : Session) (fs some rest : List Bytes) (b : Bool) → is_live s ≡ b → has_room_for s some ≡ false
    → placed_each (placed_each s fs) (some ++ rest) ≡ placed_each (placed_each s fs) some
cut_behind s fs some rest true e no_room =
    let t = placed_each s fs in
    let gone : is_live (placed_each t some) ≡ false = ap is_live (sym (each_append s fs some)) ∙ lives_on s (fs ++ some) e
    ∙ no_more_room s fs some no_room in
    each_append t some rest ∙ dead_takes_none (placed_each t some) rest gone
cut_behind s fs some rest false e no_room =
    let t = placed_each s fs in
    let gone : is_live t ≡ false = ap is_live (dead_takes_none s fs e) ∙ e in
    dead_takes_none t (some ++ rest) gone ∙ sym (dead_takes_none t some gone)

pub suffices : (s : Session) (fs all some : List Bytes) → Suffice s.frames all some
    → placed_each (placed_each s fs) all ≡ placed_each (placed_each s fs) some
suffices s fs all some f = ap (placed_each (placed_each s fs)) f.front ∙ elim f.enough [
  | inl none ↦ ap (λ (rest : List Bytes). placed_each (placed_each s fs) (some ++ rest)) none ∙ ap (placed_each (placed_each s fs)) (append-nil some)
  | inr no_room ↦ cut_behind s fs some f.rest (is_live s) refl no_room
]

-- the same, by a list for the sessions as they were before frames were placed on them
module _ (w : World) (writes : List Write) (fs : Session → List Bytes) (ss : List Session) (o : HaveOwnNumbers ss) (list : List Delivery)
    (has : AreStaged w writes ss list) where
  abbrev taken : Session → Session
  taken s = placed_each s (fs s)

  same_list : (s : Session) → Suffice s.frames (heard w writes (listens s)) (frames_to s.number list)
      → placed_each (taken s) (heard w writes (listens (taken s))) ≡ placed_each (taken s) (frames_to (taken s).number list)
  same_list s e =
      later s (fs s) (heard w writes) ∙ suffices s (fs s) (heard w writes (listens s)) (frames_to s.number list) e
      ∙ ap (λ (n : ℕ). placed_each (taken s) (frames_to n list)) (sym (each_number s (fs s)))

  pub staged_sessions : map (λ s. placed_each s (heard w writes (listens s))) (map taken ss) ≡ placed_all (map taken ss) list
  staged_sessions =
      let f : Session → Session = λ s. placed_each s (heard w writes (listens s)) in
      let g : Session → Session = λ s. placed_each s (frames_to s.number list) in
      map_twice f taken (λ s. f (taken s)) (λ s. refl) ss
      ∙ map_same (λ s. f (taken s)) (λ s. g (taken s)) ss
      (all_by (λ s. Suffice s.frames (heard w writes (listens s)) (frames_to s.number list)) (λ s. f (taken s) ≡ g (taken s)) same_list ss has)
      ∙ sym (map_twice g taken (λ s. g (taken s)) (λ s. refl) ss)
      ∙ sym (own (map taken ss) list)

  pub taken_own : HaveOwnNumbers (map taken ss)
  taken_own = own_kept taken (λ s. each_number s (fs s)) ss o

-- changes in a hall whose sessions had frames placed on them since the list was staged
pub apply_staged : (h : Hall) (writes : List Write) (fs : Session → List Bytes) (ss : List Session) → HaveOwnNumbers ss
    → h.sessions ≡ map (λ s. placed_each s (fs s)) ss → (list : List Delivery) → AreStaged h.world writes ss list
    → apply_all h writes ≡ record h {
      world = after_all h.world writes;
      logged = h.logged + records_len writes;
      sessions = placed_all h.sessions list;
    }
apply_staged h writes fs ss o e list has =
    let base : Hall = record h { sessions = map (λ s. placed_each s (fs s)) ss } in
    ap (λ (xs : List Session). apply_all (record h { sessions = xs }) writes) e
    ∙ apply_hears base writes (taken_own h.world writes fs ss o list has)
    ∙ ap (λ (xs : List Session). record h { world = after_all h.world writes; logged = h.logged + records_len writes; sessions = xs })
    (staged_sessions h.world writes fs ss o list has)
    ∙ ap (λ (xs : List Session). record h { world = after_all h.world writes; logged = h.logged + records_len writes; sessions = placed_all xs list })
    (sym e)

-- what is staged with the sessions of the start is such a list
pub staged_is : (w : World) (ss : List Session) (writes : List Write) → HaveOwnNumbers ss → AreStaged w writes ss (staged w ss writes)
staged_is w ss writes o = all_by (λ s. frames_to s.number (staged w ss writes) ≡ heard w writes (listens s))
    (λ s. Suffice s.frames (heard w writes (listens s)) (frames_to s.number (staged w ss writes)))
    (λ s e. record { rest = []; front = sym e ∙ sym (append-nil (frames_to s.number (staged w ss writes))); enough = inl refl }) ss
    (addressed w writes ss o)

pub staging_sound : (h : Hall) (writes : List Write) → HaveOwnNumbers h.sessions
    → apply_all h writes ≡ place_all (record h { world = after_all h.world writes; logged = h.logged + records_len writes })
    (staged h.world h.sessions writes)
staging_sound h writes o =
    apply_staged h writes (λ s. []) h.sessions o (sym (map_none (λ s. s) (λ s. refl) h.sessions)) (staged h.world h.sessions writes)
    (staged_is h.world h.sessions writes o)
    ∙ sym (of_sessions (record h { world = after_all h.world writes; logged = h.logged + records_len writes }) (staged h.world h.sessions writes))

pub lists_serve : (h : Hall) (writes : List Write) (before : List Session) (between list : List Delivery) → HaveOwnNumbers before
    → h.sessions ≡ placed_all before between → AreStaged h.world writes before list
    → apply_all h writes ≡ record h {
      world = after_all h.world writes;
      logged = h.logged + records_len writes;
      sessions = placed_all h.sessions list;
    }
lists_serve h writes before between list o e has = apply_staged h writes (λ s. frames_to s.number between) before o (e ∙ own before between) list has

pub enough : (s : Session) (all some more : List Bytes) → Suffice s.frames all some → has_room_for s some ≡ false
    → Suffice s.frames (all ++ more) some
enough s all some more f no_room =
    record { rest = f.rest ++ more; front = ap (λ (fs : List Bytes). fs ++ more) f.front ∙ append_assoc some f.rest more; enough = inr no_room }

pub all_suffice : (s : Session) (all : List Bytes) → Suffice s.frames all all
all_suffice s all = record { rest = []; front = sym (append-nil all); enough = inl refl }
