-- Placing a list: each session takes the frames that are for its number.
use Rattle.std.proofs.Common.{◌≡◌, ◌⊎◌, inl, inr, ℕ, Bool, true, false, refl, sym, ◌∙◌, ap, List, [], ◌∷◌, ◌++◌}
use Rattle.std.specs.Prelude.{map, if◌then◌else◌}
use Rattle.std.specs.List.{AllByRecursion}
use Rattle.byte_text.specs.Names.{Bytes}
use Rattle.world_model.specs.Halls.{Hall, Session, cut, is_live, is_session, has_room, placed, placed_each, place, place_all}
pub use Rattle.world_model.specs.SessionLaws.{placed_number, each_append}
use Rattle.delivery_model.specs.Staging.{Delivery, frames_to, changed_at, placed_all, listens}

-- placing keeps a session's number
pub each_number : (s : Session) (frames : List Bytes) → (placed_each s frames).number ≡ s.number
each_number s [] = refl
each_number s (f ∷ frames) = each_number (placed f s) frames ∙ placed_number f s

-- maps over sessions
pub map_twice : (f g k : Session → Session) → ((s : Session) → f (g s) ≡ k s) → (ss : List Session) → map f (map g ss) ≡ map k ss
map_twice f g k e [] = refl
map_twice f g k e (s ∷ ss) = ap (λ (t : Session). t ∷ map f (map g ss)) (e s) ∙ ap (λ (ts : List Session). k s ∷ ts) (map_twice f g k e ss)

pub map_same : (f g : Session → Session) (ss : List Session) → AllByRecursion (λ s. f s ≡ g s) ss → map f ss ≡ map g ss
map_same f g [] all = refl
map_same f g (s ∷ ss) all = ap (λ (t : Session). t ∷ map f ss) all.0 ∙ ap (λ (ts : List Session). g s ∷ ts) (map_same f g ss all.1)

pub map_none : (f : Session → Session) → ((s : Session) → f s ≡ s) → (ss : List Session) → map f ss ≡ ss
map_none f e [] = refl
map_none f e (s ∷ ss) = ap (λ (t : Session). t ∷ map f ss) (e s) ∙ ap (λ (ts : List Session). s ∷ ts) (map_none f e ss)

-- all of a list
pub all_by : (P Q : Session → Type 0) → ((s : Session) → P s → Q s) → (ss : List Session) → AllByRecursion P ss → AllByRecursion Q ss
all_by P Q f [] all = tt
all_by P Q f (s ∷ ss) all = (f s all.0, all_by P Q f ss all.1)

-- a list, session by session

one_place : (d : Delivery) (list : List Delivery) (s : Session)
    → placed_each (if is_session d.0 s then placed d.1 s else s) (frames_to (if is_session d.0 s then placed d.1 s else s).number list)
    ≡ placed_each s (frames_to s.number (d ∷ list))
one_place d list s = by (is_session d.0 s) refl
  where
    by : (b : Bool) → is_session d.0 s ≡ b
        → placed_each (if b then placed d.1 s else s) (frames_to (if b then placed d.1 s else s).number list)
        ≡ placed_each s (if b then d.1 ∷ frames_to s.number list else frames_to s.number list)
    by true e = ap (λ (n : ℕ). placed_each (placed d.1 s) (frames_to n list)) (placed_number d.1 s)
    by false e = refl

pub own : (sessions : List Session) (list : List Delivery) → placed_all sessions list ≡ map (λ s. placed_each s (frames_to s.number list)) sessions
own sessions [] = sym (map_none (λ s. s) (λ s. refl) sessions)
own sessions (d ∷ list) =
    own (changed_at (placed d.1) d.0 sessions) list
    ∙ map_twice (λ s. placed_each s (frames_to s.number list)) (λ s. if is_session d.0 s then placed d.1 s else s)
    (λ s. placed_each s (frames_to s.number (d ∷ list))) (one_place d list) sessions

pub of_sessions : (h : Hall) (list : List Delivery) → place_all h list ≡ record h { sessions = placed_all h.sessions list }
of_sessions h [] = refl
of_sessions h (d ∷ list) = of_sessions (place h d) list

-- placing leaves a session that is served with its subscriptions, or cuts it

pub dead_takes_none : (s : Session) (frames : List Bytes) → is_live s ≡ false → placed_each s frames ≡ s
dead_takes_none s [] e = refl
dead_takes_none s (f ∷ frames) e = ap (λ (t : Session). placed_each t frames) (still f e) ∙ dead_takes_none s frames e
  where
    still : (f : Bytes) → is_live s ≡ false → placed f s ≡ s
    still f e = rw e refl

pub takes_it : (s : Session) (f : Bytes) → is_live s ≡ true → has_room s f ≡ true → placed f s ≡ record s { frames = s.frames ++ f ∷ [] }
takes_it s f e r = rw (e, r) refl

pub is_cut : (s : Session) (f : Bytes) → is_live s ≡ true → has_room s f ≡ false → placed f s ≡ record s { stage = cut; subs = [] }
is_cut s f e r = rw (e, r) refl

-- a session on which frames were placed hears as before, or is served no more
step_hears : (s : Session) (f : Bytes) → (listens (placed f s) ≡ listens s) ⊎ (is_live (placed f s) ≡ false)
step_hears s f = by (is_live s) refl (has_room s f) refl
  where
    by : (a : Bool) → is_live s ≡ a → (b : Bool) → has_room s f ≡ b → (listens (placed f s) ≡ listens s) ⊎ (is_live (placed f s) ≡ false)
    by false e b r = inl (ap listens (dead_takes_none s (f ∷ []) e))
    by true e true r = inl (ap listens (takes_it s f e r))
    by true e false r = inr (ap is_live (is_cut s f e r))

pub each_hears : (s : Session) (frames : List Bytes) → (listens (placed_each s frames) ≡ listens s) ⊎ (is_live (placed_each s frames) ≡ false)
each_hears s [] = inl refl
each_hears s (f ∷ frames) = elim (step_hears s f) [
  | inl e ↦ elim (each_hears (placed f s) frames) [ inl g ↦ inl (g ∙ e) | inr g ↦ inr g ]
  | inr e ↦ inr (ap is_live (dead_takes_none (placed f s) frames e) ∙ e)
]
