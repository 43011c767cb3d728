-- Sessions found by number, and whether one is still served behind frames that were placed on it.
use Rattle.std.proofs.Common.{◌≡◌, ℕ, ◌+◌, ◌≤◌, Bool, true, false, ◌&&◌, refl, sym, ◌∙◌, ap, subst, List, [], ◌∷◌, ◌++◌, append-nil, length}
use Rattle.std.proofs.Common.{length-append, arith}
use Rattle.std.specs.Prelude.{Some, find, option_map, nat_lt, nat_le, if◌then◌else◌}
use Rattle.std.specs.List.{AllByRecursion}
use Rattle.std.proofs.Math.Bool.{and-false}
use Rattle.std.proofs.lemmas.List.Sums.{sum_by-cons, sum_by-append}
use Rattle.std.proofs.lemmas.Bool.Decides.{nat_tests}
use Rattle.byte_text.specs.Names.{Bytes}
use Rattle.world_data.specs.Limits.{cap_frames, cap_bytes}
use Rattle.world_model.specs.Halls.{Session, cut, is_live, is_session, has_room, placed, placed_each}
use Rattle.world_data.specs.Frames.{frame_bytes}
use Rattle.world_model.specs.SessionLaws.{found_map}
use Rattle.delivery_model.specs.Staging.{Delivery, frames_to, placed_all, has_room_for}
use Rattle.delivery_model.specs.Placing.{own, each_number, takes_it, is_cut, dead_takes_none}

pub found_placed : (n : ℕ) (ss : List Session) (list : List Delivery)
    → find (is_session n) (placed_all ss list) ≡ option_map (λ s. placed_each s (frames_to s.number list)) (find (is_session n) ss)
found_placed n ss list = ap (find (is_session n)) (own ss list)
    ∙ found_map (λ s. placed_each s (frames_to s.number list)) (λ s. each_number s (frames_to s.number list)) n ss

-- what holds of all holds of the one that is found
pub found_holds : (P : Session → Type 0) (n : ℕ) (s : Session) (ss : List Session) → AllByRecursion P ss → find (is_session n) ss ≡ Some s → P s
found_holds P n s [] all f = absurd (cc)
found_holds P n s (t ∷ rest) all f = by (is_session n t) refl (found_holds P n s rest all.1) f
  where
    by : (b : Bool) → is_session n t ≡ b → (find (is_session n) rest ≡ Some s → P s) → (if b then Some t else find (is_session n) rest) ≡ Some s → P s
    by true is ih e = let same : t ≡ s = cc in subst P same all.0
    by false is ih e = ih e

pub number_is : (n : ℕ) (s : Session) → is_session n s ≡ true → s.number ≡ n
number_is n s e = grind (arith, nat_tests)

-- room for all frames

room_one : (a b l : ℕ) (x y : Bool) → nat_lt a cap_frames ≡ x → nat_le (b + l) cap_bytes ≡ y → (x && y) ≡ true
    → (nat_le (a + 1) cap_frames && nat_le (b + l) cap_bytes) ≡ true
room_one a b l true true p q e = let t : nat_le (a + 1) cap_frames ≡ true = grind (arith, nat_tests) in rw (t, q) refl
room_one a b l true false p q e = absurd (cc)
room_one a b l false y p q e = absurd (cc)

room_none : (a b l m t : ℕ) (x y : Bool) → nat_lt a cap_frames ≡ x → nat_le (b + l) cap_bytes ≡ y → 1 ≤ m → l ≤ t → (x && y) ≡ false
    → (nat_le (a + m) cap_frames && nat_le (b + t) cap_bytes) ≡ false
room_none a b l m t true true p q u v e = absurd (cc)
room_none a b l m t true false p q u v e = let f : nat_le (b + t) cap_bytes ≡ false = grind (arith, nat_tests) in
    rw f (and-false (nat_le (a + m) cap_frames))
room_none a b l m t false y p q u v e = let f : nat_le (a + m) cap_frames ≡ false = grind (arith, nat_tests) in rw f refl

step_room : (s : Session) (f : Bytes) (fs : List Bytes) → has_room s f ≡ true
    → has_room_for (record s { frames = s.frames ++ f ∷ [] }) fs ≡ has_room_for s (f ∷ fs)
step_room s f [] r =
    let one : frame_bytes (f ∷ []) ≡ length f = omega (arith, sum_by-cons length f []) in
    sym (ap (λ (l : ℕ). nat_le (length s.frames + 1) cap_frames && nat_le (frame_bytes s.frames + l) cap_bytes) one
    ∙ room_one (length s.frames) (frame_bytes s.frames) (length f) (nat_lt (length s.frames) cap_frames)
    (nat_le (frame_bytes s.frames + length f) cap_bytes) refl refl r)
step_room s f (g ∷ gs) r =
    let count : length (s.frames ++ f ∷ []) + length (g ∷ gs)
    ≡ length s.frames + length (f ∷ g ∷ gs) = omega (arith, length-append s.frames (f ∷ [])) in
    let bytes : frame_bytes (s.frames ++ f ∷ []) + frame_bytes (g ∷ gs)
    ≡ frame_bytes s.frames + frame_bytes (f ∷ g ∷ gs) =
    omega (arith, sum_by-append length s.frames (f ∷ []), sum_by-cons length f (g ∷ gs), sum_by-cons length f []) in
    ap (λ (c : ℕ). nat_le c cap_frames && nat_le (frame_bytes (s.frames ++ f ∷ []) + frame_bytes (g ∷ gs)) cap_bytes) count
    ∙ ap (λ (b : ℕ). nat_le (length s.frames + length (f ∷ g ∷ gs)) cap_frames && nat_le b cap_bytes) bytes

step_no_room : (s : Session) (f : Bytes) (fs : List Bytes) → has_room s f ≡ false → has_room_for s (f ∷ fs) ≡ false
step_no_room s f fs r =
    room_none (length s.frames) (frame_bytes s.frames) (length f) (length (f ∷ fs)) (frame_bytes (f ∷ fs)) (nat_lt (length s.frames) cap_frames)
    (nat_le (frame_bytes s.frames + length f) cap_bytes) refl refl (omega arith) (omega (arith, sum_by-cons length f fs)) r

-- a session that is served is so still just where it had room for all
pub lives_on : (s : Session) (fs : List Bytes) → is_live s ≡ true → is_live (placed_each s fs) ≡ has_room_for s fs
lives_on s [] e = e
lives_on s (f ∷ fs) e = by (has_room s f) refl (lives_on (record s { frames = s.frames ++ f ∷ [] }) fs e)
  where
    by : (b : Bool) → has_room s f ≡ b
        → is_live (placed_each (record s { frames = s.frames ++ f ∷ [] }) fs) ≡ has_room_for (record s { frames = s.frames ++ f ∷ [] }) fs
        → is_live (placed_each (placed f s) fs) ≡ has_room_for s (f ∷ fs)
    by true r ih =
        ap (λ (t : Session). is_live (placed_each t fs)) (takes_it s f e r)
        ∙ ih
        ∙ step_room s f fs r
    by false r ih =
        ap (λ (t : Session). is_live (placed_each t fs)) (is_cut s f e r)
        ∙ ap is_live (dead_takes_none (record s { stage = cut; subs = [] }) fs refl)
        ∙ sym (step_no_room s f fs r)

one_by_one : (a : List Bytes) (f : Bytes) (b : List Bytes) → (a ++ f ∷ []) ++ b ≡ a ++ f ∷ b
one_by_one [] f b = refl
one_by_one (x ∷ a) f b = ap (λ (gs : List Bytes). x ∷ gs) (one_by_one a f b)

-- its frames then stand behind those that it had
pub takes_all : (s : Session) (fs : List Bytes) → is_live s ≡ true → has_room_for s fs ≡ true
    → placed_each s fs ≡ record s { frames = s.frames ++ fs }
takes_all s [] e r = ap (λ (fs : List Bytes). record s { frames = fs }) (sym (append-nil s.frames))
takes_all s (f ∷ fs) e r = by (has_room s f) refl (takes_all (record s { frames = s.frames ++ f ∷ [] }) fs e)
  where
    by : (b : Bool) → has_room s f ≡ b
        → (has_room_for (record s { frames = s.frames ++ f ∷ [] }) fs ≡ true
        → placed_each (record s { frames = s.frames ++ f ∷ [] }) fs ≡ record s { frames = (s.frames ++ f ∷ []) ++ fs })
        → placed_each (placed f s) fs ≡ record s { frames = s.frames ++ f ∷ fs }
    by true q ih =
        ap (λ (t : Session). placed_each t fs) (takes_it s f e q)
        ∙ ih (step_room s f fs q ∙ r)
        ∙ ap (λ (fs : List Bytes). record s { frames = fs }) (one_by_one s.frames f fs)
    by false q ih = let no = step_no_room s f fs q in absurd (cc)
