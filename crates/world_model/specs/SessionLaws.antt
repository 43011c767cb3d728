-- Sessions keep their numbers as frames are placed on them, and are found by them.
use Rattle.std.proofs.Common.{◌≡◌, ◌==◌, ℕ, Bool, true, false, not, refl, ◌∙◌, ap, subst, List, [], ◌∷◌, ◌++◌, arith}
use Rattle.std.specs.Prelude.{Some, find, map, option_map, if◌then◌else◌}
use Rattle.std.proofs.lemmas.Bool.Decides.{nat_tests}
use Rattle.byte_text.specs.Names.{Bytes}
use Rattle.world_model.specs.Halls.{Session, is_live, is_session, has_room, placed, placed_each}

-- placing keeps a session's number

pub number_of : (b : Bool) (s t : Session) (n : ℕ) → s.number ≡ n → t.number ≡ n → (if b then s else t).number ≡ n
number_of true s t n p q = p
number_of false s t n p q = q

pub placed_number : (frame : Bytes) (s : Session) → (placed frame s).number ≡ s.number
placed_number frame s = number_of (not (is_live s)) s _ s.number refl (number_of (has_room s frame) _ _ s.number refl refl)

pub each_append : (s : Session) (a b : List Bytes) → placed_each s (a ++ b) ≡ placed_each (placed_each s a) b
each_append s [] b = refl
each_append s (f ∷ a) b = each_append (placed f s) a b

-- the session of a number among sessions that were each changed, but for their numbers
module _ (g : Session → Session) (keeps : (s : Session) → (g s).number ≡ s.number) where
  found_test : (n : ℕ) (s : Session) (b : Bool) (rest : List Session) → is_session n s ≡ b
      → find (is_session n) (map g rest) ≡ option_map g (find (is_session n) rest)
      → find (is_session n) (map g (s ∷ rest)) ≡ option_map g (find (is_session n) (s ∷ rest))
  found_test n s true rest e ih = let f : is_session n (g s) ≡ true = ap (λ m. m == n) (keeps s) ∙ e in rw (f, e) refl
  found_test n s false rest e ih = let f : is_session n (g s) ≡ false = ap (λ m. m == n) (keeps s) ∙ e in rw (f, e) ih

  pub found_map : (n : ℕ) (sessions : List Session) → find (is_session n) (map g sessions) ≡ option_map g (find (is_session n) sessions)
  found_map n [] = refl
  found_map n (s ∷ rest) = found_test n s _ rest refl (found_map n rest)

-- a session that is found has the number
pub found_number : (n : ℕ) (s : Session) (ss : List Session) → find (is_session n) ss ≡ Some s → is_session n s ≡ true
found_number n s [] f = absurd (cc)
found_number n s (t ∷ rest) f = by (is_session n t) refl (found_number n s rest) f
  where
    by : (b : Bool) → is_session n t ≡ b → (find (is_session n) rest ≡ Some s → is_session n s ≡ true)
        → (if b then Some t else find (is_session n) rest) ≡ Some s → is_session n s ≡ true
    by true is ih e = let same : t ≡ s = cc in subst (λ (u : Session). is_session n u ≡ true) same is
    by false is ih e = ih e

-- numbers that differ do so either way
pub other_way : (a b : ℕ) → (a == b) ≡ false → (b == a) ≡ false
other_way a b e = grind (arith, nat_tests)
