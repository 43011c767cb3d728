-- Room for an object that is not there yet.
use Rattle.std.proofs.Common.{◌≡◌, ◌≤◌, ◌+◌, ◌-◌, ℕ, min, Bool, true, false, refl, List, [], ◌∷◌, arith}
use Rattle.std.specs.Prelude.{Some, None, find, nat_le, ◌||◌}
use Rattle.std.specs.List.{list_any}
use Rattle.std.proofs.lemmas.Bool.Decides.{nat_tests}
use Rattle.world_data.specs.declared.objects.Object.{Object}

none_first : (q : Object → Bool) (x : Object) (xs : List Object) (b : Bool) → q x ≡ b → (find q xs ≡ None → list_any q xs ≡ false) → find q (x ∷ xs) ≡ None → list_any q (x ∷ xs) ≡ false
none_first q x xs true t ih e = let found : find q (x ∷ xs) ≡ Some x = rw t refl in absurd (cc)
none_first q x xs false t ih e = let rest : find q xs ≡ None = rw t at e in rw t (ih rest)

pub none_any : (q : Object → Bool) (xs : List Object) → find q xs ≡ None → list_any q xs ≡ false
none_any q [] e = refl
none_any q (x ∷ xs) e = none_first q x xs (q x) refl (none_any q xs) e

pub room_left : (spare : ℕ) (b : Bool) → (nat_le 1 spare || b) ≡ true → b ≡ false → 1 ≤ spare
room_left spare b room e = grind (arith, nat_tests)

-- the room where an object was taken out
pub room_removed : (boxes boxes-after used left capacity spare spare-after total total-after keys keys-after : ℕ) → left + 1 ≡ used → left + 1 ≤ capacity → spare-after ≡ spare + 1 → total-after ≡ total → keys-after + 1 ≡ keys → keys ≤ total → boxes-after ≡ boxes + 1
    → min (min (min (capacity - left) spare-after) (total-after - keys-after)) boxes-after ≡ min (min (min (capacity - used) spare) (total - keys)) boxes + 1
room_removed boxes boxes-after used left capacity spare spare-after total total-after keys keys-after a b c d e f g = omega (arith, a, b, c, d, e, f, g)
