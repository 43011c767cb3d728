-- Lists in an order: strictly ascending ones, sorting that keeps ties, and names each once.
use Rattle.std.specs.Prelude.{◌≡◌, ◌<◌, ◌≤◌, ℕ, Bool, true, false, not, ◌&&◌, List, [], ◌∷◌, length, take, slice_get, IfSome, if◌then◌else◌}
use Rattle.std.specs.List.{list_all, list_any}
use Rattle.byte_text.specs.Names.{Bytes, same}

-- each item stands before all later ones, so none stands there twice
abbrev pub ascends : {A : Type 0} → (A → A → Bool) → List A → Bool
ascends lt [] = true
ascends lt (x ∷ xs) = list_all (lt x) xs && ascends lt xs

-- neither stands before the other
abbrev pub ties : {A : Type 0} → (A → A → Bool) → A → A → Bool
ties lt x y = not (lt x y) && not (lt y x)

-- an ascending list with x at its place, in place of the one that ties with it
abbrev pub put_in : {A : Type 0} → (A → A → Bool) → A → List A → List A
put_in lt x [] = x ∷ []
put_in lt x (y ∷ ys) = if lt x y then x ∷ y ∷ ys else if lt y x then y ∷ put_in lt x ys else x ∷ ys

-- the list with x before the first item that does not stand before it
abbrev pub insert_by : {A : Type 0} → (A → A → Bool) → A → List A → List A
insert_by lt x [] = x ∷ []
insert_by lt x (y ∷ ys) = if lt y x then y ∷ insert_by lt x ys else x ∷ y ∷ ys

-- the items in the order, those that tie as they stood
abbrev pub sorted_by : {A : Type 0} → (A → A → Bool) → List A → List A
sorted_by lt [] = []
sorted_by lt (x ∷ xs) = insert_by lt x (sorted_by lt xs)

-- the items that stand before the one sought are in front, and the one at this place ties with it
pub record IsHeld {A : Type 0} (is_before is_behind : A → Bool) (xs : List A) (at : ℕ) : Type 0 where
  pub front : list_all is_before (take at xs) ≡ true
  pub within : at < length xs
  pub tie : IfSome (slice_get xs at) (λ x. (is_behind x ≡ false) × (is_before x ≡ false))

-- the items that stand before the one sought are in front, and the one at this place, if any, stands behind it
pub record IsFree {A : Type 0} (is_before is_behind : A → Bool) (xs : List A) (at : ℕ) : Type 0 where
  pub front : list_all is_before (take at xs) ≡ true
  pub within : at ≤ length xs
  pub behind : IfSome (slice_get xs at) (λ x. is_behind x ≡ true)

-- each once, where equal ones stand together
abbrev pub distinct : List Bytes → List Bytes
distinct [] = []
distinct (k ∷ ks) = if list_any (same k) ks then distinct ks else k ∷ distinct ks
