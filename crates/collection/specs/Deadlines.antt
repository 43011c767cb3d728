-- Objects by deadline: which expires first, and the keys of those that have one.
use Rattle.std.specs.Prelude.{ℕ, ◌≡◌, ◌<◌, Bool, true, false, not, ◌&&◌, ◌||◌, nat_eq, nat_lt, ◌==◌, List, length, take, slice_get, Option, Some}
use Rattle.std.specs.Prelude.{None, is_some, IfSome}
use Rattle.std.specs.List.{list_all, list_any}
use Rattle.byte_text.specs.Names.{Bytes, before}
use Rattle.ordered_lists.specs.Lists.{ascends}
use Rattle.world_data.specs.Expiry.{deadline_of}
use Rattle.world_data.specs.declared.objects.Object.{Object}
use Rattle.collection.specs.Objects.{least_due}

-- this is the object's deadline
abbrev pub has_deadline : ℕ → Object → Bool
has_deadline due o = is_deadline o.deadline
  where
    is_deadline : Option ℕ → Bool
    is_deadline None = false
    is_deadline (Some d) = d == due

-- the place is the first where the test holds
pub record IsFirst {A : Type 0} (test : A → Bool) (xs : List A) (at : ℕ) : Type 0 where
  pub within : at < length xs
  pub front : list_all (λ x. not (test x)) (take at xs) ≡ true
  pub here : IfSome (slice_get xs at) (λ x. test x ≡ true)

-- the first place of the least deadline
pub record IsFirstDue (objects : List Object) (at : ℕ) : Type 0 where
  pub due : ℕ
  pub least : least_due objects ≡ Some due
  pub first : IsFirst (has_deadline due) objects at

-- the first place of the least deadline, where there is a deadline
abbrev pub FirstDue : List Object → Option ℕ → Type 0
FirstDue objects None = least_due objects ≡ None
FirstDue objects (Some at) = IsFirstDue objects at

-- by deadline, then id
abbrev pub expires_before : Object → Object → Bool
expires_before o p = nat_lt (deadline_of o.deadline) (deadline_of p.deadline)
    || (nat_eq (deadline_of o.deadline) (deadline_of p.deadline) && before o.id p.id)

-- what a slot holds expires before what another holds; nothing stands behind all
abbrev pub slot_before : Option Object → Option Object → Bool
slot_before None q = false
slot_before (Some o) None = true
slot_before (Some o) (Some p) = expires_before o p

-- there is an object with a deadline
abbrev pub is_expiring : Option Object → Bool
is_expiring None = false
is_expiring (Some o) = is_some o.deadline

-- the number is one of these
abbrev pub is_among : ℕ → List ℕ → Bool
is_among k keys = list_any (nat_eq k) keys

-- the order of keys by what their slots hold
abbrev pub due_order : (ℕ → Option Object) → ℕ → ℕ → Bool
due_order slots k l = slot_before (slots k) (slots l)

-- what an object's place in that order hangs on
abbrev pub rank_of : Option Object → Option (Option ℕ × Bytes)
rank_of None = None
rank_of (Some o) = Some (o.deadline, o.id)

-- of these keys those of objects that have a deadline, in order of deadline and id
pub record AreDues (slots : ℕ → Option Object) (keys dues : List ℕ) : Type 0 where
  pub order : ascends (due_order slots) dues ≡ true
  pub among : (k : ℕ) → is_among k dues ≡ (is_among k keys && is_expiring (slots k))
