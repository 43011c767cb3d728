-- Slots of channels under the channels' names.
use Rattle.std.specs.Prelude.{◌≡◌, ℕ, Bool, false, List, [], ◌∷◌, Option, Some, None, find, if◌then◌else◌}
use Rattle.byte_text.specs.Names.{Bytes, same}
use Rattle.world_data.specs.declared.channels.Channel.{Channel}
use Rattle.world_data.specs.Worlds.{is_named}

-- slots, each under a name, and whether one more can be put without taking memory
pub record Named : Type 0 where
  pub slots : List (Bytes × ℕ)
  pub ready : Bool

-- the slot under this name
abbrev pub slot_in : List (Bytes × ℕ) → Bytes → Option ℕ
slot_in [] name = None
slot_in (e ∷ es) name = if same name e.0 then Some e.1 else slot_in es name

-- a channel is there, and is of this name
abbrev pub has_name : Bytes → Option Channel → Bool
has_name name None = false
has_name name (Some c) = is_named name c

-- of these slots, the first whose channel is of this name
abbrev pub slot_of : (ℕ → Option Channel) → List ℕ → Bytes → Option ℕ
slot_of slots order name = find (λ s. has_name name (slots s)) order

-- each channel is found by its name, and nothing else is
abbrev pub AreNamed : (ℕ → Option Channel) → List ℕ → List (Bytes × ℕ) → Type 0
AreNamed slots order under = (name : Bytes) → slot_in under name ≡ slot_of slots order name
