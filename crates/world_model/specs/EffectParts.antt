-- What effects are made of.
use Rattle.std.specs.Prelude.{ℕ, ◌+◌, ◌*◌, Bool, false, nat_le, List, [], ◌∷◌, Option, Some, None, option_map, if◌then◌else◌, codes}
use Rattle.std.specs.List.{list_any}
use Rattle.byte_text.specs.Names.{Bytes}
use Rattle.byte_text.specs.declared.replies.Piece.{Piece}
use Rattle.planar_geom.specs.declared.shapes.Area.{Area}
use Rattle.planar_geom.specs.declared.shapes.Area.TheVariants.{Figure}
use Rattle.world_data.specs.Limits.{max_weight}
use Rattle.world_data.specs.Worlds.{after, object_at, has_key}
use Rattle.world_data.specs.Records.{weight}
use Rattle.fence_model.specs.Writes.{Write}
use Rattle.world_model.specs.Refusals.{refusal_reply}
use Rattle.world_model.specs.declared.faults.Refusal.{Refusal}
use Rattle.world_model.specs.declared.faults.Refusal.TheVariants as refusal
use Rattle.world_model.specs.Subscriptions.{Sub}
use Rattle.world_data.specs.declared.objects.Object.{Object}
use Rattle.world_data.specs.declared.worlds.World.{World}
use Rattle.world_data.specs.declared.worlds.Change.{Change}
use Rattle.world_model.specs.declared.search_commands.AreaWords.{AreaWords}
use Rattle.world_model.specs.declared.search_commands.AreaWords.TheVariants.{Given, Of}

-- what a command does: replies, subscriptions to add, changes in order, and whether the session closes
pub record Effect : Type 0 where
  pub replies : List (List Piece)
  pub subs : List Sub
  pub writes : List Write
  pub closes : Bool

-- one reply and nothing else
abbrev pub says : List Piece → Effect
says reply = record { replies = reply ∷ []; subs = []; writes = []; closes = false }

-- one reply and these changes
abbrev pub changes : List Piece → List Write → Effect
changes reply writes = record { replies = reply ∷ []; subs = []; writes = writes; closes = false }

-- a refusal and nothing else
abbrev pub refuses : Refusal → Effect
refuses r = says (refusal_reply r)

-- the first refusal whose test holds, else the effect
abbrev pub unless : List (Bool × Effect) → Effect → Effect
unless [] e = e
unless (r ∷ refusals) e = if r.0 then r.1 else unless refusals e

-- the world after the change is no heavier than it may be
abbrev pub fits : World → Change → Bool
fits w c = nat_le (weight (after w c)) max_weight

-- the deadline that EX gives, in milliseconds
abbrev pub deadline_after : ℕ → Option ℕ → Option ℕ
deadline_after now after_ex = option_map (λ s. now + 1000 * s) after_ex

-- why an object is not found
abbrev pub missing : World → Bytes → Effect
missing w key = refuses (if list_any (has_key key) w.objects then refusal.IdNotFound else refusal.KeyNotFound)

-- a command on an object that must be there
abbrev pub with_object : World → Bytes → Bytes → (Object → Effect) → Effect
with_object w key id f = found (object_at w key id)
  where
    found : Option Object → Effect
    found None = missing w key
    found (Some o) = f o

-- a command on an object that may be absent
abbrev pub if_object : Option Object → Effect → (Object → Effect) → Effect
if_object None absent f = absent
if_object (Some o) absent f = f o

-- an area that is an object's shape is put in its place
abbrev pub resolved : World → AreaWords → (Area → List Bytes → Effect) → Effect
resolved w (Given a) f = f a []
resolved w (Of key id) f = with_object w key id (λ o. f (Figure o.shape) (codes "OBJECT" ∷ o.text ∷ []))
