-- What a request will do to objects, made ready before anything is changed.
use Rattle.std.specs.Prelude.{◌≡◌, ℕ, ◌≤◌, Bool, false, not, is_some, if◌then◌else◌, List, [], ◌∷◌, length, map, Option, Some, None}
use Rattle.byte_text.specs.Names.{Bytes}
use Rattle.byte_text.specs.Replies.{frame_text}
use Rattle.byte_text.specs.declared.replies.Piece.{Piece}
use Rattle.world_data.specs.Limits.{max_reply}
use Rattle.world_data.specs.Records.{weight}
use Rattle.fence_model.specs.Writes.{Write, announced, silent}
use Rattle.world_model.specs.Effects.{Effect, says, changes, refuses, unless, fits, within_reply}
use Rattle.world_model.specs.declared.faults.Refusal.TheVariants as refusal
use Rattle.world_data.specs.declared.worlds.World.{World}
use Rattle.world_data.specs.declared.worlds.Change.TheVariants as change
use Rattle.world_data.specs.declared.objects.Object.{Object}
use Rattle.delivery_model.specs.Staging.{records_len}
use Rattle.record_writer.specs.Lengths.{HasFewFields}
use Rattle.object_plans.specs.declared.moves.ObjectChange.{ObjectChange}
use Rattle.object_plans.specs.declared.moves.ObjectChange.TheVariants.{Stay, Put, Delete, DeleteEach, DropKey, Clear}
use Rattle.object_plans.specs.declared.plans.Plan.{Plan}
use Rattle.object_plans.specs.Kept.{most_kept}
use Rattle.object_plans.specs.Moves.{world_of, moved, HaveAllThere, HoldsOfPut, IsAccepted}

-- the writes that are done to the objects; that a put is announced or not stands beside it
abbrev pub writes_of : ObjectChange → Bool → List Write
writes_of Stay is_loud = []
writes_of (Put o) is_loud = record { change = change.Put o; announced = is_loud } ∷ []
writes_of (Delete key id) is_loud = announced (change.Del key id) ∷ []
writes_of (DeleteEach key ids) is_loud = map (λ id. announced (change.Del key id)) ids
writes_of (DropKey key) is_loud = announced (change.Drop key) ∷ []
writes_of Clear is_loud = silent change.Flush ∷ []

-- the plan is that of an effect in a world with these objects: one reply, whose frame is at hand, and changes of objects, for which all is known that
-- is needed
pub record IsPlan (objects : List Object) (e : Effect) (p : Plan) : Type 0 where
  pub reply : List Piece
  pub is : e ≡ record { replies = reply ∷ []; subs = []; writes = writes_of p.action p.announced; closes = p.closes }
  pub frame : p.frame ≡ frame_text reply
  pub short : length p.frame ≤ max_reply
  pub there : HaveAllThere objects p.action
  pub accepted : HoldsOfPut IsAccepted p.action
  pub few : HoldsOfPut HasFewFields p.action
  pub length_is : p.length ≡ records_len (writes_of p.action p.announced)
  pub small : p.length ≤ most_kept
  pub weight_is : p.weight ≡ weight (world_of (moved objects p.action))
  pub light : p.weight ≤ most_kept

-- the effect is one reply and nothing else, and this is its frame
pub record Replies (e : Effect) (frame : Bytes) : Type 0 where
  pub reply : List Piece
  pub is : e ≡ says reply
  pub frame_is : frame ≡ frame_text reply
  pub short : length frame ≤ max_reply

-- the plan is the answer of the effect, and changes nothing in a world of this weight
pub record Says (e : Effect) (total : ℕ) (p : Plan) : Type 0 where
  pub replies : Replies e p.frame
  pub is : p ≡ record { frame = p.frame; action = Stay; announced = false; length = 0; weight = total; closes = false }

-- the object is put and this is replied, or it is refused where the world would be too heavy
abbrev pub put_or_full : World → Object → List Piece → Bool → Effect
put_or_full w o reply is_loud = within_reply
    (unless ((not (fits w (change.Put o)), refuses refusal.DatabaseFull) ∷ [])
    (changes reply (record { change = change.Put o; announced = is_loud } ∷ [])))

-- the object without its deadline, where it has one
abbrev pub without_deadline : Object → Option Object
without_deadline o = if is_some o.deadline then Some (record o { deadline = None }) else None
