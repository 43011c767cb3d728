-- What is detected, and pairs as lists.
use Rattle.std.specs.Prelude.{List, [], ◌∷◌, Option, Some, None}
use Rattle.fence_model.specs.Fences.{crossed, detected, is_in_fence, meets_fence, was_in}
use Rattle.world_data.specs.declared.channels.Detect.{Detect}
use Rattle.world_data.specs.declared.channels.Fence.{Fence}
use Rattle.world_data.specs.declared.objects.Object.{Object}

-- the items that are there, in order
abbrev pub items : {A : Type 0} → Option A → Option A → List A
items None None = []
items None (Some b) = b ∷ []
items (Some a) None = a ∷ []
items (Some a) (Some b) = a ∷ b ∷ []

-- what the table says of a put, whether it is wanted or not
abbrev pub detections_of : Fence → Option Object → Object → List Detect
detections_of f old new = detected (was_in f old) (is_in_fence f new) (meets_fence f new) (crossed f old new)
