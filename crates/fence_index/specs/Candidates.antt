-- The channels that a change may concern, by boxes alone.
use Rattle.std.specs.Prelude.{Bool, false, ◌&&◌, ◌||◌, Option, Some, None, is_some, is_none, option_map}
use Rattle.byte_text.specs.Names.{Bytes}
use Rattle.planar_geom.specs.Points.{Bounds, boxes_meet, box_round_both}
use Rattle.planar_geom.specs.Shapes.{box_of}
use Rattle.world_data.specs.declared.objects.Object.{Object}
use Rattle.fence_index.specs.declared.marks.Mark.{Mark}
use Rattle.fence_index.specs.Marks.{is_of_key}

-- the least box round what is there of the two
abbrev pub round_of : Option Bounds → Option Bounds → Option Bounds
round_of None new = new
round_of (Some b) None = Some b
round_of (Some b) (Some c) = Some (box_round_both b c)

-- both are there, and have a point in common
abbrev pub both_meet : Option Bounds → Option Bounds → Bool
both_meet None c = false
both_meet (Some b) None = false
both_meet (Some b) (Some c) = boxes_meet b c

-- a put concerns the channels that roam and those that want `outside`; and each change those whose area's box meets the box round what
-- it moves
abbrev pub concerns : Option Bounds → Bool → Mark → Bool
concerns round put m = (put && (is_none m.area || m.outside)) || both_meet round m.area

-- the change moves an object from the old box, where it was there, to the new one, where it is there after it
abbrev pub is_concerned : Option Bounds → Option Bounds → Mark → Bool
is_concerned old new m = concerns (round_of old new) (is_some new) m

-- there is a channel, on the key, that is concerned
abbrev pub is_named : Bytes → Option Bounds → Bool → Option Mark → Bool
is_named key round put None = false
is_named key round put (Some m) = is_of_key key m && concerns round put m

-- the box of an object that may be there
abbrev pub box_if : Option Object → Option Bounds
box_if o = option_map (λ o. box_of o.shape) o
