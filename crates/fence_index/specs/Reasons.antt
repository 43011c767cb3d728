-- Why a change names a channel, and the box under which it is found then.
use Rattle.std.specs.Prelude.{pos, ◌||◌, Option, Some, None, is_none, if◌then◌else◌}
use Rattle.planar_geom.specs.Points.{Bounds, bounds, pt}
use Rattle.fence_index.specs.declared.marks.Mark.{Mark}

-- its area is near; its area is near and it wants `outside`; or an object was put, wherever that is
pub data Reason : Type 0 where
  Near : Reason
  Wide : Reason
  Always : Reason

-- the one box of all that are named wherever an object was put
abbrev pub spot : Bounds
spot = bounds (pt (pos 0) (pos 0)) (pt (pos 0) (pos 0))

-- the box under which the channel is found, where it is named for this reason
abbrev pub box_for : Reason → Mark → Option Bounds
box_for Near m = if m.outside then None else m.area
box_for Wide m = if m.outside then m.area else None
box_for Always m = if is_none m.area || m.outside then Some spot else None
