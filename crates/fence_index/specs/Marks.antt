-- What the index asks of a channel.
use Rattle.std.specs.Prelude.{Bool, Option, Some, None}
use Rattle.byte_text.specs.Names.{Bytes, same}
use Rattle.planar_geom.specs.Points.{Bounds}
use Rattle.planar_geom.specs.Relations.{area_box}
use Rattle.world_data.specs.declared.channels.Channel.{Channel}
use Rattle.world_data.specs.declared.channels.Watch.{Watch}
use Rattle.world_data.specs.declared.channels.Watch.TheVariants.{Zone, Roam}
use Rattle.fence_index.specs.declared.marks.Mark.{Mark}

-- the box of the area that is watched: one that roams watches none
abbrev pub watched_box : Watch → Option Bounds
watched_box (Zone kind a) = Some (area_box a)
watched_box (Roam key pattern meters nodwell) = None

-- its key, the box of its area, and whether it wants `outside`
abbrev pub mark_of : Channel → Mark
mark_of c = record { key = c.fence.key; area = watched_box c.fence.watch; outside = c.fence.wanted.outside }

abbrev pub is_of_key : Bytes → Mark → Bool
is_of_key key m = same m.key key
