-- What a channel watches, as the words behind its options say it.
use Rattle.std.specs.Prelude.{not, Bool, List, [], ◌∷◌, Option, Some, None, is_none, codes, decimal}
use Rattle.std.specs.Fmt.{signed_decimal}
use Rattle.byte_text.specs.Names.{Bytes}
use Rattle.planar_geom.specs.declared.shapes.Area.TheVariants.{Disc}
use Rattle.world_data.specs.declared.channels.Kind.{Kind}
use Rattle.world_data.specs.declared.channels.Kind.TheVariants as kind
use Rattle.world_data.specs.declared.channels.Watch.{Watch}
use Rattle.world_data.specs.declared.channels.Watch.TheVariants as watch
use Rattle.world_model.specs.Grammar.{Form, ◌>>=◌, ◌>>◌, done, one_of, where_, word}
use Rattle.world_model.specs.Kinds.{name, glob, meters, lat_lon}
use Rattle.world_model.specs.Commands.{FenceOptions}
use Rattle.world_model.specs.declared.search_commands.AreaWords.{AreaWords}
use Rattle.world_model.specs.declared.commands.Command.{Command}
use Rattle.cmd_words.specs.Areas.{an_area}
use Rattle.cmd_words.specs.declared.fence_areas.FenceArea.{FenceArea}
use Rattle.cmd_words.specs.declared.fence_areas.FenceArea.TheVariants as area

-- behind POINT, and behind ROAM
abbrev pub around : Form FenceArea
around = lat_lon >>= λ p. meters >>= λ r. done (area.Around p r)

abbrev pub beside : Form FenceArea
beside = name >>= λ key. glob >>= λ pattern. meters >>= λ r. done (area.Beside key pattern r)

-- an area, and what is to follow it
abbrev pub given_area : (FenceArea → Form Command) → Form Command
given_area next = an_area (λ a. next (area.Given a))

-- points around one, or objects near others
abbrev pub near_area : FenceOptions → (FenceArea → Form Command) → Form Command
near_area o next = one_of (
    where_ (not o.nodwell) (word (codes "POINT") >> (around >>= next)) ∷
    where_ (is_none o.detect) (word (codes "ROAM") >> (beside >>= next)) ∷ [])

abbrev pub watched : Kind → FenceOptions → (FenceArea → Form Command) → Form Command
watched kind.Within o next = given_area next
watched kind.Intersects o next = given_area next
watched kind.Near o next = near_area o next

-- behind the options, of which FENCE is one
abbrev pub fence_area : Kind → FenceOptions → (FenceArea → Form Command) → Form Command
fence_area sense o next = where_ o.fence (watched sense o next)

-- the watch of a channel, where its area is from, and the area's normal words
abbrev pub watch_of : Kind → Bool → FenceArea → Watch
watch_of sense nodwell (area.Given a) = watch.Zone sense a.area
watch_of sense nodwell (area.Around p r) = watch.Zone kind.Near (Disc p r)
watch_of sense nodwell (area.Beside key pattern r) = watch.Roam key pattern r nodwell

abbrev pub from_of : FenceArea → Option AreaWords
from_of (area.Given a) = Some a.from
from_of (area.Around p r) = None
from_of (area.Beside key pattern r) = None

abbrev pub words_of : FenceArea → List Bytes
words_of (area.Given a) = a.words
words_of (area.Around p r) = codes "POINT" ∷ signed_decimal p.y ∷ signed_decimal p.x ∷ decimal r ∷ []
words_of (area.Beside key pattern r) = codes "ROAM" ∷ key ∷ pattern ∷ decimal r ∷ []
