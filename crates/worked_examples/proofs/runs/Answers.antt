use Rattle.std.proofs.Common.{refl}
use Rattle.std.specs.Str.{chars, is_utf8}
use Rattle.std.specs.Fmt.{digits}
use Rattle.byte_text.specs.Globs.{is_well_formed, glob_meets}
use Rattle.planar_geom.specs.Points.{floor_root}
use Rattle.planar_geom.specs.Relations.{intersects, within}
use Rattle.geo_text.specs.Texts.{shape_of}
use Rattle.world_model.specs.Commands.{readings}
use Rattle.world_model.specs.Effects.{effect}
use Rattle.fence_model.specs.Messages.{messages}
use Rattle.world_model.specs.Halls.{apply}
use Rattle.worked_examples.proofs.runs.Goals as goal

pub returns : goal.returns
unfolding chars is_utf8 digits lib.Utf8.encode is_well_formed glob_meets intersects within floor_root readings shape_of effect messages apply
returns c = record {
  one_point = refl;
  cross = refl;
  stays = refl;
  expiry = refl;
  channel_goes = refl;
  channel_stays = refl;
  channel_set_anew = refl;
  ttl = refl;
  cursor = refl;
  nearest = refl;
  fields = refl;
  texts = refl;
  refused = refl;
  roam = refl;
  roam_again = refl;
  patterns = refl;
  record_length = refl;
  chans = refl;
  acked = refl;
  acked_by_frames = refl;
}
