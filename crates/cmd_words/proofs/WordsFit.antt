-- The normal words of a channel are within the limits of a request.
use Rattle.std.proofs.Common.{◌≡◌, arith}
use Rattle.std.specs.Prelude.{Ok}
use Rattle.byte_text.specs.Names.{Bytes}
use Rattle.byte_text.specs.Requests.{FitsRequest}
use Rattle.world_data.specs.declared.channels.Kind.{Kind}
use Rattle.world_model.specs.Commands as table
use Rattle.cmd_words.specs.ReadLaws.{ok_spelled}
use Rattle.cmd_words.specs.Progress.{Place, all_words}
use Rattle.cmd_words.specs.FenceAreas.{from_of}
use Rattle.cmd_words.specs.Channels.{channel_words, setchan_of}
use Rattle.cmd_words.specs.SettingSizes.{spelled_within, fit_light}
use Rattle.cmd_words.specs.declared.fence_areas.FenceArea.{FenceArea}

-- the normal words of a channel that words spell are within the limits
pub setchan_fits : (p : Place) (n : table.Called) (kind : Kind) (key : Bytes) (o : table.FenceOptions) (x : FenceArea) → FitsRequest (all_words p)
    → table.reads (all_words p) ≡ Ok (setchan_of n kind key o x) → FitsRequest (channel_words kind key o x)
setchan_fits p n kind key o x fits e =
    let said = ok_spelled (all_words p) (table.command_spelled (all_words p)) (setchan_of n kind key o x) e in
    let within = spelled_within (all_words p) (setchan_of n kind key o x) fits.short said in
    let light = fit_light (from_of x) (channel_words kind key o x) within.2 in
    let most = fits.few in
    let few = within.0 in
    let total_most = light.1 in
    record { few = omega (arith, most, few); short = light.0; small = omega (arith, most, few, total_most) }
