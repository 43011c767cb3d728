-- Settings of channels: the channel that is put has a record.
use Rattle.std.proofs.Common.{◌≡◌, ap, append-nil}
use Rattle.std.specs.Prelude.{◌≤◌, ℕ, true, List, [], ◌∷◌, length, codes, Option, Some, None, Ok}
use Rattle.byte_text.specs.Names.{Bytes}
use Rattle.byte_text.specs.Requests.{max_word}
use Rattle.geo_text.specs.Texts.{Shape, shape_of}
use Rattle.planar_geom.specs.declared.shapes.Area.{Area}
use Rattle.planar_geom.specs.declared.shapes.Area.TheVariants.{Figure}
use Rattle.world_data.specs.declared.channels.Channel.{Channel}
use Rattle.world_data.specs.declared.worlds.Change.TheVariants as change
use Rattle.world_data.specs.Records.{is_kept_deadline}
use Rattle.world_model.specs.ChannelEffects.{with_deadline}
use Rattle.world_model.specs.EffectParts.{deadline_after}
use Rattle.world_model.specs.Effects.{settled_channel, watch_over}
use Rattle.world_model.specs.declared.search_commands.AreaWords.{AreaWords}
use Rattle.world_model.specs.declared.search_commands.AreaWords.TheVariants.{Given, Of}
use Rattle.log_record.specs.Words.{IsRecorded}

-- what the setting puts is read back from its record, whatever text the object has from which its area is
abbrev pub IsRecordable : Channel → Option AreaWords → Type 0
IsRecordable c None = IsRecorded (change.SetChan c)
IsRecordable c (Some (Given a)) = IsRecorded (change.SetChan (settled_channel c a []))
IsRecordable c (Some (Of key id)) = (text : Bytes) (shape : Shape) → shape_of text ≡ Ok shape → length text ≤ max_word
    → IsRecorded (change.SetChan (settled_channel c (Figure shape) (codes "OBJECT" ∷ text ∷ [])))

-- so is the setting at a moment, if the deadline that EX gives then is kept
abbrev pub IsRecordableAt : ℕ → Option ℕ → Channel → Option AreaWords → Type 0
IsRecordableAt now after_ex c from = is_kept_deadline (deadline_after now after_ex) ≡ true → IsRecordable (with_deadline now after_ex c) from

-- without words of its own the area leaves the channel's
pub bare_settled : (c : Channel) (a : Area)
    → settled_channel c a [] ≡ record c { fence = record c.fence { watch = watch_over c.fence.watch a } }
bare_settled c a = ap (λ (ws : List Bytes). record c { fence = record c.fence { watch = watch_over c.fence.watch a }; words = ws })
    (append-nil c.words)
