-- SETCHAN: when its channel goes, its kind, its channel, and the normal words of the channel.
use Rattle.std.specs.Prelude.{◌≡◌, ℕ, Bool, true, false, List, [], ◌∷◌, ◌++◌, Option, Some, None, Result, Ok, Err, codes}
use Rattle.byte_text.specs.Names.{Bytes}
use Rattle.world_data.specs.declared.channels.Kind.{Kind}
use Rattle.world_data.specs.declared.channels.Kind.TheVariants as kind
use Rattle.world_model.specs.Grammar.{Form, ◌>>=◌, ◌>>◌, done, one_of, word}
use Rattle.world_model.specs.Kinds.{seconds}
use Rattle.world_model.specs.Commands.{Called, FenceOptions, no_fence_options, option_words, setting, after_ex_words}
use Rattle.world_model.specs.declared.commands.Command.{Command}
use Rattle.cmd_words.specs.Progress.{Place, Took, IsNot, Reads, a_name}
use Rattle.cmd_words.specs.Options.{options_then}
use Rattle.cmd_words.specs.FenceWords.{fence_table}
use Rattle.cmd_words.specs.FenceAreas.{fence_area, watch_of, from_of, words_of}
use Rattle.cmd_words.specs.declared.faults.CommandFault.{CommandFault}
use Rattle.cmd_words.specs.declared.fence_areas.FenceArea.{FenceArea}

-- EX was read, and the seconds behind it; or EX is not next; or what is behind it is no seconds
abbrev pub ReadsEx : Place → Place → Result (Option ℕ) CommandFault → Type 0
ReadsEx old new (Ok None) = (new ≡ old) × IsNot (codes "EX") old.left
ReadsEx old new (Ok (Some s)) = (mid : Place) × Took (codes "EX") old mid true × Reads seconds mid new (Ok s)
ReadsEx old new (Err why) = (mid : Place) × Took (codes "EX") old mid true × Reads seconds mid new (Err why)

-- the word of a kind
abbrev pub kind_name : Kind → Bytes
kind_name kind.Within = codes "WITHIN"
kind_name kind.Intersects = codes "INTERSECTS"
kind_name kind.Near = codes "NEARBY"

abbrev pub is_near : Kind → Bool
is_near kind.Within = false
is_near kind.Intersects = false
is_near kind.Near = true

-- one of these words, and what is to follow it
abbrev pub a_kind : (Kind → Form Command) → Form Command
a_kind next = one_of (
    (word (codes "WITHIN") >> next kind.Within) ∷
    (word (codes "INTERSECTS") >> next kind.Intersects) ∷
    (word (codes "NEARBY") >> next kind.Near) ∷ [])

-- no word of a kind is next
abbrev pub LacksKind : List Bytes → Type 0
LacksKind left = (kind : Kind) → IsNot (kind_name kind) left

-- the word of a kind was read; or none was, and none is next
abbrev pub TakesKind : Place → Place → Option Kind → Type 0
TakesKind old new (Some kind) = Took (kind_name kind) old new true
TakesKind old new None = (new ≡ old) × LacksKind old.left

-- the normal words of a channel
abbrev pub channel_words : Kind → Bytes → FenceOptions → FenceArea → List Bytes
channel_words kind key o area = kind_name kind ∷ key ∷ option_words o ++ words_of area

-- the SETCHAN that a name with its seconds, a kind, a key, the options and what is watched ask for
abbrev pub setchan_of : Called → Kind → Bytes → FenceOptions → FenceArea → Command
setchan_of channel kind key o area = setting channel (kind_name kind) key o (watch_of kind o.nodwell area) (words_of area) (from_of area)

-- what stands behind the key
abbrev pub behind_key : Called → Kind → Bytes → Form Command
behind_key channel kind key = options_then (fence_table (is_near kind)) no_fence_options
    (λ o. fence_area kind o (λ area. done (setchan_of channel kind key o area)))

-- what stands behind the kind, and behind the channel's name and its seconds
abbrev pub behind_kind : Called → Kind → Form Command
behind_kind channel kind = a_name (behind_key channel kind)

abbrev pub behind_ex : Called → Form Command
behind_ex channel = a_kind (behind_kind channel)

-- what stands behind the channel's name
abbrev pub behind_setchan : Bytes → Form Command
behind_setchan name = after_ex_words >>= λ after_ex. behind_ex (record { name = name; after_ex = after_ex })
