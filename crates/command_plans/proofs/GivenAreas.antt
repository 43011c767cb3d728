-- The area that the words of a setting give stands in the channel that they ask for.
use Rattle.std.proofs.Common.{◌≡◌, ℕ, true, false, refl, subst, List}
use Rattle.std.specs.Prelude.{Option, Some, None, codes}
use Rattle.byte_text.specs.Names.{Bytes}
use Rattle.planar_geom.specs.declared.shapes.Area.{Area}
use Rattle.world_data.specs.declared.channels.Channel.{Channel}
use Rattle.world_data.specs.declared.channels.Kind.{Kind}
use Rattle.world_data.specs.declared.channels.Kind.TheVariants.{Within, Intersects}
use Rattle.world_data.specs.declared.channels.Watch.TheVariants as watch
use Rattle.world_model.specs.Commands as table
use Rattle.world_model.specs.Effects.{watch_over}
use Rattle.world_model.specs.Grammar.{Form, ◌>>◌, ◌or◌, where_, word, repeated}
use Rattle.world_model.specs.Kinds.{name, glob, meters, lat_lon, four, geojson}
use Rattle.world_model.specs.MadeForms.{Makes, makes_behind, makes_bind, makes_done, makes_none, makes_or, makes_then, makes_where}
use Rattle.world_model.specs.TableParts.{SetsNone, setting_form, setting_said}
use Rattle.world_model.specs.declared.search_commands.AreaWords.{AreaWords}
use Rattle.world_model.specs.declared.search_commands.AreaWords.TheVariants.{Given, Of}
use Rattle.world_model.specs.declared.commands.Command.{Command}
use Rattle.world_model.specs.declared.commands.Command.TheVariants as command
use Rattle.world_model.specs.declared.channel_commands.ChannelCommand.TheVariants as of_channel

-- an area that is given is this one
abbrev Gives : AreaWords → Area → Type 0
Gives (Given b) a = b ≡ a
Gives (Of key id) a = Unit {0}

abbrev IsAsGiven : table.AreaRead → Type 0
IsAsGiven a = Gives a.from a.area

-- the area that is given changes nothing in the channel
abbrev Stands : Command → Type 0
Stands (command.Channel (of_channel.Setchan c (Some (Given a)) after_ex)) = watch_over c.fence.watch a ≡ c.fence.watch
Stands (command.Channel (of_channel.Setchan c (Some (Of key id)) after_ex)) = Unit {0}
Stands (command.Channel (of_channel.Setchan c None after_ex)) = Unit {0}
Stands c = Unit {0}

first : {A : Type 0} {P : A → Type 0} {f g : Form A} → Makes P f → Makes P g → Makes P (f or g)
first {P = P} {f = f} {g = g} p q = makes_or P f g p q

makes_area : Makes IsAsGiven table.area
makes_area =
    first (makes_behind IsAsGiven (word (codes "BOUNDS") >> four) _ (λ b. makes_done IsAsGiven _ refl)) (
    first (makes_behind IsAsGiven (word (codes "OBJECT") >> geojson) _ (λ t. makes_done IsAsGiven _ refl)) (
    first (makes_behind IsAsGiven (word (codes "CIRCLE") >> lat_lon) _ (λ p. makes_behind IsAsGiven meters _ (λ r. makes_done IsAsGiven _ refl))) (
    first (makes_behind IsAsGiven (word (codes "GET") >> name) _ (λ key. makes_behind IsAsGiven name _ (λ id. makes_done IsAsGiven _ tt))) (makes_none IsAsGiven))))

set_stands : (channel : table.Called) (kind_word key : Bytes) (kind : Kind) (o : table.FenceOptions) (a : Area) (words : List Bytes) (from : AreaWords) → Gives from a
    → Stands (table.setting channel kind_word key o (watch.Zone kind a) words (Some from))
set_stands channel kind_word key kind o a words (Given b) is = subst (λ (d : Area). watch_over (watch.Zone kind b) b ≡ watch.Zone kind d) is refl
set_stands channel kind_word key kind o a words (Of other id) is = tt

makes_over : (kind_word : Bytes) (kind : Kind) (channel : table.Called) → Makes Stands (table.setchan_area kind_word kind channel)
makes_over kind_word kind channel = makes_then Stands (word kind_word) _ (makes_behind Stands name _ (λ key. makes_behind Stands (repeated (table.fence_option false) table.no_fence_options) _ (λ o.
    makes_bind IsAsGiven Stands (where_ o.fence table.area) _ (makes_where IsAsGiven o.fence table.area makes_area) (λ a is.
    makes_done Stands (table.setting channel kind_word key o (watch.Zone kind a.area) a.words (Some a.from)) (set_stands channel kind_word key kind o a.area a.words a.from is)))))

makes_around : (channel : table.Called) (key : Bytes) (o : table.FenceOptions) → Makes Stands (table.near_area channel key o)
makes_around channel key o =
    first (makes_where Stands _ _ (makes_behind Stands (word (codes "POINT") >> lat_lon) _ (λ p. makes_behind Stands meters _ (λ r. makes_done Stands _ tt)))) (
    first (makes_where Stands _ _ (makes_behind Stands (word (codes "ROAM") >> name) _ (λ other. makes_behind Stands glob _ (λ pattern. makes_behind Stands meters _ (λ r. makes_done Stands _ tt))))) (makes_none Stands))

makes_near : (channel : table.Called) → Makes Stands (table.setchan_near channel)
makes_near channel = makes_then Stands (word (codes "NEARBY")) _ (makes_behind Stands name _ (λ key. makes_behind Stands (repeated (table.fence_option true) table.no_fence_options) _ (λ o.
    makes_where Stands o.fence _ (makes_around channel key o))))

makes_kinds : (channel : table.Called) → Makes Stands (table.setchan_kinds channel)
makes_kinds channel = first (makes_over (codes "WITHIN") Within channel) (first (makes_over (codes "INTERSECTS") Intersects channel) (first (makes_near channel) (makes_none Stands)))

makes_setchan : Makes Stands setting_form
makes_setchan = makes_then Stands (word (codes "SETCHAN")) _ (makes_behind Stands name _ (λ channel.
    makes_behind Stands table.after_ex_words _ (λ after_ex. makes_kinds (record { name = channel; after_ex = after_ex }))))

-- another command is no setting
others_stand : (c : Command) → SetsNone c → Stands c
others_stand (command.Channel (of_channel.Setchan c from after_ex)) none = absurd none
others_stand c none = tt

pub area_stands : (words : List Bytes) (c : Channel) (a : Area) (after_ex : Option ℕ)
    → table.command_spelled words ≡ Some (command.Channel (of_channel.Setchan c (Some (Given a)) after_ex)) → watch_over c.fence.watch a ≡ c.fence.watch
area_stands words c a after_ex e =
    setting_said Stands others_stand words (command.Channel (of_channel.Setchan c (Some (Given a)) after_ex)) (makes_setchan.made words) e
