-- What is asked of settings alone is told of the form of a setting.
use Rattle.std.specs.Prelude.{◌≡◌, List, [], ◌∷◌, map, drop, Some, codes}
use Rattle.std.specs.List.{AllByRecursion}
use Rattle.byte_text.specs.Names.{Bytes}
use Rattle.world_model.specs.Commands as table
use Rattle.world_model.specs.FormLaws.{Each, each_append, each_map}
use Rattle.world_model.specs.Grammar.{Form, Reading, spells, runs_out, one_of, word}
use Rattle.world_model.specs.MadeForms.{Makes, Said, makes_behind, makes_done, makes_then, spelled_said}
use Rattle.world_model.specs.RowLaws.{of_families}
use Rattle.world_model.specs.declared.commands.Command.{Command}
use Rattle.world_model.specs.declared.commands.Command.TheVariants as command
use Rattle.world_model.specs.declared.channel_commands.ChannelCommand.TheVariants as of_channel

-- the command is no setting
abbrev pub SetsNone : Command → Type 0
SetsNone (command.Channel (of_channel.Setchan c from after_ex)) = ⊥
SetsNone c = Unit {0}

-- the form of a setting
abbrev pub setting_form : Form Command
setting_form = table.form_of (table.row (codes "SETCHAN") table.setchan_words)

-- the rows spell no setting
abbrev SetNone : List table.Row → Type 0
SetNone rows = AllByRecursion (λ r. Makes SetsNone r.behind) rows

objects_set_none : SetNone table.object_rows
objects_set_none = search (makes_behind, makes_done) depth 80 fits 8000

searches_set_none : SetNone table.search_rows
searches_set_none = search (makes_behind, makes_done) depth 60 fits 4000

sessions_set_none : SetNone table.session_rows
sessions_set_none = search (makes_behind, makes_done) depth 60 fits 4000

-- the channels' rows but for the first
others_set_none : SetNone (drop 1 table.channel_rows)
others_set_none = search (makes_behind, makes_done) depth 60 fits 4000

module _ (P : Command → Type 0) (others : (c : Command) → SetsNone c → P c) where
  other_said : (r : Reading Command) → Said SetsNone r → Said P r
  other_said (spells c rest) none = others c none
  other_said (runs_out due) none = tt

  others_said : (rows : List table.Row) (words : List Bytes) → SetNone rows → AllByRecursion (λ r. Each (Said P) (table.form_of r words)) rows
  others_said [] words none = tt
  others_said (r ∷ rows) words none =
      let own = (makes_then SetsNone (word r.called) r.behind none.0).made words in
      (each_map (Said SetsNone) (Said P) other_said (table.form_of r words) own, others_said rows words none.1)

  rows_said : (rows : List table.Row) (words : List Bytes) → AllByRecursion (λ r. Each (Said P) (table.form_of r words)) rows
      → Each (Said P) (one_of (map table.form_of rows) words)
  rows_said [] words all = tt
  rows_said (r ∷ rows) words all = each_append (Said P) (table.form_of r words) (one_of (map table.form_of rows) words) all.0
      (rows_said rows words all.1)

  table_said : (words : List Bytes) → Each (Said P) (setting_form words) → Each (Said P) (table.command_table words)
  table_said words settings = rows_said table.command_rows words (of_families (λ r. Each (Said P) (table.form_of r words))
      (others_said table.object_rows words objects_set_none) (others_said table.search_rows words searches_set_none)
      (settings, others_said (drop 1 table.channel_rows) words others_set_none) (others_said table.session_rows words sessions_set_none))

  -- what the form of a setting spells has the property, and each other command: so has the command that the words spell
  pub setting_said : (words : List Bytes) (c : Command) → Each (Said P) (setting_form words) → table.command_spelled words ≡ Some c → P c
  unfolding table.readings
  setting_said words c settings e = spelled_said P (table.command_table words) c (table_said words settings) e
