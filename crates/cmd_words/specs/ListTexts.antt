-- The texts of lists, name by name.
use Rattle.std.specs.Prelude.{Bool, true, false, [], ◌∷◌, ◌++◌, codes}
use Rattle.byte_text.specs.Names.{Bytes}
use Rattle.world_data.specs.declared.channels.Wanted.{Wanted}

-- a name behind others, with a comma between them
abbrev pub behind : Bytes → Bytes → Bytes
behind [] name = name
behind (b ∷ text) name = (b ∷ text) ++ 44 ∷ name

-- the text with one more name, where it is wanted
abbrev pub listed : Bytes → Bool → Bytes → Bytes
listed text true name = behind text name
listed text false name = text

-- the lists of DETECT and COMMANDS
abbrev pub detect_list : Wanted → Bytes
detect_list w = listed (listed (listed (listed (listed [] w.inside (codes "inside")) w.outside (codes "outside")) w.enter (codes "enter")) w.exit
    (codes "exit")) w.cross (codes "cross")

abbrev pub commands_list : Wanted → Bytes
commands_list w = listed (listed (listed [] w.set (codes "set")) w.del (codes "del")) w.drop (codes "drop")
