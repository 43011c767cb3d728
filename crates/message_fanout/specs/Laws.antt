-- Where nothing is to be staged.
use Rattle.std.specs.Prelude.{◌≡◌, List, [], ◌∷◌, ◌++◌}
use Rattle.world_data.specs.declared.worlds.World.{World}
use Rattle.world_data.specs.declared.worlds.Change.{Change}
use Rattle.fence_model.specs.Writes.{Write, silent}
use Rattle.delivery_model.specs.Staging.{after_all}
use Rattle.session_table.specs.Sessions.{State}
use Rattle.session_table.specs.Fans.{AreBare, HaveStaged}

-- before the first write
abbrev pub NothingAtFirst : Type 0
NothingAtFirst = (w : World) (sessions : List State) → AreBare sessions → HaveStaged w [] sessions

-- at a silent write
abbrev pub QuietBringsNothing : Type 0
QuietBringsNothing = (w : World) (writes : List Write) (change : Change) (sessions : List State) → HaveStaged w writes sessions
    → HaveStaged w (writes ++ silent change ∷ []) sessions

-- without channels
abbrev pub NothingWithoutChannels : Type 0
NothingWithoutChannels = (w : World) (writes : List Write) (d : Write) (sessions : List State) → (after_all w writes).channels ≡ []
    → HaveStaged w writes sessions → HaveStaged w (writes ++ d ∷ []) sessions
