-- What the following of a link keeps from step to step.
use Rattle.std.specs.Prelude.{◌≡◌, ℕ, false, List, [], Option, Some, None, Result, Ok, Err}
use Rattle.std.specs.Io.KnownBytes.{Appends}
use Rattle.byte_text.specs.Names.{Bytes}
use Rattle.outside.specs.Causes.{next_count}
use Rattle.outside.specs.Doors.{DoorState}
use Rattle.outside.specs.Links.{IsNew, LinkState}
use Rattle.outside.specs.Waits.{WaitState}
use Rattle.repl_node.specs.FollowedSoFar.{FollowedSoFar, all_shown}
use Rattle.repl_node.specs.Followers.{FollowerState}
use Rattle.repl_node.specs.Following.{Followed}
use Rattle.repl_node.specs.declared.nodes.LogPlace.{LogPlace}
use Rattle.tile_top.specs.Follows.{IsShutAt, StopsBy, WritesLines, lines_of, told_behind}
use Rattle.tile_top.specs.declared.follow_words.FollowTerms.{FollowTerms}
use Rattle.tile_top.specs.declared.stops.Stop.{Stop}
use Rattle.tile_top.specs.declared.stops.Stop.TheVariants.{Lost}

-- from a node and a link on, with this told and so much written before, a follower came to its state, and the lines of the nodes behind whose
-- worlds it asked again were written
pub record IsTelling (terms : FollowTerms) (first : Followed) (came : LinkState) (told0 : Option LogPlace) (held0 : Option Bytes) (f : FollowerState)
    (told : Option LogPlace) (held : Option Bytes) : Type 0 where
  pub before : List Followed
  pub followed : FollowedSoFar first came before f
  pub once : terms.watch ≡ false → before ≡ []
  pub told_is : told ≡ told_behind told0 before
  pub written : Appends held0 held (lines_of told0 before)

-- the same up to a stop: the line of the last world too
pub record HasTold (stop : Stop) (terms : FollowTerms) (first : Followed) (came : LinkState) (told0 : Option LogPlace) (held0 : Option Bytes)
    (f : FollowerState) (told : Option LogPlace) (held : Option Bytes) : Type 0 where
  pub before : List Followed
  pub followed : FollowedSoFar first came before f
  pub once : terms.watch ≡ false → before ≡ []
  pub told_is : stop ≡ Lost → told ≡ told_behind told0 (all_shown before f)
  pub written : WritesLines stop held0 held (lines_of told0 (all_shown before f))

abbrev pub TellsOn : Option Stop → FollowTerms → Followed → LinkState → Option LogPlace → Option Bytes → FollowerState → Option LogPlace → Option Bytes
    → Type 0
TellsOn None terms first came told0 held0 f told held = IsTelling terms first came told0 held0 f told held
TellsOn (Some stop) terms first came told0 held0 f told held = HasTold stop terms first came told0 held0 f told held

-- whatever it began with
abbrev pub KeepsTelling : Option Stop → FollowTerms → FollowerState → FollowerState → Option LogPlace → Option LogPlace → Option Bytes → Option Bytes
    → Type 0
KeepsTelling r terms f f' told told' held held' = (first : Followed) (came : LinkState) (told0 : Option LogPlace) (held0 : Option Bytes)
    → IsTelling terms first came told0 held0 f told held → TellsOn r terms first came told0 held0 f' told' held'

-- a link that came was followed up to a stop, and shut
pub record IsVisited (terms : FollowTerms) (stop : Stop) (came : LinkState) (node node' : Followed) (told told' : Option LogPlace)
    (wait wait' : WaitState) (held held' : Option Bytes) (failed failed' : ℕ) : Type 0 where
  pub before : List Followed
  pub left : FollowerState
  pub followed : FollowedSoFar node came before left
  pub once : terms.watch ≡ false → before ≡ []
  pub node_is : node' ≡ left.node
  pub told_is : stop ≡ Lost → told' ≡ told_behind told (all_shown before left)
  pub written : WritesLines stop held held' (lines_of told (all_shown before left))
  pub shut : IsShutAt stop wait.shut wait'.shut left.line
  pub why : StopsBy terms stop left.phase wait'.over wait.faults wait'.faults failed failed'

-- one look for a link: the next one came, or nobody yet, or nobody any more
abbrev pub LooksOnce : {K : Type 0} → (K → LinkState) → DoorState → DoorState → Result (Option K) Stop → Type 0
LooksOnce shows old new (Ok (Some link)) = IsNew old.links (shows link) × (new ≡ record old { links = next_count old.links; faults = new.faults })
LooksOnce shows old new (Ok None) = new ≡ record old { faults = new.faults }
LooksOnce shows old new (Err stop) = new ≡ record old { ends = new.ends; faults = new.faults }

-- looks for a link: the next one came, or none did
abbrev pub LooksFor : {K : Type 0} → (K → LinkState) → DoorState → DoorState → Result K Stop → Type 0
LooksFor shows old new (Ok link) = IsNew old.links (shows link) × (new ≡ record old { links = next_count old.links; faults = new.faults })
LooksFor shows old new (Err stop) = new ≡ record old { ends = new.ends; faults = new.faults }
