-- What `follow` promises of the door, the links, the lines and the status.
use Rattle.std.specs.Prelude.{◌≡◌, ◌≢◌, ◌⊎◌, ◌≤◌, ◌==◌, ◌&&◌, ℕ, Bool, true, false, List, [], ◌∷◌, ◌++◌, Option, Some, None, codes, option_map}
use Rattle.std.specs.Prelude.{if◌then◌else◌}
use Rattle.std.specs.Io.KnownBytes.{Appends}
use Rattle.byte_text.specs.Names.{Bytes}
use Rattle.outside.specs.Causes.{Rose, next_count}
use Rattle.outside.specs.Doors.{DoorFails, DoorState, OpenedAt}
use Rattle.outside.specs.Links.{IsNew, LinkState}
use Rattle.outside.specs.Waits.{WaitState}
use Rattle.outside.specs.Writing.{AppendsPart}
use Rattle.outside.specs.declared.doors.Kinds.TheVariants.{Dialed}
use Rattle.repl_node.specs.FollowedSoFar.{FollowedSoFar, all_shown}
use Rattle.repl_node.specs.Followers.{FollowerState}
use Rattle.repl_node.specs.Following.{Followed, first_node}
use Rattle.repl_node.specs.declared.nodes.LogPlace.{LogPlace}
use Rattle.repl_node.specs.declared.phases.FollowEnd.{FollowEnd}
use Rattle.repl_node.specs.declared.phases.FollowEnd.TheVariants as link
use Rattle.repl_node.specs.declared.phases.Phase.{Phase}
use Rattle.repl_node.specs.declared.phases.Phase.TheVariants.{Published, Ended}
use Rattle.serve_run.specs.Ends.{IsEnd, door_line, memory_line}
use Rattle.tile_top.specs.FollowWords.{Follow}
use Rattle.tile_top.specs.declared.follow_words.FollowTerms.{FollowTerms}
use Rattle.tile_top.specs.Tops.{check_line, read_line}
use Rattle.tile_top.specs.declared.stops.Stop.{Stop}
use Rattle.tile_top.specs.declared.stops.Stop.TheVariants.{Lost, Done, BadPart, ReadFault, WriteFault, OutputFault, DoorFault, OutOfMemory}

-- ---- lines

-- a world up to this place was told last
abbrev pub is_told : Option LogPlace → LogPlace → Bool
is_told None place = false
is_told (Some told) place = (told.generation == place.generation) && (told.place == place.place)

-- the line of a node's published world, where the one that was told last, if any was, goes up to another place
abbrev pub news : Option LogPlace → Followed → Bytes
news told node = if is_told told node.published then [] else check_line node.world node.published.generation

-- the lines of nodes, in order
abbrev pub lines_of : Option LogPlace → List Followed → Bytes
lines_of told [] = []
lines_of told (node ∷ nodes) = news told node ++ lines_of (Some node.published) nodes

-- up to where the world goes that was told last, behind these nodes
abbrev pub told_behind : Option LogPlace → List Followed → Option LogPlace
told_behind told [] = told
told_behind told (node ∷ nodes) = told_behind (Some node.published) nodes

-- ---- a link

-- a link that was followed: as it came, the nodes behind whose worlds more was asked on it, and the follower's last state
pub record Visit : Type 0 where
  pub came : LinkState
  pub before : List Followed
  pub left : FollowerState

-- the nodes whose worlds were published on it
abbrev pub shown_on : Visit → List Followed
shown_on v = all_shown v.before v.left

-- what is between two links: the node, up to where the world goes that was told last, the door, the one that waits, what was written, and how
-- often writing failed
pub record Around : Type 0 where
  pub node : Followed
  pub told : Option LogPlace
  pub door : DoorState
  pub wait : WaitState
  pub held : Option Bytes
  pub failed : ℕ

abbrev pub around : Followed → Option LogPlace → DoorState → WaitState → Option Bytes → ℕ → Around
around node told door wait held failed =
    record { node = node; told = told; door = door; wait = wait; held = held; failed = failed }

-- the end of a link stops who follows once; who follows on and on calls again
abbrev pub stop_of : Bool → FollowEnd → Stop
stop_of watch link.Over = if watch then Lost else BadPart
stop_of watch link.BadPart = BadPart
stop_of watch link.ReadFault = if watch then Lost else ReadFault
stop_of watch link.WriteFault = if watch then Lost else WriteFault
stop_of watch link.Memory = OutOfMemory

-- Why it stopped: the link's end was such a one; or the first world was published, or an end was asked for; or writing or waiting failed; or
-- memory wanted.
abbrev pub StopsBy : FollowTerms → Stop → Phase → Bool → ℕ → ℕ → ℕ → ℕ → Type 0
StopsBy terms Done phase over waits waits' failed failed' = ((terms.watch ≡ false) × (phase ≡ Published)) ⊎ ((terms.until_end ≡ true) × (over ≡ true))
StopsBy terms OutputFault phase over waits waits' failed failed' = Rose failed failed'
StopsBy terms DoorFault phase over waits waits' failed failed' = Rose waits waits'
StopsBy terms OutOfMemory phase over waits waits' failed failed' = Unit {0}
StopsBy terms stop phase over waits waits' failed failed' = (end : FollowEnd) × (phase ≡ Ended end) × (stop ≡ stop_of terms.watch end)

-- all lines were written, or a beginning of them where writing failed or memory wanted
abbrev pub WritesLines : Stop → Option Bytes → Option Bytes → Bytes → Type 0
WritesLines OutputFault held held' lines = AppendsPart held held' lines
WritesLines OutOfMemory held held' lines = AppendsPart held held' lines
WritesLines stop held held' lines = Appends held held' lines

-- the link was shut, or there was no memory to tell it
abbrev pub IsShutAt : Stop → Option (List LinkState) → Option (List LinkState) → LinkState → Type 0
IsShutAt stop shut shut' link = (shut' ≡ option_map (λ links. links ++ link ∷ []) shut) ⊎ ((stop ≡ OutOfMemory) × (shut' ≡ shut))

-- The next link came; it was followed from the node on, up to such a stop, and shut. Who follows once asks no more behind the first world.
pub record Visits (terms : FollowTerms) (stop : Stop) (v : Visit) (old new : Around) : Type 0 where
  pub is_new : IsNew old.door.links v.came
  pub followed : FollowedSoFar old.node v.came v.before v.left
  pub once : terms.watch ≡ false → v.before ≡ []
  pub node : new.node ≡ v.left.node
  pub told : stop ≡ Lost → new.told ≡ told_behind old.told (shown_on v)
  pub written : WritesLines stop old.held new.held (lines_of old.told (shown_on v))
  pub door : new.door ≡ record old.door { links = next_count old.door.links; faults = new.door.faults }
  pub door_later : old.door.faults ≤ new.door.faults
  pub shut : IsShutAt stop old.wait.shut new.wait.shut v.left.line
  pub wait_later : old.wait.faults ≤ new.wait.faults
  pub sink_later : old.failed ≤ new.failed
  pub why : StopsBy terms stop v.left.phase new.wait.over old.wait.faults new.wait.faults old.failed new.failed

-- why no further link came: an end was asked for; or the door told that none will come; or it failed, or waiting did
abbrev pub NobodyBy : FollowTerms → Stop → Bool → DoorState → DoorState → ℕ → ℕ → Type 0
NobodyBy terms Done over old new waits waits' = (terms.until_end ≡ true) × (over ≡ true)
NobodyBy terms BadPart over old new waits waits' = Rose old.ends new.ends
NobodyBy terms DoorFault over old new waits waits' = ((terms.watch ≡ false) × Rose old.faults new.faults) ⊎ Rose waits waits'
NobodyBy terms stop over old new waits waits' = ⊥

-- no further link came, and nothing was done
pub record FindsNobody (terms : FollowTerms) (stop : Stop) (old new : Around) : Type 0 where
  pub node : new.node ≡ old.node
  pub held : new.held ≡ old.held
  pub failed : new.failed ≡ old.failed
  pub door : new.door ≡ record old.door { ends = new.door.ends; faults = new.door.faults }
  pub door_later : old.door.faults ≤ new.door.faults
  pub shut : new.wait.shut ≡ old.wait.shut
  pub wait_later : old.wait.faults ≤ new.wait.faults
  pub why : NobodyBy terms stop new.wait.over old.door new.door old.wait.faults new.wait.faults

-- a link was followed up to a stop, or none came
abbrev pub FollowsNext : FollowTerms → Stop → Around → Around → Type 0
FollowsNext terms stop old new = ((v : Visit) × Visits terms stop v old new) ⊎ FindsNobody terms stop old new

-- links were followed one after another by one node, and each was lost
abbrev pub LosesAll : FollowTerms → List Visit → Around → Around → Type 0
LosesAll terms [] old new = new ≡ old
LosesAll terms (v ∷ visits) old new = (next : Around) × Visits terms Lost v old next × LosesAll terms visits next new

-- links were followed one after another by one node, up to a stop
pub record FollowsUpTo (terms : FollowTerms) (stop : Stop) (old new : Around) : Type 0 where
  pub goes : stop ≢ Lost
  pub lost : List Visit
  pub last : Around
  pub loses : LosesAll terms lost old last
  pub stops : FollowsNext terms stop last new

-- ---- the command

abbrev pub bad_line : Bytes
bad_line = codes "bad part\n"

-- the last line of a stop, and its status
abbrev pub EndsAt : Stop → Option Bytes → Option Bytes → ℕ → Type 0
EndsAt Done held held' status = (status ≡ 0) × (held' ≡ held)
EndsAt BadPart held held' status = IsEnd held held' 10 bad_line status
EndsAt ReadFault held held' status = IsEnd held held' 3 read_line status
EndsAt WriteFault held held' status = (status ≡ 4) × (held' ≡ held)
EndsAt OutputFault held held' status = (status ≡ 4) × (held' ≡ held)
EndsAt DoorFault held held' status = IsEnd held held' 8 door_line status
EndsAt OutOfMemory held held' status = IsEnd held held' 7 memory_line status
EndsAt Lost held held' status = ⊥

-- for links that the door opens itself, by calling there
abbrev pub called_at : Follow → OpenedAt
called_at asked = record { addr = asked.addr; kinds = Dialed; origins = [] }

abbrev pub opened_for : Follow → DoorState → DoorState
opened_for asked door = record door { opened = Some (called_at asked) }

-- nothing was followed: the door was not opened, or it can't be learned when an end is asked for
pub record IsUnbegun (asked : Follow) (door door' : DoorState) (wait wait' : WaitState) (held held' : Option Bytes)
    (failed failed' status : ℕ) : Type 0 where
  pub why : (DoorFails door door' × (wait' ≡ wait)) ⊎ ((door' ≡ opened_for asked door) × (asked.terms.until_end ≡ true)
      × Rose wait.faults wait'.faults × (wait' ≡ record wait { faults = wait'.faults }))
  pub ended : IsEnd held held' 8 door_line status
  pub unwritten : status ≡ 4 → Rose failed failed'

-- The door was opened there, and links were followed by a node that had heard nothing, up to a stop, of which the last line tells.
pub record HasFollowed (asked : Follow) (door door' : DoorState) (wait wait' : WaitState) (held held' : Option Bytes)
    (failed failed' status : ℕ) : Type 0 where
  pub stop : Stop
  pub node : Followed
  pub told : Option LogPlace
  pub between : Option Bytes
  pub failures : ℕ
  pub follows : FollowsUpTo asked.terms stop (around first_node None (opened_for asked door) wait held failed)
      (around node told door' wait' between failures)
  pub ended : EndsAt stop between held' status
  pub unwritten : status ≡ 4 → (stop ≡ WriteFault) ⊎ Rose failed failed'

-- memory wanted for reading the words, and nothing was done
pub record IsUnread (door door' : DoorState) (wait wait' : WaitState) (held held' : Option Bytes) (failed failed' status : ℕ) : Type 0 where
  pub same_door : door' ≡ door
  pub same_wait : wait' ≡ wait
  pub ended : IsEnd held held' 7 memory_line status
  pub unwritten : status ≡ 4 → Rose failed failed'

abbrev pub Follows : Follow → DoorState → DoorState → WaitState → WaitState → Option Bytes → Option Bytes → ℕ → ℕ → ℕ → Type 0
Follows asked door door' wait wait' held held' failed failed' status = IsUnread door door' wait wait' held held' failed failed' status
    ⊎ (IsUnbegun asked door door' wait wait' held held' failed failed' status
    ⊎ HasFollowed asked door door' wait wait' held held' failed failed' status)
