-- What contracts see of a node, and what becomes of it when it hears a part.
use Rattle.std.specs.Prelude.{◌≡◌, ◌⊎◌, ◌+◌, ◌≤◌, ◌<◌, ◌==◌, ◌&&◌, nat_lt, if◌then◌else◌, ℕ, Bool, true, false, [], ◌++◌, length}
use Rattle.byte_text.specs.Names.{Bytes}
use Rattle.world_data.specs.Worlds.{empty_world}
use Rattle.world_data.specs.declared.worlds.World.{World}
use Rattle.repl_stream.specs.declared.asks.Ask.{Ask}
use Rattle.repl_stream.specs.declared.parts.Part.{Part}
use Rattle.repl_node.specs.LogTexts.{IsNoLog, IsWorldOf}
use Rattle.repl_node.specs.declared.nodes.Heard.{Heard}
use Rattle.repl_node.specs.declared.nodes.Heard.TheVariants.{Old, More, Published}
use Rattle.repl_node.specs.declared.nodes.LogPlace.{LogPlace}

-- The generation of the log that a node reads, the bytes that it has of it from behind the header on, up to where the published world
-- goes, and that world.
pub record Followed : Type 0 where
  pub generation : ℕ
  pub taken : Bytes
  pub published : LogPlace
  pub world : World

-- a node that has heard nothing
abbrev pub first_node : Followed
first_node = record { generation = 0; taken = []; published = record { generation = 0; place = 0 }; world = empty_world }

-- the place behind the header of a log; there is no log of generation 0
abbrev pub first_place : ℕ → ℕ
first_place generation = if generation == 0 then 0 else 16

-- the place behind what a node has
abbrev pub place : Followed → ℕ
place node = first_place node.generation + length node.taken

abbrev pub next_ask : Followed → Ask
next_ask node = record { generation = node.generation; from = place node }

-- a part goes on with the bytes that a node has, or is the first one of a later log
abbrev pub is_next : Followed → Part → Bool
is_next node part =
    if part.generation == node.generation then part.from == place node else nat_lt node.generation part.generation && part.from == 16

-- the bytes in front of such a part
abbrev pub had : Followed → Part → Bytes
had node part = if part.generation == node.generation then node.taken else []

-- the place behind the bytes of a part
abbrev pub reach : Part → Bytes → ℕ
reach part bytes = part.from + length bytes

-- this is that place, it is not past the part's end, and there are bytes where it is in front of that
pub record IsPiece (part : Part) (bytes : Bytes) (reached : ℕ) : Type 0 where
  pub place_is : reached ≡ reach part bytes
  pub within : reached ≤ part.end
  pub some : reached < part.end → 0 < length bytes

-- it is past the part's end, or there are no bytes although it is in front of that
abbrev pub IsNoPiece : Part → Bytes → Type 0
IsNoPiece part bytes = (part.end < reach part bytes) ⊎ ((length bytes ≡ 0) × (part.from < part.end))

-- the node with these bytes more
abbrev pub with_part : Followed → Part → Bytes → Followed
with_part node part bytes = record node { generation = part.generation; taken = had node part ++ bytes }

-- and with this world published
abbrev pub with_world : Followed → Part → Bytes → World → Followed
with_world node part bytes world =
    record (with_part node part bytes) { published = record { generation = part.generation; place = part.end }; world = world }

-- the part was taken, and the log goes on behind it
pub record GoesOn (old : Followed) (part : Part) (bytes : Bytes) (new : Followed) : Type 0 where
  pub next : is_next old part ≡ true
  pub some : 0 < length bytes
  pub short : reach part bytes < part.end
  pub new_is : new ≡ with_part old part bytes

-- it was taken up to the end of the log, whose world is published
pub record Publishes (old : Followed) (part : Part) (bytes : Bytes) (new : Followed) : Type 0 where
  pub next : is_next old part ≡ true
  pub whole : reach part bytes ≡ part.end
  pub world : World
  pub world_is : IsWorldOf (had old part ++ bytes) world
  pub new_is : new ≡ with_world old part bytes world

-- what came of a part
abbrev pub IsHeard : Followed → Part → Bytes → Followed → Heard → Type 0
IsHeard old part bytes new Old = (is_next old part ≡ false) × (new ≡ old)
IsHeard old part bytes new More = GoesOn old part bytes new
IsHeard old part bytes new Published = Publishes old part bytes new

-- a part that is next, and whose bytes no log of whole records has there: they are no piece that ends where the part says, or reach the
-- end of the log within a batch or behind one that is not of whole records
pub record IsRefused (old : Followed) (part : Part) (bytes : Bytes) : Type 0 where
  pub next : is_next old part ≡ true
  pub why : IsNoPiece part bytes ⊎ ((reach part bytes ≡ part.end) × IsNoLog (had old part ++ bytes))

-- The published world does not go past these bytes of this log; where it goes up to their end, it is theirs.
pub record IsShown (generation : ℕ) (taken : Bytes) (published : LogPlace) (world : World) : Type 0 where
  pub no_later : published.generation ≤ generation
  pub no_further : published.generation ≡ generation → published.place ≤ first_place generation + length taken
  pub world_is : published.generation ≡ generation → published.place ≡ first_place generation + length taken → IsWorldOf taken world
