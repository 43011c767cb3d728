-- What was read and written on the link of a follower so far: what whoever steps it keeps from step to step.
use Rattle.std.specs.Prelude.{◌≡◌, ◌⊎◌, ◌≤◌, List, [], ◌∷◌, ◌++◌, flat_map, map}
use Rattle.std.specs.Io.KnownBytes.{Appends, Consumes, IsAtEnd}
use mathlib.Core.List.{IsPrefix}
use Rattle.byte_text.specs.Names.{Bytes}
use Rattle.byte_text.specs.Streams.{begun, request}
use Rattle.outside.specs.Causes.{Rose}
use Rattle.outside.specs.Links.{LinkState}
use Rattle.repl_stream.specs.Texts.{IsPart, ask_text, part_text}
use Rattle.repl_stream.specs.declared.asks.Ask.{Ask}
use Rattle.repl_node.specs.Deliveries.{Delivery, HearsAll}
use Rattle.repl_node.specs.Followers.{FollowerState, IsBad}
use Rattle.repl_node.specs.Following.{Followed, GoesOn, Publishes, next_ask}
use Rattle.repl_node.specs.declared.phases.FollowEnd.{FollowEnd}
use Rattle.repl_node.specs.declared.phases.FollowEnd.TheVariants.{Over, BadPart, ReadFault, WriteFault, Memory}
use Rattle.repl_node.specs.declared.phases.Phase.{Phase}
use Rattle.repl_node.specs.declared.phases.Phase.TheVariants.{Asking, Published, Ended}

-- an ask, and the part that answered it
pub record Turn : Type 0 where
  pub ask : Ask
  pub answer : Delivery

-- a node takes a part of the right numbers; where that publishes a world, it is the first of these nodes, in front of the others
abbrev pub Adopts : Followed → Delivery → Followed → List Followed → List Followed → Type 0
Adopts old d new others shown = IsPart d.part d.bytes
    × ((GoesOn old d.part d.bytes new × (shown ≡ others)) ⊎ (Publishes old d.part d.bytes new × (shown ≡ new ∷ others)))

-- A node asks, takes the part that answers, asks for what it wants behind that, and so on. It was these nodes, in order, as worlds were
-- published, one for each part that reached the end of the log.
abbrev pub TakesTurns : Followed → List Turn → List Followed → Followed → Type 0
TakesTurns old [] shown new = (new ≡ old) × (shown ≡ [])
TakesTurns old (t ∷ later) shown new = (t.ask ≡ next_ask old) × (next : Followed) × (others : List Followed) × Adopts old t.answer next others shown
    × TakesTurns next later others new

-- the texts of the parts, one behind another
abbrev pub parts_text : List Turn → Bytes
parts_text turns = flat_map (λ t. part_text t.answer.part t.answer.bytes) turns

-- those of their asks
abbrev pub asks_text : List Turn → Bytes
asks_text turns = flat_map (λ t. ask_text t.ask) turns

-- and of the one that the node makes behind them
abbrev pub all_asks_text : List Turn → Followed → Bytes
all_asks_text turns node = asks_text turns ++ ask_text (next_ask node)

-- the last part reached the end of the log, whose world was published
pub record EndsPublished (turns : List Turn) (node : Followed) : Type 0 where
  pub before : List Turn
  pub last : Turn
  pub turns_are : turns ≡ before ++ last ∷ []
  pub old : Followed
  pub publishes : Publishes old last.answer.part last.answer.bytes node

-- why it ended, and what stands behind the parts that were taken: all but one that the node does not take begins a part
abbrev pub EndsAt : FollowEnd → LinkState → FollowerState → Bytes → Type 0
EndsAt Over came f rest = IsAtEnd f.line.left × (request rest ≡ begun)
EndsAt BadPart came f rest = IsBad f.node rest
EndsAt ReadFault came f rest = Rose came.faults f.line.faults × (request rest ≡ begun)
EndsAt WriteFault came f rest = Rose came.faults f.line.faults × (request rest ≡ begun)
EndsAt Memory came f rest = Unit {0}

-- what was written of all asks: a beginning, where the link took no more or memory ran out
abbrev pub Wrote : FollowEnd → Bytes → Bytes → Type 0
Wrote WriteFault sent asks = IsPrefix sent asks
Wrote Memory sent asks = IsPrefix sent asks
Wrote end sent asks = sent ≡ asks

-- how far it is behind these turns, where so much was written, and this was read behind the last part
abbrev pub Stands : List Turn → LinkState → FollowerState → Bytes → Bytes → Phase → Type 0
Stands turns came f sent rest Asking = (f.held ≡ rest) × (request rest ≡ begun) × (sent ++ f.out ≡ all_asks_text turns f.node)
Stands turns came f sent rest Published = (f.held ≡ []) × (rest ≡ []) × (sent ≡ asks_text turns) × EndsPublished turns f.node
Stands turns came f sent rest (Ended end) = EndsAt end came f rest × Wrote end sent (all_asks_text turns f.node)

-- the node whose world was published last, as long as nothing is asked behind that
abbrev pub shown_now : Phase → Followed → List Followed
shown_now Published node = node ∷ []
shown_now Asking node = []
shown_now (Ended end) node = []

-- and all those before it
abbrev pub all_shown : List Followed → FollowerState → List Followed
all_shown before f = before ++ shown_now f.phase f.node

-- A follower came to its state from this node and this link on: its node is the one that took these parts in order, of which each answered an
-- ask, and these are the nodes behind whose worlds it asked again; the parts' texts were read, and then no more than the beginning of the next
-- one; and the texts of the asks were written, as far as they could be.
pub record FollowedSoFar (first : Followed) (came : LinkState) (before : List Followed) (f : FollowerState) : Type 0 where
  pub turns : List Turn
  pub takes : TakesTurns first turns (all_shown before f) f.node
  pub hears : HearsAll first (map (λ t. t.answer) turns) f.node
  pub read : Bytes
  pub rest : Bytes
  pub consumed : Consumes came.left f.line.left read
  pub read_is : read ≡ parts_text turns ++ rest
  pub sent : Bytes
  pub appended : Appends came.held f.line.held sent
  pub stands : Stands turns came f sent rest f.phase
  pub later : came.faults ≤ f.line.faults
