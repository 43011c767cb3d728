-- A node that follows a leader over a link: what it shows, and what one step of it does.
use Rattle.std.specs.Prelude.{◌≡◌, ◌⊎◌, ◌<◌, [], ◌++◌, length, take, drop, false, Some, None, Result, Ok, Err}
use Rattle.byte_text.specs.Names.{Bytes}
use Rattle.byte_text.specs.Streams.{begun, request}
use Rattle.outside.specs.Links.{LinkState}
use Rattle.outside.specs.declared.links.Got.{Got}
use Rattle.outside.specs.declared.links.Got.TheVariants as got
use Rattle.outside.specs.declared.links.Sent.{Sent}
use Rattle.outside.specs.declared.links.Sent.TheVariants as sent
use Rattle.repl_stream.specs.Texts.{IsPart, ask_text, part_text}
use Rattle.resp_frames.specs.RequestReader.{Held}
use Rattle.repl_node.specs.Deliveries.{Delivery}
use Rattle.repl_node.specs.Following.{Followed, GoesOn, IsRefused, Publishes, is_next, next_ask}
use Rattle.repl_node.specs.declared.phases.FollowEnd.TheVariants.{Over, BadPart, ReadFault, WriteFault, Memory}
use Rattle.repl_node.specs.declared.phases.Phase.{Phase}
use Rattle.repl_node.specs.declared.phases.Phase.TheVariants.{Asking, Published, Ended}

-- Its link and its node, the bytes that it has of an answer that is not whole, those of an ask that are still to be written, and how far it is.
pub record FollowerState : Type 0 where
  pub line : LinkState
  pub node : Followed
  pub held : Bytes
  pub out : Bytes
  pub phase : Phase

-- the bytes that a reader of requests holds
abbrev pub bytes_held : Held → Bytes
bytes_held None = []
bytes_held (Some bytes) = bytes

-- it has met no fault
abbrev pub IsReading : Held → Type 0
IsReading None = ⊥
IsReading (Some bytes) = Unit {0}

-- its reader reads while it asks; behind a published world nothing is held, and nothing is to be written
abbrev pub IsFit : Held → Bytes → Phase → Type 0
IsFit reader out Asking = IsReading reader
IsFit reader out Published = (reader ≡ Some []) × (out ≡ [])
IsFit reader out (Ended end) = Unit {0}

-- it is read only where its ask is written
abbrev pub WantsToRead : FollowerState → Type 0
WantsToRead f = (f.phase ≡ Asking) × (f.out ≡ [])

abbrev pub WantsToWrite : FollowerState → Type 0
WantsToWrite f = (f.phase ≡ Asking) × (0 < length f.out)

-- ---- answers

-- a text is this part with its bytes
pub record IsAnswer (text : Bytes) (d : Delivery) : Type 0 where
  pub part : IsPart d.part d.bytes
  pub text_is : text ≡ part_text d.part d.bytes

-- a node does not take this part: it does not go on with what the node has, or no log of whole records has its bytes there
abbrev pub IsNotTaken : Followed → Delivery → Type 0
IsNotTaken node d = (is_next node d.part ≡ false) ⊎ IsRefused node d.part d.bytes

-- a text begins no request and is no part that a node takes
pub record IsBad (node : Followed) (text : Bytes) : Type 0 where
  pub no_begin : request text ≡ begun → ⊥
  pub not_taken : (d : Delivery) → IsAnswer text d → IsNotTaken node d

-- a text is a part that a node took, behind which the log goes on
pub record TakesMore (old : Followed) (text : Bytes) (new : Followed) : Type 0 where
  pub answer : Delivery
  pub is_answer : IsAnswer text answer
  pub goes_on : GoesOn old answer.part answer.bytes new

-- a text is a part that a node took, up to the end of the log
pub record TakesLast (old : Followed) (text : Bytes) (new : Followed) : Type 0 where
  pub answer : Delivery
  pub is_answer : IsAnswer text answer
  pub publishes : Publishes old answer.part answer.bytes new

-- What came of the text of an answer so far. It begins one, and is held; or it is a part that the node took, and the next ask is to be written
-- or the world of the log is published; or it is none. Where memory ran out the node is as before, or took a part and did not ask.
abbrev pub Comes : Bytes → Followed → Followed → Bytes → Bytes → Phase → Type 0
Comes text old new held out Asking = ((request text ≡ begun) × (new ≡ old) × (held ≡ text) × (out ≡ []))
    ⊎ (TakesMore old text new × (held ≡ []) × (out ≡ ask_text (next_ask new)))
Comes text old new held out Published = TakesLast old text new × (held ≡ []) × (out ≡ [])
Comes text old new held out (Ended BadPart) = IsBad old text × (new ≡ old)
Comes text old new held out (Ended Memory) = (new ≡ old) ⊎ TakesMore old text new
Comes text old new held out (Ended end) = ⊥

-- ---- steps

-- the ask is to be written, but where memory ran out
abbrev pub Asks : Followed → Bytes → Phase → Type 0
Asks node out phase = ((out ≡ ask_text (next_ask node)) × (phase ≡ Asking)) ⊎ ((out ≡ []) × (phase ≡ Ended Memory))

-- before the first byte
abbrev pub Opens : LinkState → Followed → FollowerState → Type 0
Opens line node new = (new ≡ record { line = line; node = node; held = []; out = new.out; phase = new.phase }) × Asks node new.out new.phase

-- behind a published world
abbrev pub AsksAgain : FollowerState → FollowerState → Type 0
AsksAgain old new = (new ≡ record old { out = new.out; phase = new.phase }) × Asks old.node new.out new.phase

-- what a read brought goes on with the answer; the end of the link and its failure are ends
abbrev pub Receives : {E : Type 0} → FollowerState → FollowerState → Result Got E → Bytes → Type 0
Receives old new (Ok (got.Bytes n)) into = Comes (old.held ++ take n into) old.node new.node new.held new.out new.phase
Receives old new (Ok got.End) into = new ≡ record old { phase = Ended Over }
Receives old new (Ok got.Later) into = new ≡ old
Receives old new (Err e) into = new ≡ record old { line = new.line; phase = Ended ReadFault }

-- what was written is to be written no more
abbrev pub WritesOut : {E : Type 0} → FollowerState → FollowerState → Result Sent E → Type 0
WritesOut old new (Ok (sent.Bytes n)) = new ≡ record old { line = new.line; out = drop n old.out }
WritesOut old new (Ok sent.Later) = new ≡ old
WritesOut old new (Err e) = new ≡ record old { line = new.line; phase = Ended WriteFault }
