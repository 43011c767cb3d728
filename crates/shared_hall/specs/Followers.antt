-- What followers of a hall show: the world of a beginning of its history, that ends where a part was given.
use Rattle.std.specs.Prelude.{◌≡◌, ◌⊎◌, ℕ, List, [], ◌∷◌, ◌++◌, map}
use Rattle.std.specs.List.{AllByRecursion, Contains}
use Rattle.byte_text.specs.Names.{Bytes}
use Rattle.world_model.specs.Halls.{Hall}
use Rattle.world_model.specs.Histories.{opening_hall}
use Rattle.world_model.specs.Seats.{Knows, act_of}
use Rattle.world_model.specs.declared.events.Entry.{Entry}
use Rattle.repl_stream.specs.Texts.{IsAsk, IsPart}
use Rattle.repl_stream.specs.declared.asks.Ask.{Ask}
use Rattle.repl_node.specs.Deliveries.{AreAnswered, Delivery, HearsAll, ShowsNothing}
use Rattle.repl_node.specs.Following.{Followed, IsRefused, first_node}
use Rattle.durable_core.specs.Histories.{Writing, Writes}
use Rattle.shared_hall.specs.Fed.{FeedsLogs, any_grown, any_lasting, part_note}

-- one of these entries tells this part with its bytes by its note, and these stand in front of it and behind
pub record IsTold (entries : List Entry) (d : Delivery) : Type 0 where
  pub front : List Entry
  pub last : Entry
  pub back : List Entry
  pub there : entries ≡ front ++ last ∷ back
  pub ask : Ask
  pub asked : IsAsk ask
  pub given : IsPart d.part d.bytes
  pub note_is : last.note ≡ part_note ask d.part d.bytes

abbrev pub AreTold : List Entry → List Delivery → Type 0
AreTold entries parts = AllByRecursion (IsTold entries) parts

-- the world that a node shows is that of the history up to the entry of one of these parts, and it was published with the generation and the
-- end of that part
pub record ShowsHistory (first : Writing) (k : Knows) (parts : List Delivery) (node : Followed) : Type 0 where
  pub delivery : Delivery
  pub heard : Contains parts delivery
  pub told : IsTold k.seen delivery
  pub hall : Hall
  pub end : Writing
  pub writes : Writes (opening_hall k.opening.world k.opening.logged) first (map act_of (told.front ++ told.last ∷ [])) hall end
  pub world : node.world ≡ hall.world
  pub published : node.published ≡ record { generation = delivery.part.generation; place = delivery.part.end }
  pub generation : delivery.part.generation ≡ end.generation

-- the parts that a history tells are answers of a leader with its logs, in the sense of the law of followers
abbrev pub PartsAreAnswered : Type 0
PartsAreAnswered = (first : Writing) (k : Knows) (f : FeedsLogs any_lasting any_grown first k) (parts : List Delivery)
    → AreTold k.seen parts → AreAnswered f.logs parts

-- a node that has heard such parts refuses no other one for what it says
abbrev pub FollowersTakeParts : Type 0
FollowersTakeParts = (first : Writing) (k : Knows) (parts : List Delivery) (node : Followed)
    (next : Delivery) → FeedsLogs any_lasting any_grown first k
    → AreTold k.seen parts → HearsAll first_node parts node → IsTold k.seen next → IsRefused node next.part next.bytes → ⊥

-- So a node that has heard any of them, in whatever order and how often, shows nothing, or the world of a beginning of the history.
abbrev pub FollowersShowHistories : Type 0
FollowersShowHistories = (first : Writing) (k : Knows) (parts : List Delivery) (node : Followed)
    → FeedsLogs any_lasting any_grown first k → AreTold k.seen parts
    → HearsAll first_node parts node → ShowsNothing node ⊎ ShowsHistory first k parts node
