-- A leader that starts anew over what a crash left of its disk, and what its followers show then.
use Rattle.std.specs.Prelude.{◌≡◌, ◌⊎◌, ℕ, List, [], ◌∷◌, Option, Some}
use Rattle.std.specs.List.{AllByRecursion, Contains}
use Rattle.byte_text.specs.Names.{Bytes}
use Rattle.outside.specs.Crashes.{EachImage}
use Rattle.outside.specs.Sides.{Sides}
use Rattle.world_model.specs.Seats.{Knows}
use Rattle.world_model.specs.declared.events.Entry.{Entry}
use Rattle.durable_core.specs.Histories.{Writing}
use Rattle.journal.specs.Logs.{HasGrown}
use Rattle.repl_node.specs.Deliveries.{Delivery, HearsAll, ShowsNothing}
use Rattle.repl_node.specs.Following.{Followed, IsRefused, first_node}
use Rattle.shared_hall.specs.Fed.{FeedsLogs, GrewFrom, IsFound, LastsOn}
use Rattle.shared_hall.specs.Followers.{IsTold, ShowsHistory}

-- the log of these sides grew from the batches
abbrev pub GrewOn : Sides → ℕ → List Bytes → Type 0
GrewOn sides before earlier = HasGrown before earlier sides

-- A life of a leader: it was opened on these sides, and a crash left those; in between it had this history, and gave parts of logs that only grew.
-- What it was opened on had grown from, they grew from, and what was left did; and what was left grew from each part's log.
pub record Life : Type 0 where
  pub opened : Sides
  pub left : Sides
  pub first : Writing
  pub knows : Knows
  pub feeds : FeedsLogs (LastsOn (λ since image. image ≡ left)) (GrewFrom (GrewOn opened)) first knows
  pub carries : (before : ℕ) (earlier : List Bytes) → GrewOn opened before earlier → GrewOn left before earlier

-- each life begins with what the one before it left
abbrev pub FollowOn : Life → List Life → Type 0
FollowOn l [] = Unit {0}
FollowOn l (m ∷ more) = (m.opened ≡ l.left) × FollowOn m more

abbrev pub AreLives : List Life → Type 0
AreLives [] = Unit {0}
AreLives (l ∷ more) = FollowOn l more

-- in one of these lives this part was given
pub record IsToldBy (lives : List Life) (d : Delivery) : Type 0 where
  pub life : Life
  pub lived : Contains lives life
  pub told : IsTold life.knows.seen d

-- the world that a node shows is that of a beginning of the history of one of these lives, which ends with the entry of one of these parts
pub record ShowsLife (lives : List Life) (parts : List Delivery) (node : Followed) : Type 0 where
  pub life : Life
  pub lived : Contains lives life
  pub shows : ShowsHistory life.first life.knows parts node

-- So a node that has heard any parts of any of these lives, in whatever order and how often, shows nothing, or the world of a beginning of the
-- history of one of them.
abbrev pub FollowersOutlive : Type 0
FollowersOutlive = (lives : List Life) (parts : List Delivery) (node : Followed) → AreLives lives → AllByRecursion (IsToldBy lives) parts
    → HearsAll first_node parts node → ShowsNothing node ⊎ ShowsLife lives parts node

-- and refuses none of them for what it says
abbrev pub FollowersTakeLives : Type 0
FollowersTakeLives = (lives : List Life) (parts : List Delivery) (node : Followed) (next : Delivery) → AreLives lives
    → AllByRecursion (IsToldBy lives) parts → HearsAll first_node parts node → IsToldBy lives next → IsRefused node next.part next.bytes → ⊥

-- what might have been left since a history began, and since the end of each of its entries
abbrev pub LeftSinceAll : (ℕ → Sides → Type 0) → ℕ → List Entry → Sides → Type 0
LeftSinceAll left_since begun entries left = left_since begun left × AllByRecursion (λ e. left_since e.moment left) entries

-- whatever might have been left since a history began grew from all from which what was found grew
abbrev pub Carries : (ℕ → List Bytes → Type 0) → (ℕ → Sides → Type 0) → ℕ → Type 0
Carries found left_since begun = (before : ℕ) (earlier : List Bytes) → found before earlier
    → (image : Sides) → left_since begun image → HasGrown before earlier image

-- The history of a hall is a life, from the sides on as which its disk read, where nothing else might have been left of it then, to whatever a crash
-- might have left since the end of each of its entries.
abbrev pub HistoriesAreLives : {D : Type 0} → (D → Option Sides) → (D → Sides → Type 0) → (D → ℕ → Sides → Type 0) → Type 0
HistoriesAreLives {D} seen images left_since = (old new : D) (begun : ℕ) (opened left : Sides) (first : Writing) (k : Knows)
    → seen old ≡ Some opened → EachImage (images old) (λ image. image ≡ opened)
    → FeedsLogs (LastsOn (left_since new)) (GrewFrom (IsFound (seen old) (images old))) first k
    → Carries (IsFound (seen old) (images old)) (left_since new) begun → LeftSinceAll (left_since new) begun k.seen left
    → (l : Life) × (l.opened ≡ opened) × (l.left ≡ left) × (l.first ≡ first) × (l.knows ≡ k)
