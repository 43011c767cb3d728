-- Links that were followed one after another.
use Rattle.std.proofs.Common.{◌≡◌, ◌≢◌, ◌⊎◌, ◌≤◌, ◌∙◌, ℕ, Bool, List, [], ◌∷◌, ◌++◌, refl, sym, ap, subst, inl, inr, arith}
use Rattle.std.specs.Prelude.{Option, None, Some}
use Rattle.byte_text.specs.Names.{Bytes}
use Rattle.outside.specs.CauseLaws.{rose_later}
use Rattle.outside.specs.Causes.{Rose, next_count}
use Rattle.outside.specs.Doors.{DoorState}
use Rattle.outside.specs.Links.{IsNew, LinkState}
use Rattle.outside.specs.Waits.{WaitState}
use Rattle.repl_node.specs.Following.{Followed}
use Rattle.repl_node.specs.declared.nodes.LogPlace.{LogPlace}
use Rattle.tile_top.specs.Follows.{Around, FindsNobody, FollowsNext, FollowsUpTo, IsShutAt, LosesAll, NobodyBy, StopsBy, Visit, Visits, around}
use Rattle.tile_top.specs.Tellings.{IsVisited}
use Rattle.tile_top.specs.declared.follow_words.FollowTerms.{FollowTerms}
use Rattle.tile_top.specs.declared.stops.Stop.{Stop}
use Rattle.tile_top.specs.declared.stops.Stop.TheVariants.{Lost, Done, BadPart, ReadFault, WriteFault, OutputFault, DoorFault, OutOfMemory}
use Rattle.tile_top.proofs.Telling.{stops_later}

-- a link came at the looks, and was followed
pub visited : (terms : FollowTerms) (stop : Stop) (came : LinkState) (node node' : Followed) (told told' : Option LogPlace) (door door' : DoorState) (wait mid wait' : WaitState)
    (held held' : Option Bytes) (failed failed' : ℕ) → IsNew door.links came → door' ≡ record door { links = next_count door.links; faults = door'.faults }
    → door.faults ≤ door'.faults → mid.shut ≡ wait.shut → wait.faults ≤ mid.faults → mid.faults ≤ wait'.faults → failed ≤ failed'
    → IsVisited terms stop came node node' told told' mid wait' held held' failed failed'
    → FollowsNext terms stop (around node told door wait held failed) (around node' told' door' wait' held' failed')
visited terms stop came node node' told told' door door' wait mid wait' held held' failed failed' is_new at door_later shut first later sink v = inl (
  record { came = came; before = v.before; left = v.left },
  record {
    is_new = is_new;
    followed = v.followed;
    once = v.once;
    node = v.node_is;
    told = v.told_is;
    written = v.written;
    door = at;
    door_later = door_later;
    shut = subst (λ (s : Option (List LinkState)). IsShutAt stop s wait'.shut v.left.line) shut v.shut;
    wait_later = omega (arith, first, later);
    sink_later = sink;
    why = stops_later terms stop v.left.phase wait'.over wait.faults mid.faults wait'.faults failed failed failed' first (omega arith) v.why;
  },
)

-- nobody came
pub nobody : (terms : FollowTerms) (stop : Stop) (node : Followed) (told : Option LogPlace) (door door' : DoorState) (wait wait' : WaitState) (held : Option Bytes) (failed : ℕ)
    → door' ≡ record door { ends = door'.ends; faults = door'.faults } → door.faults ≤ door'.faults → wait'.shut ≡ wait.shut → wait.faults ≤ wait'.faults
    → NobodyBy terms stop wait'.over door door' wait.faults wait'.faults
    → FollowsNext terms stop (around node told door wait held failed) (around node told door' wait' held failed)
nobody terms stop node told door door' wait wait' held failed at door_later shut wait_later why = inr (record {
  node = refl;
  held = refl;
  failed = refl;
  door = at;
  door_later = door_later;
  shut = shut;
  wait_later = wait_later;
  why = why;
})

-- one lost link more
abbrev pub HasLost : FollowTerms → Around → Around → Type 0
HasLost terms old new = (visits : List Visit) × LosesAll terms visits old new

loses_more : (terms : FollowTerms) (visits : List Visit) (v : Visit) (old mid new : Around) → LosesAll terms visits old mid → Visits terms Lost v mid new
    → LosesAll terms (visits ++ v ∷ []) old new
loses_more terms [] v old mid new e visit = subst (λ (a : Around). LosesAll terms (v ∷ []) a new) e (new, visit, refl)
loses_more terms (u ∷ visits) v old mid new (next, first, later) visit = (next, first, loses_more terms visits v next mid new later visit)

pub lost_more : (terms : FollowTerms) (stop : Stop) (old mid new : Around) → stop ≡ Lost → HasLost terms old mid → FollowsNext terms stop mid new → HasLost terms old new
lost_more terms stop old mid new lost (visits, loses) next = by_next (subst (λ (s : Stop). FollowsNext terms s mid new) lost next)
  where
    by_next : FollowsNext terms Lost mid new → HasLost terms old new
    by_next (inl (v, visit)) = (visits ++ v ∷ [], loses_more terms visits v old mid new loses visit)
    by_next (inr f) = absurd f.why

pub follows_up_to : (terms : FollowTerms) (stop : Stop) (old mid new : Around) → stop ≢ Lost → HasLost terms old mid → FollowsNext terms stop mid new
    → FollowsUpTo terms stop old new
follows_up_to terms stop old mid new goes (visits, loses) next = record { goes = goes; lost = visits; last = mid; loses = loses; stops = next }

-- causes of a stop at the next link
pub written_by : (terms : FollowTerms) (old new : Around) → FollowsNext terms OutputFault old new → Rose old.failed new.failed
written_by terms old new (inl (v, visit)) = visit.why
written_by terms old new (inr f) = absurd f.why

pub waited_by : (terms : FollowTerms) (old new : Around) → FollowsNext terms DoorFault old new → Rose old.door.faults new.door.faults ⊎ Rose old.wait.faults new.wait.faults
waited_by terms old new (inl (v, visit)) = inr visit.why
waited_by terms old new (inr f) = by_why f.why
  where
    by_why : NobodyBy terms DoorFault new.wait.over old.door new.door old.wait.faults new.wait.faults → Rose old.door.faults new.door.faults ⊎ Rose old.wait.faults new.wait.faults
    by_why (inl (once, rose)) = inl rose
    by_why (inr rose) = inr rose

-- nobody came at one more look
pub nobody_later : (terms : FollowTerms) (stop : Stop) (over : Bool) (old mid new : DoorState) (waits waits' : ℕ)
    → mid ≡ record old { faults = mid.faults } → old.faults ≤ mid.faults → NobodyBy terms stop over mid new waits waits'
    → NobodyBy terms stop over old new waits waits'
nobody_later terms Lost over old mid new waits waits' at later why = why
nobody_later terms Done over old mid new waits waits' at later why = why
nobody_later terms BadPart over old mid new waits waits' at later why = subst (λ (n : ℕ). Rose n new.ends) (ap (λ (d : DoorState). d.ends) at) why
nobody_later terms ReadFault over old mid new waits waits' at later why = why
nobody_later terms WriteFault over old mid new waits waits' at later why = why
nobody_later terms OutputFault over old mid new waits waits' at later why = why
nobody_later terms DoorFault over old mid new waits waits' at later (inl (once, rose)) =
    inl (once, rose_later old.faults mid.faults new.faults later rose)
nobody_later terms DoorFault over old mid new waits waits' at later (inr rose) = inr rose
nobody_later terms OutOfMemory over old mid new waits waits' at later why = why
