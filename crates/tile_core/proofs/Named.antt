-- The hall whose store and sessions are as they were is the hall as it was.
use Rattle.std.proofs.Common.{◌≡◌, ℕ, List, map, sym, ap, ◌∙◌, subst}
use Rattle.std.specs.Prelude.{Result, Ok, Err, IfOk, OnOk}
use Rattle.world_data.specs.declared.worlds.World.{World}
use Rattle.world_model.specs.Halls as halls
use Rattle.world_model.specs.Halls.{Hall, NamesChanged}
use Rattle.session_table.specs.Sessions.{State, session_of}
use Rattle.tile_core.specs.declared.stores.Store.{Store}
use Rattle.tile_core.specs.Stores.{hall_of, world_at}
use Rattle.tile_core.specs.Answered.{AreSessions}

pub same_hall : (before store : Store) (now logged drawn : ℕ) (old new : List State) → world_at store ≡ world_at before → map session_of new ≡ map session_of old → hall_of store now logged drawn new ≡ hall_of before now logged drawn old
same_hall before store now logged drawn old new world same =
    ap (λ (w : World). record (hall_of store now logged drawn new) { world = w }) world
    ∙ ap (λ (ss : List halls.Session). record (hall_of before now logged drawn old) { sessions = ss }) same

-- in the same hall nobody has to be named
pub none_named : (named : List ℕ) (old new : Hall) → new ≡ old → NamesChanged named old new
none_named named old new same n ne = absurd (ne (ap (λ (h : Hall). halls.session_of h n) same))

pub same_room : (named : List ℕ) (old new : Hall) → new ≡ old → AreSessions named old → AreSessions named new
same_room named old new same room = subst (AreSessions named) (sym same) room

-- what follows where it is done holds of the result
pub if_ok : {A E P : Type 0} {Q : A → Type 0} (r : Result A E) → OnOk r P → (P → (a : A) → Q a) → IfOk r Q
if_ok (Ok a) p f = f p a
if_ok (Err e) p f = tt
