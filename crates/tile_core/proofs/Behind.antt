-- What is staged write by write, behind what was staged before.
use Rattle.std.proofs.Common.{◌≡◌, ℕ, zero, suc, ◌+◌, Bool, true, false, not, refl, sym, ap, ◌∙◌, subst, List, [], ◌∷◌, ◌++◌, take, map, arith}
use Rattle.std.specs.Prelude.{Some, None, Result, Ok, Err, OnOk, find, filter, slice_get, is_some, nat_lt, ◌&&◌, if◌then◌else◌}
use Rattle.std.proofs.lemmas.Bool.Decides.{nat_tests}
use Rattle.std.proofs.lemmas.List.{append-nil, append_assoc}
use Rattle.std.proofs.lemmas.Option.{same_Some}
use Rattle.byte_text.specs.ListLaws.{take_next}
use Rattle.byte_text.specs.Names.{Bytes, same}
use Rattle.byte_text.specs.ByteOrder.{same_equal}
use Rattle.ordered_lists.specs.Reading.{both_of}
use Rattle.world_data.specs.Expiry.{deadline_of}
use Rattle.fence_model.specs.Writes.{Write, announced, silent}
use Rattle.world_data.specs.Worlds.{after, has_key, is_at, object_at}
use Rattle.world_data.specs.declared.channels.Channel.{Channel}
use Rattle.world_data.specs.declared.objects.Object.{Object}
use Rattle.world_data.specs.declared.worlds.World.{World}
use Rattle.world_data.specs.declared.worlds.Change.TheVariants as change
use Rattle.delivery_model.specs.Staging.{after_all}
use Rattle.delivery_model.specs.Silent.{after_append}
use Rattle.session_table.specs.Sessions.{State}
use Rattle.session_table.specs.Fans.{HaveStaged}
use Rattle.message_fanout.specs.Laws.{QuietBringsNothing}
use Rattle.message_fanout.specs.Stagings.{IsStagedIn, IsBeforeDel, those_left}
use Rattle.channel_plans.specs.declared.planned.ChannelChange.{ChannelChange}
use Rattle.channel_plans.specs.declared.planned.ChannelChange.TheVariants.{Set, Drop}
use Rattle.channel_plans.specs.Planned.{channel_writes}
use Rattle.object_plans.specs.Moves.{AllThere, world_with}
use Rattle.tile_core.specs.Staged.{AreStagedEach, StagesBehind, dels_of}
use Rattle.object_plans.specs.Weights.{found_at}

-- nothing is staged behind
pub behind_none : (w : World) (ss : List State) → StagesBehind w [] ss ss
behind_none w ss first writes is staged = subst (λ (ws : List Write). HaveStaged first ws ss) (sym (append-nil writes)) staged

-- one more write
pub behind_more : (w : World) (more : List Write) (d : Write) (IsSuch : World → Type 0) (old mid new : List State) → StagesBehind w more old mid → IsSuch (after_all w more) → IsStagedIn IsSuch d mid new → StagesBehind w (more ++ d ∷ []) old new
behind_more w more d IsSuch old mid new behind such staged first writes is before =
    let there : after_all first (writes ++ more) ≡ after_all w more = after_append first writes more ∙ ap (λ (v : World). after_all v more) is in
    subst (λ (ws : List Write). HaveStaged first ws new) (append_assoc writes more (d ∷ []))
    (staged.behind first (writes ++ more) (subst IsSuch (sym there) such) (behind first writes is before))

-- one write alone
pub behind_one : (w : World) (d : Write) (IsSuch : World → Type 0) (old new : List State) → IsSuch w → IsStagedIn IsSuch d old new → StagesBehind w (d ∷ []) old new
behind_one w d IsSuch old new such staged first writes is before = staged.behind first writes (subst IsSuch (sym is) such) before

-- one list of writes behind another
pub behind_then : (w : World) (a b : List Write) (old mid new : List State) → StagesBehind w a old mid → StagesBehind (after_all w a) b mid new → StagesBehind w (a ++ b) old new
behind_then w a b old mid new one two first writes is before =
    subst (λ (ws : List Write). HaveStaged first ws new) (append_assoc writes a b)
    (two first (writes ++ a) (after_append first writes a ∙ ap (λ (v : World). after_all v a) is) (one first writes is before))

pub take_none : {A : Type 0} (xs : List A) → take 0 xs ≡ []
take_none [] = refl
take_none (x ∷ xs) = refl

-- the dels of objects by their deadlines, one more of them
pub each_behind : (cs : List Channel) (xs : List Object) (o : Object) (old mid new : List State) → AreStagedEach cs xs old mid
    → IsStagedIn (IsBeforeDel (those_left (deadline_of o.deadline) cs) o) (announced (change.Del o.key o.id)) mid new → AreStagedEach cs (xs ++ o ∷ []) old new
each_behind cs [] o old mid new each one =
    (new, subst (λ (ss : List State). IsStagedIn (IsBeforeDel (those_left (deadline_of o.deadline) cs) o) (announced (change.Del o.key o.id)) ss new) (sym each) one, refl)
each_behind cs (x ∷ xs) o old mid new each one = (each.0, each.1, each_behind cs xs o each.0 mid new each.2 one)

-- none has gone before the first moment
none_gone : (cs : List Channel) → those_left 0 cs ≡ cs
none_gone [] = refl
none_gone (c ∷ cs) = rw (stays (is_some c.deadline) (deadline_of c.deadline)) (ap (λ (ds : List Channel). c ∷ ds) (none_gone cs))
  where
    stays : (b : Bool) (n : ℕ) → (b && nat_lt n 0) ≡ false
    stays true n = grind (arith, nat_tests)
    stays false n = refl

pub as_all : (cs : List Channel) (o : Object) (w : World) → IsBeforeDel cs o w → IsBeforeDel (those_left 0 cs) o w
as_all cs o w such = record { channels_are = such.channels_are ∙ sym (none_gone cs); stands = such.stands }

-- the dels of the objects of a key that have these ids

each_more : (key : Bytes) (ids : List Bytes) (id : Bytes) → dels_of key (ids ++ id ∷ []) ≡ dels_of key ids ++ announced (change.Del key id) ∷ []
each_more key [] id = refl
each_more key (x ∷ ids) id = ap (λ (ws : List Write). announced (change.Del key x) ∷ ws) (each_more key ids id)

-- of the world these are done to
each_stay : (w : World) (key : Bytes) (ids : List Bytes) → (after_all w (dels_of key ids)).channels ≡ w.channels
each_stay w key [] = refl
each_stay w key (x ∷ ids) = each_stay (after w (change.Del key x)) key ids

each_there : (w : World) (key : Bytes) (ids : List Bytes) (i : ℕ) (id : Bytes) → AllThere key ids w.objects → slice_get ids i ≡ Some id → (o : Object) × (object_at (after_all w (dels_of key (take i ids))) key id ≡ Some o)
each_there w key [] i id all at = absurd (cc)
each_there w key (x ∷ ids) zero id all at = let is : x ≡ id = cc in (all.0.0, subst (λ (j : Bytes). find (is_at key j) w.objects ≡ Some all.0.0) is all.0.1)
each_there w key (x ∷ ids) (suc i) id all at = each_there (after w (change.Del key x)) key ids i id all.1 at

-- what is found where another id was taken out stands there before
still_there : (key j id : Bytes) (xs : List Object) (o : Object) → find (is_at key id) (filter (λ p. not (is_at key j p)) xs) ≡ Some o → find (is_at key id) xs ≡ Some o
still_there key j id [] o e = e
still_there key j id (x ∷ xs) o e = by (is_at key j x) refl (is_at key id x) refl (still_there key j id xs o)
  where
    by : (a : Bool) → is_at key j x ≡ a → (b : Bool) → is_at key id x ≡ b → (find (is_at key id) (filter (λ p. not (is_at key j p)) xs) ≡ Some o → find (is_at key id) xs ≡ Some o) → find (is_at key id) (x ∷ xs) ≡ Some o
    by true p true q ih = absurd (gone x p q (rw p at e))
      where
        id_of : (k i : Bytes) → is_at k i x ≡ true → x.id ≡ i
        id_of k i t = same_equal x.id i (both_of (has_key k x) (same x.id i) t).1

        none_left : (i : Bytes) (ys : List Object) → find (is_at key i) (filter (λ p. not (is_at key i p)) ys) ≡ None
        none_left i [] = refl
        none_left i (y ∷ ys) = here (is_at key i y) refl (none_left i ys)
          where
            here : (a : Bool) → is_at key i y ≡ a → find (is_at key i) (filter (λ p. not (is_at key i p)) ys) ≡ None → find (is_at key i) (filter (λ p. not (is_at key i p)) (y ∷ ys)) ≡ None
            here true t ih = rw t ih
            here false t ih = rw (t, t) ih

        gone : (y : Object) → is_at key j x ≡ true → is_at key id x ≡ true → find (is_at key id) (filter (λ p. not (is_at key j p)) xs) ≡ Some o → ⊥
        gone y p q f =
            let one : j ≡ id = sym (id_of key j p) ∙ id_of key id q in
            let none : find (is_at key id) (filter (λ p. not (is_at key j p)) xs) ≡ None = subst (λ (i : Bytes). find (is_at key id) (filter (λ p. not (is_at key i p)) xs) ≡ None) (sym one) (none_left id xs) in
            cc
    by true p false q ih = rw q (ih (rw p at e))
    by false p true q ih = rw q (let f : (if true then Some x else find (is_at key id) (filter (λ p. not (is_at key j p)) xs)) ≡ Some o = rw (p, q) at e in f)
    by false p false q ih = rw q (ih (rw (p, q) at e))

-- so each is found before any is taken out
each_found : (w : World) (key : Bytes) (ids : List Bytes) (i : ℕ) (id : Bytes) (o : Object) → AllThere key ids w.objects → slice_get ids i ≡ Some id → object_at (after_all w (dels_of key (take i ids))) key id ≡ Some o → find (is_at key id) w.objects ≡ Some o
each_found w key [] i id o all at e = absurd (cc)
each_found w key (x ∷ ids) zero id o all at e = e
each_found w key (x ∷ ids) (suc i) id o all at e = still_there key x id w.objects o (each_found (after w (change.Del key x)) key ids i id o all.1 at e)

module _ (cs : List Channel) (xs : List Object) (key : Bytes) (ids : List Bytes) (i : ℕ) (id : Bytes) (there : AllThere key ids xs) (at : slice_get ids i ≡ Some id) where
  abbrev here : World
  here = after_all (world_with cs xs) (dels_of key (take i ids))

  -- none is missing
  pub each_some : find (is_at key id) xs ≡ None → ⊥
  each_some none =
      let e = each_there (world_with cs xs) key ids i id there at in
      let f = each_found (world_with cs xs) key ids i id e.0 there at e.1 in
      cc

  pub each_next : (o : Object) (old mid new : List State) → find (is_at key id) xs ≡ Some o → StagesBehind (world_with cs xs) (dels_of key (take i ids)) old mid
      → IsStagedIn (IsBeforeDel (those_left 0 cs) o) (announced (change.Del o.key o.id)) mid new → StagesBehind (world_with cs xs) (dels_of key (take (i + 1) ids)) old new
  each_next o old mid new found behind staged =
      let w = world_with cs xs in
      let e = each_there w key ids i id there at in
      let f = each_found w key ids i id e.0 there at e.1 in
      let is : e.0 ≡ o = same_Some e.0 o (sym f ∙ found) in
      let own = found_at key id xs o found in
      let stands : object_at here o.key o.id ≡ Some o =
      ap (λ (k : Bytes). object_at here k o.id) own.0 ∙ ap (λ (k : Bytes). object_at here key k) own.1 ∙ e.1 ∙ ap (λ (p : Object). Some p) is in
      let named : announced (change.Del o.key o.id) ≡ announced (change.Del key id) = ap (λ (k : Bytes). announced (change.Del k o.id)) own.0 ∙ ap (λ (k : Bytes). announced (change.Del key k)) own.1 in
      let such : IsBeforeDel cs o here = record { channels_are = each_stay w key (take i ids); stands = stands } in
      let one = behind_more w (dels_of key (take i ids)) (announced (change.Del o.key o.id)) (IsBeforeDel (those_left 0 cs) o) old mid new behind (as_all cs o here such) staged in
      subst (λ (ws : List Write). StagesBehind w ws old new)
      (ap (λ (d : Write). dels_of key (take i ids) ++ d ∷ []) named ∙ sym (each_more key (take i ids) id) ∙ ap (dels_of key) (sym (take_next ids i id at))) one

-- silent writes stage nothing

quiet_names : QuietBringsNothing → (names : List Bytes) (first : World) (writes : List Write) (ss : List State) → HaveStaged first writes ss → HaveStaged first (writes ++ map (λ n. silent (change.DelChan n)) names) ss
quiet_names law [] first writes ss staged = subst (λ (ws : List Write). HaveStaged first ws ss) (sym (append-nil writes)) staged
quiet_names law (name ∷ names) first writes ss staged =
    subst (λ (ws : List Write). HaveStaged first ws ss) (append_assoc writes (silent (change.DelChan name) ∷ []) (map (λ n. silent (change.DelChan n)) names))
    (quiet_names law names first (writes ++ silent (change.DelChan name) ∷ []) ss (law first writes (change.DelChan name) ss staged))

pub behind_channels : QuietBringsNothing → (w : World) (action : ChannelChange) (ss : List State) → StagesBehind w (channel_writes action) ss ss
behind_channels law w (Set c) ss first writes is staged = law first writes (change.SetChan c) ss staged
behind_channels law w (Drop names) ss first writes is staged = quiet_names law names first writes ss staged

pub on_ok : {A E : Type 0} (r : Result A E) (P Q : Type 0) → (P → Q) → OnOk r P → OnOk r Q
on_ok (Ok a) P Q f p = f p
on_ok (Err e) P Q f p = tt
