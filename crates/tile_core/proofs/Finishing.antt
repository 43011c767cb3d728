-- What holds of the parts of a core after a call.
use Rattle.std.proofs.Common.{◌≡◌, ℕ, zero, suc, ◌+◌, ◌<◌, ◌≤◌, Bool, true, false, not, refl, sym, ap, ◌∙◌, subst, List, [], ◌∷◌, ◌++◌, length, map, drop, get_or, arith}
use Rattle.std.specs.Prelude.{Some, Ok, filter, slice_get, slice_set, remove, ◌&&◌, if◌then◌else◌}
use Rattle.std.specs.List.{AllByRecursion, list_all}
use Rattle.std.proofs.Math.ListN.{length-set}
use Rattle.byte_text.specs.Names.{Bytes}
use Rattle.ordered_lists.specs.Lists.{put_in}
use Rattle.ordered_lists.specs.Reading.{both_of, got_at, each-filter}
use Rattle.world_data.specs.Sound.{is_sound_channel}
use Rattle.world_data.specs.Worlds.{is_sorted_world, are_objects, are_channels, after, channel_before, is_at, is_named}
use Rattle.fence_model.specs.Writes.{Write, silent}
use Rattle.world_model.specs.Effects.{Effect}
use Rattle.world_data.specs.WorldLaws.{keeps_order}
use Rattle.world_data.specs.declared.objects.Object.{Object}
use Rattle.world_data.specs.declared.channels.Channel.{Channel}
use Rattle.world_data.specs.declared.worlds.World.{World}
use Rattle.world_data.specs.declared.worlds.Change.TheVariants as change
use Rattle.session_table.specs.Sessions.{State}
use Rattle.session_table.specs.Fans.{AreBare}
use Rattle.delivery_model.specs.Staging.{after_all}
use Rattle.object_plans.specs.declared.moves.ObjectChange.{ObjectChange}
use Rattle.object_plans.specs.declared.moves.ObjectChange.TheVariants.{Stay, Put, Delete, DeleteEach, DropKey, Clear}
use Rattle.channel_plans.specs.declared.planned.ChannelChange.{ChannelChange}
use Rattle.channel_plans.specs.declared.planned.ChannelChange.TheVariants.{Set, Drop}
use Rattle.object_plans.specs.declared.plans.Plan.{Plan}
use Rattle.record_writer.specs.Lengths.{HasFewFields}
use Rattle.object_plans.specs.Moves.{IsAccepted, world_of, world_with, moved, without_each}
use Rattle.tile_core.specs.Sessions.{IsServed}
use Rattle.object_plans.specs.Plans.{IsPlan, writes_of}
use Rattle.ordered_lists.specs.Ascending.{each-put_in}
use Rattle.channel_plans.specs.Planned.{IsRecordedChannel, IsRecordedMove, IsSoundMove, channel_writes, channels_moved, without_names}
use Rattle.object_plans.specs.Beside.{channels_left, channels_weight, weight_left}
use Rattle.tile_core.specs.Staged.{dels_of}
use Rattle.object_plans.specs.Kept.{AreKept, most_kept}
use Rattle.tile_core.specs.Stores.{ArePresent}
use Rattle.tile_core.specs.Dues.{AreChannelsDueFrom, IsChannelDueFrom, IsTaken}
use Rattle.tile_core.specs.Ready.{HoldsOfSet}
use Rattle.tile_core.proofs.Moving.{all_moved}
use Rattle.tile_core.proofs.Present.{rises_set, rises_remove}

-- a session that may be served is the one read at its place
pub served_is : (sessions : List State) (n i : ℕ) (sv : IsServed sessions n (Ok i)) (r : State) → r ≡ get_or sessions i r → r ≡ sv.0.session
served_is sessions n i sv r e = e ∙ got_at sessions i sv.0.session r sv.0.here

pub both : (a : Bool) → a ≡ true → (a && true) ≡ true
both a e = grind arith

-- the order is kept
sorted_all : (w : World) (writes : List Write) → is_sorted_world w ≡ true → is_sorted_world (after_all w writes) ≡ true
sorted_all w [] sorted = sorted
sorted_all w (d ∷ writes) sorted = sorted_all (after w d.change) writes (keeps_order w d.change sorted)

-- what is left when objects were taken out
pub rest_kept : (old : List Object) (now total : ℕ) (xs held : List Object) (len rest : ℕ) → total ≤ most_kept → IsTaken old now total xs held len rest → AreKept xs rest
rest_kept old now total xs held len rest light t = record { sorted = t.sorted; accepted = t.accepted; few = t.few; weighed = t.rest_is; light = omega (arith, light, t.small) }

-- the writes of a move do it
each_done : (cs : List Channel) (key : Bytes) (ids : List Bytes) (xs : List Object) → after_all (world_with cs xs) (dels_of key ids) ≡ world_with cs (without_each key ids xs)
each_done cs key [] xs = refl
each_done cs key (id ∷ ids) xs = each_done cs key ids (filter (λ o. not (is_at key id o)) xs)

pub move_done : (cs : List Channel) (xs : List Object) (action : ObjectChange) (is_loud : Bool) → after_all (world_with cs xs) (writes_of action is_loud) ≡ world_with (channels_left action cs) (moved xs action)
move_done cs xs Stay is_loud = refl
move_done cs xs (Put o) is_loud = refl
move_done cs xs (Delete key id) is_loud = refl
move_done cs xs (DeleteEach key ids) is_loud = each_done cs key ids xs
move_done cs xs (DropKey key) is_loud = refl
move_done cs xs Clear is_loud = refl

names_done : (xs : List Object) (names : List Bytes) (cs : List Channel) → after_all (world_with cs xs) (map (λ n. silent (change.DelChan n)) names) ≡ world_with (without_names names cs) xs
names_done xs [] cs = refl
names_done xs (name ∷ names) cs = names_done xs names (filter (λ c. not (is_named name c)) cs)

pub channels_done : (cs : List Channel) (xs : List Object) (action : ChannelChange) → after_all (world_with cs xs) (channel_writes action) ≡ world_with (channels_moved action cs) xs
channels_done cs xs (Set c) = refl
channels_done cs xs (Drop names) = names_done xs names cs

-- the names that are left, after one more is taken out
next_out : (names : List Bytes) (i : ℕ) (name : Bytes) (cs : List Channel) → slice_get names i ≡ Some name → without_names (drop i names) cs ≡ without_names (drop (suc i) names) (filter (λ c. not (is_named name c)) cs)
next_out [] i name cs at = absurd (cc)
next_out (n ∷ names) zero name cs at = let is : n ≡ name = cc in ap (λ (m : Bytes). without_names names (filter (λ c. not (is_named m c)) cs)) is
next_out (n ∷ names) (suc i) name cs at = next_out names i name cs at

pub name_out : (names : List Bytes) (i : ℕ) (name : Bytes) (cs ds : List Channel) → slice_get names i ≡ Some name → ds ≡ filter (λ c. not (is_named name c)) cs → without_names (drop (i + 1) names) ds ≡ without_names (drop i names) cs
name_out names i name cs ds at is =
    let one : i + 1 ≡ suc i = omega arith in
    ap (without_names (drop (i + 1) names)) is ∙ ap (λ (n : ℕ). without_names (drop n names) (filter (λ c. not (is_named name c)) cs)) one ∙ sym (next_out names i name cs at)

-- the objects after a plan
pub kept_after : (objects : List Object) (total : ℕ) → AreKept objects total → (e : Effect) (p : Plan) → IsPlan objects e p → AreKept (moved objects p.action) p.weight
kept_after objects total kept e p is = record {
  sorted =
      let all = sorted_all (world_of objects) (writes_of p.action p.announced) (both (are_objects objects) kept.sorted) in
      let left = subst (λ (w : World). is_sorted_world w ≡ true) (move_done [] objects p.action p.announced) all in
      (both_of (are_objects (moved objects p.action)) (are_channels (channels_left p.action [])) left).0;
  accepted = all_moved IsAccepted objects p.action is.accepted kept.accepted;
  few = all_moved HasFewFields objects p.action is.few kept.few;
  weighed = is.weight_is;
  light = is.light;
}

-- sound channels stay sound

sound_put : (c : Channel) (cs : List Channel) → is_sound_channel c ≡ true → list_all is_sound_channel cs ≡ true → list_all is_sound_channel (put_in channel_before c cs) ≡ true
sound_put c [] s all = rw s refl
sound_put c (d ∷ cs) s all =
    let here : is_sound_channel d ≡ true = grind arith in
    let rest : list_all is_sound_channel cs ≡ true = grind arith in
    by (channel_before c d) (channel_before d c) here rest (sound_put c cs s rest)
  where
    by : (a b : Bool) → is_sound_channel d ≡ true → list_all is_sound_channel cs ≡ true → list_all is_sound_channel (put_in channel_before c cs) ≡ true
        → list_all is_sound_channel (if a then c ∷ d ∷ cs else if b then d ∷ put_in channel_before c cs else c ∷ cs) ≡ true
    by true b h r ih = rw (s, h, r) refl
    by false true h r ih = rw (h, ih) refl
    by false false h r ih = rw (s, r) refl

pub sound_filter : (f : Channel → Bool) (cs : List Channel) → list_all is_sound_channel cs ≡ true → list_all is_sound_channel (filter f cs) ≡ true
sound_filter f [] all = refl
sound_filter f (c ∷ cs) all =
    let here : is_sound_channel c ≡ true = grind arith in
    let rest : list_all is_sound_channel cs ≡ true = grind arith in
    by (f c) here (sound_filter f cs rest)
  where
    by : (b : Bool) → is_sound_channel c ≡ true → list_all is_sound_channel (filter f cs) ≡ true → list_all is_sound_channel (if b then c ∷ filter f cs else filter f cs) ≡ true
    by true h ih = rw (h, ih) refl
    by false h ih = ih

sound_without : (names : List Bytes) (cs : List Channel) → list_all is_sound_channel cs ≡ true → list_all is_sound_channel (without_names names cs) ≡ true
sound_without [] cs all = all
sound_without (name ∷ names) cs all = sound_without names (filter (λ c. not (is_named name c)) cs) (sound_filter (λ c. not (is_named name c)) cs all)

pub sound_moved : (action : ChannelChange) (cs : List Channel) → IsSoundMove action → list_all is_sound_channel cs ≡ true → list_all is_sound_channel (channels_moved action cs) ≡ true
sound_moved (Set c) cs s all = sound_put c cs s all
sound_moved (Drop names) cs s all = sound_without names cs all

pub sound_left : (action : ObjectChange) (cs : List Channel) → list_all is_sound_channel cs ≡ true → list_all is_sound_channel (channels_left action cs) ≡ true
sound_left Stay cs all = all
sound_left (Put o) cs all = all
sound_left (Delete key id) cs all = all
sound_left (DeleteEach key ids) cs all = all
sound_left (DropKey key) cs all = all
sound_left Clear cs all = refl

-- what holds of each channel holds of each that is left

module _ (P : Channel → Type 0) where
  each_without : (names : List Bytes) (cs : List Channel) → AllByRecursion P cs → AllByRecursion P (without_names names cs)
  each_without [] cs all = all
  each_without (name ∷ names) cs all = each_without names (filter (λ c. not (is_named name c)) cs) (each-filter P (λ c. not (is_named name c)) cs all)

  pub each_moved : (action : ChannelChange) (cs : List Channel) → HoldsOfSet P action → AllByRecursion P cs → AllByRecursion P (channels_moved action cs)
  each_moved (Set c) cs r all = each-put_in P channel_before c cs r all
  each_moved (Drop names) cs r all = each_without names cs all

  pub each_left : (action : ObjectChange) (cs : List Channel) → AllByRecursion P cs → AllByRecursion P (channels_left action cs)
  each_left Stay cs all = all
  each_left (Put o) cs all = all
  each_left (Delete key id) cs all = all
  each_left (DeleteEach key ids) cs all = all
  each_left (DropKey key) cs all = all
  each_left Clear cs all = tt

-- a channel that is set is recorded
pub set_recorded : (action : ChannelChange) → IsRecordedMove action → HoldsOfSet IsRecordedChannel action
set_recorded (Set c) r = r
set_recorded (Drop names) r = tt

-- channels that are due from a moment on are not due before an earlier one
channels_earlier : (due_from less : ℕ) → less ≤ due_from → (cs : List Channel) → AreChannelsDueFrom due_from cs → AreChannelsDueFrom less cs
channels_earlier due_from less le [] all = tt
channels_earlier due_from less le (c ∷ cs) all = (λ d e. let far = all.0 d e in omega (arith, le, far), channels_earlier due_from less le cs all.1)

pub channels_due_moved : (due_from less : ℕ) (action : ChannelChange) (cs : List Channel) → less ≤ due_from → HoldsOfSet (IsChannelDueFrom less) action → AreChannelsDueFrom due_from cs
    → AreChannelsDueFrom less (channels_moved action cs)
channels_due_moved due_from less action cs le set all = each_moved (IsChannelDueFrom less) action cs set (channels_earlier due_from less le cs all)

pub weighed_left : (action : ObjectChange) (n : ℕ) (cs : List Channel) → n ≡ channels_weight cs → weight_left action n ≡ channels_weight (channels_left action cs)
weighed_left Stay n cs e = e
weighed_left (Put o) n cs e = e
weighed_left (Delete key id) n cs e = e
weighed_left (DeleteEach key ids) n cs e = e
weighed_left (DropKey key) n cs e = e
weighed_left Clear n cs e = refl

-- nothing is staged after one session is changed, or taken out

pub bare_at : (sessions : List State) (i : ℕ) (s : State) → AreBare sessions → slice_get sessions i ≡ Some s → s.mail.staged ≡ []
bare_at [] i s bare at = absurd (cc)
bare_at (y ∷ ys) zero s bare at = let is : y ≡ s = cc in subst (λ (t : State). t.mail.staged ≡ []) is bare.0
bare_at (y ∷ ys) (suc i) s bare at = bare_at ys i s bare.1 at

pub bare_set : (sessions : List State) (i : ℕ) (v : State) → AreBare sessions → v.mail.staged ≡ [] → AreBare (slice_set sessions i v)
bare_set [] i v bare e = tt
bare_set (y ∷ ys) zero v bare e = (e, bare.1)
bare_set (y ∷ ys) (suc i) v bare e = (bare.0, bare_set ys i v bare.1 e)

pub bare_remove : (sessions : List State) (i : ℕ) → AreBare sessions → AreBare (remove sessions i)
bare_remove [] zero bare = tt
bare_remove [] (suc i) bare = tt
bare_remove (y ∷ ys) zero bare = bare.1
bare_remove (y ∷ ys) (suc i) bare = (bare.0, bare_remove ys i bare.1)

pub bare_more : (sessions : List State) (v : State) → AreBare sessions → v.mail.staged ≡ [] → AreBare (sessions ++ v ∷ [])
bare_more [] v bare e = (e, tt)
bare_more (y ∷ ys) v bare e = (bare.0, bare_more ys v bare.1 e)

-- the sessions after one is changed, or taken out

pub present_set : (drawn : ℕ) (sessions : List State) (i : ℕ) (s v : State) → ArePresent drawn sessions → slice_get sessions i ≡ Some s → v.number ≡ s.number → ArePresent drawn (slice_set sessions i v)
present_set drawn sessions i s v present at numbered = record {
  rises = rises_set 0 drawn sessions i s v present.rises at numbered;
  few = let long = length-set sessions i v in let few = present.few in omega (arith, long, few);
}

shorter : (xs : List State) (i : ℕ) → i < length xs → length (remove xs i) ≤ length xs
shorter [] i lt = absurd (omega (arith, lt))
shorter (x ∷ xs) zero lt = omega arith
shorter (x ∷ xs) (suc i) lt = let ih = shorter xs i (omega (arith, lt)) in omega (arith, ih)

pub present_remove : (drawn : ℕ) (sessions : List State) (i : ℕ) → i < length sessions → ArePresent drawn sessions → ArePresent drawn (remove sessions i)
present_remove drawn sessions i lt present = record {
  rises = rises_remove 0 drawn sessions i lt present.rises;
  few = let less = shorter sessions i lt in let few = present.few in omega (arith, less, few);
}
