-- What commands on objects do, where channels stand beside the objects.
use Rattle.std.proofs.Common.{◌≡◌, ℕ, ◌+◌, ◌*◌, ◌<◌, ◌≤◌, ◌^◌, Bool, true, false, not, refl, sym, ap, ◌∙◌, subst, lit≤, lit<, List, [], ◌∷◌, length, length-append, arith}
use Rattle.std.specs.Prelude.{Option, Some, None, is_none, filter, sum_by, nat_le, nat_lt, ◌==◌, ◌&&◌, map, if◌then◌else◌}
use Rattle.std.specs.List.{list_all, list_any}
use Rattle.std.proofs.lemmas.Bool.Decides.{nat_tests}
use Rattle.std.proofs.lemmas.List.{length-map}
use Rattle.std.proofs.lemmas.List.Sums.{sum_by-cons}
use Rattle.byte_text.specs.Names.{Bytes}
use Rattle.byte_text.specs.Replies.{frame_text, fine, number}
use Rattle.byte_text.specs.Requests.{max_words}
use Rattle.byte_text.specs.declared.replies.Piece.{Piece}
use Rattle.ordered_lists.specs.Lists.{put_in}
use Rattle.fence_model.specs.Writes.{Write, announced, silent, dels}
use Rattle.world_data.specs.Filters.{Field, value_of, same_value, zero_value, with_values}
use Rattle.world_data.specs.Limits.{max_fields, max_objects, max_reply, max_weight}
use Rattle.world_data.specs.Records.{weight}
use Rattle.world_data.specs.Worlds.{object_at, object_before, has_key, is_at}
use Rattle.world_data.specs.declared.channels.Channel.{Channel}
use Rattle.world_data.specs.declared.objects.Object.{Object}
use Rattle.world_data.specs.declared.worlds.World.{World}
use Rattle.world_data.specs.declared.worlds.Change.{Change}
use Rattle.world_data.specs.declared.worlds.Change.TheVariants as change
use Rattle.world_model.specs.Effects.{Effect, says, changes, refuses, unless, fits, if_object, with_object, within_reply, is_kept_back, put_effect, fset_effect, deadline_effect, persist_effect, given_and_cleared, changed_count, command_effect, effect}
use Rattle.world_model.specs.Refusals.{refusal_reply}
use Rattle.world_model.specs.Replies.{null}
use Rattle.world_model.specs.declared.object_commands.ObjectCommand.{ObjectCommand}
use Rattle.world_model.specs.declared.commands.Command.TheVariants as command
use Rattle.world_model.specs.declared.object_commands.ObjectCommand.TheVariants as of_object
use Rattle.world_model.specs.declared.object_commands.Only.{Only}
use Rattle.world_model.specs.declared.faults.Refusal.TheVariants as refusal
use Rattle.object_plans.specs.declared.moves.ObjectChange.{ObjectChange}
use Rattle.object_plans.specs.declared.moves.ObjectChange.TheVariants.{Stay, Put, Delete, DeleteEach, DropKey, Clear}
use Rattle.object_plans.specs.declared.plans.Plan.{Plan}
use Rattle.object_plans.specs.Beside.{channels_left, channels_weight, is_put, is_too_heavy, is_weighed, or_full, IsCounted, IsPlanBeside}
use Rattle.object_plans.specs.Kept.{AreKept, most_kept}
use Rattle.object_plans.specs.Moves.{world_of, world_with, moved, without_each}
use Rattle.record_writer.specs.Lengths.{len_of, HasFewFields}
use Rattle.object_plans.specs.Plans.{IsPlan, Says, put_or_full, writes_of}
use Rattle.object_plans.specs.Answering.{said, count_fits}
use Rattle.object_plans.proofs.Changing.{one_at_most}
use Rattle.record_writer.specs.LengthLaws.{bare_short}
use Rattle.object_plans.specs.Standing.{found_holds}
use Rattle.object_plans.specs.ChannelWeights.{weight_beside}
use Rattle.object_plans.specs.Weights.{weight_sum, found_own, some_sum}
use Rattle.record_writer.specs.ObjectSums.{changed_sum}

module _ (cs : List Channel) (os : List Object) where
  abbrev w : World
  w = world_with cs os

  abbrev v : World
  v = world_of os

  -- effects whose one put, if any, leaves the objects no heavier

  abbrev IsLighterChange : Change → Type 0
  IsLighterChange (change.Put o) = weight (world_of (put_in object_before o os)) ≤ weight (world_of os)
  IsLighterChange c = Unit {0}

  abbrev AreLighter : List Write → Type 0
  AreLighter [] = Unit {0}
  AreLighter (d ∷ []) = IsLighterChange d.change
  AreLighter (d ∷ e ∷ writes) = Unit {0}

  abbrev Calm : Effect → Type 0
  Calm e = AreLighter e.writes

  if_calm : (b : Bool) (e f : Effect) → Calm e → Calm f → Calm (if b then e else f)
  if_calm true e f p q = p
  if_calm false e f p q = q

  within_calm : (e : Effect) → Calm e → Calm (within_reply e)
  within_calm e p = if_calm (list_all (λ r. nat_le (length (frame_text r)) max_reply) e.replies) e (refuses refusal.ReplyTooLong) p tt

  object_calm : (f : Option Object) (e : Effect) (g : Object → Effect) → Calm e → ((o : Object) → f ≡ Some o → Calm (g o)) → Calm (if_object f e g)
  object_calm None e g p q = p
  object_calm (Some o) e g p q = q o refl

  with_calm : (key id : Bytes) (g : Object → Effect) → ((o : Object) → Calm (g o)) → Calm (with_object v key id g)
  with_calm key id g q = by (object_at v key id) refl
    where
      by : (f : Option Object) → object_at v key id ≡ f → Calm (with_object v key id g)
      by None e = rw e tt
      by (Some o) e = rw e (q o)

  dels_calm : (gone : List Object) → AreLighter (dels gone)
  dels_calm [] = tt
  dels_calm (o ∷ []) = tt
  dels_calm (o ∷ p ∷ gone) = tt

  -- an object that loses its deadline leaves them no heavier
  persist_calm : (total : ℕ) → AreKept os total → (key id : Bytes) (o : Object) → object_at v key id ≡ Some o → Calm (persist_effect o)
  persist_calm total kept key id o here = by o.deadline refl
    where
      by : (d : Option ℕ) → o.deadline ≡ d → Calm (persist_effect o)
      by None is = rw is tt
      by (Some m) is =
          let x : Object = record o { deadline = None } in
          let short = bare_short o m is (found_holds (is_at key id) o HasFewFields os here kept.few) in
          let sum = changed_sum len_of x os o kept.sorted (found_own key id os o here) in
          let less : weight (world_of (put_in object_before x os)) ≤ weight (world_of os) = omega (arith, sum, short, weight_sum os, weight_sum (put_in object_before x os)) in
          rw is less

  -- commands whose puts are not weighed do the same beside channels
  unweighed : (now : ℕ) (c : ObjectCommand) → is_weighed c ≡ false → effect w now [] (command.Object c) ≡ effect v now [] (command.Object c)
  unfolding effect
  unweighed now (of_object.Set key id given cleared after_ex only text shape) u = absurd (cc)
  unweighed now (of_object.Fset key id given cleared) u = absurd (cc)
  unweighed now (of_object.Expire key id s) u = absurd (cc)
  unweighed now c u = refl

  within : (now : ℕ) (c : ObjectCommand) → Calm (command_effect v now [] (command.Object c)) → Calm (within_reply (command_effect v now [] (command.Object c)))
  within now c p = within_calm (command_effect v now [] (command.Object c)) p

  -- and leave the objects no heavier
  lighter : (total : ℕ) → AreKept os total → (now : ℕ) (c : ObjectCommand) → is_weighed c ≡ false → Calm (effect v now [] (command.Object c))
  unfolding effect
  lighter total kept now (of_object.Get key id with_fields how) u =
      within now (of_object.Get key id with_fields how) (object_calm (object_at v key id) _ _ tt (λ o here. tt))
  lighter total kept now (of_object.Del key id) u = within now (of_object.Del key id) (object_calm (object_at v key id) _ _ tt (λ o here. tt))
  lighter total kept now (of_object.Pdel key pattern) u = within now (of_object.Pdel key pattern) (dels_calm _)
  lighter total kept now (of_object.Drop key) u =
      within now (of_object.Drop key) (if_calm (list_any (has_key key) os) (changes (number 1) (announced (change.Drop key) ∷ [])) (says (number 0)) tt tt)
  lighter total kept now (of_object.Fget key id field) u = within now (of_object.Fget key id field) (with_calm key id _ (λ o. tt))
  lighter total kept now (of_object.Persist key id) u =
      within now (of_object.Persist key id) (object_calm (object_at v key id) _ _ tt (λ o here. persist_calm total kept key id o here))
  lighter total kept now (of_object.Ttl key id) u = within now (of_object.Ttl key id) (object_calm (object_at v key id) _ _ tt (λ o here. tt))
  lighter total kept now (of_object.Keys pattern) u = within now (of_object.Keys pattern) tt
  lighter total kept now (of_object.Bounds key) u = within now (of_object.Bounds key) tt
  lighter total kept now (of_object.Stats keys) u = within now (of_object.Stats keys) tt
  lighter total kept now of_object.Flush u = tt
  lighter total kept now of_object.Shrink u = tt
  lighter total kept now c u = absurd (cc)

  -- puts are weighed with the channels

  same : (r : List Piece) → within_reply (says r) ≡ or_full w (within_reply (says r))
  same r = by (list_all (λ p. nat_le (length (frame_text p)) max_reply) (r ∷ []))
    where
      by : (b : Bool) → (if b then says r else refuses refusal.ReplyTooLong) ≡ or_full w (if b then says r else refuses refusal.ReplyTooLong)
      by true = refl
      by false = refl

  above : (m n : ℕ) → m ≤ n → nat_le m max_weight ≡ false → nat_le n max_weight ≡ true → ⊥
  above m n le p q = absurd (grind (arith, nat_tests))

  put_beside : (o : Object) (r : List Piece) (is_loud : Bool) → length (frame_text r) ≤ max_reply → put_or_full w o r is_loud ≡ or_full w (put_or_full v o r is_loud)
  put_beside o r is_loud short = by (fits v (change.Put o)) (fits w (change.Put o)) refl refl
    where
      fits_frame : nat_le (length (frame_text r)) max_reply ≡ true
      fits_frame = grind (arith, nat_tests)

      by : (a b : Bool) → fits v (change.Put o) ≡ a → fits w (change.Put o) ≡ b → put_or_full w o r is_loud ≡ or_full w (put_or_full v o r is_loud)
      by false false p q = rw (p, q) refl
      by false true p q = absurd (above (weight (world_of (put_in object_before o os))) (weight (world_with cs (put_in object_before o os))) (omega (arith, weight_beside cs (put_in object_before o os))) p q)
      by true true p q = rw (p, q, fits_frame, q) refl
      by true false p q = rw (p, q, fits_frame, q) refl

  -- the tests of a SET, by their outcomes
  abbrev set_tests : World → Object → Bool → Bool → Bool → Effect
  set_tests u o a b c = within_reply (unless ((a, says null) ∷ (b, refuses refusal.TooManyFields) ∷ (c, refuses refusal.TooManyObjects) ∷ (not (fits u (change.Put o)), refuses refusal.DatabaseFull) ∷ []) (changes fine (announced (change.Put o) ∷ [])))

  set_beside : (only : Only) (old : Option Object) (o : Object) → within_reply (put_effect w only old o) ≡ or_full w (within_reply (put_effect v only old o))
  set_beside only old o = by (is_kept_back only old) (nat_lt max_fields (length o.fields)) (is_none old && nat_le max_objects (length os))
    where
      by : (a b c : Bool) → set_tests w o a b c ≡ or_full w (set_tests v o a b c)
      by true b c = refl
      by false true c = refl
      by false false true = refl
      by false false false = put_beside o fine true (lit≤ tt)

  expire_beside : (f : Option Object) (d : ℕ) → within_reply (if_object f (says (number 0)) (λ o. deadline_effect w o d)) ≡ or_full w (within_reply (if_object f (says (number 0)) (λ o. deadline_effect v o d)))
  expire_beside None d = same (number 0)
  expire_beside (Some o) d = put_beside (record o { deadline = Some d }) (number 1) false (count_fits 1 (lit< tt))

  -- those of an FSET that changes so many fields
  abbrev fset_tests : World → Object → ℕ → Bool → Bool → Effect
  fset_tests u x n a b = within_reply (if a then says (number 0) else unless ((b, refuses refusal.TooManyFields) ∷ (not (fits u (change.Put x)), refuses refusal.DatabaseFull) ∷ []) (changes (number n) (silent (change.Put x) ∷ [])))

  fset_some : (o : Object) (all : List Field) → changed_count o.fields all < 2 ^ 64 → within_reply (fset_effect w o all) ≡ or_full w (within_reply (fset_effect v o all))
  fset_some o all small = by (record o { fields = with_values o.fields all }) (changed_count o.fields all) (count_fits (changed_count o.fields all) small) (changed_count o.fields all == 0) (nat_lt max_fields (length (with_values o.fields all)))
    where
      by : (x : Object) (n : ℕ) → length (frame_text (number n)) ≤ max_reply → (a b : Bool) → fset_tests w x n a b ≡ or_full w (fset_tests v x n a b)
      by x n short true b = same (number 0)
      by x n short false true = refl
      by x n short false false = put_beside x (number n) false short

  fset_beside : (key id : Bytes) (all : List Field) → ((o : Object) → object_at v key id ≡ Some o → changed_count o.fields all < 2 ^ 64)
      → within_reply (with_object w key id (λ o. fset_effect w o all)) ≡ or_full w (within_reply (with_object v key id (λ o. fset_effect v o all)))
  fset_beside key id all counted = by (object_at v key id) refl
    where
      by : (f : Option Object) → object_at v key id ≡ f → within_reply (with_object w key id (λ o. fset_effect w o all)) ≡ or_full w (within_reply (with_object v key id (λ o. fset_effect v o all)))
      by None e = rw e (same (refusal_reply (if list_any (has_key key) os then refusal.IdNotFound else refusal.KeyNotFound)))
      by (Some o) e = rw e (fset_some o all (counted o e))

  -- each command whose put is weighed
  pub beside : (now : ℕ) (c : ObjectCommand) → is_weighed c ≡ true → IsCounted os c
      → effect w now [] (command.Object c) ≡ or_full w (effect v now [] (command.Object c))
  unfolding effect
  beside now (of_object.Set key id given cleared after_ex only text shape) e n = set_beside only (object_at v key id) _
  beside now (of_object.Fset key id given cleared) e n = fset_beside key id (given_and_cleared given cleared) n
  beside now (of_object.Expire key id s) e n = expire_beside (object_at v key id) (now + 1000 * s)
  beside now c e n = absurd (cc)

  -- what is done to the objects, by the weight behind it

  without_less : (key : Bytes) (ids : List Bytes) (xs : List Object) → sum_by len_of (without_each key ids xs) ≤ sum_by len_of xs
  without_less key [] xs = omega arith
  without_less key (id ∷ ids) xs =
      let ih = without_less key ids (filter (λ o. not (is_at key id o)) xs) in
      omega (arith, ih, some_sum (λ o. not (is_at key id o)) xs)

  -- where nothing is put, they weigh no more
  no_heavier : (action : ObjectChange) (is_loud : Bool) → AreLighter (writes_of action is_loud) → weight (world_of (moved os action)) ≤ weight (world_of os)
  no_heavier Stay is_loud calm = omega arith
  no_heavier (Put o) is_loud calm = calm
  no_heavier (Delete key id) is_loud calm = omega (arith, some_sum (λ o. not (is_at key id o)) os, weight_sum os, weight_sum (filter (λ o. not (is_at key id o)) os))
  no_heavier (DeleteEach key ids) is_loud calm = omega (arith, without_less key ids os, weight_sum os, weight_sum (without_each key ids os))
  no_heavier (DropKey key) is_loud calm = omega (arith, some_sum (λ o. not (has_key key o)) os, weight_sum os, weight_sum (filter (λ o. not (has_key key o)) os))
  no_heavier Clear is_loud calm = omega (arith, weight_sum [])

  left_light : (action : ObjectChange) (behind : ℕ) → behind + channels_weight cs ≤ most_kept → behind + channels_weight (channels_left action cs) ≤ most_kept
  left_light Clear behind less = omega (arith, less)
  left_light action behind less = less

  -- a put by the weight behind it, and what puts nothing

  heavy_put : (action : ObjectChange) (is_loud : Bool) (behind : ℕ) → is_put action ≡ true → behind ≡ weight (world_of (moved os action)) → max_weight < behind + channels_weight cs → is_too_heavy w (writes_of action is_loud) ≡ true
  heavy_put (Put o) is_loud behind put is more =
      let over : max_weight < weight (world_with cs (put_in object_before o os)) = omega (arith, is, more, weight_beside cs (put_in object_before o os)) in
      let t : nat_le (weight (world_with cs (put_in object_before o os))) max_weight ≡ false = grind (arith, nat_tests) in
      rw t refl
  heavy_put action is_loud behind put is more = absurd (cc)

  light_put : (action : ObjectChange) (is_loud : Bool) (behind : ℕ) → is_put action ≡ true → behind ≡ weight (world_of (moved os action)) → behind + channels_weight cs ≤ max_weight → is_too_heavy w (writes_of action is_loud) ≡ false
  light_put (Put o) is_loud behind put is less =
      let under : weight (world_with cs (put_in object_before o os)) ≤ max_weight = omega (arith, is, less, weight_beside cs (put_in object_before o os)) in
      let t : nat_le (weight (world_with cs (put_in object_before o os))) max_weight ≡ true = grind (arith, nat_tests) in
      rw t refl
  light_put action is_loud behind put is less = absurd (cc)

  no_put : (action : ObjectChange) (is_loud : Bool) → is_put action ≡ false → (is_too_heavy w (writes_of action is_loud) ≡ false) × AreLighter (writes_of action is_loud)
  no_put (Put o) is_loud put = absurd (cc)
  no_put (DeleteEach key []) is_loud put = (refl, tt)
  no_put (DeleteEach key (id ∷ [])) is_loud put = (refl, tt)
  no_put (DeleteEach key (id ∷ other ∷ ids)) is_loud put = (refl, tt)
  no_put action is_loud put = (refl, tt)

  calm_or : (e : Effect) → is_too_heavy w e.writes ≡ false → or_full w e ≡ e
  calm_or e t = rw t refl

  -- a plan beside the channels, in a world of any weight
  module _ (e : Effect) (plan : Plan) (is : IsPlan os e plan) (total : ℕ) (kept : AreKept os total) (light : total + channels_weight cs ≤ most_kept) where
    writes : writes_of plan.action plan.announced ≡ e.writes
    writes = sym (ap (λ (f : Effect). f.writes) is.is)

    -- its put is refused
    pub heavy_plan : is_put plan.action ≡ true → max_weight < plan.weight + channels_weight cs → (p : Plan) → Says (within_reply (refuses refusal.DatabaseFull)) total p
        → IsPlanBeside cs os (or_full w e) p
    heavy_plan put more p s =
        let t : is_too_heavy w e.writes ≡ true = subst (λ (ws : List Write). is_too_heavy w ws ≡ true) writes (heavy_put plan.action plan.announced plan.weight put is.weight_is more) in
        let full : or_full w e ≡ within_reply (says (refusal_reply refusal.DatabaseFull)) = rw t refl in
        (said os total kept (or_full w e) (refusal_reply refusal.DatabaseFull) p full s, subst (λ (q : Plan). q.weight + channels_weight (channels_left q.action cs) ≤ most_kept) (sym s.is) light)

    -- it stays as it is
    as_it_is : is_too_heavy w e.writes ≡ false → plan.weight + channels_weight cs ≤ most_kept → IsPlanBeside cs os (or_full w e) plan
    as_it_is t less = (subst (λ (f : Effect). IsPlan os f plan) (sym (calm_or e t)) is, left_light plan.action plan.weight less)

    calm_light : AreLighter (writes_of plan.action plan.announced) → plan.weight + channels_weight cs ≤ most_kept
    calm_light calm = let less = no_heavier plan.action plan.announced calm in omega (arith, less, light, is.weight_is, kept.weighed)

    pub light_plan : is_put plan.action ≡ true → plan.weight + channels_weight cs ≤ max_weight → IsPlanBeside cs os (or_full w e) plan
    light_plan put less =
        as_it_is (subst (λ (ws : List Write). is_too_heavy w ws ≡ false) writes (light_put plan.action plan.announced plan.weight put is.weight_is less)) (omega (arith, less))

    pub still_plan : is_put plan.action ≡ false → IsPlanBeside cs os (or_full w e) plan
    still_plan put =
        let none = no_put plan.action plan.announced put in
        as_it_is (subst (λ (ws : List Write). is_too_heavy w ws ≡ false) writes none.0) (calm_light none.1)

    -- that of a command whose put is not weighed
    pub calm_plan : (now : ℕ) (c : ObjectCommand) → is_weighed c ≡ false → e ≡ effect v now [] (command.Object c)
        → IsPlanBeside cs os (effect w now [] (command.Object c)) plan
    calm_plan now c passes same_effect =
        let calm : AreLighter e.writes = subst (λ (f : Effect). AreLighter f.writes) (sym same_effect) (lighter total kept now c passes) in (
          subst (λ (f : Effect). IsPlan os f plan) (same_effect ∙ sym (unweighed now c passes)) is,
          left_light plan.action plan.weight (calm_light (subst AreLighter (sym writes) calm)),
        )

-- no more values change than are given
pub changed_few : (old : List Field) (given : List Field) → changed_count old given ≤ length given
changed_few old [] = omega arith
changed_few old (f ∷ given) =
    let ih = changed_few old given in
    let one = one_at_most (not (same_value (value_of old f.0) f.1)) in
    omega (arith, ih, one, sum_by-cons (λ (g : Field). if not (same_value (value_of old g.0) g.1) then 1 else 0) f given)

pub few_counted : (os : List Object) (key id : Bytes) (given : List Field) (cleared : List Bytes) → length given + length cleared ≤ 2 * max_words → IsCounted os (of_object.Fset key id given cleared)
few_counted os key id given cleared few = λ o e.
    let all = changed_few o.fields (given_and_cleared given cleared) in
    let long = length-append given (map (λ (n : Bytes). (n, zero_value)) cleared) in
    let zeros = length-map {B = Field} cleared (λ (n : Bytes). (n, zero_value)) in
    omega (arith, all, long, zeros, few)
