-- What the commands on objects do.
use Rattle.std.specs.Prelude.{ℕ, ◌+◌, ◌*◌, Bool, false, not, ◌&&◌, ◌==◌, nat_lt, nat_le, List, [], ◌∷◌, ◌++◌, length, filter, map, count_by}
use Rattle.std.specs.Prelude.{Option, Some, None, is_some, is_none, if◌then◌else◌}
use Rattle.std.specs.List.{list_any}
use Rattle.byte_text.specs.Names.{Bytes}
use Rattle.byte_text.specs.Globs.{glob_meets}
use Rattle.byte_text.specs.Replies.{array, bulk, number, fine}
use Rattle.ordered_lists.specs.Lists.{distinct}
use Rattle.world_data.specs.Limits.{max_fields, max_objects}
use Rattle.world_data.specs.Worlds.{object_at, objects_of, has_key}
use Rattle.world_data.specs.Filters.{Field, with_values, value_of, same_value, zero_value}
use Rattle.fence_model.specs.Writes.{announced, silent, dels}
use Rattle.world_model.specs.declared.faults.Refusal.TheVariants as refusal
use Rattle.world_model.specs.Replies.{null, value_reply, integer_reply, object_reply, fields_reply, bounds_of_key, stats_of_key, seconds_left}
use Rattle.world_model.specs.Replies.{no_object}
use Rattle.world_data.specs.declared.objects.Object.{Object}
use Rattle.world_data.specs.declared.worlds.World.{World}
use Rattle.world_data.specs.declared.worlds.Change.TheVariants as change
use Rattle.world_model.specs.declared.object_commands.Only.{Only}
use Rattle.world_model.specs.declared.object_commands.Only.TheVariants.{Any, Absent, Present}
use Rattle.world_model.specs.declared.object_commands.ObjectCommand.{ObjectCommand}
use Rattle.world_model.specs.declared.object_commands.ObjectCommand.TheVariants as of_object
use Rattle.world_model.specs.EffectParts.{Effect, says, changes, refuses, unless, fits, with_object, if_object, deadline_after}

abbrev pub fields_of : Option Object → List Field
fields_of None = []
fields_of (Some o) = o.fields

-- NX with the object there, or XX without it
abbrev pub is_kept_back : Only → Option Object → Bool
is_kept_back Any old = false
is_kept_back Absent old = is_some old
is_kept_back Present old = is_none old

-- the values that are given, 0 too
abbrev pub given_and_cleared : List Field → List Bytes → List Field
given_and_cleared given cleared = given ++ map (λ n. (n, zero_value)) cleared

-- SET of the object o, where `old` stands in its place
abbrev pub put_effect : World → Only → Option Object → Object → Effect
put_effect w only old o = unless (
    (is_kept_back only old, says null) ∷
    (nat_lt max_fields (length o.fields), refuses refusal.TooManyFields) ∷
    (is_none old && nat_le max_objects (length w.objects), refuses refusal.TooManyObjects) ∷
    (not (fits w (change.Put o)), refuses refusal.DatabaseFull) ∷ [])
    (changes fine (announced (change.Put o) ∷ []))

-- how many fields have another value
abbrev pub changed_count : List Field → List Field → ℕ
changed_count old given = count_by (λ f. not (same_value (value_of old f.0) f.1)) given

-- FSET: where no value changes there is no change
abbrev pub fset_effect : World → Object → List Field → Effect
fset_effect w old given = let o : Object = record old { fields = with_values old.fields given } in
    if changed_count old.fields given == 0 then says (number 0) else
    unless (
    (nat_lt max_fields (length o.fields), refuses refusal.TooManyFields) ∷
    (not (fits w (change.Put o)), refuses refusal.DatabaseFull) ∷ [])
    (changes (number (changed_count old.fields given)) (silent (change.Put o) ∷ []))

-- EXPIRE
abbrev pub deadline_effect : World → Object → ℕ → Effect
deadline_effect w old d = let o : Object = record old { deadline = Some d } in
    unless ((not (fits w (change.Put o)), refuses refusal.DatabaseFull) ∷ []) (changes (number 1) (silent (change.Put o) ∷ []))

-- PERSIST
abbrev pub persist_effect : Object → Effect
persist_effect o = if is_some o.deadline then changes (number 1) (silent (change.Put (record o { deadline = None })) ∷ []) else says (number 0)

-- what a command on objects does in a world at a moment
abbrev pub object_effect : World → ℕ → ObjectCommand → Effect
object_effect w now (of_object.Set key id given cleared after_ex only text shape) = let old = object_at w key id in
    put_effect w only old
    (record {
      key = key;
      id = id;
      text = text;
      shape = shape;
      fields = with_values (fields_of old) (given_and_cleared given cleared);
      deadline = deadline_after now after_ex;
    })
object_effect w now (of_object.Get key id with_fields how) = if_object (object_at w key id) (says null)
    (λ o. says (if with_fields then array (object_reply how o ∷ fields_reply o.fields ∷ []) else object_reply how o))
object_effect w now (of_object.Del key id) = if_object (object_at w key id) (says (number 0)) (λ o. changes (number 1) (dels (o ∷ [])))
object_effect w now (of_object.Pdel key glob) = let gone = filter (λ o. glob_meets glob o.id) (objects_of w key) in
    changes (number (length gone)) (dels gone)
object_effect w now (of_object.Drop key) = if list_any (has_key key) w.objects then changes (number 1) (announced (change.Drop key) ∷ [])
    else says (number 0)
object_effect w now (of_object.Fset key id given cleared) = with_object w key id (λ o. fset_effect w o (given_and_cleared given cleared))
object_effect w now (of_object.Fget key id field) = with_object w key id (λ o. says (value_reply (value_of o.fields field)))
object_effect w now (of_object.Expire key id s) = if_object (object_at w key id) (says (number 0)) (λ o. deadline_effect w o (now + 1000 * s))
object_effect w now (of_object.Persist key id) = if_object (object_at w key id) (says (number 0)) persist_effect
object_effect w now (of_object.Ttl key id) =
    if_object (object_at w key id) (says (integer_reply no_object)) (λ o. says (integer_reply (seconds_left now o.deadline)))
object_effect w now (of_object.Keys glob) = says (array (map bulk (filter (glob_meets glob) (distinct (map (λ o. o.key) w.objects)))))
object_effect w now (of_object.Bounds key) = says (bounds_of_key (objects_of w key))
object_effect w now (of_object.Stats keys) = says (array (map (λ key. stats_of_key (objects_of w key)) keys))
object_effect w now of_object.Flush = changes fine (silent change.Flush ∷ [])
object_effect w now of_object.Shrink = says fine
