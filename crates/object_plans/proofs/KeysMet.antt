-- The keys that KEYS shows.
use Rattle.std.proofs.Common.{◌≡◌, ◌+◌, ◌<◌, ℕ, true, false, refl, sym, ◌∙◌, ap, subst, List, [], ◌∷◌, ◌++◌, length, take, drop, map, arith}
use Rattle.std.specs.Prelude.{filter, slice_get, Some, IfSome}
use Rattle.std.proofs.lemmas.List.{append-nil, map-append, take-append-drop}
use Rattle.std.proofs.lemmas.List.Elements.{filter-append}
use Rattle.byte_text.specs.Names.{Bytes}
use Rattle.byte_text.specs.Globs.{glob_meets}
use Rattle.byte_text.specs.Replies.{array, bulk}
use Rattle.keyspace.specs.Entries.{Entry, has_objects}
use Rattle.world_model.specs.Effects.{effect, says, within_reply}
use Rattle.ordered_lists.specs.Lists.{distinct}
use Rattle.world_data.specs.declared.worlds.World.{World}
use Rattle.world_model.specs.declared.commands.Command.TheVariants as command
use Rattle.world_model.specs.declared.object_commands.ObjectCommand.TheVariants as of_object
use Rattle.byte_text.specs.ListLaws.{item_at, take_next}
use Rattle.object_plans.specs.Listings.{keys_met}

-- the keys that are met among entries and more of them
met_both : (pattern : Bytes) (entries more : List Entry) → keys_met pattern (entries ++ more) ≡ keys_met pattern entries ++ keys_met pattern more
met_both pattern entries more =
    ap (λ es. filter (glob_meets pattern) (map (λ f. f.key) es)) (filter-append has_objects entries more)
    ∙ ap (filter (glob_meets pattern)) (map-append (λ f. f.key) (filter has_objects entries) (filter has_objects more))
    ∙ filter-append (glob_meets pattern) (map (λ f. f.key) (filter has_objects entries)) (map (λ f. f.key) (filter has_objects more))

met_one : (pattern : Bytes) (e : Entry) → has_objects e ≡ true → glob_meets pattern e.key ≡ true → keys_met pattern (e ∷ []) ≡ e.key ∷ []
met_one pattern e h g = rw h (rw g refl)

met_not : (pattern : Bytes) (e : Entry) → has_objects e ≡ true → glob_meets pattern e.key ≡ false → keys_met pattern (e ∷ []) ≡ []
met_not pattern e h g = rw h (rw g refl)

met_empty : (pattern : Bytes) (e : Entry) → has_objects e ≡ false → keys_met pattern (e ∷ []) ≡ []
met_empty pattern e h = rw h refl

module _ (pattern key : Bytes) (entries : List Entry) (i n : ℕ) (within : i < length entries)
    (named : IfSome (slice_get entries i) (λ e. key ≡ e.key)) (counted : IfSome (slice_get entries i) (λ e. n ≡ length e.objects)) where
  entry : (e : Entry) × (slice_get entries i ≡ Some e)
  entry = item_at entries i within

  name_is : key ≡ entry.0.key
  name_is = subst (λ x. IfSome x (λ e. key ≡ e.key)) entry.1 named

  count_is : n ≡ length entry.0.objects
  count_is = subst (λ x. IfSome x (λ e. n ≡ length e.objects)) entry.1 counted

  one_more_met : keys_met pattern (take (i + 1) entries) ≡ keys_met pattern (take i entries) ++ keys_met pattern (entry.0 ∷ [])
  one_more_met = ap (keys_met pattern) (take_next entries i entry.0 entry.1) ∙ met_both pattern (take i entries) (entry.0 ∷ [])

  same_as : {ks : List Bytes} → keys_met pattern (entry.0 ∷ []) ≡ ks → keys_met pattern (take (i + 1) entries) ≡ keys_met pattern (take i entries) ++ ks
  same_as e = one_more_met ∙ ap (λ ks. keys_met pattern (take i entries) ++ ks) e

  some : (0 < n) → has_objects entry.0 ≡ true
  some lt = let size = count_is in grind (arith, lt, size)

  none : n ≡ 0 → has_objects entry.0 ≡ false
  none e = let size = count_is in grind (arith, e, size)

  pub met : 0 < n → glob_meets pattern key ≡ true → keys_met pattern (take (i + 1) entries) ≡ keys_met pattern (take i entries) ++ key ∷ []
  met lt g = rw name_is (same_as (met_one pattern entry.0 (some lt) (subst (λ k. glob_meets pattern k ≡ true) name_is g)))

  pub not_met : 0 < n → glob_meets pattern key ≡ false → keys_met pattern (take (i + 1) entries) ≡ keys_met pattern (take i entries)
  not_met lt g = same_as (met_not pattern entry.0 (some lt) (subst (λ k. glob_meets pattern k ≡ false) name_is g)) ∙ append-nil (keys_met pattern (take i entries))

  pub empty : n ≡ 0 → keys_met pattern (take (i + 1) entries) ≡ keys_met pattern (take i entries)
  empty e = same_as (met_empty pattern entry.0 (none e)) ∙ append-nil (keys_met pattern (take i entries))

-- the keys that are met among the first entries come first
pub met_first : (pattern : Bytes) (entries : List Entry) (n : ℕ) → map bulk (keys_met pattern entries) ≡ map bulk (keys_met pattern (take n entries)) ++ map bulk (keys_met pattern (drop n entries))
met_first pattern entries n = ap (λ es. map bulk (keys_met pattern es)) (sym (take-append-drop n entries)) ∙ ap (map bulk) (met_both pattern (take n entries) (drop n entries)) ∙ map-append bulk (keys_met pattern (take n entries)) (keys_met pattern (drop n entries))

module _ (w : World) (now : ℕ) where
  pub keyed : (pattern : Bytes) (keys : List Bytes) → distinct (map (λ o. o.key) w.objects) ≡ keys
      → effect w now [] (command.Object (of_object.Keys pattern)) ≡ within_reply (says (array (map bulk (filter (glob_meets pattern) keys))))
  unfolding effect
  keyed pattern keys e = rw e refl
