-- What is told object by object is what the definition lists.
use Rattle.std.proofs.Common.{◌≡◌, ℕ, Bool, true, false, List, [], ◌∷◌, ◌++◌, map, refl, ap, ◌∙◌}
use Rattle.std.specs.Prelude.{Option, Some, None, option_map, filter_map, if◌then◌else◌}
use Rattle.std.specs.List.{cons_option}
use Rattle.byte_text.specs.Names.{Bytes}
use Rattle.fence_model.specs.Fences.{is_near, was_near, roamed, pair_of, targets, meets_fence}
use Rattle.world_data.specs.declared.channels.Fence.{Fence}
use Rattle.world_data.specs.declared.channels.Watch.TheVariants.{Roam}
use Rattle.world_data.specs.declared.objects.Object.{Object}
use Rattle.world_data.specs.declared.channels.Detect.{Detect}
use Rattle.roam_fence.specs.Pairs.{is_near_now, is_target, noted, shown, shown_pairs, told_of_all}

one_noted : (t : Object) (d : Option Detect) (rest : List (Object × Detect)) → map shown (cons_option (option_map (λ e. (t, e)) d) rest) ≡ noted t (option_map is_near_now d) ++ map shown rest
one_noted t None rest = refl
one_noted t (Some d) rest = refl

pub told_is : (pattern : Bytes) (meters : ℕ) (nodwell : Bool) (old : Option Object) (new : Object) (objects : List Object)
    → map shown (filter_map (pair_of meters nodwell old new) (targets pattern new objects)) ≡ told_of_all pattern meters nodwell old new objects
told_is pattern meters nodwell old new [] = refl
told_is pattern meters nodwell old new (t ∷ ts) = by_test (told_is pattern meters nodwell old new ts) (is_target pattern new t)
  where
    detect : Option Detect
    detect = roamed nodwell (was_near meters old t) (is_near meters new t)

    by_test : map shown (filter_map (pair_of meters nodwell old new) (targets pattern new ts)) ≡ told_of_all pattern meters nodwell old new ts → (b : Bool)
        → map shown (filter_map (pair_of meters nodwell old new) (if b then t ∷ targets pattern new ts else targets pattern new ts))
        ≡ noted t (if b then option_map is_near_now detect else None) ++ told_of_all pattern meters nodwell old new ts
    by_test rest true = one_noted t detect (filter_map (pair_of meters nodwell old new) (targets pattern new ts)) ∙ ap (λ (x : List (Bytes × Bool)). noted t (option_map is_near_now detect) ++ x) rest
    by_test rest false = rest

-- of an object that meets the fence, for a fence that roams
pub roam_pairs : (f : Fence) (key pattern : Bytes) (meters : ℕ) (nodwell : Bool) (old : Option Object) (new : Object) (objects : List Object)
    → f.watch ≡ Roam key pattern meters nodwell → meets_fence f new ≡ true → shown_pairs f old new objects ≡ told_of_all pattern meters nodwell old new objects
roam_pairs f key pattern meters nodwell old new objects is meets = rw (meets, is) (told_is pattern meters nodwell old new objects)
