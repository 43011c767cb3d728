-- What is wanted of two things is what is wanted of each.
use Rattle.std.proofs.Common.{◌≡◌, true, List, ◌++◌, filter, map, refl, sym, ap, ◌∙◌}
use Rattle.std.proofs.lemmas.List.{map-append}
use Rattle.std.proofs.lemmas.List.Elements.{filter-append}
use Rattle.std.specs.Prelude.{Option, Some, None}
use Rattle.fence_model.specs.Fences.{wants_detect, raised_by_put}
use Rattle.world_data.specs.declared.objects.Object.{Object}
use Rattle.world_data.specs.declared.channels.Fence.{Fence}
use Rattle.world_data.specs.declared.channels.Wanted.{Wanted}
use Rattle.world_data.specs.declared.channels.Detect.{Detect}
use Rattle.world_data.specs.declared.channels.Raised.{Raised}
use Rattle.world_data.specs.declared.channels.Raised.TheVariants as raised
use Rattle.fence_table.specs.Pairs.{items, detections_of}

-- a pair is its first place and then its second
in_turn : {A : Type 0} (a b : Option A) → items a b ≡ items a None ++ items b None
in_turn None None = refl
in_turn None (Some b) = refl
in_turn (Some a) None = refl
in_turn (Some a) (Some b) = refl

-- what is raised of the things that are wanted
abbrev wanted_of : Wanted → List Detect → List Raised
wanted_of w found = map raised.Set (filter (wants_detect w) found)

split : (w : Wanted) (a b : List Detect) → wanted_of w (a ++ b) ≡ wanted_of w a ++ wanted_of w b
split w a b = ap (map raised.Set) (filter-append (wants_detect w) a b) ∙ map-append raised.Set (filter (wants_detect w) a) (filter (wants_detect w) b)

pub both : (f : Fence) (old : Option Object) (new : Object) (a b : Option Detect) (first second : Option Raised) → f.wanted.set ≡ true
    → items a b ≡ detections_of f old new
    → items first None ≡ map raised.Set (filter (wants_detect f.wanted) (items a None))
    → items second None ≡ map raised.Set (filter (wants_detect f.wanted) (items b None))
    → items first second ≡ map raised.Set (raised_by_put f old new)
both f old new a b first second set is one two =
    let parts : items first second ≡ wanted_of f.wanted (items a None) ++ wanted_of f.wanted (items b None) = rw (in_turn first second, one, two) refl in
    let whole : wanted_of f.wanted (items a b) ≡ wanted_of f.wanted (items a None) ++ wanted_of f.wanted (items b None) = ap (wanted_of f.wanted) (in_turn a b) ∙ split f.wanted (items a None) (items b None) in
    let named : wanted_of f.wanted (items a b) ≡ wanted_of f.wanted (detections_of f old new) = ap (wanted_of f.wanted) is in
    let put : map raised.Set (raised_by_put f old new) ≡ wanted_of f.wanted (detections_of f old new) = rw set refl in
    parts ∙ sym whole ∙ named ∙ sym put
