-- The patterns of a session that a name meets, one after another.
use Rattle.std.proofs.Common.{◌≡◌, ℕ, ◌+◌, Bool, true, false, refl, ◌∙◌, ap, subst, List, [], ◌∷◌, ◌++◌, zero, suc, take, map}
use Rattle.std.specs.Prelude.{Some, filter, slice_get, if◌then◌else◌}
use Rattle.std.specs.List.{AllByRecursion}
use Rattle.std.proofs.lemmas.List.{take_more, map-append}
use Rattle.std.proofs.lemmas.List.Elements.{filter-append}
use Rattle.std.proofs.lemmas.Option.{slice_get_within, get_or_from_slice_get}
use Rattle.byte_text.specs.Names.{Bytes}
use Rattle.fence_model.specs.Messages.{Message}
use Rattle.world_model.specs.Subscriptions.{Sub}
use Rattle.world_model.specs.Halls.{pattern_meets, pattern_frame}

one_more : (subs : List Sub) (i : ℕ) (s : Sub) → slice_get subs i ≡ Some s → take (i + 1) subs ≡ take i subs ++ s ∷ []
one_more subs i s at = take_more subs i s (slice_get_within subs i s at) ∙ ap (λ y. take i subs ++ y ∷ []) (get_or_from_slice_get subs i s s at)

abbrev pub met : Message → List Sub → List Bytes
met m subs = map (λ s. pattern_frame s.word m) (filter (pattern_meets m.0) subs)

alone : (m : Message) (s : Sub) → met m (s ∷ []) ≡ (if pattern_meets m.0 s then pattern_frame s.word m ∷ [] else [])
alone m s = by (pattern_meets m.0 s)
  where
    by : (b : Bool) → map (λ t. pattern_frame t.word m) (if b then s ∷ [] else []) ≡ (if b then pattern_frame s.word m ∷ [] else [])
    by true = refl
    by false = refl

pub met_more : (m : Message) (subs : List Sub) (i : ℕ) (s : Sub) → slice_get subs i ≡ Some s
    → met m (take (i + 1) subs) ≡ met m (take i subs) ++ (if pattern_meets m.0 s then pattern_frame s.word m ∷ [] else [])
met_more m subs i s at =
    ap (met m) (one_more subs i s at)
    ∙ ap (map (λ t. pattern_frame t.word m)) (filter-append (pattern_meets m.0) (take i subs) (s ∷ []))
    ∙ map-append (λ t. pattern_frame t.word m) (filter (pattern_meets m.0) (take i subs)) (filter (pattern_meets m.0) (s ∷ []))
    ∙ ap (λ (fs : List Bytes). met m (take i subs) ++ fs) (alone m s)

pub sound_at : (P : Sub → Type 0) (subs : List Sub) (i : ℕ) (s : Sub) → AllByRecursion P subs → slice_get subs i ≡ Some s → P s
sound_at P [] i s all at = absurd (cc)
sound_at P (x ∷ subs) zero s all at = let is : x ≡ s = cc in subst P is all.0
sound_at P (x ∷ subs) (suc i) s all at = sound_at P subs i s all.1 at
