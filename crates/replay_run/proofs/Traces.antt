-- Traces one behind another.
use Rattle.std.proofs.Common.{◌≡◌, ap, ◌∙◌, List, append_assoc}
use Rattle.std.proofs.lemmas.List.{append-nil}
use Rattle.byte_text.specs.Names.{Bytes}
use Rattle.replay_run.specs.Traces.{Deed, Trace, no_trace, joined}

pub same_trace : (t u : Trace) → t.deeds ≡ u.deeds → t.out ≡ u.out → t ≡ u
same_trace t u made printed = ap (λ (z : List Deed). record t { deeds = z }) made ∙ ap (λ (z : Bytes). record u { out = z }) printed

pub joined_assoc : (t u v : Trace) → joined (joined t u) v ≡ joined t (joined u v)
joined_assoc t u v = same_trace (joined (joined t u) v) (joined t (joined u v)) (append_assoc t.deeds u.deeds v.deeds) (append_assoc t.out u.out v.out)

pub joined_nothing : (t : Trace) → joined t no_trace ≡ t
joined_nothing t = same_trace (joined t no_trace) t (append-nil t.deeds) (append-nil t.out)
