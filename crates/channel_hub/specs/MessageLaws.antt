-- The messages of a announced change are those of some channels of its key, where the others raise nothing.
use Rattle.std.proofs.Common.{◌≡◌, Bool, true, false, refl, ap, List, [], ◌∷◌, ◌++◌}
use Rattle.std.specs.Prelude.{filter, flat_map, map, ◌&&◌}
use Rattle.std.specs.List.{AllByRecursion}
use Rattle.world_data.specs.declared.channels.Channel.{Channel}
use Rattle.world_data.specs.declared.worlds.World.{World}
use Rattle.world_data.specs.declared.worlds.Change.{Change}
use Rattle.fence_model.specs.Messages.{Message, payloads, key_of, watches, announced_messages}

-- what a announced change raises on a channel
abbrev pub messages_on : World → Change → Channel → List Message
messages_on w change c = map (λ p. (c.name, p)) (payloads w change c)

-- a channel that does not pass the test raises nothing
abbrev pub IsSilentUnless : World → Change → (Channel → Bool) → Channel → Type 0
IsSilentUnless w change test c = test c ≡ false → payloads w change c ≡ []

silent_on : (w : World) (change : Change) (test : Channel → Bool) (c : Channel) → IsSilentUnless w change test c → test c ≡ false
    → messages_on w change c ≡ []
silent_on w change test c silent off = ap (map (λ p. (c.name, p))) (silent off)

-- where the channels of the key that do not pass the test raise nothing, those that pass raise all
pub those_that_pass : (w : World) (change : Change) (test : Channel → Bool) (cs : List Channel) → AllByRecursion (IsSilentUnless w change test) cs
    → flat_map (messages_on w change) (filter (watches (key_of change)) cs)
    ≡ flat_map (messages_on w change) (filter (λ c. watches (key_of change) c && test c) cs)
those_that_pass w change test [] all = refl
those_that_pass w change test (c ∷ cs) all =
    by_tests (watches (key_of change) c) refl (test c) refl (silent_on w change test c all.0) (those_that_pass w change test cs all.1)
  where
    by_tests : (a : Bool) → watches (key_of change) c ≡ a → (b : Bool) → test c ≡ b → (test c ≡ false → messages_on w change c ≡ [])
        → flat_map (messages_on w change) (filter (watches (key_of change)) cs)
        ≡ flat_map (messages_on w change) (filter (λ d. watches (key_of change) d && test d) cs)
        → flat_map (messages_on w change) (filter (watches (key_of change)) (c ∷ cs))
        ≡ flat_map (messages_on w change) (filter (λ d. watches (key_of change) d && test d) (c ∷ cs))
    by_tests false e b f silent ih = rw e ih
    by_tests true e true f silent ih = rw (e, f) (ap (λ (ms : List Message). messages_on w change c ++ ms) ih)
    by_tests true e false f silent ih = rw (e, f, silent f) ih

-- so the messages of a announced change are those of the candidates
pub of_candidates : (w : World) (change : Change) (test : Channel → Bool) → AllByRecursion (IsSilentUnless w change test) w.channels
    → announced_messages w change ≡ flat_map (messages_on w change) (filter (λ c. watches (key_of change) c && test c) w.channels)
of_candidates w change test all = those_that_pass w change test w.channels all
