-- Live fences: what a session is asked in place of a live search, what it is shown of its frames, and whether its calls set its live channel.
use Rattle.std.specs.Prelude.{ℕ, Bool, true, false, ◌&&◌, List, [], ◌∷◌, map, flat_map, Option, Some, None}
use Rattle.std.specs.List.{concat, list_any}
use Rattle.byte_text.specs.Names.{Bytes}
use Rattle.world_model.specs.declared.events.Asked.{Asked}
use Rattle.world_model.specs.declared.events.Asked.TheVariants.{Words, Broken}
use Rattle.world_model.specs.declared.events.CallOutcome.{CallOutcome}
use Rattle.world_model.specs.declared.events.CallOutcome.TheVariants as called
use Rattle.live_fence.specs.declared.pairs.LivePair.{LivePair}
use Rattle.live_fence.specs.LiveFences.{live_pair, sets_live}
use Rattle.live_fence.specs.Parts.{shown}
use Rattle.session_run.specs.Calls.{Call}

-- what is asked in place of a request of the session of this number: of a live search the setting of its channel and a subscription to it,
-- of each other request itself
abbrev pub pair_asks : List Bytes → Option LivePair → List Asked
pair_asks words None = Words words ∷ []
pair_asks words (Some pair) = Words pair.fence ∷ Words pair.listen ∷ []

abbrev pub becomes : ℕ → Asked → List Asked
becomes n (Words words) = pair_asks words (live_pair n words)
becomes n (Broken fault) = Broken fault ∷ []

abbrev pub asked_of : ℕ → List Asked → List Asked
asked_of n asks = flat_map (becomes n) asks

-- what the session is shown of frames, one behind another
abbrev pub shown_bytes : ℕ → List Bytes → Bytes
shown_bytes n frames = concat (map (shown n) frames)

-- the request sets the session's live channel
abbrev pub sets_channel : ℕ → Asked → Bool
sets_channel n (Words words) = sets_live n words
sets_channel n (Broken fault) = false

abbrev pub is_ok : CallOutcome → Bool
is_ok called.Ok = true
is_ok answer = false

-- one of the calls set it, and was answered Ok
abbrev pub has_set : ℕ → List Call → Bool
has_set n calls = list_any (λ c. is_ok c.answer && sets_channel n c.asked) calls
