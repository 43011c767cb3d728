-- The words that ask for a rewriting of the log.
use Rattle.std.specs.Prelude.{Bool, false, not, ◌&&◌, List, [], ◌∷◌, Option, codes}
use Rattle.byte_text.specs.Names.{Bytes, is_word}
use Rattle.world_model.specs.Halls.{Session}
use Rattle.world_model.specs.declared.events.Asked.{Asked}
use Rattle.world_model.specs.declared.events.Asked.TheVariants.{Words, Broken}
use Rattle.tile_core.specs.Subscribers.{has_subscriptions}

-- the words are AOFSHRINK alone
abbrev pub are_shrink : List Bytes → Bool
are_shrink [] = false
are_shrink (called ∷ []) = is_word called (codes "AOFSHRINK")
are_shrink (called ∷ word ∷ words) = false

abbrev pub asks_rewriting : Asked → Bool
asks_rewriting (Words words) = are_shrink words
asks_rewriting (Broken fault) = false

-- a session that asks for a rewriting is served it, unless it holds subscriptions
abbrev pub is_served_rewriting : Option Session → Asked → Bool
is_served_rewriting session asked = asks_rewriting asked && not (has_subscriptions session)
