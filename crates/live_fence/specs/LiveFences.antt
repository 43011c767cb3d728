-- Live fences: which requests are live, and the requests that such a one becomes.
use Rattle.std.specs.Prelude.{ℕ, Bool, false, ◌&&◌, nat_le, List, [], ◌∷◌, ◌++◌, length, Option, Some, None, is_some, if◌then◌else◌, codes, decimal}
use Rattle.std.specs.List.{list_any}
use Rattle.byte_text.specs.Names.{Bytes, is_word, same}
use Rattle.byte_text.specs.Requests.{total, max_words, max_request}
use Rattle.world_model.specs.Commands.{command_spelled}
use Rattle.live_fence.specs.declared.pairs.LivePair.{LivePair}

-- the channel of a session's live fence: `live/` and the number of the session
abbrev pub live_name : ℕ → Bytes
live_name session = codes "live/" ++ decimal session

-- the searches that may be live
abbrev pub search_names : List Bytes
search_names = codes "WITHIN" ∷ codes "INTERSECTS" ∷ codes "NEARBY" ∷ []

abbrev pub is_search : Bytes → Bool
is_search w = list_any (is_word w) search_names

-- the first word is the name of such a search, in any case
abbrev pub begins_search : List Bytes → Bool
begins_search [] = false
begins_search (w ∷ words) = is_search w

-- the setting of the channel, with the search as its fence
abbrev pub fence_request : ℕ → List Bytes → List Bytes
fence_request session words = codes "SETCHAN" ∷ live_name session ∷ words

abbrev pub listen_request : ℕ → List Bytes
listen_request session = codes "SUBSCRIBE" ∷ live_name session ∷ []

-- the channel's deletion, at the end of the session
abbrev pub end_request : ℕ → List Bytes
end_request session = codes "DELCHAN" ∷ live_name session ∷ []

-- as many words, of as many bytes, as a request has at most
abbrev pub is_within : List Bytes → Bool
is_within words = nat_le (length words) max_words && nat_le (total words) max_request

-- a search is live where its words with SETCHAN and the channel before them are a spelling, within the limits of a request
abbrev pub is_live : ℕ → List Bytes → Bool
is_live session words =
    begins_search words && is_within (fence_request session words) && is_some (command_spelled (fence_request session words))

abbrev pub pair_of : ℕ → List Bytes → LivePair
pair_of session words = record { fence = fence_request session words; listen = listen_request session; end = end_request session }

-- what a request becomes, where it is live
abbrev pub live_pair : ℕ → List Bytes → Option LivePair
live_pair session words = if is_live session words then Some (pair_of session words) else None

-- whatever it goes on with, a request sets the session's channel, in any case of the command's letters
abbrev pub sets_live : ℕ → List Bytes → Bool
sets_live session (command ∷ channel ∷ words) = is_word command (codes "SETCHAN") && same channel (live_name session)
sets_live session words = false
