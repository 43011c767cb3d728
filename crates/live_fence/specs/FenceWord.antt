-- What shows of a live search before its words are read.
use Rattle.std.specs.Prelude.{Bool, ◌+◌, ◌&&◌, nat_le, List, length, codes}
use Rattle.std.specs.List.{list_any}
use Rattle.byte_text.specs.Names.{Bytes, is_word}
use Rattle.byte_text.specs.Requests.{max_words}
use Rattle.live_fence.specs.LiveFences.{begins_search}

-- one of the words is FENCE, in any case
abbrev pub has_fence : List Bytes → Bool
has_fence words = list_any (λ w. is_word w (codes "FENCE")) words

-- the words may be live: there is room for two more, the first is the name of a search, and one is FENCE
abbrev pub may_be_live : List Bytes → Bool
may_be_live words = nat_le (length words + 2) max_words && begins_search words && has_fence words
