-- Messages that are the text of one request.
use Rattle.std.specs.Prelude.{Bool, true, false, List, [], ◌∷◌, ◌++◌, if◌then◌else◌}
use Rattle.byte_text.specs.Names.{Bytes}
use Rattle.byte_text.specs.Streams.{Front, found, begun, broken, request}
use Rattle.ws_front.specs.declared.talks.Message.{Message}
use Rattle.ws_front.specs.declared.talks.Message.TheVariants as message

-- a whole thing, and nothing behind it
abbrev pub is_whole : {A : Type 0} → Front A → Bool
is_whole (found value []) = true
is_whole (found value (b ∷ behind)) = false
is_whole begun = false
is_whole (broken fault) = false

-- the bytes are the text of one request
abbrev pub is_one_request : Bytes → Bool
is_one_request bytes = is_whole (request bytes)

-- the texts of the requests up to the first message that is not exactly one
abbrev pub request_texts : List Message → Bytes
request_texts [] = []
request_texts (message.Binary bytes ∷ ms) = if is_one_request bytes then bytes ++ request_texts ms else []
request_texts (message.Other ∷ ms) = []
