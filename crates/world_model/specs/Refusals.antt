-- The texts of refusals.
use Rattle.std.specs.Prelude.{ℕ, ◌&&◌, nat_le, List, ◌++◌, map, if◌then◌else◌, codes}
use Rattle.byte_text.specs.Names.{Bytes}
use Rattle.byte_text.specs.declared.replies.Piece.{Piece}
use Rattle.geo_text.specs.declared.faults.GeoFault.{GeoFault}
use Rattle.geo_text.specs.declared.faults.GeoFault.TheVariants as geo
use Rattle.world_model.specs.Replies.{error}
use Rattle.world_model.specs.declared.faults.WordFault.{WordFault}
use Rattle.world_model.specs.declared.faults.WordFault.TheVariants as fault
use Rattle.world_model.specs.declared.faults.Refusal.{Refusal}
use Rattle.world_model.specs.declared.faults.Refusal.TheVariants as refusal
use Rattle.byte_text.specs.declared.faults.RespFault.{RespFault}
use Rattle.byte_text.specs.declared.faults.RespFault.TheVariants as resp

-- the bytes from a space to `~` as they are, others as `?`
abbrev pub shown_byte : ℕ → ℕ
shown_byte b = if nat_le 32 b && nat_le b 126 then b else 63

abbrev pub in_quotes : Bytes → Bytes
in_quotes w = codes "'" ++ map shown_byte w ++ codes "'"

abbrev pub geo_text : GeoFault → Bytes
geo_text geo.NotJson = codes "not json"
geo_text geo.NotSpatial = codes "not spatial"
geo_text geo.BadType = codes "bad type"
geo_text geo.NotWhole = codes "coordinate is not a whole number"
geo_text geo.OutOfRange = codes "coordinate out of range"
geo_text geo.BadRing = codes "ring is not closed"
geo_text geo.TooFew = codes "too few positions"
geo_text geo.TooMany = codes "too many positions"
geo_text geo.BadPosition = codes "bad position"

abbrev pub fault_text : WordFault → Bytes
fault_text (fault.Unknown w) = codes "unknown command " ++ in_quotes w
fault_text (fault.WrongCount c) = codes "wrong number of arguments for " ++ in_quotes c ++ codes " command"
fault_text (fault.Invalid w) = codes "invalid argument " ++ in_quotes w
fault_text (fault.Fraction w) = codes "coordinate is not a whole number " ++ in_quotes w
fault_text (fault.Geo f) = codes "invalid object: " ++ geo_text f

abbrev pub resp_text : RespFault → Bytes
resp_text resp.BadType = codes "bad type"
resp_text resp.BadLength = codes "bad length"
resp_text resp.BadEnd = codes "bad end"
resp_text resp.TooMany = codes "too many words"
resp_text resp.TooLong = codes "too long"

-- of a command that was read and is not done
abbrev pub refusal_text : Refusal → Bytes
refusal_text refusal.KeyNotFound = codes "key not found"
refusal_text refusal.IdNotFound = codes "id not found"
refusal_text refusal.TooManyFields = codes "too many fields"
refusal_text refusal.TooManyObjects = codes "too many objects"
refusal_text refusal.TooManyChannels = codes "too many channels"
refusal_text refusal.TooManySubscriptions = codes "too many subscriptions"
refusal_text refusal.DatabaseFull = codes "database is full"
refusal_text refusal.ReplyTooLong = codes "reply too long"
refusal_text refusal.Subscribed = codes "only SUBSCRIBE, PSUBSCRIBE, PING and QUIT are served while subscribed"

abbrev pub refusal_reply : Refusal → List Piece
refusal_reply r = error (refusal_text r)

abbrev pub fault_reply : WordFault → List Piece
fault_reply f = error (fault_text f)

abbrev pub broken_reply : RespFault → List Piece
broken_reply f = error (codes "protocol error: " ++ resp_text f)
