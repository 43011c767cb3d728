-- Which origins are taken (RFC 6454, "ASCII serialization of an origin").
use Rattle.std.specs.Prelude.{◌&&◌, ◌||◌, ◌==◌, ◌-◌, Bool, true, not, List, [], ◌∷◌, ◌++◌, Option, Some, None, codes, length, take, drop, option_map, nat_eq, if◌then◌else◌}
use Rattle.std.specs.Borrow.{Bor}
use Rattle.std.specs.List.{list_any, starts_with, ends_with}
use Rattle.byte_text.specs.Names.{Bytes, same}

abbrev pub bytes_of : Option (Bor Bytes) → Option Bytes
bytes_of = option_map (λ b. b.now)

-- `localhost`, a colon and a port, where the address ends with that colon and port
abbrev pub is_local : Bytes → Bytes → Bool
is_local host own = starts_with nat_eq host (codes "localhost") && starts_with nat_eq (drop 9 host) (codes ":") && ends_with nat_eq own (drop 9 host)

-- the address without its port, or `localhost`, where the port is 80: an origin leaves that out
abbrev pub is_bare : Bytes → Bytes → Bool
is_bare host own = ends_with nat_eq own (codes ":80") && (same host (take (length own - 3) own) || same host (codes "localhost"))

-- the origin of a page of the server itself
abbrev pub is_own : Bytes → Bytes → Bool
is_own origin own =
    starts_with nat_eq origin (codes "http://") && (same (drop 7 origin) own || is_local (drop 7 origin) own || is_bare (drop 7 origin) own)

-- the parts of a list with a comma between two, of which the first began with `part`
abbrev pub parts_from : Bytes → Bytes → List Bytes
parts_from part [] = part ∷ []
parts_from part (b ∷ bs) = if b == 44 then part ∷ parts_from [] bs else parts_from (part ++ b ∷ []) bs

-- one of the origins that were named, a comma between two
abbrev pub is_named : Bytes → Bytes → Bool
is_named origin named = list_any (same origin) (parts_from [] named)

-- `null` is never taken, nor is an empty one; a request without an origin always is
abbrev pub is_allowed : Option Bytes → Bytes → Bytes → Bool
is_allowed None own named = true
is_allowed (Some origin) own named = not (length origin == 0) && not (same origin (codes "null")) && (is_own origin own || is_named origin named)
