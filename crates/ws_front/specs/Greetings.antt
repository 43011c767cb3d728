-- What the first bytes of a link that speaks HTTP come to.
use Rattle.std.specs.Prelude.{◌≡◌, ◌<◌, ◌≤◌, ◌⊎◌, ℕ, Bool, List, codes, length, drop, map, bytes_eq, Ok, Err, Option, Some, None, IsSome}
use Rattle.std.specs.List.{count_by}
use Rattle.httparse.specs.Grammar.{RequestHead, ReadsRequest, HasNoRequest, MayBecomeRequest}
use Rattle.httparse.specs.Spans.{RequestOverflows, name_and_value}
use Rattle.websocket.specs.Headers.{Fields, eq_ignore_case, header_value}
use Rattle.websocket.specs.Handshake.{Answers, requested_key}
use Rattle.websocket.specs.declared.handshake.failure.HandshakeError.{HandshakeError}
use Rattle.byte_text.specs.Names.{Bytes}
use Rattle.ws_front.specs.Heads.{answer_of}
use Rattle.ws_front.specs.declared.greetings.Greeting.{Greeting}
use Rattle.ws_front.specs.declared.greetings.Greeting.TheVariants as greeting
use Rattle.ws_front.specs.declared.heads.Answer.{Answer}
use Rattle.ws_front.specs.declared.heads.Answer.TheVariants as answer
use Rattle.ws_front.specs.declared.heads.Upgrade.{Upgrade}
use Rattle.ws_front.specs.declared.heads.Upgrade.TheVariants as upgrade

-- the field has this name, in any case of its letters
abbrev pub has_name : Bytes → Bytes × Bytes → Bool
has_name name field = eq_ignore_case field.0 name

-- what a head of this method, minor version and fields asks for: a WebSocket where it has a field Upgrade (RFC 6455, 4.2.1)
abbrev pub Asks : Bytes → ℕ → Fields → Upgrade → Type 0
Asks method minor fields upgrade.None = header_value fields (codes "Upgrade") ≡ None
Asks method minor fields (upgrade.WebSocket key) = IsSome (header_value fields (codes "Upgrade")) × Answers (Ok key) (requested_key method minor fields)
Asks method minor fields upgrade.Wrong = IsSome (header_value fields (codes "Upgrade")) × ((e : HandshakeError) × Answers (Err e) (requested_key method minor fields))

-- a head with more than one field Origin is refused; any other is answered by what it says and asks for
abbrev pub AnswersHead : Bytes → Bytes → ℕ → Fields → Bytes → Bytes → Answer → Type 0
AnswersHead method path minor fields own named told =
    ((1 < count_by (has_name (codes "Origin")) fields) × (told ≡ answer.BadRequest))
    ⊎ ((count_by (has_name (codes "Origin")) fields ≤ 1) × ((asked : Upgrade) × Asks method minor fields asked
    × (told ≡ answer_of (bytes_eq method (codes "GET")) path (header_value fields (codes "Origin")) asked own named)))

-- no head yet, but there may be one; a head, which is answered; or no head, where these are 65,536 bytes or a head has more than 64 fields
-- whatever follows
abbrev pub Greets : Bytes → Bytes → Bytes → Greeting → Type 0
Greets bytes own named greeting.Begun = HasNoRequest bytes × MayBecomeRequest bytes × (length bytes < 65536)
Greets bytes own named (greeting.Whole told len) =
    (h : RequestHead) × ReadsRequest bytes h (drop len bytes) × AnswersHead h.method h.target h.minor (map name_and_value h.fields) own named told
Greets bytes own named greeting.Broken = (HasNoRequest bytes × (65536 ≤ length bytes)) ⊎ RequestOverflows 64 bytes
