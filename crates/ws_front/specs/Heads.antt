-- What the head of an HTTP request is answered.
use Rattle.std.specs.Prelude.{Bool, List, Option, codes, not, if◌then◌else◌}
use Rattle.byte_text.specs.Names.{Bytes, same}
use Rattle.ws_front.specs.Origins.{is_allowed}
use Rattle.ws_front.specs.declared.heads.Answer.{Answer}
use Rattle.ws_front.specs.declared.heads.Answer.TheVariants as answer
use Rattle.ws_front.specs.declared.heads.Upgrade.{Upgrade}
use Rattle.ws_front.specs.declared.heads.Upgrade.TheVariants as upgrade

abbrev pub answer_by : Upgrade → Answer
answer_by upgrade.None = answer.Page
answer_by (upgrade.WebSocket key) = answer.WebSocket key
answer_by upgrade.Wrong = answer.BadRequest

-- the method first, then the origin, and then what is asked for
abbrev pub answer_of : Bool → Bytes → Option Bytes → Upgrade → Bytes → Bytes → Answer
answer_of is_get path origin asked own named =
    if not is_get then answer.BadRequest else
    if not (is_allowed origin own named) then answer.Forbidden else
    if not (same path (codes "/")) then answer.NotFound else answer_by asked
