use Rattle.std.proofs.Common.{◌≡◌, ◌+◌, drop}
use Rattle.std.specs.List.{count_by}
use Rattle.websocket.specs.Headers.{fields_of}
use Rattle.ws_front.specs.Greetings.{has_name}
use Rattle.ws_front.proofs.greetings.count_of.Given as goal

abbrev pub invariant-loop-field : goal.invariant-loop-field
invariant-loop-field l =
    l.count + count_by (has_name l.name) (fields_of l.buf (drop l.field-index l.fields)) ≡ count_by (has_name l.name) (fields_of l.buf l.fields)
