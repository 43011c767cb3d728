use Rattle.std.proofs.Common.{◌++◌, ◌+◌, ◌∙◌, ap, get_or, take, drop}
use Rattle.byte_text.specs.Names.{Bytes}
use Rattle.std.proofs.lemmas.Result.{on_ok_weaker}
use Rattle.percent_encoding.specs.Percent.{percent_encode_byte}
use Rattle.script_text.specs.Escaped.{escaped}
use Rattle.script_text.proofs.RunLaws.{run, two_pieces}
use Rattle.script_text.proofs.frame_lines.push_run.Goals as goal

pub returns-clause-ok : goal.returns-clause-ok
returns-clause-ok c =
    let bytes = c.args.bytes.now in
    let at = c.args.at in
    on_ok_weaker c.push-2.result (λ e.
    two_pieces c.args.into.now c.push.new.self c.push-2.new.self (take at bytes) (percent_encode_byte (get_or bytes at 0)) (escaped (drop (at + 1) bytes)) (escaped bytes)
    c.in_ok-push.ensures.ok (e ∙ ap (λ (t : Bytes). c.push.new.self ++ t) (c.as_bytes.ensures.value ∙ c.percent_encode_byte.ensures)) (run bytes at c.requires)) c.push-2.ensures.ok
