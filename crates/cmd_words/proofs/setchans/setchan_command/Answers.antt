use Rattle.std.proofs.lemmas.Result.{err_from_is_err_and}
use Rattle.cmd_words.specs.Progress.{a_name}
use Rattle.cmd_words.specs.Channels.{behind_setchan}
use Rattle.cmd_words.proofs.Ends.{begun_fails}
use Rattle.cmd_words.proofs.SetchanWords.{seconds_refused, kind_refused, key_due, setting_answers}
use Rattle.cmd_words.proofs.setchans.setchan_command.Goals as goal

pub returns-in_err-name : goal.returns-in_err-name
returns-in_err-name c =
    let p = err_from_is_err_and c.from_residual.result c.from_residual.ensures.1 in
    rw (p.1, p.2) (begun_fails a_name behind_setchan c.args.reader.now c.name.new.self _ c.in_err-name.ensures c.requires)

pub returns-in_err-seconds : goal.returns-in_err-seconds
returns-in_err-seconds c =
    let p = err_from_is_err_and c.from_residual-in_err-seconds.result c.from_residual-in_err-seconds.ensures.1 in
    rw (p.1, p.2) (seconds_refused c.args.reader.now c.name.new.self c.in_ok-name.name c.in_ok-name.ensures c.requires c.read_seconds.new.reader _ c.in_err-seconds.ensures)

pub returns-in_err-kind : goal.returns-in_err-kind
returns-in_err-kind c =
    let p = err_from_is_err_and c.from_residual-in_err-kind.result c.from_residual-in_err-kind.ensures.1 in
    rw (p.1, p.2) (kind_refused c.args.reader.now c.name.new.self c.in_ok-name.name c.in_ok-name.ensures c.requires c.read_seconds.new.reader c.in_ok-seconds.seconds c.in_ok-seconds.ensures
    c.read_kind.new.reader _ c.in_err-kind.ensures)

pub read_setting-requires : goal.read_setting-requires
read_setting-requires c =
    key_due c.args.reader.now c.name.new.self c.in_ok-name.name c.in_ok-name.ensures c.requires c.read_seconds.new.reader c.in_ok-seconds.seconds c.in_ok-seconds.ensures
    c.read_kind.new.reader c.in_ok-kind.kind c.in_ok-kind.ensures

pub returns : goal.returns
returns c =
    setting_answers c.args.reader.now c.name.new.self c.in_ok-name.name c.in_ok-name.ensures c.requires c.read_seconds.new.reader c.in_ok-seconds.seconds c.in_ok-seconds.ensures
    c.read_kind.new.reader c.in_ok-kind.kind c.in_ok-kind.ensures _ c.read_setting.ensures
