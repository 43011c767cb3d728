use Rattle.std.proofs.Common.{subst}
use Rattle.std.proofs.lemmas.Result.{err_from_is_err_and}
use Rattle.byte_text.specs.Requests.{FitsRequest}
use Rattle.cmd_words.specs.Progress.{a_name}
use Rattle.cmd_words.specs.Channels.{behind_key}
use Rattle.cmd_words.proofs.Ends.{begun_fails}
use Rattle.cmd_words.proofs.SetchanWords.{fence_refused, area_refused, new_words, setchan_not_ended, setchan_read}
use Rattle.cmd_words.proofs.WordsFit.{setchan_fits}
use Rattle.cmd_words.proofs.setchans.read_setting.Goals as goal

pub returns-in_err-key : goal.returns-in_err-key
returns-in_err-key c =
    let p = err_from_is_err_and c.from_residual.result c.from_residual.ensures.1 in
    rw (p.1, p.2) (begun_fails a_name (behind_key (record { name = c.args.name; after_ex = c.args.seconds }) c.args.kind) c.args.reader.now c.name.new.self _ c.in_err-key.ensures c.requires)

pub returns-in_err-options : goal.returns-in_err-options
returns-in_err-options c =
    let p = err_from_is_err_and c.from_residual-in_err-options.result c.from_residual-in_err-options.ensures.1 in
    rw (p.1, p.2) (fence_refused (record { name = c.args.name; after_ex = c.args.seconds }) c.args.kind c.args.reader.now c.name.new.self c.in_ok-key.key c.in_ok-key.ensures c.requires
    _ (rw c.is_near.ensures at c.in_err-options.ensures.reads))

pub returns-in_err-area : goal.returns-in_err-area
returns-in_err-area c =
    let p = err_from_is_err_and c.from_residual-in_err-area.result c.from_residual-in_err-area.ensures.1 in
    rw (p.1, p.2) (area_refused (record { name = c.args.name; after_ex = c.args.seconds }) c.args.kind c.args.reader.now c.name.new.self c.in_ok-key.key c.in_ok-key.ensures c.requires
    c.read_options.new.reader c.in_ok-options.options (rw c.is_near.ensures at c.in_ok-options.ensures.reads) c.in_ok-options.ensures.apart c.read_fence_area.new.reader _ c.in_err-area.ensures)

pub returns-in_err-end : goal.returns-in_err-end
returns-in_err-end c =
    let p = err_from_is_err_and c.from_residual-in_err-end.result c.from_residual-in_err-end.ensures.1 in
    rw (p.1, p.2) (setchan_not_ended (record { name = c.args.name; after_ex = c.args.seconds }) c.args.kind c.args.reader.now c.name.new.self c.in_ok-key.key c.in_ok-key.ensures c.requires
    c.read_options.new.reader c.in_ok-options.options (rw c.is_near.ensures at c.in_ok-options.ensures.reads) c.read_fence_area.new.reader c.in_ok-area.area c.in_ok-area.ensures _ c.in_err-end.ensures)

pub channel_words-requires : goal.channel_words-requires
channel_words-requires c =
    let o = c.in_ok-options.options in
    let options = rw c.is_near.ensures at c.in_ok-options.ensures.reads in
    let same = new_words (record { name = c.args.name; after_ex = c.args.seconds }) c.args.kind c.args.reader.now c.name.new.self c.in_ok-key.key c.in_ok-key.ensures c.requires
    c.read_options.new.reader o options c.read_fence_area.new.reader c.in_ok-area.area c.in_ok-area.ensures in
    let read = setchan_read (record { name = c.args.name; after_ex = c.args.seconds }) c.args.kind c.args.reader.now c.name.new.self c.in_ok-key.key c.in_ok-key.ensures c.requires
    c.read_options.new.reader o options c.read_fence_area.new.reader c.in_ok-area.area c.in_ok-area.ensures c.in_ok-end.ensures in
    setchan_fits c.args.reader.now (record { name = c.args.name; after_ex = c.args.seconds }) c.args.kind c.in_ok-key.key o c.in_ok-area.area (subst FitsRequest same c.len.ensures.fits) read

pub returns-in-Ok : goal.returns-in-Ok
returns-in-Ok c =
    rw (c.setchan_of.ensures c.in-Ok.ensures) (setchan_read (record { name = c.args.name; after_ex = c.args.seconds }) c.args.kind c.args.reader.now c.name.new.self c.in_ok-key.key c.in_ok-key.ensures c.requires
    c.read_options.new.reader c.in_ok-options.options (rw c.is_near.ensures at c.in_ok-options.ensures.reads) c.read_fence_area.new.reader c.in_ok-area.area c.in_ok-area.ensures c.in_ok-end.ensures)
