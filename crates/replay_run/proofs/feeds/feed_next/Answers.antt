use Rattle.std.proofs.Common.{List, [], Option, subst, sym}
use Rattle.std.proofs.lemmas.Result.{err_from_is_err_and}
use Rattle.byte_text.specs.Names.{Bytes}
use Rattle.resp_frames.specs.RequestReader.{IsFed}
use Rattle.durable_core.specs.Logged.{hall_of}
use Rattle.replay_run.specs.Traces.{trace}
use Rattle.replay_run.specs.Scripts.{FedTo}
use Rattle.replay_run.proofs.Feeding.{Laws, rest_step, first_step, last_step, first_fails, last_fails}
use Rattle.replay_run.proofs.Calling.{comes_ok, comes_err, comes_at, comes_still}
use Rattle.replay_run.proofs.feeds.feed_next.Goals as goal

pub returns-in_default-clause-made : goal.returns-in_default-clause-made
returns-in_default-clause-made g c =
    let laws : Laws = record { found_first = c.streams_read_once.ensures.found; begun_rest = c.streams_read_once.ensures.begun; broken_fault = c.streams_read_once.ensures.broken; found_text = c.requests_are_read.ensures.found } in
    let fed = subst (λ (o : Option (List Bytes)). IsFed c.args.reader.now.unread c.feed.new.self c.args.bytes.now c.in-Ok.fed.taken o) c.in_default.is c.in-Ok.ensures.fed in
    let h = hall_of c.args.core.now in
    let done = rest_step laws h h c.args.reader.now.session c.args.moment c.args.reader.now.unread c.feed.new.self c.args.bytes.now c.in-Ok.fed.taken fed in
    let said = subst (λ (z : Bytes). FedTo h c.args.reader.now.session c.args.moment c.args.reader.now.unread c.args.bytes.now (trace [] z) h c.feed.new.self) (sym c.new.ensures) done in
    comes_still g.D.Disk.crashes g.D.Disk.seen g.D.Disk.images g.D.Disk.moment g.D.Disk.left_since g.D.Disk.faults c.args.core.now _ _ _ c.requires.goes said tt

pub returns-in_err-out-in-Ok-clause-made : goal.returns-in_err-out-in-Ok-clause-made
returns-in_err-out-in-Ok-clause-made g c =
    let laws : Laws = record { found_first = c.streams_read_once.ensures.found; begun_rest = c.streams_read_once.ensures.begun; broken_fault = c.streams_read_once.ensures.broken; found_text = c.requests_are_read.ensures.found } in
    let fed = subst (λ (o : Option (List Bytes)). IsFed c.args.reader.now.unread c.feed.new.self c.args.bytes.now c.in-Ok.fed.taken o) c.in-Some.is c.in-Ok.ensures.fed in
    let p = err_from_is_err_and c.from_residual.result c.from_residual.ensures.1 in
    comes_at g.D.Disk.crashes g.D.Disk.seen g.D.Disk.images g.D.Disk.moment g.D.Disk.left_since g.D.Disk.faults c.args.core.now c.call.new.core _ _ c.from_residual.result p.0 _ p.1 p.2
    (comes_err g.D.Disk.crashes g.D.Disk.seen g.D.Disk.images g.D.Disk.moment g.D.Disk.left_since g.D.Disk.faults c.args.core.now c.call.new.core _ _ _ _ _ c.in_err-out-in-Ok.ensures.made
    (λ deeds f. first_fails laws _ (hall_of c.args.core.now) (hall_of c.call.new.core) c.args.reader.now.session c.args.moment deeds c.args.reader.now.unread c.feed.new.self c.args.bytes.now c.in-Ok.fed.taken _ fed f))

pub returns-in_err-out-in-Err-clause-made : goal.returns-in_err-out-in-Err-clause-made
returns-in_err-out-in-Err-clause-made g c =
    let laws : Laws = record { found_first = c.streams_read_once.ensures.found; begun_rest = c.streams_read_once.ensures.begun; broken_fault = c.streams_read_once.ensures.broken; found_text = c.requests_are_read.ensures.found } in
    let p = err_from_is_err_and c.from_residual-in_err-out-in-Err.result c.from_residual-in_err-out-in-Err.ensures.1 in
    comes_at g.D.Disk.crashes g.D.Disk.seen g.D.Disk.images g.D.Disk.moment g.D.Disk.left_since g.D.Disk.faults c.args.core.now c.break_off.new.core _ _ c.from_residual-in_err-out-in-Err.result p.0 _ p.1 p.2
    (comes_err g.D.Disk.crashes g.D.Disk.seen g.D.Disk.images g.D.Disk.moment g.D.Disk.left_since g.D.Disk.faults c.args.core.now c.break_off.new.core _ _ _ _ _ c.in_err-out-in-Err.ensures.made
    (λ deeds f. last_fails laws _ (hall_of c.args.core.now) (hall_of c.break_off.new.core) c.args.reader.now.session c.args.moment deeds c.args.reader.now.unread c.feed.new.self c.args.bytes.now c.in-Err.fault c.in-Err.ensures.fault f))

pub returns-in_ok-out-in-Ok-clause-made : goal.returns-in_ok-out-in-Ok-clause-made
returns-in_ok-out-in-Ok-clause-made g c =
    let laws : Laws = record { found_first = c.streams_read_once.ensures.found; begun_rest = c.streams_read_once.ensures.begun; broken_fault = c.streams_read_once.ensures.broken; found_text = c.requests_are_read.ensures.found } in
    let fed = subst (λ (o : Option (List Bytes)). IsFed c.args.reader.now.unread c.feed.new.self c.args.bytes.now c.in-Ok.fed.taken o) c.in-Some.is c.in-Ok.ensures.fed in
    comes_ok g.D.Disk.crashes g.D.Disk.seen g.D.Disk.images g.D.Disk.moment g.D.Disk.left_since g.D.Disk.faults c.args.core.now c.call.new.core _ _ _ _ _ _ c.in_ok-out-in-Ok.ensures.made
    (λ deeds made. first_step laws (hall_of c.args.core.now) (hall_of c.call.new.core) c.args.reader.now.session c.args.moment c.args.reader.now.unread c.feed.new.self c.args.bytes.now _ c.in-Ok.fed.taken _ fed made)

pub returns-in_ok-out-in-Err-clause-made : goal.returns-in_ok-out-in-Err-clause-made
returns-in_ok-out-in-Err-clause-made g c =
    let laws : Laws = record { found_first = c.streams_read_once.ensures.found; begun_rest = c.streams_read_once.ensures.begun; broken_fault = c.streams_read_once.ensures.broken; found_text = c.requests_are_read.ensures.found } in
    comes_ok g.D.Disk.crashes g.D.Disk.seen g.D.Disk.images g.D.Disk.moment g.D.Disk.left_since g.D.Disk.faults c.args.core.now c.break_off.new.core _ _ _ _ _ _ c.in_ok-out-in-Err.ensures.made
    (λ deeds off. last_step laws (hall_of c.args.core.now) (hall_of c.break_off.new.core) c.args.reader.now.session c.args.moment c.args.reader.now.unread c.feed.new.self c.args.bytes.now _ c.in-Err.fault c.in-Err.ensures.fault off)
