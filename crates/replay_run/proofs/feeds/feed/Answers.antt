use Rattle.std.proofs.Common.{◌≡◌, Some, None, List, sym, ap, ◌∙◌}
use Rattle.std.specs.Prelude.{position}
use Rattle.ordered_lists.specs.Reading.{got_at}
use Rattle.replay_run.specs.declared.readers.Reader.{Reader}
use Rattle.replay_run.specs.Readers.{is_of}
use Rattle.replay_run.proofs.Present.{IsAt, one_found, none_found}
use Rattle.replay_run.proofs.FeedCalls.{fed_comes, gone_comes}
use Rattle.replay_run.proofs.feeds.feed.Goals as goal

pub returns-in-Some : goal.returns-in-Some
returns-in-Some g c =
    let readers = c.args.readers.now.items in
    let place : position (is_of c.args.session) readers ≡ Some c.in-Some.at = ap (λ (rs : List Reader). position (is_of c.args.session) rs) (sym c.as_slice.ensures.value) ∙ sym c.position_of.ensures ∙ c.in-Some.is in
    let at : IsAt readers c.args.session c.in-Some.at = one_found c.args.session readers c.in-Some.at place in
    let is : c.index_mut.result.now ≡ at.reader = c.index_mut.ensures.value ∙ got_at readers c.in-Some.at at.reader c.index_mut.result.now at.here in
    record { made = fed_comes g.D.Disk.crashes g.D.Disk.seen g.D.Disk.images g.D.Disk.moment g.D.Disk.left_since g.D.Disk.faults c.args.core.now c.feed_reader.new.core readers c.args.session c.args.moment c.args.bytes.now c.in-Some.at c.index_mut.result.now c.feed_reader.new.reader c.feed_reader.result at is c.feed_reader.ensures.session c.feed_reader.ensures.made }

pub returns-in-None : goal.returns-in-None
returns-in-None g c =
    let readers = c.args.readers.now.items in
    let place : position (is_of c.args.session) readers ≡ None = ap (λ (rs : List Reader). position (is_of c.args.session) rs) (sym c.as_slice.ensures.value) ∙ sym c.position_of.ensures ∙ c.in-None.is in
    record { made = gone_comes g.D.Disk.crashes g.D.Disk.seen g.D.Disk.images g.D.Disk.moment g.D.Disk.left_since g.D.Disk.faults c.args.core.now readers c.args.session c.args.moment c.args.bytes.now c.text_of.result (none_found c.args.session readers place).0 c.requires.goes c.text_of.ensures.text c.text_of.ensures.memory }
