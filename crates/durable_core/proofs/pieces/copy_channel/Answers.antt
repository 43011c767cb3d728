use Rattle.std.proofs.Common.{ap, refl, sym}
use Rattle.world_data.specs.declared.worlds.Change.TheVariants.{SetChan}
use Rattle.world_store.specs.Copies.{is_next_channel, name_in}
use Rattle.durable_core.specs.declared.rewritings.LastCopied.TheVariants as last
use Rattle.durable_core.proofs.Taking.{none_left, one_left, put_record}
use Rattle.durable_core.proofs.pieces.copy_channel.Goals as goal

pub returns-in_default-clause-took : goal.returns-in_default-clause-took
returns-in_default-clause-took c = (none_left (is_next_channel (name_in c.args.after)) c.args.core.now.hall.world.channels (sym c.in_default.ensures.next), refl)

pub returns-clause-took : goal.returns-clause-took
returns-clause-took c =
    let left = one_left (is_next_channel (name_in c.args.after)) c.args.core.now.hall.world.channels c.in-Some.channel.now (sym c.in-Some.ensures.next) in
    record {
      first = c.in-Some.channel.now;
      rest = left.0;
      left_is = left.1;
      last_is = ap last.Channel c.in_ok-copy.ensures;
      recorded = c.in_ok-push_channel.ensures.recorded;
      records = put_record c.args.piece.now.records c.push.new.self.records c.bytes.result.now c.push_channel.new.into c.new-record.result (SetChan c.in-Some.channel.now) c.in_ok-push.ensures.ok c.bytes.ensures
          c.in_ok-push_channel.ensures.text c.new-record.ensures;
      items = c.in_ok-push.ensures.items;
    }
