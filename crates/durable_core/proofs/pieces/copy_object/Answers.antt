use Rattle.std.proofs.Common.{◌∙◌, ap, refl, sym}
use Rattle.byte_text.specs.Names.{Bytes}
use Rattle.world_data.specs.declared.worlds.Change.TheVariants.{Put}
use Rattle.world_store.specs.Copies.{is_next_object, place_in}
use Rattle.durable_core.specs.declared.rewritings.LastCopied.TheVariants as last
use Rattle.durable_core.proofs.Taking.{none_left, one_left, put_record}
use Rattle.durable_core.proofs.pieces.copy_object.Goals as goal

pub returns-in_default-clause-took : goal.returns-in_default-clause-took
returns-in_default-clause-took c = (none_left (is_next_object (place_in c.args.after)) c.args.core.now.hall.world.objects (sym c.in_default.ensures.next), refl)

pub returns-clause-took : goal.returns-clause-took
returns-clause-took c =
    let o = c.in-Some.object.now in
    let left = one_left (is_next_object (place_in c.args.after)) c.args.core.now.hall.world.objects o (sym c.in-Some.ensures.next) in
    record {
      first = o;
      rest = left.0;
      left_is = left.1;
      last_is = ap (λ (k : Bytes). last.Object k c.in_ok-copy-2.field-0) c.in_ok-copy.ensures ∙ ap (λ (i : Bytes). last.Object o.key i) c.in_ok-copy-2.ensures;
      recorded = c.in_ok-push_object.ensures.recorded;
      records = put_record c.args.piece.now.records c.push.new.self.records c.bytes.result.now c.push_object.new.into c.new-record.result (Put o) c.in_ok-push.ensures.ok c.bytes.ensures
          c.in_ok-push_object.ensures.text c.new-record.ensures;
      items = c.in_ok-push.ensures.items;
    }
