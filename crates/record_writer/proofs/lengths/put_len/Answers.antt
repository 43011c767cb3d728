use Rattle.std.proofs.Common.{◌≡◌, ◌+◌, ◌*◌, length, ap, ◌∙◌, arith}
use Rattle.byte_text.specs.Names.{Bytes}
use Rattle.byte_text.specs.Lines.{bulk_text}
use Rattle.world_data.specs.Records.{record_reader}
use Rattle.world_data.specs.declared.worlds.Change.TheVariants as change
use Rattle.record_writer.specs.LengthLaws.{put_count, put_sum}
use Rattle.record_writer.proofs.lengths.put_len.Goals as goal

pub returns-clause-value : goal.returns-clause-value
returns-clause-value c =
    let o = c.args.object.now in
    let count : 5 + 3 * c.len.result + c.deadline_count.result ≡ length (record_reader (change.Put o)) = omega (arith, put_count o, c.len.ensures.count, c.deadline_count.ensures.value) in
    put_sum o _ _ _ _ _ _ _ _ _ count c.line_len.ensures.value c.bulk_len-3.ensures.value c.name_len.ensures.value c.name_len-2.ensures.value c.fields_len.ensures.value c.deadline_len.ensures.value c.bulk_len.ensures.value (c.bulk_len-2.ensures.value ∙ ap (λ (t : Bytes). length (bulk_text t)) c.bytes.ensures)
