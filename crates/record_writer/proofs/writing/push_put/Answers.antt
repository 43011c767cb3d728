use Rattle.std.proofs.Common.{◌++◌, ◌∙◌, rules, refl, sym, append_assoc}
use Rattle.std.specs.Prelude.{codes, decimal}
use Rattle.std.proofs.lemmas.Result.{on_ok_weaker}
use Rattle.byte_text.specs.Lines.{line, bulk_text}
use Rattle.record_writer.proofs.Counts.{put_text}
use Rattle.record_writer.proofs.writing.push_put.Goals as goal

pub returns-clause-ok : goal.returns-clause-ok
returns-clause-ok c =
    let o = c.args.object.now in
    let into = c.args.into.now in
    let head = line 42 (decimal c.put_count.result) in
    on_ok_weaker c.push_bulk-3.result
    (λ last. put_text o c.put_count.result into (into ++ head) c.push_put_head.new.into c.push_bulk.new.into c.push_bulk-2.new.into
    c.push_fields.new.into c.push_deadline.new.into c.push_object_word.new.into c.push_bulk-3.new.into
    c.put_count.ensures refl (c.in_ok-push_put_head.ensures.ok ∙ sym (append_assoc into head (bulk_text (codes "SET"))))
    (search rules) (search rules) (search rules) (search rules) (search rules) last)
    (search rules)
