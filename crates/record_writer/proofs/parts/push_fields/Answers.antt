use Rattle.std.proofs.Common.{rules, ◌≡◌, ◌++◌, ◌∙◌, [], ap, sym, drop, arith, append-nil, drop_of_length-le}
use Rattle.std.specs.Prelude.{flat_map}
use Rattle.std.specs.List.{list_all}
use Rattle.byte_text.specs.Names.{Bytes}
use Rattle.byte_text.specs.TextLaws.{kept_through}
use Rattle.world_data.specs.Records.{is_kept_field}
use Rattle.record_writer.specs.Texts.{field_text}
use Rattle.record_writer.proofs.Growing.{one_field, one_kept, fields_are}
use Rattle.record_writer.proofs.parts.push_fields.Goals as goal

pub loop-i-preserved : goal.loop-i-preserved
loop-i-preserved c =
    let written : c.push_field.new.into ≡ c.loop-i.into ++ field_text (c.name.result.now, c.value.result.now) = search rules in
    record {
      written = one_field c.args.fields.now c.loop-i.i c.name.result.now c.value.result.now c.loop-i.into c.push_field.new.into (c.args.into.now ++ flat_map field_text c.args.fields.now) (omega (arith, c.loop-i-test.true, c.len-i-end.ensures.count)) c.name.ensures c.value.ensures written c.loop-i.invariant.written;
      are_kept = one_kept c.args.fields.now c.loop-i.i c.name.result.now c.value.result.now (omega (arith, c.loop-i-test.true, c.len-i-end.ensures.count)) c.name.ensures c.value.ensures (search rules) c.loop-i.invariant.are_kept;
      front = kept_through c.args.into.now c.loop-i.into c.push_field.new.into c.loop-i.invariant.front c.push_field.ensures.kept;
    }

pub returns-clause-ok : goal.returns-clause-ok
returns-clause-ok c =
    let fields = c.args.fields.now in
    let none : drop c.loop-i.i fields ≡ [] = drop_of_length-le fields (omega (arith, c.loop-i-test.false, c.len-i-end.ensures.count)) in
    sym (append-nil c.loop-i.into) ∙ ap (λ l. c.loop-i.into ++ flat_map field_text l) (sym none) ∙ c.loop-i.invariant.written ∙ ap (λ (l : Bytes). c.args.into.now ++ l) (fields_are fields)

pub returns-clause-are_kept : goal.returns-clause-are_kept
returns-clause-are_kept c =
    let none : drop c.loop-i.i c.args.fields.now ≡ [] = drop_of_length-le c.args.fields.now (omega (arith, c.loop-i-test.false, c.len-i-end.ensures.count)) in
    sym c.loop-i.invariant.are_kept ∙ ap (list_all is_kept_field) none
