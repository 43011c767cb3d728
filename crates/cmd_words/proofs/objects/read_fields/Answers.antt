use Rattle.std.proofs.Common.{◌∙◌, ap, List, [], ◌∷◌, ◌++◌}
use Rattle.std.proofs.lemmas.Result.{err_from_is_err_and}
use Rattle.world_data.specs.Filters.{Field}
use Rattle.cmd_words.proofs.FieldLists.{begun, one_more, first_refused, name_refused, value_refused, all_read}
use Rattle.cmd_words.proofs.objects.read_fields.Goals as goal

pub returns-in_err-first-clause-err : goal.returns-in_err-first-clause-err
returns-in_err-first-clause-err c =
    let p = err_from_is_err_and c.from_residual.result c.from_residual.ensures.1 in
    rw (p.1, p.2) (first_refused c.args.reader.now c.field.new.self _ c.in_err-first.ensures)

pub fields-init : goal.fields-init
fields-init c = begun c.args.reader.now c.field.new.self c.in_ok-first.first _ c.in_ok-first.ensures
    (c.in_ok-push_field.ensures.ok ∙ ap (λ (l : List Field). l ++ c.in_ok-first.first ∷ []) c.new-given.ensures.items)

pub returns-in_err-name-clause-err : goal.returns-in_err-name-clause-err
returns-in_err-name-clause-err c =
    let p = err_from_is_err_and c.from_residual-in_err-name.result c.from_residual-in_err-name.ensures.1 in
    rw (p.1, p.2) (name_refused c.args.reader.now c.fields.reader c.next.new.self c.fields.given.items c.in-Some.word.now _ c.fields.invariant c.in-Some.ensures c.in_err-name.ensures)

pub returns-in_err-value-clause-err : goal.returns-in_err-value-clause-err
returns-in_err-value-clause-err c =
    let p = err_from_is_err_and c.from_residual-in_err-value.result c.from_residual-in_err-value.ensures.1 in
    rw (p.1, p.2) (value_refused c.args.reader.now c.fields.reader c.next.new.self c.fields.given.items c.in-Some.word.now c.in_ok-name.name c.fields.invariant c.in-Some.ensures c.in_ok-name.ensures c.value.new.self _ c.in_err-value.ensures)

pub fields-preserved : goal.fields-preserved
fields-preserved c =
    one_more c.args.reader.now c.fields.reader c.next.new.self c.fields.given.items c.in-Some.word.now c.in_ok-name.name c.fields.invariant c.in-Some.ensures c.in_ok-name.ensures c.value.new.self c.in_ok-value.value _ c.in_ok-value.ensures c.in_ok-push_field-2.ensures.ok

pub returns-clause-ok : goal.returns-clause-ok
returns-clause-ok c = all_read c.args.reader.now c.fields.reader c.fields.given.items c.fields.invariant c.in_default.ensures.1
