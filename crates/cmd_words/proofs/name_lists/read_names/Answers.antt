use Rattle.std.proofs.Common.{◌∙◌, ap, List, [], ◌∷◌, ◌++◌}
use Rattle.std.proofs.lemmas.Result.{err_from_is_err_and}
use Rattle.byte_text.specs.Names.{Bytes}
use Rattle.cmd_words.specs.NameLists.{kind_of}
use Rattle.cmd_words.proofs.NameLists.{begun, one_more, first_refused, refused, read_all}
use Rattle.cmd_words.proofs.name_lists.read_names.Goals as goal

pub returns-in_err-first : goal.returns-in_err-first
returns-in_err-first c =
    let p = err_from_is_err_and c.from_residual.result c.from_residual.ensures.1 in
    rw (p.1, p.2) (first_refused (kind_of c.args.kind) c.args.reader.now c.first.new.reader _ c.in_err-first.ensures)

pub names-init : goal.names-init
names-init c = begun (kind_of c.args.kind) c.args.reader.now c.first.new.reader c.in_ok-first.first _ c.in_ok-first.ensures (c.in_ok-push_name.ensures.ok ∙ ap (λ (l : List Bytes). l ++ c.in_ok-first.first ∷ []) c.new-names.ensures)

pub returns-in_err-name : goal.returns-in_err-name
returns-in_err-name c =
    let p = err_from_is_err_and c.from_residual-in_err-name.result c.from_residual-in_err-name.ensures.1 in
    rw (p.1, p.2) (refused (kind_of c.args.kind) c.args.reader.now c.names.reader c.next.new.self c.names.names c.in-Some.word.now c.names.invariant c.in-Some.ensures _ c.in_err-name.ensures)

pub names-preserved : goal.names-preserved
names-preserved c = one_more (kind_of c.args.kind) c.args.reader.now c.names.reader c.next.new.self c.names.names c.in-Some.word.now c.names.invariant c.in-Some.ensures c.in_ok-name.name _ c.in_ok-name.ensures c.in_ok-push_name-2.ensures.ok

pub returns : goal.returns
returns c = read_all (kind_of c.args.kind) c.args.reader.now c.names.reader c.next.new.self c.names.names c.names.invariant c.in_default.ensures
