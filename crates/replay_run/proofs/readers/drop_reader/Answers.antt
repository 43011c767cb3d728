use Rattle.std.proofs.Common.{◌≡◌, Some, None, List, sym, ap, ◌∙◌}
use Rattle.std.specs.Prelude.{position}
use Rattle.replay_run.specs.declared.readers.Reader.{Reader}
use Rattle.replay_run.specs.Readers.{is_of}
use Rattle.replay_run.proofs.Present.{IsAt, one_found, none_found}
use Rattle.replay_run.proofs.readers.drop_reader.Goals as goal

pub returns-in-Some : goal.returns-in-Some
returns-in-Some c =
    let readers = c.args.readers.now.items in
    let place : position (is_of c.args.session) readers ≡ Some c.in-Some.at = ap (λ (rs : List Reader). position (is_of c.args.session) rs) (sym c.as_slice.ensures.value) ∙ sym c.position_of.ensures ∙ c.in-Some.is in
    let at : IsAt readers c.args.session c.in-Some.at = one_found c.args.session readers c.in-Some.at place in
    c.remove.ensures.items ∙ sym at.dropped

pub returns-in_default : goal.returns-in_default
returns-in_default c =
    let readers = c.args.readers.now.items in
    let place : position (is_of c.args.session) readers ≡ None = ap (λ (rs : List Reader). position (is_of c.args.session) rs) (sym c.as_slice.ensures.value) ∙ sym c.position_of.ensures ∙ c.in_default.is in
    sym (none_found c.args.session readers place).1
