use Rattle.std.proofs.Common.{arith, ◌∷◌, [], ◌++◌, ap, ◌∙◌}
use Rattle.byte_text.specs.Names.{Bytes}
use Rattle.cmd_words.proofs.FieldValues.{name_more}
use Rattle.cmd_words.proofs.fields.names_of.Goals as goal

pub loop-at-preserved : goal.loop-at-preserved
loop-at-preserved c = name_more c.args.fields.now c.loop-at.at c.name.result.now c.loop-at.names _ (omega arith) c.name.ensures c.loop-at.invariant
    (c.in_ok-push_name.ensures.ok ∙ ap (λ (n : Bytes). c.loop-at.names ++ n ∷ []) c.in-Ok.ensures)
