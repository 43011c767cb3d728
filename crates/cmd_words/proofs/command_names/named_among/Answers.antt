use Rattle.std.proofs.Common.{rules, ◌≡◌, false, [], get_or}
use Rattle.byte_text.specs.Names.{is_word}
use Rattle.cmd_words.specs.declared.command_names.Row.{Row}
use Rattle.cmd_words.specs.declared.command_names.CommandName.TheVariants as command
use Rattle.cmd_words.specs.declared.command_names.ObjectName.TheVariants as object
use Rattle.cmd_words.proofs.Others.{others_more}
use Rattle.cmd_words.proofs.command_names.named_among.Goals as goal

pub loop-row-preserved : goal.loop-row-preserved
loop-row-preserved c =
    let absent : Row = record { word = record { ref_ptr = (0, 0); now = [] }; name = command.Object object.Set } in
    let other : is_word c.args.called.now (get_or c.args.rows.now c.loop-row.row-index absent).word.now ≡ false = search rules in
    others_more c.args.called.now c.args.rows.now c.loop-row.row-index absent c.loop-row-test.true other c.loop-row.invariant
