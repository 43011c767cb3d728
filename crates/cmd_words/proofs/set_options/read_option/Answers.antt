use Rattle.std.proofs.Common.{ap, sym, subst, ◌<◌, length}
use Rattle.std.specs.Prelude.{Some}
use Rattle.std.proofs.lemmas.Result.{err_from_is_err_and}
use Rattle.world_model.specs.Commands.{SetOptions}
use Rattle.world_model.specs.declared.object_commands.Only.TheVariants.{Absent, Present}
use Rattle.cmd_words.specs.Sets.{Goes}
use Rattle.cmd_words.proofs.OptionWords.{field_read, field_refused, seconds_read, seconds_refused, absent_read, present_read}
use Rattle.cmd_words.proofs.set_options.read_option.Goals as goal

pub returns-in_err-field-in-Some-Field : goal.returns-in_err-field-in-Some-Field
returns-in_err-field-in-Some-Field c =
    let p = err_from_is_err_and c.from_residual.result c.from_residual.ensures.1 in
    let t = rw c.in-Some-Field.field-0-is at c.in-Some-Field.ensures in
    rw (p.1, p.2) (field_refused c.args.options.now c.args.reader.now c.option_word.new.reader c.field.new.self t.1 t.3 _ (t.2, t.0) c.in_err-field-in-Some-Field.ensures)

pub returns-in_err-seconds-in-Some-Seconds : goal.returns-in_err-seconds-in-Some-Seconds
returns-in_err-seconds-in-Some-Seconds c =
    let p = err_from_is_err_and c.from_residual-in_err-seconds-in-Some-Seconds.result c.from_residual-in_err-seconds-in-Some-Seconds.ensures.1 in
    let t = rw c.in-Some-Seconds.field-0-is at c.in-Some-Seconds.ensures in
    rw (p.1, p.2) (seconds_refused c.args.options.now c.args.reader.now c.option_word.new.reader c.seconds.new.self t.1 t.3 _ (t.2, t.0) c.in_err-seconds-in-Some-Seconds.ensures)

pub returns-in_ok-push-in-Some-Field : goal.returns-in_ok-push-in-Some-Field
returns-in_ok-push-in-Some-Field c =
    let t = rw c.in-Some-Field.field-0-is at c.in-Some-Field.ensures in
    rw c.in_ok-push-in-Some-Field.ensures.ok (field_read c.args.options.now c.args.reader.now c.option_word.new.reader c.field.new.self t.1 t.3 c.in_ok-field-in-Some-Field.field (t.2, t.0) c.in_ok-field-in-Some-Field.ensures)

pub returns-in_ok-seconds-in-Some-Seconds : goal.returns-in_ok-seconds-in-Some-Seconds
returns-in_ok-seconds-in-Some-Seconds c =
    let t = rw c.in-Some-Seconds.field-0-is at c.in-Some-Seconds.ensures in
    subst (λ (p : SetOptions). Goes c.args.options.now p c.args.reader.now c.seconds.new.self × (length c.seconds.new.self.left < length c.args.reader.now.left))
    (ap (λ (x : SetOptions). record x { after_ex = Some c.in_ok-seconds-in-Some-Seconds.seconds }) (sym c.options.view_is))
    (seconds_read c.args.options.now c.args.reader.now c.option_word.new.reader c.seconds.new.self t.1 t.3 c.in_ok-seconds-in-Some-Seconds.seconds (t.2, t.0) c.in_ok-seconds-in-Some-Seconds.ensures)

pub returns-in-Some-Absent : goal.returns-in-Some-Absent
returns-in-Some-Absent c =
    let t = rw c.in-Some-Absent.field-0-is at c.in-Some-Absent.ensures in
    subst (λ (p : SetOptions). Goes c.args.options.now p c.args.reader.now c.option_word.new.reader × (length c.option_word.new.reader.left < length c.args.reader.now.left))
    (ap (λ (x : SetOptions). record x { only = Some Absent }) (sym c.options.view_is))
    (absent_read c.args.options.now c.args.reader.now c.option_word.new.reader c.option_word.new.reader t.1 t.3 (t.2, t.0))

pub returns-in-Some-Present : goal.returns-in-Some-Present
returns-in-Some-Present c =
    let t = rw c.in-Some-Present.field-0-is at c.in-Some-Present.ensures in
    subst (λ (p : SetOptions). Goes c.args.options.now p c.args.reader.now c.option_word.new.reader × (length c.option_word.new.reader.left < length c.args.reader.now.left))
    (ap (λ (x : SetOptions). record x { only = Some Present }) (sym c.options.view_is))
    (present_read c.args.options.now c.args.reader.now c.option_word.new.reader c.option_word.new.reader t.1 t.3 (t.2, t.0))
