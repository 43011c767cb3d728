use Rattle.std.proofs.Common.{◌∷◌, sym, ◌∙◌}
use Rattle.std.specs.Prelude.{codes}
use Rattle.record_reader.proofs.OtherRecords.{read_from, no_name_left}
use Rattle.record_reader.proofs.changes.read_record.Goals as goal

pub returns-then-takes : goal.returns-then-takes
returns-then-takes c = read_from c.args.words.now (codes "SET" ∷ c.takes.new.self) c.put_of.result (sym c.new-reader.ensures ∙ c.takes.ensures.taken c.if-takes.true) c.put_of.ensures

pub returns-then-takes-2 : goal.returns-then-takes-2
returns-then-takes-2 c =
    let one = c.takes.ensures.left c.if-takes.false in
    read_from c.args.words.now (codes "DEL" ∷ c.takes-2.new.self) c.del_of.result
    (sym c.new-reader.ensures ∙ sym one.0 ∙ c.takes-2.ensures.taken c.if-takes-2.true) c.del_of.ensures

pub returns-then-takes-3 : goal.returns-then-takes-3
returns-then-takes-3 c =
    let one = c.takes.ensures.left c.if-takes.false in
    let two = c.takes-2.ensures.left c.if-takes-2.false in
    read_from c.args.words.now (codes "DROP" ∷ c.takes-3.new.self) c.drop_of.result
    (sym c.new-reader.ensures ∙ sym one.0 ∙ sym two.0 ∙ c.takes-3.ensures.taken c.if-takes-3.true) c.drop_of.ensures

pub returns-then-takes-4 : goal.returns-then-takes-4
returns-then-takes-4 c =
    let one = c.takes.ensures.left c.if-takes.false in
    let two = c.takes-2.ensures.left c.if-takes-2.false in
    let three = c.takes-3.ensures.left c.if-takes-3.false in
    read_from c.args.words.now (codes "FLUSHDB" ∷ c.takes-4.new.self) c.flush_of.result
    (sym c.new-reader.ensures ∙ sym one.0 ∙ sym two.0 ∙ sym three.0 ∙ c.takes-4.ensures.taken c.if-takes-4.true) c.flush_of.ensures

pub setting_of-requires : goal.setting_of-requires
setting_of-requires c =
    let one = c.takes.ensures.left c.if-takes.false in
    let two = c.takes-2.ensures.left c.if-takes-2.false in
    let three = c.takes-3.ensures.left c.if-takes-3.false in
    let four = c.takes-4.ensures.left c.if-takes-4.false in
    sym c.new-reader.ensures ∙ sym one.0 ∙ sym two.0 ∙ sym three.0 ∙ sym four.0 ∙ c.takes-5.ensures.taken c.if-takes-5.true

pub returns-then-takes-6 : goal.returns-then-takes-6
returns-then-takes-6 c =
    let one = c.takes.ensures.left c.if-takes.false in
    let two = c.takes-2.ensures.left c.if-takes-2.false in
    let three = c.takes-3.ensures.left c.if-takes-3.false in
    let four = c.takes-4.ensures.left c.if-takes-4.false in
    let five = c.takes-5.ensures.left c.if-takes-5.false in
    read_from c.args.words.now (codes "DELCHAN" ∷ c.takes-6.new.self) c.delchan_of.result
    (sym c.new-reader.ensures ∙ sym one.0 ∙ sym two.0 ∙ sym three.0 ∙ sym four.0 ∙ sym five.0 ∙ c.takes-6.ensures.taken c.if-takes-6.true) c.delchan_of.ensures

pub returns : goal.returns
returns c =
    let one = c.takes.ensures.left c.if-takes.false in
    let two = c.takes-2.ensures.left c.if-takes-2.false in
    let three = c.takes-3.ensures.left c.if-takes-3.false in
    let four = c.takes-4.ensures.left c.if-takes-4.false in
    let five = c.takes-5.ensures.left c.if-takes-5.false in
    let six = c.takes-6.ensures.left c.if-takes-6.false in
    no_name_left c.args.words.now c.new-reader.result c.takes.new.self c.takes-2.new.self c.takes-3.new.self c.takes-4.new.self c.takes-5.new.self
    c.new-reader.ensures one two three four five six.1
