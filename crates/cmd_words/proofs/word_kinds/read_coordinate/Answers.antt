use Rattle.std.proofs.Common.{sym, rules, ◌<ℤ◌}
use Rattle.world_model.specs.Grammar.{a_coordinate}
use Rattle.cmd_words.specs.Sets.{coordinate_of}
use Rattle.cmd_words.proofs.Coordinates.{coordinate_below, no_number, not_one}
use Rattle.cmd_words.proofs.word_kinds.read_coordinate.Goals as goal

pub returns-then-n-low-clause-one : goal.returns-then-n-low-clause-one
returns-then-n-low-clause-one c =
    let less : c.in-Ok.n <ℤ c.args.low = search rules in
    not_one a_coordinate (coordinate_of c.args.low) c.args.word.now c.no_coordinate.result (coordinate_below c.args.low c.in-Ok.n c.args.word.now (sym c.in-Ok.ensures.reads) less) c.no_coordinate.ensures

pub returns-in-Err-clause-one : goal.returns-in-Err-clause-one
returns-in-Err-clause-one c =
    not_one a_coordinate (coordinate_of c.args.low) c.args.word.now c.no_coordinate-in-Err.result (no_number c.args.low c.args.word.now _ (search rules) (sym c.in-Err.ensures.reads)) c.no_coordinate-in-Err.ensures
