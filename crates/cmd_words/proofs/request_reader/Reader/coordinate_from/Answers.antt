use Rattle.std.proofs.Math.Facts.{to_z-of_z}
use Rattle.world_model.specs.Grammar.{a_coordinate}
use Rattle.cmd_words.specs.Sets.{coordinate_of}
use Rattle.cmd_words.proofs.Ends.{one_found, one_lacks}
use Rattle.cmd_words.proofs.Ahead.{beside_found, beside_absent}
use Rattle.cmd_words.proofs.request_reader.Reader.coordinate_from.Goals as goal

pub returns-in-Some-clause-reads : goal.returns-in-Some-clause-reads
returns-in-Some-clause-reads c = one_found a_coordinate (coordinate_of c.args.low) c.args.self.now c.next.new.self c.in-Some.word.now c.read_coordinate.result c.in-Some.ensures (rw (to_z-of_z c.ranges.low) at c.read_coordinate.ensures.one)

pub returns-in-None-clause-reads : goal.returns-in-None-clause-reads
returns-in-None-clause-reads c = one_lacks a_coordinate (coordinate_of c.args.low) c.args.self.now c.next.new.self c.wrong_count.result c.in-None.ensures c.wrong_count.ensures

pub returns-in-Some-clause-beside : goal.returns-in-Some-clause-beside
returns-in-Some-clause-beside c = beside_found (coordinate_of c.args.low) c.args.self.now c.next.new.self c.in-Some.word.now c.read_coordinate.result c.in-Some.ensures (rw (to_z-of_z c.ranges.low) at c.read_coordinate.ensures.one)

pub returns-in-None-clause-beside : goal.returns-in-None-clause-beside
returns-in-None-clause-beside c = beside_absent (coordinate_of c.args.low) c.args.self.now c.next.new.self c.wrong_count.result c.in-None.ensures c.wrong_count.ensures
