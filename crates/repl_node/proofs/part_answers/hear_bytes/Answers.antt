use Rattle.std.proofs.Common.{refl}
use Rattle.repl_node.proofs.Parts.{fed_behind, fed_broken, fed_whole}
use Rattle.repl_node.proofs.part_answers.hear_bytes.Goals as goal

pub returns-in-Some-clause-comes : goal.returns-in-Some-clause-comes
returns-in-Some-clause-comes c =
    fed_whole c.args.reader.now c.feed.new.self c.args.bytes.now c.in-Ok.fed.taken c.in-Ok.fed.request c.in-Some.request c.in-Some.is
    c.in-Ok.ensures.fed
    c.requests_are_read.ensures.found c.if-taken-bytes.true c.args.node.now c.hear_request.new.node c.hear_request.new.out c.hear_request.result
    c.hear_request.ensures

pub returns-in-Some-2-clause-comes : goal.returns-in-Some-2-clause-comes
returns-in-Some-2-clause-comes c = (
  fed_behind c.args.reader.now c.feed.new.self c.args.bytes.now c.in-Ok.fed.taken c.in-Ok.fed.request c.in-Some.request c.in-Some.is
      c.in-Ok.ensures.fed
      c.stream_laws.ensures.parts c.if-taken-bytes.false c.args.node.now,
  refl,
)

pub returns-in-Err-Broken : goal.returns-in-Err-Broken
returns-in-Err-Broken c = record {
  comes = (
    fed_broken c.stream_laws.ensures.parts c.args.reader.now c.feed.new.self c.args.bytes.now c.in-Err-Broken.field-0 c.in-Err-Broken._fault
        c.in-Err-Broken.field-0-is c.requires.reads c.in-Err-Broken.ensures.fault c.args.node.now,
    refl,
  );
  fit = tt;
}
