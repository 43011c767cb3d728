use Rattle.std.proofs.Common.{[], subst, refl, inl, inr}
use Rattle.repl_node.specs.Following.{IsHeard}
use Rattle.repl_node.specs.declared.nodes.Heard.{Heard}
use Rattle.repl_node.proofs.Parts.{bad_answer, bad_words, comes_more, part_words_are, read_alone, takes_last}
use Rattle.repl_node.proofs.part_answers.hear_request.Goals as goal

pub returns-in_default : goal.returns-in_default
returns-in_default c =
    let words = c.args.request.now in
    let e = c.in_default.not-Some in (
      bad_words c.stream_laws.ensures.parts c.args.node.now _ words (read_alone words (c.requests_are_read.ensures.text words [] c.requires.request))
          (λ part p. e part (c.part_of.ensures.only part p)),
      refl,
    )

pub returns-in-Ok-More : goal.returns-in-Ok-More
returns-in-Ok-More c =
    let words = c.args.request.now in
    let is = part_words_are c.in-Some.part words c.word.result.now c.in-Some.ensures.made c.word.ensures in
    comes_more c.args.node.now c.hear.new.self c.in-Some.part c.word.result.now words is c.in-Ok-More.field-0 c.ask.new.out c.ask.result
    c.in-Ok-More.field-0-is c.in-Ok-More.ensures.heard c.ask.ensures

pub returns-in-Ok-Published : goal.returns-in-Ok-Published
returns-in-Ok-Published c =
    let words = c.args.request.now in
    let is = part_words_are c.in-Some.part words c.word.result.now c.in-Some.ensures.made c.word.ensures in (
      takes_last c.args.node.now c.hear.new.self c.in-Some.part c.word.result.now words is c.in-Ok-Published.field-0
          c.in-Ok-Published.field-0-is c.in-Ok-Published.ensures.heard,
      refl,
      c.requires.written,
    )

pub returns-in-Ok-Old : goal.returns-in-Ok-Old
returns-in-Ok-Old c =
    let words = c.args.request.now in
    let is = part_words_are c.in-Some.part words c.word.result.now c.in-Some.ensures.made c.word.ensures in
    let e = subst (λ (h : Heard). IsHeard c.args.node.now c.in-Some.part c.word.result.now c.hear.new.self h) c.in-Ok-Old.field-0-is
    c.in-Ok-Old.ensures.heard in (
      bad_answer c.args.node.now c.hear.new.self c.in-Some.part c.word.result.now words is c.stream_laws.ensures.parts c.stream_laws.ensures.part
          (inl e.0),
      e.1,
    )

pub returns-in-Err-NotRecords : goal.returns-in-Err-NotRecords
returns-in-Err-NotRecords c =
    let words = c.args.request.now in
    let is = part_words_are c.in-Some.part words c.word.result.now c.in-Some.ensures.made c.word.ensures in
    let e = c.in-Err-NotRecords.ensures in
    let f = c.in-Err-NotRecords.field-0-is in (
      bad_answer c.args.node.now c.hear.new.self c.in-Some.part c.word.result.now words is c.stream_laws.ensures.parts c.stream_laws.ensures.part
          (inr (e.refused (cc))),
      e.fault,
    )
