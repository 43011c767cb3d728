use Rattle.std.proofs.Common.{List, length, take, ap, sym, ◌∙◌, subst, arith}
use Rattle.std.proofs.lemmas.List.{length-take}
use Rattle.byte_text.specs.Names.{Bytes}
use Rattle.work_gen.specs.Brief.{AreBrief, brief_none}
use Rattle.work_gen.specs.declared.words.Word.TheVariants.{Psubscribe}
use Rattle.work_gen.proofs.Fitting.{texts_none, texts_next, texts_length}
use Rattle.work_gen.proofs.words.request.Goals as goal

pub loop-word-init : goal.loop-word-init
loop-word-init c = record {
  made = c.new-made.ensures ∙ sym texts_none;
  brief = subst (λ (l : List Bytes). AreBrief l) (sym c.new-made.ensures) brief_none;
}

pub add-requires-clause-few : goal.add-requires-clause-few
add-requires-clause-few c =
    let made = ap (λ (l : List Bytes). length l) c.loop-word.invariant.made in
    omega (arith, made, texts_length (take c.loop-word.word-index c.args.words.now), length-take c.loop-word.word-index c.args.words.now)

pub loop-word-preserved : goal.loop-word-preserved
loop-word-preserved c = record {
  made = texts_next c.args.words.now c.loop-word.word-index Psubscribe c.loop-word.made c.add.new.made c.loop-word-test.true c.loop-word.invariant.made c.in_ok-add.ensures.word;
  brief = c.in_ok-add.ensures.brief;
}
