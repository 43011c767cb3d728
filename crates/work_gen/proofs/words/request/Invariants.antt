use Rattle.std.proofs.Common.{◌≡◌, take}
use Rattle.work_gen.specs.Brief.{AreBrief}
use Rattle.work_gen.specs.Words.{texts}
use Rattle.work_gen.proofs.words.request.Given as goal

abbrev pub invariant-loop-word : goal.invariant-loop-word
invariant-loop-word l = record { made : l.made ≡ texts (take l.word-index l.words); brief : AreBrief l.made }
