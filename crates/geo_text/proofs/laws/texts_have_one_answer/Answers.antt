use Rattle.geo_text.specs.Texts.{shape_of}
use Rattle.geo_text.specs.Laws.{one_answer}
use Rattle.geo_text.proofs.laws.texts_have_one_answer.Goals as goal

pub returns : goal.returns
returns c = λ text. one_answer (shape_of text)
