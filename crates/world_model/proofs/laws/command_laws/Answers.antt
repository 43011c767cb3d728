use Rattle.geo_text.specs.Laws.{one_answer}
use Rattle.world_model.specs.Commands.{reads}
use Rattle.world_model.specs.PrefixLaws.{beginnings, spelling_open, stops_there}
use Rattle.world_model.specs.SoundLaws.{reads_sound}
use Rattle.world_model.proofs.laws.command_laws.Goals as goal

pub returns : goal.returns
returns c = record { answer = λ words. one_answer (reads words); beginnings = beginnings; spellings = spelling_open; stops = stops_there; sound = reads_sound }
