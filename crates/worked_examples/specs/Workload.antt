-- Worked examples of the workload, each proved by computing.
use Rattle.std.specs.Prelude.{◌≡◌, ◌/◌, ◌^◌, [], ◌∷◌, codes, length}
use Rattle.work_gen.specs.Draws.{next, drawn}
use Rattle.work_gen.specs.Summaries.{summary_text}
use Rattle.work_gen.specs.Words.{texts}
use Rattle.work_gen.specs.Workload.{channel, command, lines}

-- from seed 0: the first draw, its last digit, the words of the one command and how many lines there are; and the words of the last channel
pub record HoldsWorkload : Type 0 where
  pub first : next 0 / 2 ^ 33 ≡ 167951807
  pub digit : drawn 10 (next 0) ≡ 7
  pub text : texts (command 1 0).words ≡ codes "DEL" ∷ codes "fleet" ∷ codes "v0" ∷ []
  pub count : length (lines 1 0) ≡ 18
  pub last : texts (channel 15) ≡ codes "SETCHAN" ∷ codes "f15" ∷ codes "WITHIN" ∷ codes "fleet" ∷ codes "FENCE" ∷ codes "DETECT" ∷
      codes "enter,exit" ∷ codes "BOUNDS" ∷ codes "900000" ∷ codes "900000" ∷ codes "950000" ∷ codes "950000" ∷ []

-- the lines of a summary
pub record HoldsSummary : Type 0 where
  pub lines : summary_text (record { commands = 20000; objects = 1750; messages = 991; bytes = 491862 })
      ≡ codes "commands 20000\nobjects 1750\nmessages 991\nbytes 491862\n"
