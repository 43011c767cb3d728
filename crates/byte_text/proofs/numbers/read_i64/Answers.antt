use Rattle.std.proofs.Common.{rules, ◌≡◌, Ok, ap}
use Rattle.std.proofs.lemmas.Int.{to_z-of_z}
use mir.Syntax.{w64}
use Rattle.byte_text.proofs.NumbersRead.{read_whole_is}
use Rattle.byte_text.proofs.numbers.read_i64.Goals as goal

pub returns-in-Some-clause-exact : goal.returns-in-Some-clause-exact
returns-in-Some-clause-exact c = λ z fits e.
    let read = c.in-Some.ensures.only z fits e in
    let value : c.in-Some.z ≡ z = cc read in
    rw value (ap Ok (to_z-of_z w64 z fits))

pub returns-in-Some-clause-reads : goal.returns-in-Some-clause-reads
returns-in-Some-clause-reads c = read_whole_is _ _ (search rules, search rules) (returns-in-Some-clause-exact c)
