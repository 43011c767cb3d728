use Rattle.std.proofs.Common.{◌≡◌, ◌∙◌, sym, ap, [], length, List, ℕ}
use Rattle.std.proofs.lemmas.Str.{chars_past_char, chars-nil}
use Rattle.std.proofs.lemmas.List.{nil_from_length}
use Rattle.glob_match.proofs.signs.first.Goals as goal

pub returns-in-Some-clause-read : goal.returns-in-Some-clause-read
returns-in-Some-clause-read c =
    let parts = sym c.chars-rest.ensures.rest ∙ c.in-Some.ensures.steps.0 in
    rw c.as_str.ensures (chars_past_char c.args.text.now _ c.in-Some.c c.utf8.text parts)

pub returns-in-None-clause-read : goal.returns-in-None-clause-read
returns-in-None-clause-read c =
    let none : c.args.text.now ≡ [] = nil_from_length c.args.text.now (ap (λ (x : List ℕ). length x) (sym c.chars-rest.ensures.rest) ∙ c.in-None.ensures.steps.0.0) in
    rw none chars-nil
