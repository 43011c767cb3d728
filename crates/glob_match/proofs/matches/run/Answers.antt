use Rattle.std.proofs.Common.{rules, arith, chars, ap, ◌∙◌, true, false, ◌≡◌, subst}
use Rattle.byte_text.specs.Globs.{outside, tokens_meet}
use Rattle.glob_match.specs.Tokens.{left}
use Rattle.std.proofs.Common.{[]}
use Rattle.glob_match.specs.Tokens.{Begins}
use Rattle.glob_match.proofs.Matching.{pattern_ends, not_broken, star_found, at_name_end, misses, goes_on}
use Rattle.glob_match.proofs.matches.run.Goals as goal

pub returns-in-End-clause-read : goal.returns-in-End-clause-read
returns-in-End-clause-read c = λ ps e. pattern_ends ps (chars c.args.name.now) (left c.go.pattern.now outside) (chars c.go.name.now) (c.go.invariant.3 ps e) c.in-End.ensures.read ∙ ap (tokens_meet []) c.in-None.ensures.read

pub returns-in-Broken-clause-read : goal.returns-in-Broken-clause-read
returns-in-Broken-clause-read c = λ ps e. absurd (not_broken ps (chars c.args.name.now) (left c.go.pattern.now outside) (chars c.go.name.now) (c.go.invariant.3 ps e) c.in-Broken.ensures.read)

pub returns-in-AnyList-clause-read : goal.returns-in-AnyList-clause-read
returns-in-AnyList-clause-read c = λ ps e. star_found ps (chars c.args.name.now) (left c.go.pattern.now outside) (left c.in-AnyList.behind.now outside) (chars c.go.name.now) (c.go.invariant.3 ps e) c.in-AnyList.ensures.read

pub returns-in-OneChar-clause-read : goal.returns-in-OneChar-clause-read
returns-in-OneChar-clause-read c = λ ps e. at_name_end ps (chars c.args.name.now) (left c.go.pattern.now outside) (left c.in-OneChar.field-1.now outside) (chars c.go.name.now) 32 c.in-OneChar.field-0 (c.go.invariant.3 ps e) c.in-None.ensures.read c.in-OneChar.ensures.read

pub returns-in-End-token_at-clause-read : goal.returns-in-End-token_at-clause-read
returns-in-End-token_at-clause-read c = λ ps e. pattern_ends ps (chars c.args.name.now) (left c.go.pattern.now outside) (chars c.go.name.now) (c.go.invariant.3 ps e) c.in-End-token_at.ensures.read ∙ ap (tokens_meet []) c.in-Some.ensures.read

pub returns-in-Broken-token_at-clause-read : goal.returns-in-Broken-token_at-clause-read
returns-in-Broken-token_at-clause-read c = λ ps e. absurd (not_broken ps (chars c.args.name.now) (left c.go.pattern.now outside) (chars c.go.name.now) (c.go.invariant.3 ps e) c.in-Broken-token_at.ensures.read)

pub returns-in-AnyList-token_at-clause-read : goal.returns-in-AnyList-token_at-clause-read
returns-in-AnyList-token_at-clause-read c = λ ps e. star_found ps (chars c.args.name.now) (left c.go.pattern.now outside) (left c.in-AnyList-token_at.behind.now outside) (chars c.go.name.now) (c.go.invariant.3 ps e) c.in-AnyList-token_at.ensures.read

pub returns-then-not-hit-clause-read : goal.returns-then-not-hit-clause-read
returns-then-not-hit-clause-read c = λ ps e.
    misses ps (chars c.args.name.now) (left c.go.pattern.now outside) (left c.in-OneChar-token_at.behind.now outside) (chars c.go.name.now) c.in-Some.c (chars c.in-Some.after.now) (c.go.invariant.3 ps e) c.in-Some.ensures.read
    (subst (λ b. Begins (left c.go.pattern.now outside) (left c.in-OneChar-token_at.behind.now outside) c.in-Some.c b) miss c.in-OneChar-token_at.ensures.read)
  where
    miss : c.in-OneChar-token_at.hit ≡ false
    miss = search rules

pub go-preserved : goal.go-preserved
go-preserved c = (
  search rules,
  search rules,
  omega (arith, c.in-OneChar-token_at.ensures.shorter, c.go.invariant.2),
  λ ps e.
      goes_on ps (chars c.args.name.now) (left c.go.pattern.now outside) (left c.in-OneChar-token_at.behind.now outside) (chars c.go.name.now) c.in-Some.c (chars c.in-Some.after.now) (c.go.invariant.3 ps e) c.in-Some.ensures.read
      (subst (λ b. Begins (left c.go.pattern.now outside) (left c.in-OneChar-token_at.behind.now outside) c.in-Some.c b) hit c.in-OneChar-token_at.ensures.read),
)
  where
    hit : c.in-OneChar-token_at.hit ≡ true
    hit = search rules
