use Rattle.std.proofs.Common.{◌∙◌, rules}
use Rattle.byte_text.specs.Globs.{any_list, one_char, outside}
use Rattle.glob_match.specs.Tokens.{left}
use Rattle.glob_match.proofs.TokenLaws.{some_behind}
use Rattle.glob_match.proofs.matches.is_pattern.Goals as goal

pub read-preserved-in-AnyList : goal.read-preserved-in-AnyList
read-preserved-in-AnyList c =
    (search rules, c.read.invariant.1 ∙ some_behind any_list (left c.read.rest.now outside) (left c.in-AnyList.behind.now outside) c.in-AnyList.ensures.read)

pub read-preserved : goal.read-preserved
read-preserved c =
    let b = c.in-OneChar.ensures.read in
    (search rules, c.read.invariant.1 ∙ some_behind (one_char b.others b.items) (left c.read.rest.now outside) (left c.in-OneChar.behind.now outside) b.same)
