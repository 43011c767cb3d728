use Rattle.std.proofs.Common.{refl, arith}
use Rattle.repl_stream.proofs.Places.{none_behind, from_word}
use Rattle.repl_stream.proofs.parts.part_of.Goals as goal

pub returns-clause-made : goal.returns-clause-made
returns-clause-made c =
    let words = c.args.request.now in
    let named = c.if-not-is_named.ensures.made refl in
    let g = c.in_ok-generation.ensures.made in
    let f = c.in_ok-from.ensures.made in
    let e = c.in_ok-end.ensures.made in (
      c.word.result.now,
      record { generation = g.0; from = f.0; end = e.0; short = omega (arith, c.if-word-gt-MAX_PART.false) },
      from_word words 0 _ _ named.1
          (from_word words 1 _ _ g.1
          (from_word words 2 _ _ f.1 (from_word words 3 _ _ e.1 (from_word words 4 _ _ c.word.ensures (none_behind words 5 named.0))))),
    )
