use Rattle.std.proofs.Common.{refl}
use Rattle.repl_stream.proofs.Places.{none_behind, from_word}
use Rattle.repl_stream.proofs.asks.ask_of.Goals as goal

pub returns-clause-made : goal.returns-clause-made
returns-clause-made c =
    let words = c.args.request.now in
    let named = c.if-not-is_named.ensures.made refl in
    let g = c.in_ok-generation.ensures.made in
    let f = c.in_ok-from.ensures.made in (
      record { generation = g.0; from = f.0 },
      from_word words 0 _ _ named.1 (from_word words 1 _ _ g.1 (from_word words 2 _ _ f.1 (none_behind words 3 named.0))),
    )
