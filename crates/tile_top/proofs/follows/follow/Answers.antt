use Rattle.std.proofs.Common.{rules, inl, inr}
use Rattle.tile_top.proofs.follows.follow.Goals as goal

pub returns-in-Err-clause-follows : goal.returns-in-Err-clause-follows
returns-in-Err-clause-follows g c = inr (inl (record {
  why = c.in-Err.ensures.err;
  ended = c.end.ensures.told;
  unwritten = (search rules);
}))
