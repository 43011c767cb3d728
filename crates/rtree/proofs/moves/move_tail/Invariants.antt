use Rattle.std.proofs.Common.{◌≡◌, ◌≤◌, ◌+◌, reverse, drop, take, vec_len, vec_capacity}
use Rattle.rtree.proofs.moves.move_tail.Given as goal

-- the tail is moved from its end, so that it lies backwards until the last step
abbrev pub invariant-loop-from : goal.invariant-loop-from
invariant-loop-from g l = record {
  enough : l.keep ≤ vec_len l.from;
  kept : l.from.items ≡ take (vec_len l.from) l.fn.from.items;
  moved : l.to.items ≡ reverse (drop (vec_len l.from) l.fn.from.items);
  whole : vec_len l.to + vec_len l.from ≡ vec_len l.fn.from;
  from_room : vec_capacity l.fn.from ≤ vec_capacity l.from;
  to_room : vec_capacity l.fn.to ≤ vec_capacity l.to;
}

abbrev pub decreases-loop-from : goal.decreases-loop-from
decreases-loop-from g l = vec_len l.from
