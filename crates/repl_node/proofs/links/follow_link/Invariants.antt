use Rattle.std.proofs.Common.{◌≡◌, ◌≤◌, ◌<◌, length}
use Rattle.std.specs.Prelude.{List}
use Rattle.outside.specs.Links.{LinkState}
use Rattle.repl_node.specs.FollowedSoFar.{FollowedSoFar}
use Rattle.repl_node.specs.Following.{Followed}
use Rattle.repl_node.proofs.links.follow_link.Given as goal

-- what was read and written so far is kept, and no link was shut
abbrev pub invariant-loop : goal.invariant-loop
invariant-loop g l = record {
  next : (goal.iterator-loop g).can_next l.iterator';
  finite : (goal.iterator-loop g).is_finite l.iterator';
  some : 0 < length l.block;
  kept : (first : Followed) (came : LinkState) (before : List Followed) → FollowedSoFar first came before l.initial.follower
      → FollowedSoFar first came before l.follower;
  shut : (g.W.WaitForLinks.shows l.wait).shut ≡ (g.W.WaitForLinks.shows l.initial.wait).shut;
  faults : (g.W.WaitForLinks.shows l.initial.wait).faults ≤ (g.W.WaitForLinks.shows l.wait).faults;
}
