use Rattle.std.proofs.Common.{length, ◌≤◌, []}
use denote.Text.{Utf8}
use denote.Shadow.{shadow}
use Rattle.byte_text.specs.Globs.{behind_item}
use Rattle.glob_match.specs.Tokens.{left}
use Rattle.glob_match.proofs.ClassLaws.{InClass}
use Rattle.glob_match.proofs.classes.class_at.Given as goal

abbrev pub invariant-loop-behind : goal.invariant-loop-behind
invariant-loop-behind l = shadow (Utf8 l.rest) × (length l.rest ≤ length l.text) × InClass (left l.text (behind_item l.others [])) l.rest l.others l.some l.hit l.c

abbrev pub decreases-loop-behind : goal.decreases-loop-behind
decreases-loop-behind l = length l.rest
