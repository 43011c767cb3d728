use Rattle.std.proofs.Common.{◌≡◌, false, List, take, map}
use Rattle.fence_model.specs.Messages.{roam_payload}
use Rattle.world_data.specs.declared.objects.Object.{Object}
use Rattle.world_data.specs.declared.channels.Detect.{Detect}
use Rattle.roam_fence.specs.Pairs.{shown}
use Rattle.session_table.specs.Sessions.{session_of}
use Rattle.session_table.specs.Fans.{AreBrought}
use Rattle.message_fanout.specs.Raises.{ArePairs, sent}
use Rattle.message_fanout.proofs.raises.stage_pairs.Given as goal

-- the messages of the first pairs were staged
abbrev pub invariant-loop-i : goal.invariant-loop-i
invariant-loop-i l = record {
  same : map session_of l.sessions.items ≡ map session_of l.initial.sessions.items;
  staged : (list : List (Object × Detect)) → ArePairs l.fn.targets.objects list → l.fn.pairs ≡ map shown list
      → AreBrought (sent l.fn.channel (map (roam_payload l.fn.channel.name l.fn.new) (take l.i list))) l.initial.sessions.items l.sessions.items;
  quiet : l.is_told ≡ false → l.sessions ≡ l.initial.sessions;
}
