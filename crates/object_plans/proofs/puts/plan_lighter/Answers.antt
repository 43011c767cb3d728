use Rattle.std.proofs.Common.{◌≤◌, refl, sym, ◌∙◌, arith, add-zero}
use Rattle.ordered_lists.specs.Lists.{put_in}
use Rattle.world_data.specs.Worlds.{object_before}
use Rattle.keyspace.specs.Entries.{objects_in}
use Rattle.record_writer.specs.Lengths.{len_of}
use Rattle.record_writer.specs.ObjectSums.{changed_sum}
use Rattle.object_plans.specs.Weights.{weight_sum}
use Rattle.object_plans.proofs.Setting.{put_weighs}
use Rattle.object_plans.proofs.puts.plan_lighter.Goals as goal

pub returns : goal.returns
returns c = λ reply is.
    let xs = objects_in c.args.objects.now in
    let x = c.args.object in
    let sum = changed_sum len_of x xs c.args.old.now c.requires.kept.sorted c.requires.some in
    let behind = c.weight_after-weight.ensures in
    let less : c.weight_after-weight.result ≤ c.args.total = omega (arith, sum, behind, c.requires.lighter, weight_sum xs, weight_sum (put_in object_before x xs), c.requires.kept.weighed) in
    record {
      reply = reply;
      is = refl;
      frame = is;
      short = c.requires.short;
      there = tt;
      accepted = c.requires.accepted;
      few = c.requires.few;
      length_is = c.put_len-length.ensures.value ∙ sym (add-zero (len_of x));
      small = omega (arith, put_weighs xs x, behind, less, c.put_len-length.ensures.value, c.requires.kept.light);
      weight_is = behind;
      light = omega (arith, less, c.requires.kept.light);
    }
