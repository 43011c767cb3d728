use Rattle.std.proofs.Common.{◌≤◌, ◌<◌, ℕ, length, subst, ◌∙◌, sym, arith, add-zero}
use Rattle.std.proofs.lemmas.Result.{IfOk-weaker}
use Rattle.byte_text.specs.Names.{Bytes}
use Rattle.world_data.specs.Limits.{max_weight, max_reply}
use Rattle.ordered_lists.specs.Lists.{put_in}
use Rattle.world_data.specs.Worlds.{object_before}
use Rattle.world_data.specs.Records.{weight}
use Rattle.world_model.specs.Refusals.{refusal_reply}
use Rattle.world_model.specs.declared.faults.Refusal.TheVariants as refusal
use Rattle.keyspace.specs.Entries.{objects_in}
use Rattle.object_plans.specs.Moves.{world_of}
use Rattle.record_writer.specs.Lengths.{len_of}
use Rattle.object_plans.specs.Answering.{said}
use Rattle.object_plans.proofs.Setting.{heavy, done, put_weighs}
use Rattle.object_plans.proofs.puts.plan_put.Goals as goal

pub returns-then-weight-gt-MAX_WEIGHT : goal.returns-then-weight-gt-MAX_WEIGHT
returns-then-weight-gt-MAX_WEIGHT c = λ reply is.
    let xs = objects_in c.args.objects.now in
    let more : max_weight < weight (world_of (put_in object_before c.args.object xs)) = subst (λ (n : ℕ). max_weight < n) c.weight_after-weight.ensures c.if-weight-gt-MAX_WEIGHT.true in
    let full = heavy xs c.args.object reply c.args.announced more in
    IfOk-weaker c.say_refusal.result _ _ (λ p s. said xs c.args.total c.requires.kept _ (refusal_reply refusal.DatabaseFull) p full s) c.say_refusal.ensures

pub returns : goal.returns
returns c = λ reply is.
    let xs = objects_in c.args.objects.now in
    let x = c.args.object in
    let light : c.weight_after-weight.result ≤ max_weight = c.if-weight-gt-MAX_WEIGHT.false in
    let less : weight (world_of (put_in object_before x xs)) ≤ max_weight = subst (λ (n : ℕ). n ≤ max_weight) c.weight_after-weight.ensures light in
    record {
      reply = reply;
      is = done xs x reply c.args.announced less (subst (λ (f : Bytes). length f ≤ max_reply) is c.requires.short);
      frame = is;
      short = c.requires.short;
      there = tt;
      accepted = c.requires.accepted;
      few = c.requires.few;
      length_is = c.put_len-length.ensures.value ∙ sym (add-zero (len_of x));
      small = let part = put_weighs xs x in omega (arith, part, less, c.put_len-length.ensures.value);
      weight_is = c.weight_after-weight.ensures;
      light = omega (arith, light);
    }
