use Rattle.std.proofs.Common.{◌≡◌, ◌≤◌, ℕ, length, lit<, subst, ap, ◌∙◌, sym, refl, arith, [], ◌∷◌, add-zero, not}
use Rattle.std.specs.Prelude.{filter}
use Rattle.byte_text.specs.Names.{Bytes}
use Rattle.byte_text.specs.Replies.{number, frame_text}
use Rattle.world_data.specs.Limits.{max_reply}
use Rattle.world_data.specs.Worlds.{is_at}
use Rattle.fence_model.specs.Writes.{announced}
use Rattle.world_model.specs.Effects.{changes}
use Rattle.world_data.specs.Records.{record_len}
use Rattle.world_data.specs.declared.worlds.Change.TheVariants as change
use Rattle.keyspace.specs.Entries.{objects_in}
use Rattle.object_plans.specs.Moves.{world_in}
use Rattle.record_writer.specs.Lengths.{len_of, HasFewFields}
use Rattle.object_plans.specs.Answering.{answers_ever, count_fits, within_changes}
use Rattle.object_plans.specs.Weights.{weight_sum, found_at}
use Rattle.record_writer.specs.ObjectSums.{taken_sum}
use Rattle.object_plans.specs.Standing.{found_holds, found_sum}
use Rattle.object_plans.proofs.Removing.{del_some, del_none}
use Rattle.object_plans.proofs.deletes.plan_del.Goals as goal

pub put_len-requires : goal.put_len-requires
put_len-requires c = found_holds (is_at c.args.key c.args.id) c.in-Some.object.now HasFewFields (objects_in c.args.objects.now) c.in-Some.ensures.some c.requires.few

pub overflow_sub-result : goal.overflow_sub-result
overflow_sub-result c =
    let xs = objects_in c.args.objects.now in
    let part = found_sum (is_at c.args.key c.args.id) c.in-Some.object.now len_of xs c.in-Some.ensures.some in
    omega (arith, part, weight_sum xs, c.put_len.ensures.value, c.requires.weighed)

pub returns-in_ok-count_frame-in-Some : goal.returns-in_ok-count_frame-in-Some
returns-in_ok-count_frame-in-Some c =
    let xs = objects_in c.args.objects.now in
    let key = c.args.key in
    let id = c.args.id in
    let o = c.in-Some.object.now in
    let here = c.in-Some.ensures.some in
    let own = found_at key id xs o here in
    let told : changes (number 1) (announced (change.Del o.key o.id) ∷ []) ≡ changes (number 1) (announced (change.Del key id) ∷ []) =
    ap (λ (m : Bytes). changes (number 1) (announced (change.Del m o.id) ∷ [])) own.0 ∙ ap (λ (m : Bytes). changes (number 1) (announced (change.Del key m) ∷ [])) own.1 in
    let frame_is : c.in_ok-count_frame-in-Some.field-0 ≡ frame_text (number 1) = c.in_ok-count_frame-in-Some.ensures in
    let sum = taken_sum len_of key id xs o c.requires.sorted here in
    let one = count_fits 1 (lit< tt) in
    λ (now : ℕ). record {
      reply = number 1;
      is = del_some (world_in c.args.objects.now) now key id o here ∙ within_changes (number 1) (announced (change.Del o.key o.id) ∷ []) one ∙ told;
      frame = frame_is;
      short = subst (λ (f : Bytes). length f ≤ max_reply) (sym frame_is) one;
      there = ((o, here), tt);
      accepted = tt;
      few = tt;
      length_is = c.del_len.ensures.value ∙ sym (add-zero (record_len (change.Del key id)));
      small = omega (arith, c.del_len.ensures.short);
      weight_is = omega (arith, sum, weight_sum xs, weight_sum (filter (λ p. not (is_at key id p)) xs), c.put_len.ensures.value, c.requires.weighed);
      light = omega (arith, c.requires.light);
    }

pub returns-in-None : goal.returns-in-None
returns-in-None c =
    answers_ever (objects_in c.args.objects.now) c.args.total c.requires _ (number 0) _ refl c.say_count.ensures _
    (λ (now : ℕ). del_none (world_in c.args.objects.now) now c.args.key c.args.id c.in-None.ensures.none)
