use Rattle.std.proofs.Common.{◌≡◌, ◌≤◌, ℕ, lit≤, length, subst, ◌∙◌, sym, refl, arith, add-zero}
use Rattle.byte_text.specs.Names.{Bytes}
use Rattle.byte_text.specs.Replies.{fine, frame_text}
use Rattle.world_data.specs.Limits.{max_reply}
use Rattle.world_data.specs.Records.{record_len}
use Rattle.world_data.specs.declared.worlds.Change.TheVariants as change
use Rattle.object_plans.specs.Moves.{world_in}
use Rattle.object_plans.proofs.Removing.{flushed}
use Rattle.object_plans.proofs.deletes.plan_flush.Goals as goal

pub returns : goal.returns
returns c =
    let frame_is : c.in_ok-fine_frame.field-0 ≡ frame_text fine = c.in_ok-fine_frame.ensures in
    λ (now : ℕ). record {
      reply = fine;
      is = flushed (world_in c.args._objects.now) now;
      frame = frame_is;
      short = subst (λ (f : Bytes). length f ≤ max_reply) (sym frame_is) (lit≤ tt);
      there = tt;
      accepted = tt;
      few = tt;
      length_is = c.flush_len.ensures.value ∙ sym (add-zero (record_len change.Flush));
      small = omega (arith, c.flush_len.ensures.short);
      weight_is = refl;
      light = lit≤ tt;
    }
