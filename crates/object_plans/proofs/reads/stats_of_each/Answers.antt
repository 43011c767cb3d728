use Rattle.std.proofs.Common.{◌∙◌, ap, sym, subst, take, ◌++◌, ◌∷◌, [], List}
use Rattle.std.specs.Prelude.{map}
use Rattle.std.specs.List.{AllByRecursion}
use Rattle.byte_text.specs.Names.{Bytes}
use Rattle.byte_text.specs.Replies.{IsFrame}
use Rattle.byte_text.specs.declared.replies.Piece.{Piece}
use Rattle.world_data.specs.Worlds.{objects_of}
use Rattle.world_model.specs.Replies.{stats_of_key}
use Rattle.object_plans.specs.Moves.{world_in}
use Rattle.object_plans.proofs.Reading.{next_key, more_frames}
use Rattle.object_plans.proofs.reads.stats_of_each.Goals as goal

pub loop-i-preserved : goal.loop-i-preserved
loop-i-preserved c =
    let f : Bytes → List Piece = λ key. stats_of_key (objects_of (world_in c.args.objects.now) key) in
    let new = c.in_ok-push.ensures.ok in
    let reply = c.in_ok-stats_of.ensures in
    record {
      made = new ∙ ap (λ (rs : List (List Piece)). rs ++ c.in_ok-stats_of.field-0 ∷ []) c.loop-i.invariant.made ∙ ap (λ (r : List Piece). map f (take c.loop-i.i c.args.keys.now) ++ r ∷ []) reply.value ∙ next_key f c.args.keys.now c.loop-i.i c.at.result.now c.at.ensures;
      frames = subst (AllByRecursion IsFrame) (sym new) (more_frames c.loop-i.replies c.in_ok-stats_of.field-0 c.loop-i.invariant.frames reply.frame);
    }
