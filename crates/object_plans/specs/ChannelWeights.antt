-- What a world weighs beside channels, and plans that change nothing there.
use Rattle.std.proofs.Common.{◌≡◌, ℕ, ◌+◌, ◌≤◌, Bool, sym, ap, ◌∙◌, subst, List, [], ◌∷◌, arith}
use Rattle.byte_text.specs.declared.replies.Piece.{Piece}
use Rattle.world_data.specs.Records.{weight}
use Rattle.world_data.specs.declared.channels.Channel.{Channel}
use Rattle.world_data.specs.declared.objects.Object.{Object}
use Rattle.world_model.specs.Effects.{Effect, says, within_reply}
use Rattle.object_plans.specs.declared.moves.ObjectChange.{ObjectChange}
use Rattle.object_plans.specs.declared.moves.ObjectChange.TheVariants.{Stay, Put, Delete, DeleteEach, DropKey, Clear}
use Rattle.object_plans.specs.declared.plans.Plan.{Plan}
use Rattle.object_plans.specs.Answering.{said}
use Rattle.object_plans.specs.Beside.{channels_left, channels_weight, IsPlanBeside}
use Rattle.object_plans.specs.Kept.{AreKept, most_kept}
use Rattle.object_plans.specs.Moves.{world_of, world_with, moved}
use Rattle.object_plans.specs.Plans.{IsPlan, Says, writes_of}
use Rattle.object_plans.specs.Weights.{weight_sum}

pub weight_beside : (cs : List Channel) (xs : List Object) → weight (world_with cs xs) ≡ weight (world_of xs) + channels_weight cs
weight_beside cs xs = omega (arith, weight_sum xs)

module _ (cs : List Channel) (os : List Object) (total : ℕ) (kept : AreKept os total) (light : total + channels_weight cs ≤ most_kept) where
  -- an answer and nothing else
  pub says_beside : (e : Effect) (r : List Piece) (p : Plan) → e ≡ within_reply (says r) → Says (within_reply (says r)) total p
      → IsPlanBeside cs os e p
  says_beside e r p is s =
      (said os total kept e r p is s, subst (λ (q : Plan). q.weight + channels_weight (channels_left q.action cs) ≤ most_kept) (sym s.is) light)

  still : (action : ObjectChange) (is_loud : Bool) (behind : ℕ) → writes_of action is_loud ≡ []
      → behind ≡ weight (world_of (moved os action)) → behind + channels_weight (channels_left action cs) ≤ most_kept
  still Stay is_loud behind none is = omega (arith, is, kept.weighed, light)
  still (Put o) is_loud behind none is = absurd (cc)
  still (Delete key id) is_loud behind none is = absurd (cc)
  still (DeleteEach key []) is_loud behind none is = omega (arith, is, kept.weighed, light)
  still (DeleteEach key (id ∷ ids)) is_loud behind none is = absurd (cc)
  still (DropKey key) is_loud behind none is = absurd (cc)
  still Clear is_loud behind none is = absurd (cc)

  -- a plan of what changes nothing
  pub still_beside : (e : Effect) (p : Plan) → e.writes ≡ [] → IsPlan os e p → IsPlanBeside cs os e p
  still_beside e p none is = (is, still p.action p.announced p.weight (sym (ap (λ (f : Effect). f.writes) is.is) ∙ none) is.weight_is)
