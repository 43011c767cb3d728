use Rattle.std.proofs.Common.{◌≡◌, ◌≤◌, ◌+◌, ℕ, length, map, subst, ap, ◌∙◌, sym, refl, arith, List}
use Rattle.std.specs.Prelude.{filter, sum_by}
use Rattle.std.proofs.lemmas.List.{length-map}
use Rattle.byte_text.specs.Names.{Bytes}
use Rattle.byte_text.specs.Globs.{glob_meets}
use Rattle.byte_text.specs.Replies.{number, frame_text}
use Rattle.world_data.specs.Limits.{max_reply}
use Rattle.world_data.specs.Worlds.{has_key}
use Rattle.fence_model.specs.Writes.{announced, dels}
use Rattle.world_data.specs.declared.worlds.Change.TheVariants as change
use Rattle.world_model.specs.Effects.{changes}
use Rattle.delivery_model.specs.Staging.{records_len}
use Rattle.world_data.specs.declared.objects.Object.{Object}
use Rattle.keyspace.specs.Entries.{objects_in}
use Rattle.object_plans.specs.Moves.{AllThere, world_in, without_each}
use Rattle.record_writer.specs.Lengths.{HaveFewFields, len_of, HasFewFields}
use Rattle.object_plans.specs.Sweeps.{met, IsSweptOf}
use Rattle.object_plans.specs.Answering.{answers_ever, count_fits, within_changes}
use Rattle.object_plans.specs.Weights.{weight_sum, some_sum}
use Rattle.ordered_lists.specs.Reading.{each-filter}
use Rattle.object_plans.proofs.Removing.{swept, swept_none}
use Rattle.object_plans.proofs.Sweeping.{dels_short, keyed, dels_of, left_sum}
use Rattle.object_plans.proofs.There.{met_there}
use Rattle.object_plans.proofs.deletes.plan_pdel.Goals as goal

pub returns-in_default : goal.returns-in_default
returns-in_default c =
    answers_ever (objects_in c.args.objects.now) c.args.total c.requires.kept _ (number 0) _ refl c.say_count.ensures _ (λ (now : ℕ). swept_none (world_in c.args.objects.now) now c.args.key c.args.pattern.now c.in_default.ensures.none)

pub sweep-requires-clause-few : goal.sweep-requires-clause-few
sweep-requires-clause-few c = subst HaveFewFields (sym c.in-Some.ensures.some) (each-filter HasFewFields (has_key c.args.key) (objects_in c.args.objects.now) c.requires.kept.few)

pub sweep-requires-clause-weighed : goal.sweep-requires-clause-weighed
sweep-requires-clause-weighed c =
    let xs = objects_in c.args.objects.now in
    let same = ap (sum_by len_of) c.in-Some.ensures.some in
    omega (arith, same, some_sum (has_key c.args.key) xs, weight_sum xs, c.requires.kept.weighed)

pub returns : goal.returns
returns c =
    let xs = objects_in c.args.objects.now in
    let key = c.args.key in
    let pattern = c.args.pattern.now in
    let held = filter (has_key key) xs in
    let gone = met pattern held in
    let s : IsSweptOf pattern held c.args.total c.in_ok-swept.swept = subst (λ (ys : List Object). IsSweptOf pattern ys c.args.total c.in_ok-swept.swept) c.in-Some.ensures.some c.in_ok-swept.ensures in
    let ids_of = λ (ys : List Object). map (λ (o : Object). o.id) ys in
    let count : c.len-count.result ≡ length gone = c.len-count.ensures ∙ ap (λ (ids : List Bytes). length ids) s.ids ∙ length-map gone (λ (o : Object). o.id) in
    let fits = subst (λ (n : ℕ). length (frame_text (number n)) ≤ max_reply) count (count_fits c.len-count.result c.len-count.type_inv) in
    let frame_is : c.in_ok-count_frame.field-0 ≡ frame_text (number (length gone)) = c.in_ok-count_frame.ensures ∙ ap (λ (n : ℕ). frame_text (number n)) count in
    let left : sum_by len_of (without_each key c.in_ok-swept.swept.ids xs) + sum_by len_of gone ≡ sum_by len_of xs =
    ap (λ (ids : List Bytes). sum_by len_of (without_each key ids xs) + sum_by len_of gone) s.ids ∙ left_sum pattern key xs in
    let few = each-filter HasFewFields (λ o. glob_meets pattern o.id) held (each-filter HasFewFields (has_key key) xs c.requires.kept.few) in
    let short = dels_short gone few in
    let told : dels gone ≡ map (λ id. announced (change.Del key id)) c.in_ok-swept.swept.ids =
    dels_of key gone (each-filter (λ o. o.key ≡ key) (λ o. glob_meets pattern o.id) held (keyed key xs)) ∙ ap (map (λ (id : Bytes). announced (change.Del key id))) (sym s.ids) in
    λ (now : ℕ). record {
      reply = number (length gone);
      is = swept (world_in c.args.objects.now) now key pattern ∙ within_changes (number (length gone)) (dels gone) fits ∙ ap (changes (number (length gone))) told;
      frame = frame_is;
      short = subst (λ (f : Bytes). length f ≤ max_reply) (sym frame_is) fits;
      there = subst (λ (ids : List Bytes). AllThere key ids xs) (sym s.ids) (met_there pattern key xs c.requires.kept.sorted);
      accepted = tt;
      few = tt;
      length_is = s.length_is ∙ ap records_len told;
      small = omega (arith, short, left, weight_sum xs, s.length_is, c.requires.kept.weighed, c.requires.kept.light);
      weight_is = omega (arith, left, weight_sum xs, weight_sum (without_each key c.in_ok-swept.swept.ids xs), s.weight_is, c.requires.kept.weighed);
      light = omega (arith, s.weight_is, c.requires.kept.light);
    }
