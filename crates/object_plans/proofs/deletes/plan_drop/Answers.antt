use Rattle.std.proofs.Common.{◌≡◌, ◌≤◌, ◌<◌, ℕ, true, false, not, length, lit<, subst, ap, ◌∙◌, sym, refl, arith, [], ◌∷◌, List, add-zero}
use Rattle.std.specs.Prelude.{filter, nat_lt, sum_by}
use Rattle.std.specs.List.{list_any}
use Rattle.std.proofs.lemmas.Bool.Decides.{nat_tests}
use Rattle.byte_text.specs.Names.{Bytes}
use Rattle.byte_text.specs.Replies.{number, frame_text}
use Rattle.world_data.specs.Limits.{max_reply}
use Rattle.world_data.specs.Worlds.{has_key}
use Rattle.fence_model.specs.Writes.{announced}
use Rattle.world_data.specs.Records.{record_len}
use Rattle.world_data.specs.declared.worlds.Change.TheVariants as change
use Rattle.world_data.specs.declared.objects.Object.{Object}
use Rattle.keyspace.specs.Entries.{objects_in}
use Rattle.object_plans.specs.Moves.{world_in}
use Rattle.record_writer.specs.Lengths.{HaveFewFields, len_of, HasFewFields}
use Rattle.object_plans.specs.Answering.{answers_ever, count_fits, within_changes}
use Rattle.object_plans.specs.Weights.{weight_sum, some_sum}
use Rattle.record_writer.specs.ObjectSums.{parts_sum}
use Rattle.ordered_lists.specs.Reading.{each-filter}
use Rattle.object_plans.proofs.Removing.{drop_some, drop_none, any_key}
use Rattle.object_plans.proofs.deletes.plan_drop.Goals as goal

pub returns-in_default : goal.returns-in_default
returns-in_default c =
    let xs = objects_in c.args.objects.now in
    let none : false ≡ list_any (has_key c.args.key) xs = any_key c.args.key xs 0 (ap (λ (ys : List Object). length ys) (sym c.in_default.ensures.none)) in
    answers_ever xs c.args.total c.requires _ (number 0) _ refl c.say_count.ensures _ (λ (now : ℕ). drop_none (world_in c.args.objects.now) now c.args.key (sym none))

pub returns-then-len-eq0 : goal.returns-then-len-eq0
returns-then-len-eq0 c =
    let xs = objects_in c.args.objects.now in
    let zero_is : 0 ≡ length (filter (has_key c.args.key) xs) = sym c.if-len-eq0.true ∙ c.len.ensures.count ∙ ap (λ (ys : List Object). length ys) c.in-Some.ensures.some in
    let none : false ≡ list_any (has_key c.args.key) xs = any_key c.args.key xs 0 zero_is in
    answers_ever xs c.args.total c.requires _ (number 0) _ refl c.say_count-then-len-eq0.ensures _ (λ (now : ℕ). drop_none (world_in c.args.objects.now) now c.args.key (sym none))

pub weight_less-weight-requires-clause-fields : goal.weight_less-weight-requires-clause-fields
weight_less-weight-requires-clause-fields c = subst HaveFewFields (sym c.in-Some.ensures.some) (each-filter HasFewFields (has_key c.args.key) (objects_in c.args.objects.now) c.requires.few)

pub weight_less-weight-requires-clause-weighed : goal.weight_less-weight-requires-clause-weighed
weight_less-weight-requires-clause-weighed c =
    let xs = objects_in c.args.objects.now in
    let same = ap (sum_by len_of) c.in-Some.ensures.some in
    omega (arith, same, some_sum (has_key c.args.key) xs, weight_sum xs, c.requires.weighed)

pub returns : goal.returns
returns c =
    let xs = objects_in c.args.objects.now in
    let key = c.args.key in
    let rest = filter (λ o. not (has_key key o)) xs in
    let held : c.len.result ≡ length (filter (has_key key) xs) = c.len.ensures.count ∙ ap (λ (ys : List Object). length ys) c.in-Some.ensures.some in
    let more : nat_lt 0 c.len.result ≡ true = let ne = c.if-len-eq0.false in let lt : 0 < c.len.result = omega (arith, ne) in grind (arith, nat_tests) in
    let some : list_any (has_key key) xs ≡ true = sym (any_key key xs c.len.result held) ∙ more in
    let same = ap (sum_by len_of) c.in-Some.ensures.some in
    let parts = parts_sum len_of (has_key key) xs in
    let frame_is : c.in_ok-count_frame.field-0 ≡ frame_text (number 1) = c.in_ok-count_frame.ensures in
    let one = count_fits 1 (lit< tt) in
    λ (now : ℕ). record {
      reply = number 1;
      is = drop_some (world_in c.args.objects.now) now key some ∙ within_changes (number 1) (announced (change.Drop key) ∷ []) one;
      frame = frame_is;
      short = subst (λ (f : Bytes). length f ≤ max_reply) (sym frame_is) one;
      there = tt;
      accepted = tt;
      few = tt;
      length_is = c.drop_len.ensures.value ∙ sym (add-zero (record_len (change.Drop key)));
      small = omega (arith, c.drop_len.ensures.short);
      weight_is = omega (arith, c.weight_less-weight.ensures, same, parts, weight_sum rest, weight_sum xs, c.requires.weighed);
      light = omega (arith, c.weight_less-weight.ensures, c.requires.light);
    }
