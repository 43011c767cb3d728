use Rattle.std.proofs.Common.{◌≡◌, ◌≤◌, ◌<◌, length, lit≤, subst, ap, ◌∙◌, sym, refl, true, false, List, Bor, arith}
use Rattle.std.specs.Prelude.{is_none, option_map}
use Rattle.std.proofs.lemmas.Result.{IfOk-weaker}
use Rattle.byte_text.specs.Names.{Bytes}
use Rattle.byte_text.specs.Replies.{fine}
use Rattle.world_data.specs.Limits.{max_fields, max_objects, max_reply}
use Rattle.world_data.specs.Filters.{Field, with_values}
use Rattle.world_model.specs.Replies.{null}
use Rattle.world_model.specs.Effects.{Effect, fields_of, given_and_cleared, is_kept_back}
use Rattle.world_data.specs.declared.objects.Object.{Object}
use Rattle.world_model.specs.Refusals.{refusal_reply}
use Rattle.world_model.specs.declared.faults.Refusal.TheVariants as refusal
use Rattle.keyspace.specs.Entries.{objects_in}
use Rattle.object_plans.specs.Moves.{world_in}
use Rattle.object_plans.specs.Plans.{IsPlan, put_or_full}
use Rattle.object_plans.specs.Answering.{answers}
use Rattle.object_plans.proofs.Setting.{is_there, new_is, kept_back, many, full, put_over, put_more, setting}
use Rattle.object_plans.proofs.puts.plan_set.Goals as goal
use Rattle.object_plans.proofs.puts.plan_set.Goals.{else-is_new-via-then-is_new+else-len-ge-MAX_OBJECTS, else-is_new-via-else-is_new}

pub returns-then-keeps_back : goal.returns-then-keeps_back
returns-then-keeps_back c =
    let xs = objects_in c.args.objects.now in
    let r = c.get-old.result in
    let back : is_kept_back c.args.terms.only (option_map (λ (o : Bor Object). o.now) r) ≡ true = sym (c.keeps_back.ensures _ (sym c.is_none-is_new.ensures ∙ is_there r)) ∙ c.if-keeps_back.true in
    answers xs c.args.total c.requires.kept _ null _ refl (c.say_frame.ensures null c.in_ok-null_frame.ensures) _
    (kept_back xs c.args.object c.args.object.fields c.args.terms.cleared c.args.terms.seconds c.args.terms.only c.args.now r c.get-old.ensures.none c.get-old.ensures.some back)

pub returns-then-len-gt-MAX_FIELDS : goal.returns-then-len-gt-MAX_FIELDS
returns-then-len-gt-MAX_FIELDS c =
    let xs = objects_in c.args.objects.now in
    let o = c.args.object in
    let r = c.get-old.result in
    let free : is_kept_back c.args.terms.only (option_map (λ (o : Bor Object). o.now) r) ≡ false = sym (c.keeps_back.ensures _ (sym c.is_none-is_new.ensures ∙ is_there r)) ∙ c.if-keeps_back.false in
    let fields = c.in_ok-whole.ensures ∙ ap (λ (fs : List Field). with_values (fields_of (option_map (λ (o : Bor Object). o.now) r)) (given_and_cleared fs c.args.terms.cleared)) c.replace-given.ensures.value in
    let more : max_fields < length c.in_ok-whole.field-0 = omega (arith, c.if-len-gt-MAX_FIELDS.true, c.len.ensures.count) in
    answers xs c.args.total c.requires.kept _ (refusal_reply refusal.TooManyFields) _ refl c.say_refusal.ensures _
    (many xs o o.fields c.args.terms.cleared c.args.terms.seconds c.args.terms.only c.args.now r c.get-old.ensures.none c.get-old.ensures.some free c.in_ok-whole.field-0 c.deadline_after-whole.result fields c.deadline_after-whole.ensures more)

pub returns-then-len-ge-MAX_OBJECTS : goal.returns-then-len-ge-MAX_OBJECTS
returns-then-len-ge-MAX_OBJECTS c =
    let xs = objects_in c.args.objects.now in
    let o = c.args.object in
    let r = c.get-old.result in
    let free : is_kept_back c.args.terms.only (option_map (λ (o : Bor Object). o.now) r) ≡ false = sym (c.keeps_back.ensures _ (sym c.is_none-is_new.ensures ∙ is_there r)) ∙ c.if-keeps_back.false in
    let fields = c.in_ok-whole.ensures ∙ ap (λ (fs : List Field). with_values (fields_of (option_map (λ (o : Bor Object). o.now) r)) (given_and_cleared fs c.args.terms.cleared)) c.replace-given.ensures.value in
    let less : length c.in_ok-whole.field-0 ≤ max_fields = omega (arith, c.if-len-gt-MAX_FIELDS.false, c.len.ensures.count) in
    let new : is_none r ≡ true = new_is r _ c.is_none-is_new.ensures ∙ c.if-is_new.true in
    let le : max_objects ≤ length xs = omega (arith, c.if-len-ge-MAX_OBJECTS.true, c.len-then-is_new.ensures.count) in
    answers xs c.args.total c.requires.kept _ (refusal_reply refusal.TooManyObjects) _ refl c.say_refusal-then-len-ge-MAX_OBJECTS.ensures _
    (full xs o o.fields c.args.terms.cleared c.args.terms.seconds c.args.terms.only c.args.now r c.get-old.ensures.none c.get-old.ensures.some free c.in_ok-whole.field-0 c.deadline_after-whole.result fields c.deadline_after-whole.ensures less new le)

pub plan_put-requires-clause-short : goal.plan_put-requires-clause-short
plan_put-requires-clause-short c = subst (λ (f : Bytes). length f ≤ max_reply) (sym c.in_ok-frame.ensures) (lit≤ tt)

pub returns : goal.returns
returns c =
    let xs = objects_in c.args.objects.now in
    let w = world_in c.args.objects.now in
    let o = c.args.object in
    let r = c.get-old.result in
    let fs = c.in_ok-whole.field-0 in
    let d = c.deadline_after-whole.result in
    let free : is_kept_back c.args.terms.only (option_map (λ (o : Bor Object). o.now) r) ≡ false = sym (c.keeps_back.ensures _ (sym c.is_none-is_new.ensures ∙ is_there r)) ∙ c.if-keeps_back.false in
    let fields = c.in_ok-whole.ensures ∙ ap (λ (fs : List Field). with_values (fields_of (option_map (λ (o : Bor Object). o.now) r)) (given_and_cleared fs c.args.terms.cleared)) c.replace-given.ensures.value in
    let less : length fs ≤ max_fields = omega (arith, c.if-len-gt-MAX_FIELDS.false, c.len.ensures.count) in
    let whole : Object = record { key = o.key; id = o.id; text = o.text; shape = o.shape; fields = fs; deadline = d } in
    let put : setting xs o o.fields c.args.terms.cleared c.args.terms.seconds c.args.terms.only c.args.now r c.get-old.ensures.none c.get-old.ensures.some ≡ put_or_full w whole fine true = elim c.else-is_new.branch [
      | else-is_new-via-then-is_new+else-len-ge-MAX_OBJECTS b ↦
          put_more xs o o.fields c.args.terms.cleared c.args.terms.seconds c.args.terms.only c.args.now r c.get-old.ensures.none c.get-old.ensures.some free fs d fields c.deadline_after-whole.ensures less (omega (arith, b.if-len-ge-MAX_OBJECTS.false, b.len-then-is_new.ensures.count))
      | else-is_new-via-else-is_new b ↦
          put_over xs o o.fields c.args.terms.cleared c.args.terms.seconds c.args.terms.only c.args.now r c.get-old.ensures.none c.get-old.ensures.some free fs d fields c.deadline_after-whole.ensures less (new_is r _ c.is_none-is_new.ensures ∙ b.if-is_new.false)
    ] in
    IfOk-weaker c.plan_put.result _ _ (λ p s. subst (λ (e : Effect). IsPlan xs e p) (sym put) s) (c.plan_put.ensures fine c.in_ok-frame.ensures)
