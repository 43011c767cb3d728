use Rattle.std.proofs.Common.{◌≡◌, ◌≤◌, ℕ, ◌-◌, ◌++◌, ◌∙◌, ap, subst, sym, refl, List, [], length, take, drop, arith}
use Rattle.std.specs.Prelude.{Option, Some}
use Rattle.std.proofs.lemmas.Result.{err_from_is_err_and}
use Rattle.byte_text.specs.Names.{Bytes}
use Rattle.durable_core.specs.Logged.{hall_of, disk_of}
use Rattle.replay_run.specs.declared.halts.Halt.{Halt}
use Rattle.replay_run.specs.declared.halts.Halt.TheVariants as halted
use Rattle.replay_run.specs.Traces.{Deed, trace}
use Rattle.replay_run.specs.Scripts.{FedTo}
use Rattle.replay_run.specs.Undone.{FedFails}
use Rattle.replay_run.specs.Steps.{IsStep}
use Rattle.replay_run.proofs.Feeding.{Goes, goes_start, goes_piece}
use Rattle.replay_run.proofs.FeedCalls.{lost_step}
use Rattle.replay_run.proofs.Standing.{stays_same, stays_more}
use Rattle.replay_run.proofs.Calling.{comes_ok, comes_err, comes_at, comes_then, comes_lost}
use Rattle.replay_run.proofs.feeds.feed_reader.Goals as goal

pub loop-out-init : goal.loop-out-init
loop-out-init g c =
    let h = hall_of c.args.core.now in
    let start = goes_start h c.args.reader.now.session c.args.moment c.args.reader.now.unread c.args.bytes.now in
    record {
      goes = ([], subst (λ (z : Bytes). Goes h c.args.reader.now.session c.args.moment c.args.reader.now.unread c.args.bytes.now h c.args.reader.now.unread c.args.bytes.now (trace [] z)) (sym c.new-out.ensures) start, stays_same g.D.Disk.crashes g.D.Disk.seen g.D.Disk.images g.D.Disk.moment g.D.Disk.left_since g.D.Disk.faults c.args.core.now);
      session = refl;
      going = c.requires.goes;
      later = omega arith;
    }

pub loop-out-preserved : goal.loop-out-preserved
loop-out-preserved g c =
    let i = c.loop-out.invariant in
    let made = c.in_ok-step.ensures.made in
    let first = i.goes.0 in
    let others = made.done.0 in
    let some = subst (λ (o : Option ℕ). IsStep (hall_of c.loop-out.core) c.loop-out.reader.session c.args.moment c.loop-out.reader.unread c.loop-out.rest.now (trace others c.in_ok-step.step.out) (hall_of c.feed_next.new.core) c.feed_next.new.reader.unread o) c.in-Some.is made.done.1 in
    let step = subst (λ (n : ℕ). IsStep (hall_of c.loop-out.core) n c.args.moment c.loop-out.reader.unread c.loop-out.rest.now (trace others c.in_ok-step.step.out) (hall_of c.feed_next.new.core) c.feed_next.new.reader.unread (Some c.in-Some.taken)) i.session some in
    let goes = goes_piece (hall_of c.args.core.now) c.args.reader.now.session c.args.moment c.args.reader.now.unread c.args.bytes.now (hall_of c.loop-out.core) (hall_of c.feed_next.new.core) c.loop-out.reader.unread c.feed_next.new.reader.unread c.loop-out.rest.now (trace first c.loop-out.out) (trace others c.in_ok-step.step.out) c.in-Some.taken i.goes.1 step in
    let pushed : c.push.new.self ≡ c.loop-out.out ++ c.in_ok-step.step.out = c.in_ok-push.ensures.ok ∙ ap (λ (z : Bytes). c.loop-out.out ++ z) c.bytes.ensures in
    let all = subst (λ (z : Bytes). Goes (hall_of c.args.core.now) c.args.reader.now.session c.args.moment c.args.reader.now.unread c.args.bytes.now (hall_of c.feed_next.new.core) c.feed_next.new.reader.unread (take (length c.loop-out.rest.now - c.in-Some.taken) (drop c.in-Some.taken c.loop-out.rest.now)) (trace (first ++ others) z)) (sym pushed) goes in
    let before : g.D.Disk.faults (disk_of c.args.core.now) ≤ g.D.Disk.faults (disk_of c.loop-out.core) = i.later in
    let now : g.D.Disk.faults (disk_of c.loop-out.core) ≤ g.D.Disk.faults (disk_of c.feed_next.new.core) = made.later in
    record {
      goes = (first ++ others, all, stays_more g.D.Disk.crashes g.D.Disk.seen g.D.Disk.images g.D.Disk.moment g.D.Disk.left_since g.D.Disk.faults c.args.core.now c.loop-out.core c.feed_next.new.core first others i.goes.2 made.done.2);
      session = c.in_ok-step.ensures.session ∙ i.session;
      going = made.goes;
      later = omega (arith, before, now);
    }

pub returns-in_err-step-clause-made : goal.returns-in_err-step-clause-made
returns-in_err-step-clause-made g c =
    let i = c.loop-out.invariant in
    let new = hall_of c.feed_next.new.core in
    let p = err_from_is_err_and c.from_residual.result c.from_residual.ensures.1 in
    comes_at g.D.Disk.crashes g.D.Disk.seen g.D.Disk.images g.D.Disk.moment g.D.Disk.left_since g.D.Disk.faults c.args.core.now c.feed_next.new.core _ _ c.from_residual.result p.0 _ p.1 p.2
    (comes_then g.D.Disk.crashes g.D.Disk.seen g.D.Disk.images g.D.Disk.moment g.D.Disk.left_since g.D.Disk.faults c.args.core.now c.loop-out.core c.feed_next.new.core i.goes.0 (λ (out : Bytes) (deeds : List Deed). ⊥) _
    (λ halt deeds. FedFails halt (hall_of c.loop-out.core) c.args.reader.now.session c.args.moment c.loop-out.reader.unread c.loop-out.rest.now deeds new) _ _ i.goes.2 i.later
    (comes_err g.D.Disk.crashes g.D.Disk.seen g.D.Disk.images g.D.Disk.moment g.D.Disk.left_since g.D.Disk.faults c.loop-out.core c.feed_next.new.core _ _ _ _ _ c.in_err-step.ensures.made
    (λ deeds f. subst (λ (n : ℕ). FedFails c.in_err-step.field-0.0 (hall_of c.loop-out.core) n c.args.moment c.loop-out.reader.unread c.loop-out.rest.now deeds new) i.session f))
    (λ out deeds none. absurd none) (λ halt deeds f. i.goes.1.fails halt deeds new f))

pub returns-in_err-push-clause-made : goal.returns-in_err-push-clause-made
returns-in_err-push-clause-made g c =
    let i = c.loop-out.invariant in
    let old = hall_of c.args.core.now in
    let new = hall_of c.feed_next.new.core in
    let p = err_from_is_err_and c.from_residual-in_err-push.result c.from_residual-in_err-push.ensures.1 in
    comes_at g.D.Disk.crashes g.D.Disk.seen g.D.Disk.images g.D.Disk.moment g.D.Disk.left_since g.D.Disk.faults c.args.core.now c.feed_next.new.core _ _ c.from_residual-in_err-push.result p.0 halted.Memory p.1 p.2
    (comes_then g.D.Disk.crashes g.D.Disk.seen g.D.Disk.images g.D.Disk.moment g.D.Disk.left_since g.D.Disk.faults c.args.core.now c.loop-out.core c.feed_next.new.core i.goes.0 (λ (out : Bytes) (deeds : List Deed). ⊥) _
    (λ halt deeds. FedFails halt old c.args.reader.now.session c.args.moment c.args.reader.now.unread c.args.bytes.now (i.goes.0 ++ deeds) new) _ _ i.goes.2 i.later
    (comes_lost g.D.Disk.crashes g.D.Disk.seen g.D.Disk.images g.D.Disk.moment g.D.Disk.left_since g.D.Disk.faults c.loop-out.core c.feed_next.new.core _ _ _ _ c.in_ok-step.step halted.Memory refl c.in_ok-step.ensures.made
    (λ deeds s. lost_step old c.args.reader.now.session c.args.moment c.args.reader.now.unread c.args.bytes.now (hall_of c.loop-out.core) new c.loop-out.reader.unread c.feed_next.new.reader.unread c.loop-out.rest.now (trace i.goes.0 c.loop-out.out) (trace deeds c.in_ok-step.step.out) c.in_ok-step.step.taken i.goes.1
    (subst (λ (n : ℕ). IsStep (hall_of c.loop-out.core) n c.args.moment c.loop-out.reader.unread c.loop-out.rest.now (trace deeds c.in_ok-step.step.out) new c.feed_next.new.reader.unread c.in_ok-step.step.taken) i.session s)))
    (λ out deeds none. absurd none) (λ halt deeds f. f))

pub returns-in-None-clause-made : goal.returns-in-None-clause-made
returns-in-None-clause-made g c =
    let i = c.loop-out.invariant in
    let old = hall_of c.args.core.now in
    let new = hall_of c.feed_next.new.core in
    let pushed : c.push.new.self ≡ c.loop-out.out ++ c.in_ok-step.step.out = c.in_ok-push.ensures.ok ∙ ap (λ (z : Bytes). c.loop-out.out ++ z) c.bytes.ensures in
    comes_then g.D.Disk.crashes g.D.Disk.seen g.D.Disk.images g.D.Disk.moment g.D.Disk.left_since g.D.Disk.faults c.args.core.now c.loop-out.core c.feed_next.new.core i.goes.0
    (λ out deeds. FedTo old c.args.reader.now.session c.args.moment c.args.reader.now.unread c.args.bytes.now (trace (i.goes.0 ++ deeds) out) new c.feed_next.new.reader.unread) _ (λ (halt : Halt) (deeds : List Deed). ⊥) _ _ i.goes.2 i.later
    (comes_ok g.D.Disk.crashes g.D.Disk.seen g.D.Disk.images g.D.Disk.moment g.D.Disk.left_since g.D.Disk.faults c.loop-out.core c.feed_next.new.core _ _ _ _ c.in_ok-step.step c.push.new.self c.in_ok-step.ensures.made
    (λ deeds s.
    let none = subst (λ (o : Option ℕ). IsStep (hall_of c.loop-out.core) c.loop-out.reader.session c.args.moment c.loop-out.reader.unread c.loop-out.rest.now (trace deeds c.in_ok-step.step.out) new c.feed_next.new.reader.unread o) c.in-None.is s in
    let fed = subst (λ (n : ℕ). FedTo (hall_of c.loop-out.core) n c.args.moment c.loop-out.reader.unread c.loop-out.rest.now (trace deeds c.in_ok-step.step.out) new c.feed_next.new.reader.unread) i.session none in
    subst (λ (z : Bytes). FedTo old c.args.reader.now.session c.args.moment c.args.reader.now.unread c.args.bytes.now (trace (i.goes.0 ++ deeds) z) new c.feed_next.new.reader.unread) (sym pushed)
    (i.goes.1.goes (trace deeds c.in_ok-step.step.out) new c.feed_next.new.reader.unread fed)))
    (λ out deeds fed. fed) (λ halt deeds none. absurd none)
