use Rattle.std.proofs.Common.{List, [], map, take, ℕ, refl, ◌∙◌, subst, arith, ◌≡◌}
use Rattle.world_model.specs.Seats.{Act}
use Rattle.world_model.specs.Outcomes.{call_act, call_acts}
use Rattle.world_model.specs.declared.events.CallOutcome.TheVariants as called
use Rattle.shared_hall.specs.Cores.{hall_in, disk_in, ActsInFront, TurnsBy}
use Rattle.shared_hall.proofs.Calling.{next_call, is_proper_at, acts_to, acts_all, names_more}
use Rattle.shared_hall.proofs.Turning.{acts_behind, acts_go_on}
use Rattle.shared_hall.proofs.answers.call_each.Goals as goal

pub call-requires-clause-proper : goal.call-requires-clause-proper
call-requires-clause-proper g c = is_proper_at c.args.asked.now c.loop-i.i c.at.result.now c.requires.proper c.at.ensures

pub returns-in_default-clause-turn : goal.returns-in_default-clause-turn
returns-in_default-clause-turn g c =
    let m = g.D.Disk in
    let f = call_act c.args.session c.args.moment called.Ok in
    let start = c.args.core.now.place in
    let new = c.call.new.self in
    subst (λ (acts : List Act). TurnsBy m.crashes m.seen m.images m.moment m.left_since m.faults acts [] (disk_in new.before.value) start new.place)
    (acts_to c.args.session c.args.moment c.call.result c.args.asked.now c.loop-i.i c.at.result.now c.in_default.not-Ok c.at.ensures)
    (acts_behind m.crashes m.seen m.images m.moment m.left_since m.faults (map f (take c.loop-i.i c.args.asked.now)) (call_act c.args.session c.args.moment c.call.result c.at.result.now) start c.loop-i.core.place new.place new.before.value
    c.call.ensures.before c.loop-i.invariant.front c.call.ensures.act)

pub returns-in_default-clause-handed : goal.returns-in_default-clause-handed
returns-in_default-clause-handed g c = c.call.ensures.handed ∙ c.loop-i.invariant.handed

pub returns-in_default-clause-named : goal.returns-in_default-clause-named
returns-in_default-clause-named g c = names_more c.loop-i.touched c.call.new.touched (hall_in c.args.core.now.place) (hall_in c.loop-i.core.place) (hall_in c.call.new.self.place) c.loop-i.invariant.named c.call.ensures.kept c.call.ensures.named

pub loop-i-preserved : goal.loop-i-preserved
loop-i-preserved g c =
    let m = g.D.Disk in
    let f = call_act c.args.session c.args.moment called.Ok in
    let xs = c.args.asked.now in
    let i = c.loop-i.i in
    let a = f c.at.result.now in
    let start = c.args.core.now.place in
    let mid = c.loop-i.core.place in
    let new = c.call.new.self in
    record {
      handed = c.call.ensures.handed ∙ c.loop-i.invariant.handed;
      front = subst (λ (acts : List Act). ActsInFront m.crashes m.seen m.images m.moment m.left_since m.faults acts start new.place) (next_call f xs i c.at.result.now c.at.ensures)
          (acts_go_on m.crashes m.seen m.images m.moment m.left_since m.faults (map f (take i xs)) a start mid new.place c.loop-i.invariant.front c.in-Ok.ensures.act refl refl);
      turn = subst (λ (acts : List Act). TurnsBy m.crashes m.seen m.images m.moment m.left_since m.faults acts [] (disk_in new.before.value) start new.place) (next_call f xs i c.at.result.now c.at.ensures)
          (acts_behind m.crashes m.seen m.images m.moment m.left_since m.faults (map f (take i xs)) a start mid new.place new.before.value c.call.ensures.before c.loop-i.invariant.front c.in-Ok.ensures.act);
      named = names_more c.loop-i.touched c.call.new.touched (hall_in c.args.core.now.place) (hall_in c.loop-i.core.place) (hall_in c.call.new.self.place) c.loop-i.invariant.named c.call.ensures.kept c.call.ensures.named;
      room = c.call.ensures.room;
    }

pub returns-clause-turn : goal.returns-clause-turn
returns-clause-turn g c =
    let m = g.D.Disk in
    let n = c.args.session in
    let t = c.args.moment in
    let xs = c.args.asked.now in
    let i = c.loop-i.i in
    let all : i ≡ c.len.result = omega (arith, c.loop-i.auto.i-end, c.loop-i-test.false, c.len.ensures, c.len-i-end.ensures) in
    subst (λ (k : ℕ). TurnsBy m.crashes m.seen m.images m.moment m.left_since m.faults (call_acts n t xs k called.Ok) [] (disk_in c.loop-i.core.before.value) c.args.core.now.place c.loop-i.core.place) all
    (subst (λ (acts : List Act). TurnsBy m.crashes m.seen m.images m.moment m.left_since m.faults acts [] (disk_in c.loop-i.core.before.value) c.args.core.now.place c.loop-i.core.place) (acts_all n t xs i) c.loop-i.invariant.turn)
