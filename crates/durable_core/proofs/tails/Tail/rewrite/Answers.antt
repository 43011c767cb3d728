use Rattle.std.proofs.Common.{◌∙◌, refl, sym, arith}
use Rattle.outside.specs.CauseLaws.{rose_later}
use Rattle.durable_core.specs.Kept.{settled_log}
use Rattle.durable_core.specs.Steps.{ended}
use Rattle.durable_core.proofs.Stepping.{then_as, then_done}
use Rattle.durable_core.proofs.Older.{fewer_left, leads_first, underway_first, underway_on}
use Rattle.durable_core.proofs.tails.Tail.rewrite.Goals as goal

pub each-init : goal.each-init
each-init g c =
    let D = g.D.Disk in
    let old = c.args.self.now in
    record {
      log = λ w kept is. leads_first D.crashes D.seen D.images D.moment D.left_since old old w refl kept;
      works = c.requires.works;
      underway = underway_first _ _ old.journal.log.version old.journal.log.generation _ old.rewriting c.requires.asked refl refl;
      later = omega arith;
      told = refl;
    }

pub each-preserved : goal.each-preserved
each-preserved g c =
    let D = g.D.Disk in
    let old = c.args.self.now in
    let mid = c.each.self in
    let new = c.step.new.self in
    let w = c.args.core.now.hall.world in
    let before = c.each.invariant in
    let busy = sym c.is_idle.ensures ∙ c.each-test.true in
    record {
      log = λ v kept is.
          let one = before.log v kept is in
          then_done D.crashes D.seen D.images D.moment D.left_since old mid new (settled_log v) one before.told (c.in-Ok.ensures.log (settled_log v) one.kept is);
      works = c.in-Ok.ensures.works (λ e. cc);
      underway = underway_on old.journal.log.version old.journal.log.generation mid.journal.log.version mid.journal.log.generation w mid.rewriting new.rewriting new.journal.log.version new.journal.log.generation busy before.underway
          (c.in-Ok.ensures.version refl) (c.in-Ok.ensures.generation refl) (c.in-Ok.ensures.shown refl);
      later = let one = before.later in let two = c.in-Ok.ensures.later in omega (arith, one, two);
      told = c.in-Ok.ensures.told ∙ before.told;
    }

pub each-smaller : goal.each-smaller
each-smaller g c =
    let old = c.args.self.now.journal.log in
    let busy = sym c.is_idle.ensures ∙ c.each-test.true in
    fewer_left old.version old.generation old.version old.generation c.args.core.now.hall.world c.each.self.rewriting c.step.new.self.rewriting busy (c.in-Ok.ensures.shown refl)

pub returns-in_default : goal.returns-in_default
returns-in_default g c =
    let D = g.D.Disk in
    let old = c.args.self.now in
    let mid = c.each.self in
    let new = c.step.new.self in
    let before = c.each.invariant in
    record {
      log = λ v kept is.
          let one = before.log v kept is in
          then_as D.crashes D.seen D.images D.moment D.left_since old mid new (settled_log v) one before.told (ended c.step.result) (c.step.ensures.log (settled_log v) one.kept is);
      rewriting = λ is. absurd (c.in_default.not-Ok is);
      version = λ is. absurd (c.in_default.not-Ok is);
      generation = λ is. absurd (c.in_default.not-Ok is);
      ended = c.step.ensures.ended;
      works = c.step.ensures.works;
      cause = λ is. rose_later (D.faults old.journal.disk) (D.faults mid.journal.disk) (D.faults new.journal.disk) before.later (c.step.ensures.cause is);
      later = let one = before.later in let two = c.step.ensures.later in omega (arith, one, two);
      told = c.step.ensures.told ∙ before.told;
    }
