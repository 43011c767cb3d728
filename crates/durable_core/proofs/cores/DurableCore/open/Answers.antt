use Rattle.std.proofs.Common.{◌∙◌, List, [], ap, inl, inr, refl, subst, sym, arith}
use Rattle.byte_text.specs.Names.{Bytes}
use Rattle.outside.specs.CauseLaws.{rose_later}
use Rattle.outside.specs.Causes.{Rose}
use Rattle.outside.specs.Crashes.{LeavesOnly}
use Rattle.outside.specs.CrashLaws.{begins, weaker}
use Rattle.world_data.specs.Sound.{IsSoundWorld}
use Rattle.world_data.specs.Worlds.{empty_world}
use Rattle.world_data.specs.declared.worlds.World.{World}
use Rattle.world_model.specs.Halls.{Hall}
use Rattle.journal.specs.Growing.{grows_on}
use Rattle.journal.specs.Journals.{Keeps}
use Rattle.journal.specs.Logs.{HasGrown}
use Rattle.journal.specs.Openings.{IsLeftByOpening}
use Rattle.log_record.specs.Recovery.{RecoversEither}
use Rattle.world_recovery.specs.Opened.{IsOpened}
use Rattle.durable_core.specs.Opened.{IsLeftByStart}
use Rattle.durable_core.proofs.Older.{is_older, log_fault}
use Rattle.durable_core.proofs.Opening.{half_rewritten, is_opening, opened_grows, opened_hall, opened_kept, opened_leaves, reads_alike, since_on, start_grown, start_leaves, was_read, world_sound}
use Rattle.durable_core.proofs.cores.DurableCore.open.Goals as goal

pub over-requires-clause-sound : goal.over-requires-clause-sound
over-requires-clause-sound g c = world_sound c.in-Ok.field-0.journal.log.version c.in-Ok.ensures.opened.batches c.in-Ok.field-0.world c.in-Ok.ensures.opened.world_is c.in-Ok.ensures.recorded

pub returns-in-Ok-upgrade-clause-sound : goal.returns-in-Ok-upgrade-clause-sound
returns-in-Ok-upgrade-clause-sound g c =
    subst IsSoundWorld (sym (ap (λ (h : Hall). h.world) c.in-Ok-over.ensures))
    (world_sound c.in-Ok.field-0.journal.log.version c.in-Ok.ensures.opened.batches c.in-Ok.field-0.world c.in-Ok.ensures.opened.world_is c.in-Ok.ensures.recorded)

pub returns-in-Ok-upgrade-clause-opened : goal.returns-in-Ok-upgrade-clause-opened
returns-in-Ok-upgrade-clause-opened g c =
    let D = g.D.Disk in
    let k = c.in-Ok.field-0.journal in
    let h = c.in-Ok-over.core.hall in
    let keeps = λ (batches : List Bytes). Keeps D.crashes D.seen D.images k batches [] in
    let opened = subst (λ (w : World). IsOpened D.crashes D.seen D.moment D.left_since c.args.disk k.disk w k.log.version keeps) (sym (ap (λ (z : Hall). z.world) c.in-Ok-over.ensures)) c.in-Ok.ensures.opened in
    was_read D.crashes D.seen D.images D.moment D.left_since c.args.disk k.disk c.upgrade.new.self.journal.disk h.world k.log.version keeps opened
    (λ s told crash.
    let kept = opened_kept D.crashes D.seen D.images D.moment D.left_since g.met.D.Disk.as_read c.args.disk _ h.world s opened told c.in-Ok.ensures.pending refl in
    (c.in-Ok-upgrade.ensures.log h.world kept refl).leaves (c.in-Ok.ensures.told ∙ crash))

pub returns-in-Ok-upgrade-clause-safe : goal.returns-in-Ok-upgrade-clause-safe
returns-in-Ok-upgrade-clause-safe g c s told crash =
    let D = g.D.Disk in
    let k = c.in-Ok.field-0.journal in
    let h = c.in-Ok-over.core.hall in
    let keeps = λ (batches : List Bytes). Keeps D.crashes D.seen D.images k batches [] in
    let opened = subst (λ (w : World). IsOpened D.crashes D.seen D.moment D.left_since c.args.disk k.disk w k.log.version keeps) (sym (ap (λ (z : Hall). z.world) c.in-Ok-over.ensures)) c.in-Ok.ensures.opened in
    let kept = opened_kept D.crashes D.seen D.images D.moment D.left_since g.met.D.Disk.as_read c.args.disk _ h.world s opened told c.in-Ok.ensures.pending refl in
    let leads = c.in-Ok-upgrade.ensures.log h.world kept refl in
    let goes = c.in-Ok.ensures.told ∙ crash in
    is_opening D.crashes D.seen D.images D.moment D.left_since g.met.D.Disk.as_read c.args.disk _ _
    (since_on D.crashes D.seen D.images D.moment D.left_since c.args.disk k.disk c.upgrade.new.self.journal.disk h.world k.log.version keeps opened s told crash (leads.leaves goes))
    (opened_hall h c.in-Ok.field-0.world c.in-Ok.field-0.len c.in-Ok-over.ensures) leads.kept (c.in-Ok-upgrade.ensures.told ∙ goes)

pub returns-in-Ok-upgrade-clause-grown : goal.returns-in-Ok-upgrade-clause-grown
returns-in-Ok-upgrade-clause-grown g c s told before earlier has =
    let D = g.D.Disk in
    let k = c.in-Ok.field-0.journal in
    let w = c.in-Ok.field-0.world in
    let world = ap (λ (z : Hall). z.world) c.in-Ok-over.ensures in
    let opened = c.in-Ok.ensures.opened in
    let kept = opened_kept D.crashes D.seen D.images D.moment D.left_since g.met.D.Disk.as_read c.args.disk _ w s opened told c.in-Ok.ensures.pending refl in
    let on = (c.in-Ok-upgrade.ensures.log w kept world).grown (record { batches = opened.batches; copied = [] }) (opened.keeps s told) in
    let found = opened_grows D.crashes D.seen D.moment D.left_since (λ (batches : List Bytes). Keeps D.crashes D.seen D.images k batches []) c.args.disk k w s opened told (c.in-Ok.ensures.generation s told) before earlier has in
    record {
      sides = on.sides;
      keeps = on.keeps;
      grows = grows_on before k.log.generation c.upgrade.new.self.journal.log.generation earlier opened.batches on.sides.batches found on.grows;
    }

pub returns-in-Ok-upgrade-clause-leaves_grown : goal.returns-in-Ok-upgrade-clause-leaves_grown
returns-in-Ok-upgrade-clause-leaves_grown g c s told crash before earlier has each =
    let D = g.D.Disk in
    let w = c.in-Ok.field-0.world in
    let world = ap (λ (z : Hall). z.world) c.in-Ok-over.ensures in
    let opened = c.in-Ok.ensures.opened in
    let kept = opened_kept D.crashes D.seen D.images D.moment D.left_since g.met.D.Disk.as_read c.args.disk _ w s opened told c.in-Ok.ensures.pending refl in
    start_grown D.crashes D.seen D.images D.moment D.left_since c.args.disk c.in-Ok.field-0.journal.disk c.upgrade.new.self.journal.disk w s before earlier has each (c.in-Ok.ensures.leaves s told crash)
    (opened_leaves D.crashes D.seen D.images D.moment D.left_since g.met.D.Disk.as_read c.args.disk _ c.upgrade.new.self w s _ opened told (c.in-Ok.ensures.generation s told) (c.in-Ok.ensures.told ∙ crash) (c.in-Ok-upgrade.ensures.log w kept world) before earlier has)

pub returns-in-Memory-clause-leaves_grown : goal.returns-in-Memory-clause-leaves_grown
returns-in-Memory-clause-leaves_grown g c s told crash before earlier has each =
    let D = g.D.Disk in
    let w = c.in-Ok.field-0.world in
    let world = ap (λ (z : Hall). z.world) c.in-Ok-over.ensures in
    let opened = c.in-Ok.ensures.opened in
    let kept = opened_kept D.crashes D.seen D.images D.moment D.left_since g.met.D.Disk.as_read c.args.disk _ w s opened told c.in-Ok.ensures.pending refl in
    subst (λ d. LeavesOnly D.moment D.left_since c.args.disk d (HasGrown before earlier)) (sym c.handed_back.ensures.disk)
    (start_grown D.crashes D.seen D.images D.moment D.left_since c.args.disk c.in-Ok.field-0.journal.disk c.upgrade.new.self.journal.disk w s before earlier has each (c.in-Ok.ensures.leaves s told crash)
    (opened_leaves D.crashes D.seen D.images D.moment D.left_since g.met.D.Disk.as_read c.args.disk _ c.upgrade.new.self w s _ opened told (c.in-Ok.ensures.generation s told) (c.in-Ok.ensures.told ∙ crash) (c.in-Memory.ensures.log w kept world) before earlier has))

pub returns-in-Err-over-clause-leaves_grown : goal.returns-in-Err-over-clause-leaves_grown
returns-in-Err-over-clause-leaves_grown g c s told crash before earlier has each =
    let D = g.D.Disk in
    let mid = c.in-Ok.field-0.journal.disk in
    subst (λ d. LeavesOnly D.moment D.left_since c.args.disk d (HasGrown before earlier)) (sym c.handed_back-in-Err-over.ensures.disk)
    (start_grown D.crashes D.seen D.images D.moment D.left_since c.args.disk mid mid c.in-Ok.field-0.world s before earlier has each (c.in-Ok.ensures.leaves s told crash) (begins D.moment D.left_since mid (HasGrown before earlier)))

pub returns-in-Err-clause-leaves_grown : goal.returns-in-Err-clause-leaves_grown
returns-in-Err-clause-leaves_grown g c s told crash before earlier has each =
    let D = g.D.Disk in
    let left = c.in-Err.unopened.disk in
    start_grown D.crashes D.seen D.images D.moment D.left_since c.args.disk left left empty_world s before earlier has each (c.in-Err.ensures.leaves s told crash) (begins D.moment D.left_since left (HasGrown before earlier))

pub returns-in-Ok-upgrade-clause-leaves : goal.returns-in-Ok-upgrade-clause-leaves
returns-in-Ok-upgrade-clause-leaves g c s told crash =
    let D = g.D.Disk in
    let k = c.in-Ok.field-0.journal in
    let w = c.in-Ok.field-0.world in
    let world = ap (λ (z : Hall). z.world) c.in-Ok-over.ensures in
    let kept = opened_kept D.crashes D.seen D.images D.moment D.left_since g.met.D.Disk.as_read c.args.disk _ w s c.in-Ok.ensures.opened told c.in-Ok.ensures.pending refl in
    start_leaves D.crashes D.seen D.images D.moment D.left_since c.args.disk k.disk c.upgrade.new.self.journal.disk w s k.log.version (c.in-Ok.ensures.version s told) k.log.headed.latest
    (λ is. ap (λ t. t.journal.disk) (c.in-Ok-upgrade.ensures.same is)) (c.in-Ok.ensures.opened.recovers s told) (c.in-Ok.ensures.leaves s told crash)
    ((c.in-Ok-upgrade.ensures.log w kept world).leaves (c.in-Ok.ensures.told ∙ crash))

pub returns-in-Memory-clause-leaves : goal.returns-in-Memory-clause-leaves
returns-in-Memory-clause-leaves g c s told crash =
    let D = g.D.Disk in
    let k = c.in-Ok.field-0.journal in
    let w = c.in-Ok.field-0.world in
    let world = ap (λ (z : Hall). z.world) c.in-Ok-over.ensures in
    let kept = opened_kept D.crashes D.seen D.images D.moment D.left_since g.met.D.Disk.as_read c.args.disk _ w s c.in-Ok.ensures.opened told c.in-Ok.ensures.pending refl in
    subst (λ d. LeavesOnly D.moment D.left_since c.args.disk d (IsLeftByStart (D.images c.args.disk) s)) (sym c.handed_back.ensures.disk)
    (start_leaves D.crashes D.seen D.images D.moment D.left_since c.args.disk k.disk c.upgrade.new.self.journal.disk w s k.log.version (c.in-Ok.ensures.version s told) k.log.headed.latest
    (λ is. ap (λ t. t.journal.disk) (c.in-Memory.ensures.same is)) (c.in-Ok.ensures.opened.recovers s told) (c.in-Ok.ensures.leaves s told crash)
    ((c.in-Memory.ensures.log w kept world).leaves (c.in-Ok.ensures.told ∙ crash)))

pub returns-in-Memory-clause-same : goal.returns-in-Memory-clause-same
returns-in-Memory-clause-same g c s told =
    let D = g.D.Disk in
    let w = c.in-Ok.field-0.world in
    let world = ap (λ (z : Hall). z.world) c.in-Ok-over.ensures in
    let kept = opened_kept D.crashes D.seen D.images D.moment D.left_since g.met.D.Disk.as_read c.args.disk _ w s c.in-Ok.ensures.opened told c.in-Ok.ensures.pending refl in
    let still = (c.in-Memory.ensures.log w kept world).kept in
    inr (inl (reads_alike D.crashes D.seen D.images D.moment D.left_since g.met.D.Disk.as_read c.upgrade.new.self.journal still.batches still.copied _ w s _ c.handed_back.ensures.why still.keeps still.whole still.committed
    (c.in-Ok.ensures.opened.recovers s told) c.handed_back.ensures.disk))

pub returns-in_default : goal.returns-in_default
returns-in_default g c =
    let D = g.D.Disk in
    let k = c.in-Ok.field-0.journal in
    let w = c.in-Ok.field-0.world in
    let world = ap (λ (z : Hall). z.world) c.in-Ok-over.ensures in
    let back = c.handed_back-in_default.ensures in
    let failed = log_fault c.upgrade.result c.in_default.not-Ok c.in_default.not-Memory c.upgrade.ensures.ended in
    let later = c.in-Ok.ensures.later in
    record {
      hall = tt;
      sound = tt;
      opened = tt;
      log = λ s told. tt;
      safe = λ s told crash. tt;
      recovers = λ s told. tt;
      idle = tt;
      version = tt;
      generation = λ s told. tt;
      len = λ s told. tt;
      short = tt;
      damaged = λ s told side place is. absurd (cc (back.why, is));
      whole = λ s told. tt;
      leaves = λ s told crash.
          let kept = opened_kept D.crashes D.seen D.images D.moment D.left_since g.met.D.Disk.as_read c.args.disk _ w s c.in-Ok.ensures.opened told c.in-Ok.ensures.pending refl in
          subst (λ d. LeavesOnly D.moment D.left_since c.args.disk d (IsLeftByStart (D.images c.args.disk) s)) (sym back.disk)
          (start_leaves D.crashes D.seen D.images D.moment D.left_since c.args.disk k.disk c.upgrade.new.self.journal.disk w s k.log.version (c.in-Ok.ensures.version s told) k.log.headed.latest
          (λ is. ap (λ t. t.journal.disk) (c.upgrade.ensures.same is)) (c.in-Ok.ensures.opened.recovers s told) (c.in-Ok.ensures.leaves s told crash)
          ((c.upgrade.ensures.log w kept world).leaves (c.in-Ok.ensures.told ∙ crash)));
      grown = λ s told. tt;
      leaves_grown = λ s told crash before earlier has each.
          let kept = opened_kept D.crashes D.seen D.images D.moment D.left_since g.met.D.Disk.as_read c.args.disk _ w s c.in-Ok.ensures.opened told c.in-Ok.ensures.pending refl in
          subst (λ d. LeavesOnly D.moment D.left_since c.args.disk d (HasGrown before earlier)) (sym back.disk)
          (start_grown D.crashes D.seen D.images D.moment D.left_since c.args.disk k.disk c.upgrade.new.self.journal.disk w s before earlier has each (c.in-Ok.ensures.leaves s told crash)
          (opened_leaves D.crashes D.seen D.images D.moment D.left_since g.met.D.Disk.as_read c.args.disk _ c.upgrade.new.self w s _ c.in-Ok.ensures.opened told (c.in-Ok.ensures.generation s told) (c.in-Ok.ensures.told ∙ crash) (c.upgrade.ensures.log w kept world) before earlier has));
      same = λ s told.
          let kept = opened_kept D.crashes D.seen D.images D.moment D.left_since g.met.D.Disk.as_read c.args.disk _ w s c.in-Ok.ensures.opened told c.in-Ok.ensures.pending refl in
          let leads = c.upgrade.ensures.log w kept world in
          let less = is_older k.log.version k.log.headed.latest (λ is. c.in_default.not-Ok (c.upgrade.ensures.newest is)) in
          inr (inr (half_rewritten D.crashes D.seen D.images D.moment D.left_since g.met.D.Disk.as_read g.met.D.Disk.counts_now g.met.D.Disk.only_now _ _ w s _ back.why kept (c.in-Ok.ensures.opened.recovers s told) (c.in-Ok.ensures.version s told) less
          (λ goes. subst (λ d. LeavesOnly D.moment D.left_since k.disk d (RecoversEither w w)) (sym back.disk) (leads.leaves goes)) (ap D.crashes back.disk ∙ c.upgrade.ensures.told)));
      told = ap D.crashes back.disk ∙ c.upgrade.ensures.told ∙ c.in-Ok.ensures.told;
      later = let more = c.upgrade.ensures.later in let at = ap D.faults back.disk in omega (arith, later, more, at);
      cause = λ is. rose_later (D.faults c.args.disk) (D.faults k.disk) (D.faults c.handed_back-in_default.result.disk) later
          (subst (λ d. Rose (D.faults k.disk) (D.faults d)) (sym back.disk) (c.upgrade.ensures.cause failed));
    }

pub returns-in-Err-over-clause-leaves : goal.returns-in-Err-over-clause-leaves
returns-in-Err-over-clause-leaves g c s told crash =
    let D = g.D.Disk in
    subst (λ d. LeavesOnly D.moment D.left_since c.args.disk d (IsLeftByStart (D.images c.args.disk) s)) (sym c.handed_back-in-Err-over.ensures.disk)
    (weaker D.moment D.left_since c.args.disk c.in-Ok.field-0.journal.disk (IsLeftByOpening (D.images c.args.disk) s) (IsLeftByStart (D.images c.args.disk) s) (λ image left. inl left) (c.in-Ok.ensures.leaves s told crash))

pub returns-in-Err-over-clause-same : goal.returns-in-Err-over-clause-same
returns-in-Err-over-clause-same g c s told =
    let D = g.D.Disk in
    let w = c.in-Ok.field-0.world in
    let back = c.handed_back-in-Err-over.ensures in
    let opened = c.in-Ok.ensures.opened in
    inr (inl (reads_alike D.crashes D.seen D.images D.moment D.left_since g.met.D.Disk.as_read c.in-Ok.field-0.journal opened.batches [] _ w s _ back.why (opened.keeps s told) opened.whole opened.world_is (opened.recovers s told) back.disk))

pub returns-in-Err-clause-leaves : goal.returns-in-Err-clause-leaves
returns-in-Err-clause-leaves g c s told crash =
    let D = g.D.Disk in
    weaker D.moment D.left_since c.args.disk c.in-Err.unopened.disk (IsLeftByOpening (D.images c.args.disk) s) (IsLeftByStart (D.images c.args.disk) s) (λ image left. inl left) (c.in-Err.ensures.leaves s told crash)
