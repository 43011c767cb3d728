use Rattle.std.proofs.Common.{rules, ◌∙◌, ℕ, refl, length, take, drop, ap}
use Rattle.std.proofs.lemmas.List.{places, with_items_is}
use Rattle.log_sides.specs.Texts.{front_text}
use Rattle.durable_core.proofs.Reading.{part_of, they_make, world_of}
use Rattle.durable_core.proofs.Stepping.{faulted_on, read_on}
use Rattle.durable_core.proofs.tails.Tail.read_part.Goals as goal

pub returns-in-Ok-clause-log : goal.returns-in-Ok-clause-log
returns-in-Ok-clause-log g c j kept =
    let D = g.D.Disk in
    read_on D.crashes D.seen D.images D.moment D.left_since c.args.self.now _ j kept (rw c.read.ensures.log refl) (rw c.read.ensures.log refl) c.in-Ok.ensures.kept c.in-Ok.ensures.leaves c.requires.committed
    (rw c.read.ensures.log c.requires.committed) refl

pub returns-in-Err-clause-log : goal.returns-in-Err-clause-log
returns-in-Err-clause-log g c j kept =
    let D = g.D.Disk in
    faulted_on D.crashes D.seen D.images D.moment D.left_since c.args.self.now _ j kept _ c.in-Err.ensures.leaves

pub returns-in-Ok-clause-part : goal.returns-in-Ok-clause-part
returns-in-Ok-clause-part g c s keeps =
    let D = g.D.Disk in
    let old = c.args.self.now in
    part_of D.crashes D.seen D.images old.journal c.requires.latest c.args.ask _ _ _ _ c.generation-generation.ensures c.gate-end.ensures c.first_of-from.ensures.from
    (λ batches copied keeps. ap (take c.in-Ok.count) (with_items_is c.args.into.now.block c.read.new.into (search (rules, places))) ∙ c.in-Ok.ensures.bytes batches copied keeps ∙ ap (λ (n : ℕ). take n (drop c.first_of-from.result (front_text old.journal.log.version old.journal.log.generation batches))) (ap length c.deref_mut.ensures.value ∙ c.args.into.now.whole))
    s.batches s.copied keeps

pub returns-in-Ok-clause-world : goal.returns-in-Ok-clause-world
returns-in-Ok-clause-world g c j kept =
    let D = g.D.Disk in
    let old = c.args.self.now in
    world_of D.crashes D.seen D.images old c.requires.latest c.args.ask _ _
    (part_of D.crashes D.seen D.images old.journal c.requires.latest c.args.ask _ _ _ _ c.generation-generation.ensures c.gate-end.ensures c.first_of-from.ensures.from
    (λ batches copied keeps. ap (take c.in-Ok.count) (with_items_is c.args.into.now.block c.read.new.into (search (rules, places))) ∙ c.in-Ok.ensures.bytes batches copied keeps ∙ ap (λ (n : ℕ). take n (drop c.first_of-from.result (front_text old.journal.log.version old.journal.log.generation batches))) (ap length c.deref_mut.ensures.value ∙ c.args.into.now.whole)))
    j kept

pub returns-in-Ok-clause-written : goal.returns-in-Ok-clause-written
returns-in-Ok-clause-written g c s keeps = c.in-Ok.ensures.kept s.batches s.copied keeps

pub returns-in-Ok-clause-whole : goal.returns-in-Ok-clause-whole
returns-in-Ok-clause-whole g c j s kept keeps = let D = g.D.Disk in they_make D.crashes D.seen D.images c.args.self.now j s c.requires.latest kept keeps

pub returns-in-Err-clause-whole : goal.returns-in-Err-clause-whole
returns-in-Err-clause-whole g c j s kept keeps = let D = g.D.Disk in they_make D.crashes D.seen D.images c.args.self.now j s c.requires.latest kept keeps
