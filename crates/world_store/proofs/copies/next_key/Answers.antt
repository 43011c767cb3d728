-- Where no key is given, the first one that has an object is the next.
use Rattle.std.proofs.Common.{true, refl, subst, sym, arith}
use Rattle.keyspace.specs.Entries.{Entry, has_objects}
use Rattle.world_store.specs.Copies.{IsKeyPlace, is_next_key, name_in}
use Rattle.world_store.proofs.Walking.{held_found, nothing_before}
use Rattle.world_store.proofs.copies.next_key.Goals as goal

pub returns-in-None-clause-place : goal.returns-in-None-clause-place
returns-in-None-clause-place c =
    subst (λ o. IsKeyPlace (is_next_key (name_in o)) c.args.objects.now c.next_held.result) (sym c.in-None.is)
    (held_found has_objects (λ (e : Entry). true) c.args.objects.now 0 0 c.next_held.result (omega arith) (nothing_before has_objects (λ e. true) c.args.objects.now) (λ k e from at has. refl)
    c.next_held.ensures.from c.next_held.ensures.bare c.next_held.ensures.held)
