-- A key that has objects has a first one.
use Rattle.std.proofs.Common.{◌<◌, List, [], length, sym, subst, arith}
use Rattle.world_data.specs.declared.objects.Object.{Object}
use Rattle.world_store.proofs.NextKeys.{key_has_some, first_read}
use Rattle.world_store.proofs.copies.first_of.Goals as goal

pub at-requires : goal.at-requires
at-requires c =
    subst (λ (l : List Object). 0 < length l) (sym c.in-Some.ensures.some) (key_has_some c.args.objects.now c.args.at (omega arith) c.requires c.key.result.now c.key.ensures c.keys.ensures.distinct)

pub unreachable-requires : goal.unreachable-requires
unreachable-requires c =
    let some = key_has_some c.args.objects.now c.args.at (omega arith) c.requires c.key.result.now c.key.ensures c.keys.ensures.distinct in
    let none : 0 < length {A = Object} [] = subst (λ (l : List Object). 0 < length l) c.in-None.ensures.none some in
    omega (arith, none)

pub returns : goal.returns
returns c =
    first_read c.args.objects.now c.args.at (omega arith) c.requires c.key.result.now c.key.ensures c.in-Some.own.now.objects c.at.result.now c.in-Some.ensures.some c.at.ensures
