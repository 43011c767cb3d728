use Rattle.std.proofs.Common.{arith}
use Rattle.turn_lock.proofs.AllowingPlaces.{does}
use Rattle.turn_lock.proofs.lock.TurnLock.finish.Goals as goal

pub swap-requires : goal.swap-requires
swap-requires g c = let t = c.requires.ran in (c.requires.table, (let lt = c.requires.place.1 in omega (arith, c.args.self.now.sized.0, lt)), does _ _ _ _ _ _ _ _ t.1 c.args.work.now.value c.args.out.now.value t.0 c.args.after.now.value _ c.requires.entries c.requires.place.0 (let lt = c.requires.place.1 in omega (arith, c.args.self.now.sized.1, lt)) t.2 c.requires.hand c.requires.slots t.3 t.4 t.5)
