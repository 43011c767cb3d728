use Rattle.std.proofs.Common.{arith}
use Rattle.turn_lock.proofs.Seating.{begins}
use Rattle.turn_lock.proofs.lock.TurnLock.new.Goals as goal

pub vacant-requires : goal.vacant-requires
vacant-requires g c = begins _ _ _ _ _ 256 (omega arith)
