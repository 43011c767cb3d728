use Rattle.turn_lock.proofs.lock.TurnLock.serve.Given as goal

abbrev pub ghosts-finish : goal.ghosts-finish
ghosts-finish g a = record { entries = g.T.Work.Work.entries a.work.now.value a.out.now.value a.after.now.value }
