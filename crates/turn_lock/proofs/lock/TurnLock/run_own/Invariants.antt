use Rattle.turn_lock.proofs.lock.TurnLock.run_own.Given as goal

abbrev pub ghosts-commit : goal.ghosts-commit
ghosts-commit g a = record { entries = g.T.Work.Work.entries a.work.now.value a.out.now a.after.now.value }
