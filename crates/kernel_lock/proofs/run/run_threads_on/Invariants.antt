use Rattle.kernel_lock.proofs.run.run_threads_on.Given as goal

abbrev pub ghosts-run_until_joined : goal.ghosts-run_until_joined
ghosts-run_until_joined g a = record { name = a.blank.name; parts = a.blank.parts }
