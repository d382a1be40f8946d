use Rattle.seat_example.proofs.main.Given as goal

-- the state that the kernel is in
abbrev pub ghosts-run : goal.ghosts-run
ghosts-run g a = record { opening = a.kernel }
