use Rattle.test_seats.proofs.seated.is_done.Given as goal

-- the state that the kernel is in
abbrev pub ghosts-is_done_at : goal.ghosts-is_done_at
ghosts-is_done_at g a = record { opening = a.kernel }
