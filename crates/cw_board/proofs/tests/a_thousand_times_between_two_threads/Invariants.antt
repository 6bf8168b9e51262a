use Rattle.cw_board.proofs.tests.a_thousand_times_between_two_threads.Given as goal

-- the history that was just opened, for one worker
abbrev pub ghosts-tell_often : goal.ghosts-tell_often
ghosts-tell_often g a = record { book = a.history.seen.book; workers = 1 }
