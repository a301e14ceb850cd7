use Rattle.dc_store_tests.proofs.chains.two_entries.Given as goal

abbrev pub ghosts-find : goal.ghosts-find
ghosts-find g a = record { name = a.blank.name; parts = a.blank.parts }
