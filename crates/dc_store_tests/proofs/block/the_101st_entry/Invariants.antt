use Rattle.dc_store_tests.proofs.block.the_101st_entry.Given as goal

abbrev pub ghosts-find : goal.ghosts-find
ghosts-find g a = record { name = a.blank.name; parts = a.blank.parts }

abbrev pub ghosts-is_counted : goal.ghosts-is_counted
ghosts-is_counted g a = record { name = a.blank.name; parts = a.blank.parts }
