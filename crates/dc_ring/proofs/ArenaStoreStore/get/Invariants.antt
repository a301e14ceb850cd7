use Rattle.dc_ring.proofs.ArenaStoreStore.get.Given as goal

abbrev pub ghosts-get_by : goal.ghosts-get_by
ghosts-get_by a = record { name = a.blank.name; parts = a.blank.parts }
