use Rattle.fs_dirs.proofs.directory.place_of.Given as goal

abbrev pub ghosts-search_from : goal.ghosts-search_from
ghosts-search_from a = record { name = a.blank.name; parts = a.blank.parts }
