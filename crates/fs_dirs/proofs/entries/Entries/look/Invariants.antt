use Rattle.fs_dirs.proofs.entries.Entries.look.Given as goal

abbrev pub ghosts-look_from : goal.ghosts-look_from
ghosts-look_from a = record { name = a.blank.name; parts = a.blank.parts }
