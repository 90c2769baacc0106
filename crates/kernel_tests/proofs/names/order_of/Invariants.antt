use Rattle.kernel_tests.proofs.names.order_of.Given as goal

abbrev pub ghosts-order : goal.ghosts-order
ghosts-order a = record { name = a.blank.name; parts = a.blank.parts }
