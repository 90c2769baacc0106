-- The command line, as `clap` reads it.
use Rattle.std.specs.Prelude.{true, codes}
use Rattle.clap.specs.Words.{App, Rule, new_app, new_rule, with_rule}
use Rattle.clap.specs.Simple.{on_top}

-- a word that has to be there
abbrev pub command_rule : Rule
command_rule = record (new_rule (codes "COMMAND")) { required = true }

-- a word that may follow it
abbrev pub argument_rule : Rule
argument_rule = new_rule (codes "ARGUMENT")

-- a program that has a version and no flag, and whose name is not among the words
abbrev pub flagless : App
flagless =
    on_top (λ top. record top {
      no_binary_name = true;
      disable_help_flag = true;
      disable_version_flag = true;
      has_version = true;
    }) (new_app (codes "labsys"))

-- the command line: the command, and the argument after it
abbrev pub command_line : App
command_line = with_rule (with_rule flagless command_rule) argument_rule
