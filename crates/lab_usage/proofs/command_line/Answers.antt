use Rattle.std.proofs.Common.{◌≡◌, ◌∙◌, rules, ap, ap₂, true}
use Rattle.clap.specs.Words.{app_of, rule_of, with_rule}
use Rattle.clap.specs.Simple.{app_of_fields, on_top}
use Rattle.lab_usage.specs.CommandLine.{argument_rule, command_rule, flagless}
use Rattle.lab_usage.proofs.command_line.Goals as goal

pub returns : goal.returns
returns c =
    let command_is : rule_of c.help-command.result ≡ command_rule = search rules in
    let argument_is : rule_of c.help-argument.result ≡ argument_rule = search rules in
    let about_is : app_of c.about.result ≡ on_top (λ top. record top { has_version = true }) (app_of c.new-3.result) =
    ap app_of_fields c.about.ensures ∙ ap app_of_fields c.version.ensures in
    let flags_are : app_of c.no_binary_name.result ≡ flagless =
    ap app_of_fields c.no_binary_name.ensures ∙ ap (on_top (λ top. record top { no_binary_name = true }))
    (ap app_of_fields c.disable_version_flag.ensures ∙ ap (on_top (λ top. record top { disable_version_flag = true }))
    (ap app_of_fields c.disable_help_flag.ensures ∙ ap (on_top (λ top. record top { disable_help_flag = true }))
    (about_is ∙ ap (on_top (λ top. record top { has_version = true })) c.new-3.ensures.app))) in
    ap app_of_fields c.after_help.ensures ∙ c.in_ok-arg-2.ensures.shape (search rules)
    ∙ ap₂ with_rule (c.in_ok-arg.ensures.shape (search rules) ∙ ap₂ with_rule flags_are command_is) argument_is
