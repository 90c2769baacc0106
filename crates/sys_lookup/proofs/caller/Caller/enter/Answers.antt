use Rattle.std.proofs.Common.{◌≡◌, ◌∙◌, ap, sym, not, true}
use Rattle.std.proofs.lemmas.Bool.{not-false}
use Rattle.kern_model.specs.Kinds.{is_dir}
use Rattle.kern_model.proofs.StateLemmas.{dir_there}
use Rattle.chk_rules.proofs.Steps.{need_goes, need_stops, refuse_goes, refuse_stops, equal_refusal}
use Rattle.sys_lookup.specs.declared.shared.Metadata.{Metadata}
use Rattle.sys_lookup.specs.Shared.{metadata_of}
use Rattle.sys_lookup.proofs.CheckLemmas.{not_refused}
use Rattle.sys_lookup.proofs.WalkLemmas.{where_ok}
use Rattle.sys_lookup.proofs.caller.Caller.enter.Goals as goal

pub returns-in_err-mac_read-clause-step : goal.returns-in_err-mac_read-clause-step
returns-in_err-mac_read-clause-step c = need_stops c.from_residual.result c.from_residual.ensures.1 (c.in_err-mac_read.ensures c.args.self.now.state c.args.dir.now c.metadata-object.ensures)

pub returns-in_err-refuse_if-clause-step : goal.returns-in_err-refuse_if-clause-step
returns-in_err-refuse_if-clause-step c =
    need_goes (c.in_ok-mac_read.ensures c.args.self.now.state c.args.dir.now c.metadata-object.ensures)
    (refuse_stops c.from_residual-in_err-refuse_if.result c.from_residual-in_err-refuse_if.ensures.1 (equal_refusal (ap not (c.is_directory.ensures ∙ ap (λ (m : Metadata). is_dir m.kind) c.metadata-object.ensures)) (c.in_err-refuse_if.ensures c.mac_read.new.checks)))

pub returns-clause-step : goal.returns-clause-step
returns-clause-step c =
    need_goes (c.in_ok-mac_read.ensures c.args.self.now.state c.args.dir.now c.metadata-object.ensures)
    (refuse_goes (equal_refusal (ap not (c.is_directory.ensures ∙ ap (λ (m : Metadata). is_dir m.kind) c.metadata-object.ensures)) (c.in_ok-refuse_if.ensures c.mac_read.new.checks))
    (c.dac_search.ensures c.args.self.now.state c.args.dir.now c.metadata-object.ensures))

pub returns-clause-dir : goal.returns-clause-dir
returns-clause-dir c =
    let s = c.args.self.now.state in
    let log = c.mac_read.new.checks in
    let is : is_dir (metadata_of s c.args.dir.now).kind ≡ true =
    ap (λ (m : Metadata). is_dir m.kind) (sym c.metadata-object.ensures) ∙ sym c.is_directory.ensures ∙ not-false c.is_directory.result (not_refused log log _ _ (c.in_ok-refuse_if.ensures log)) in
    where_ok c.dac_search.result (dir_there s c.args.dir.now is)
