use Rattle.lab_engine.proofs.Sending.{out_of_memory}
use Rattle.labsys.proofs.TrailLemmas.{line_fits}
use Rattle.labsys.proofs.lineage.write_lineage.Goals as goal

pub returns-in_err-lineage : goal.returns-in_err-lineage
returns-in_err-lineage g c = λ source trail. out_of_memory _ _ _ c.from_residual.ensures.1

pub lineage_line-requires : goal.lineage_line-requires
lineage_line-requires g c = record { small = line_fits c.args.trail.now _ c.header_lines-head.ensures c.requires.few c.in_ok-lineage.lineage c.in_ok-lineage.ensures.no }

pub returns-in_err-text : goal.returns-in_err-text
returns-in_err-text g c = λ source trail. out_of_memory _ _ _ c.from_residual-in_err-text.ensures.1
