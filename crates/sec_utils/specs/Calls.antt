-- The calls that a utility makes.
use Rattle.std.specs.Prelude.{◌≡◌, Bool, true, List, length, filter_map, Option, Some, is_some}
use Rattle.std.specs.Option.{option_map}
use Rattle.cap_bits.specs.declared.state.CapState.{CapState}
use Rattle.fs_path.specs.Path.{PathValue}
use Rattle.kern_model.specs.declared.calls.Call.{Call}
use Rattle.kern_model.specs.declared.calls.Call.TheVariants as call
use Rattle.lab_lattice.specs.Label.{Label}
use Rattle.sec_utils.specs.declared.util.Tool.{Tool}
use Rattle.sec_utils.specs.declared.util.Tool.TheVariants as tool
use Rattle.sec_utils.specs.declared.util.Util.{Util}

abbrev pub call_by : Tool → CapState → Option Label → PathValue → Option Call
call_by tool.GetFcap caps mark path = Some (call.CapGetFile path)
call_by tool.SetFcap caps mark path = Some (call.CapSetFile path caps)
call_by tool.GetFmac caps mark path = Some (call.MacGetFile path)
call_by tool.SetFmac caps mark path = option_map (call.MacSetFile path) mark

-- the call for a path; there is none where labels are to be set and no label is given
abbrev pub call_on : Util → PathValue → Option Call
call_on util path = call_by util.tool util.caps util.mark path

-- the calls of a utility, one for each path in order
unfoldable pub calls_of : Util → List Call
calls_of util = filter_map (call_on util) util.paths

abbrev pub is_marked_by : Tool → Option Label → Bool
is_marked_by tool.SetFmac mark = is_some mark
is_marked_by _ mark = true

-- whether a label is given where labels are to be set
abbrev pub is_marked : Util → Bool
is_marked util = is_marked_by util.tool util.mark

-- a label is given where labels are to be set, and there are as many texts as paths
pub record IsWhole (util : Util) : Type 0 where
  pub marked : is_marked util ≡ true
  pub texts : length util.texts ≡ length util.paths
