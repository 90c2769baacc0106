-- What of an object calls read and set.
use Rattle.kern_model.specs.AttrRows.{change_caps, relabel, report_caps, report_label, write_object_then}
use Rattle.kern_model.specs.declared.checks.Place.{Place}
use Rattle.kern_model.specs.declared.numbers.Oid.{Oid}
use Rattle.kern_model.specs.declared.numbers.Pid.{Pid}
use Rattle.kern_model.specs.declared.objects.Object.{Object}
use Rattle.kern_model.specs.Row.{Row}
use Rattle.kern_model.specs.State.{State, Process}
use Rattle.kern_model.specs.Walk.{read_object}
use Rattle.sys_attr.specs.declared.fields.Field.{Field}
use Rattle.sys_attr.specs.declared.fields.Field.TheVariants as field
use Rattle.sys_attr.specs.declared.fields.Setting.{Setting}
use Rattle.sys_attr.specs.declared.fields.Setting.TheVariants as setting
use Rattle.sys_attr.specs.declared.objects.ObjectArgument.{ObjectArgument}
use Rattle.sys_attr.specs.Objects.{on_argument}

-- a field of an object that was read is answered
abbrev pub report : Field → Object → Row
report field.Caps o = report_caps o
report field.Label o = report_label o

-- a field of the object that an argument names is read
abbrev pub get_row : State → Process → ObjectArgument → Field → Row
get_row s p object f = on_argument s p object (λ id place. read_object s p id place (report f))

-- a field of an object that is written gets a value
abbrev pub change : State → Pid → Process → Setting → Oid → Place → Object → Row
change s who p (setting.Caps caps) id place o = change_caps who p caps id place o
change s who p (setting.Label label) id place o = relabel s who p label id place o

-- a field of the object that an argument names is set
abbrev pub set_row : State → Pid → Process → ObjectArgument → Setting → Row
set_row s who p object new = on_argument s p object (write_object_then s p (change s who p new))
