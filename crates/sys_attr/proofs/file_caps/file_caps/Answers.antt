use Rattle.std.proofs.Common.{◌≡◌, ◌∙◌, ◌||◌, not, true, false, Option, None, Some, refl, ap, sym, inl, inr}
use Rattle.std.proofs.lemmas.Bool.{cases_Bool, or_right}
use Rattle.std.proofs.lemmas.Option.{same_Some}
use Rattle.cap_bits.proofs.RoundTrips.{some_of_uniform}
use Rattle.cap_bits.specs.declared.file_caps.FileCaps.{FileCaps}
use Rattle.cap_bits.specs.declared.state.CapState.{CapState}
use Rattle.cap_bits.specs.FileCaps.{caps_by, file_caps_of, is_uniform}
use Rattle.kern_model.specs.Kinds.{is_file}
use Rattle.kern_model.specs.declared.calls.Errno.TheVariants as errno
use Rattle.sys_attr.proofs.CapsLemmas.{goes_on_with, refuses_there}
use Rattle.sys_attr.proofs.file_caps.file_caps.Goals.{in_default-via-in-Some+else-is_file, in_default-via-in_default}
use Rattle.sys_attr.proofs.file_caps.file_caps.Goals as goal

-- no file has a state that is not uniform
mixed_where_none : (caps : CapState) → ◌≡◌ {A = Option FileCaps} None (file_caps_of caps) → is_uniform caps ≡ false
mixed_where_none caps none = elim (cases_Bool (is_uniform caps)) [
  | inl uniform ↦ absurd (let no : ◌≡◌ {A = Option FileCaps} None (Some (caps_by caps)) = none ∙ some_of_uniform caps uniform in cc)
  | inr mixed ↦ mixed
]

pub returns-in-Some-clause-step : goal.returns-in-Some-clause-step
returns-in-Some-clause-step c = λ log.
    let file : is_file c.args.object.now.kind ≡ true = sym c.if-is_file.ensures in
    let uniform : is_uniform c.args.caps.now ≡ true = c.in-Some.ensures.uniform.0 refl in
    let same : caps_by c.args.caps.now ≡ c.in-Some.file_caps = same_Some (caps_by c.args.caps.now) c.in-Some.file_caps (sym (c.in-Some.ensures.value ∙ some_of_uniform c.args.caps.now uniform)) in
    goes_on_with log errno.EINVAL (caps_by c.args.caps.now) c.in-Some.file_caps _ same (λ i. not (file i) || not (uniform i))

pub returns-in_default-clause-step : goal.returns-in_default-clause-step
returns-in_default-clause-step c = λ log.
    let kind = c.args.object.now.kind in
    let caps = c.args.caps.now in
    elim c.in_default.branch [
      | in_default-via-in-Some+else-is_file w ↦ refuses_there log errno.EINVAL (caps_by caps) _ (λ i. not (sym w.if-is_file.ensures i) || not (is_uniform caps))
      | in_default-via-in_default w ↦ refuses_there log errno.EINVAL (caps_by caps) _ (or_right (not (is_file kind)) (not (is_uniform caps)) (ap not (mixed_where_none caps (sym w.in_default.is ∙ c.from_state.ensures.value))))
    ]
