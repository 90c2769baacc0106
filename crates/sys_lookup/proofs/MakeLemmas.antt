-- An object is made in a valid state.
use Rattle.std.specs.Prelude.{◌≡◌, ⊤, Bool, not, true, Option, None, Some, Ok, refl}
use Rattle.std.specs.FinMap as map
use Rattle.std.proofs.Common.{ap, sym, ◌∙◌, arith}
use Rattle.std.proofs.Math.Logic.{∥∥₁_map, ∥∥₁_elim}
use Rattle.std.proofs.lemmas.Bool.{false_from_ne_true, not-false}
use Rattle.cap_bits.specs.CapSet.{no_caps}
use Rattle.lab_lattice.specs.Label.{Label, bottom}
use Rattle.kern_model.specs.declared.calls.Errno.TheVariants.{ENOSPC}
use Rattle.kern_model.specs.declared.numbers.Oid.{Oid}
use Rattle.kern_model.specs.declared.numbers.Pid.{Pid}
use Rattle.kern_model.specs.declared.objects.Attr.{Attr}
use Rattle.kern_model.specs.declared.objects.Body.{Body}
use Rattle.kern_model.specs.declared.objects.Kind.TheVariants as kind
use Rattle.kern_model.specs.declared.objects.Object.{Object}
use Rattle.kern_model.specs.Create.{object_addition}
use Rattle.kern_model.specs.Entries.{link_count}
use Rattle.kern_model.specs.Keys.{Spot, same_oid}
use Rattle.kern_model.specs.Kinds.{kind_of, object_with}
use Rattle.kern_model.specs.Row.{Row, Refuse}
use Rattle.kern_model.specs.State.{State, apply_changes, next_object}
use Rattle.kern_model.specs.Valid.{IsDir, IsValid}
use Rattle.kern_model.proofs.KeyLaws.{oid_cmp_total, oid_cmp_exact, spot_cmp_total, spot_cmp_exact}
use Rattle.kern_model.proofs.MapLemmas.{count_entries-none, get-insert_kept, get-insert_same, never_some, same_key}
use Rattle.kern_model.proofs.StateLemmas.{next_absent}
use Rattle.fs_dirs.specs.Tree.{MayBeAdded}
use Rattle.chk_rules.specs.CheckLog.{CheckLog, check_log}
use Rattle.chk_rules.specs.RowSteps.{GoesOn}
use Rattle.sys_lookup.proofs.CheckLemmas.{not_refused}

-- a number is left where a call is not refused for want of one
pub not_full : (left : Bool) → ((log : CheckLog) → GoesOn log (λ (rest : ⊤ → Row). Refuse ENOSPC (not left) (rest tt)) (Ok tt) log) → left ≡ true
not_full left goes =
    let who : Pid = record { label = bottom; n = 0 } in
    let log = check_log who bottom no_caps in
    not-false left (not_refused log log ENOSPC (not left) (goes log))

-- An option that is known to be `None`, by a proof that gives nothing else, is `None`.
absent_where : {X : Type 0} (o : Option X) → ∥ o ≡ None ∥₁ → o ≡ None
absent_where None known = refl
absent_where (Some x) known = absurd (∥∥₁_elim known (λ a b. absurd a) (λ e. never_some (Some x) x e refl))

-- A new object has the next number, and no entry yet.
module _ (s : State) (valid : ∥ IsValid s ∥₁) (label : Label) (attr : Attr) (content : Body) (no_pipe : kind_of content ≡ kind.Pipe → ⊥) where
  abbrev new : Oid
  new = next_object s label

  abbrev made : Object
  made = object_with label attr content

  -- the state once it is there
  abbrev pub after : State
  after = apply_changes s (object_addition s label made)

  none_there : map.get s.objects new ≡ None
  none_there = absent_where (map.get s.objects new) (∥∥₁_map valid (λ v. next_absent s v label))

  -- directories stay
  pub dir_stays : (dir : Oid) → IsDir s.objects dir → IsDir after.objects dir
  dir_stays dir d = record { object = d.object; is = get-insert_kept oid_cmp_total oid_cmp_exact s.objects new made none_there dir d.object d.is; dir = d.dir }

  unnamed : link_count s new ≡ 0
  unnamed =
      count_entries-none spot_cmp_total spot_cmp_exact (λ (spot : Spot) (at : Oid). same_oid at new) s.entries (λ spot at e.
      false_from_ne_true (same_oid at new) (λ same. ∥∥₁_elim valid (λ a b. absurd a) (λ v.
      let entry = v.entries spot at e in
      never_some (map.get s.objects new) entry.object none_there (ap (map.get s.objects) (sym (same_key oid_cmp_exact at new same)) ∙ entry.object_is))))

  -- it may get one
  pub may_be_added : MayBeAdded after new
  may_be_added = record {
    object = made;
    is = get-insert_same oid_cmp_total s.objects new made;
    few = omega (arith, unnamed);
    no_root = λ e. ∥∥₁_elim valid (λ a b. absurd a) (λ v. never_some (map.get s.objects new) v.root_is.object none_there (ap (map.get s.objects) e ∙ v.root_is.is));
    no_pipe = no_pipe;
    one = λ _. unnamed;
  }
