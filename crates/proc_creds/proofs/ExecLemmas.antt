-- What a process takes on by exec of a file.
use Rattle.std.specs.Prelude.{◌≡◌, ℕ, Bool, true, false, None, Some, cond, unwrap_or, refl}
use Rattle.kern_model.specs.Exec.{exec_ids}
use Rattle.kern_model.specs.Kinds.{sets_user, sets_group}
use Rattle.kern_model.specs.declared.numbers.Ids.{Ids}
use Rattle.kern_model.specs.declared.objects.Attr.{Attr}
use Rattle.proc_creds.specs.Credentials.{taken_on}

-- a value that is there on a condition
given_if : (b : Bool) (x y : ℕ) → unwrap_or (cond b (Some x) None) y ≡ cond b x y
given_if true x y = refl
given_if false x y = refl

-- the owner and the group of a file, where its mode sets them, give the ids of the exec rule
pub taken_from_file : (ids : Ids) (attr : Attr) → taken_on ids (cond (sets_user attr.mode) (Some attr.owner) None) (cond (sets_group attr.mode) (Some attr.group) None) ≡ exec_ids ids attr
taken_from_file ids attr i = record ids {
  euid = given_if (sets_user attr.mode) attr.owner ids.euid i;
  suid = given_if (sets_user attr.mode) attr.owner ids.suid i;
  egid = given_if (sets_group attr.mode) attr.group ids.egid i;
  sgid = given_if (sets_group attr.mode) attr.group ids.sgid i;
}
