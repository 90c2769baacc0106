-- A line that was parsed may be played: its labels are below top, and its numbers, modes and flags are in their ranges.
use Rattle.std.specs.Prelude.{◌≡◌, ℕ, ◌==◌, ◌||◌, nat_le, nat_lt, Bool, true, false, not, cond, List, [], ◌∷◌, length, drop, codes, Option, None, Some, Ok, Err, ℤ, pos, neg_ℤ, unsigned_abs, refl, is_none}
use Rattle.std.proofs.Common.{suc, sym, ◌∙◌, ap, subst, arith}
use Rattle.std.specs.Bool.{beq}
use Rattle.std.specs.List.{cons_option, filter_map, list_all, starts_with}
use Rattle.std.specs.Option.{ok_or, option_and_then, option_map}
use Rattle.std.proofs.lemmas.Bool.{and_parts, and_from, le-leb}
use Rattle.std.proofs.lemmas.Int.{ints}
use Rattle.fs_path.proofs.PathLaws.{path_form}
use Rattle.fs_path.proofs.ValueRanges.{mode_range, numeral_range}
use Rattle.fs_path.specs.Path.{PathValue}
use Rattle.fs_path.specs.PathText.{path_fault, parse_path}
use Rattle.fs_path.specs.declared.path.PathError.{PathError}
use Rattle.fs_path.specs.Split.{split_once}
use Rattle.fs_path.specs.Values.{mode_of, number_of, numeral}
use Rattle.fs_path.specs.Words.{is_blank, words_of}
use Rattle.fs_path.specs.declared.words.LineWord.{LineWord}
use Rattle.kern_model.specs.Arguments.{are_flags, are_names, has_names, is_call, is_number}
use Rattle.kern_model.specs.Kinds.{is_mode, is_permission}
use Rattle.fs_path.specs.declared.words.TheConstants.{MAX_LINE}
use Rattle.kern_model.specs.declared.limits.TheConstants.{MAX_FILE_BYTES, MAX_NUMBER, MAX_OFFSET, MAX_PERMISSIONS, MAX_PROCS}
use Rattle.kern_model.specs.declared.calls.Call.{Call}
use Rattle.kern_model.specs.declared.calls.Call.TheVariants as call
use Rattle.kern_model.specs.declared.calls.CallName.{CallName}
use Rattle.kern_model.specs.declared.calls.CallName.TheVariants as name
use Rattle.kern_model.specs.declared.calls.OpenFlags.{OpenFlags}
use Rattle.kern_model.specs.declared.numbers.Pid.{Pid}
use Rattle.lab_lattice.specs.Label.{Label, dominates}
use Rattle.lab_text.specs.Policy.{PolicyNames, top_of}
use Rattle.lab_text.proofs.Parsed.{parsed_valid}
use Rattle.lab_text.specs.Text.{parse_label}
use Rattle.script_text.specs.Argument.{process, pid_by, path as a_path, label as a_label, tag as a_tag, pid as a_pid, up_to as a_number_up_to, mode as a_mode, permissions as a_permission, offset as an_offset, signed_number, flags as some_flags, flags_in, is_in_order, number_and_rest}
use Rattle.kern_model.specs.Named.{call_named}
use Rattle.script_text.specs.Calls.{parse_call, none_parsed, one_parsed, two_parsed, three_parsed}
use Rattle.script_text.specs.Tools.{on_paths, parse_tool, paths as some_paths, paths_of, plain, with_caps, with_mark}
use Rattle.sec_utils.specs.Calls.{call_by, call_on, calls_of, is_marked, is_marked_by}
use Rattle.sec_utils.specs.Items.{may_be_made}
use Rattle.sec_utils.specs.Tools.{tool_named}
use Rattle.sec_utils.specs.declared.util.Tool.{Tool}
use Rattle.sec_utils.specs.declared.util.Tool.TheVariants as tool
use Rattle.sec_utils.specs.declared.util.Util.{Util}
use Rattle.line_text.specs.Reading.{path_of}
use Rattle.cap_bits.specs.declared.state.CapState.{CapState}
use Rattle.script_text.specs.Line.{MayBePlayed, bytes_in, item_by, parse_item, parse_line, parse_words}
use Rattle.script_text.specs.Reading.{Reading, both, map_reading}
use Rattle.script_text.specs.declared.line.Line.{Line}
use Rattle.script_text.specs.declared.line.Line.TheVariants as line
use Rattle.script_text.specs.declared.fault.LineError.{LineError}
use Rattle.script_text.specs.declared.fault.LineError.TheVariants as error
use Rattle.std.proofs.lemmas.Option.{cond_some}

-- ---- values that are there

pub there : {X : Type 0} (o : Option X) (e : LineError) (x : X) → ok_or o e ≡ Ok x → o ≡ Some x
there None e x h = absurd (cc)
there (Some y) e x h = cc

-- a pair that was read: each part was read
pub both_are : {A B : Type 0} (a : Reading A) (b : Reading B) (p : A × B) → both a b ≡ Ok p → (a ≡ Ok p.0) × (b ≡ Ok p.1)
unfolding both
both_are (Ok x) (Ok y) p h = let e : (x, y) ≡ p = cc in (ap (λ (q : _ × _). Ok q.0) e, ap (λ (q : _ × _). Ok q.1) e)
both_are (Ok x) (Err f) p h = absurd (cc)
both_are (Err e) (Ok y) p h = absurd (cc)
both_are (Err e) (Err f) p h = absurd (cc)

-- what holds of all that is made of a value that was read holds of what was made
pub from_made : {A B : Type 0} (P : B → Type 0) (make : A → B) (a : Reading A) (b : B) → map_reading make a ≡ Ok b → ((x : A) → a ≡ Ok x → P (make x)) → P b
unfolding map_reading
from_made P make (Ok x) b h p = let e : make x ≡ b = cc in subst P e (p x refl)
from_made P make (Err e) b h p = absurd (cc)

-- ---- arguments

numeral_within : (base most low high : ℕ) (w : List ℕ) (n : ℕ) → numeral base most low high w ≡ Some n → (nat_le low n ≡ true) × (nat_le n high ≡ true)
numeral_within base most low high w n h = let range = numeral_range base most low high w n h in (le-leb low n range.0, le-leb n high range.1)

mode_fine : (w : List ℕ) (m : ℕ) → a_mode w ≡ Ok m → is_mode m ≡ true
unfolding a_mode
mode_fine w m h = mode_range w m (there (mode_of w) _ m h)

path_fine : (w : List ℕ) (path : PathValue) → a_path w ≡ Ok path → are_names path ≡ true
unfolding a_path
path_fine w path h = by_fault (path_fault w) refl h
  where
    by_fault : (o : Option PathError) → path_fault w ≡ o → ok_or (cond (is_none o) (Some (parse_path w)) None) error.BadPath ≡ Ok path → are_names path ≡ true
    by_fault None fine h = let is : parse_path w ≡ path = cc in ap are_names (sym is) ∙ (path_form w fine).named
    by_fault (Some fault) e h = absurd (cc)

permission_fine : (w : List ℕ) (m : ℕ) → a_permission w ≡ Ok m → is_permission m ≡ true
unfolding a_permission
permission_fine w m h = (numeral_within 8 4 0 MAX_PERMISSIONS w m (there (numeral 8 4 0 MAX_PERMISSIONS w) _ m h)).1

number_fine : (high : ℕ) (w : List ℕ) (n : ℕ) → a_number_up_to high w ≡ Ok n → nat_le n high ≡ true
unfolding a_number_up_to
number_fine high w n h = (numeral_within 10 10 0 high w n (there (numeral 10 10 0 high w) _ n h)).1

same_size : (n : ℕ) → unsigned_abs (neg_ℤ (pos n)) ≡ n
same_size n = omega (arith, ints)

offset_fine : (w : List ℕ) (z : ℤ) → an_offset w ≡ Ok z → nat_le (unsigned_abs z) MAX_OFFSET ≡ true
unfolding an_offset
offset_fine w z h = by_sign (starts_with ◌==◌ w (codes "-")) (there (signed_number w) _ z h)
  where
    sized : (f : ℕ → ℤ) → ((n : ℕ) → unsigned_abs (f n) ≡ n) → (o : Option ℕ) → ((n : ℕ) → o ≡ Some n → nat_le n MAX_OFFSET ≡ true) → option_map f o ≡ Some z → nat_le (unsigned_abs z) MAX_OFFSET ≡ true
    sized f size None within h = absurd (cc)
    sized f size (Some n) within h = let e : f n ≡ z = cc in ap (λ k. nat_le k MAX_OFFSET) (ap unsigned_abs (sym e) ∙ size n) ∙ within n refl

    small : (word : List ℕ) (n : ℕ) → number_of word ≡ Some n → nat_le n MAX_OFFSET ≡ true
    small word n e = (numeral_within 10 10 0 MAX_NUMBER word n e).1

    by_sign : (v : Bool) → cond v (option_map (λ n. neg_ℤ (pos n)) (number_of (drop 1 w))) (option_map (λ n. pos n) (number_of w)) ≡ Some z → nat_le (unsigned_abs z) MAX_OFFSET ≡ true
    by_sign true h = sized (λ n. neg_ℤ (pos n)) same_size (number_of (drop 1 w)) (small (drop 1 w)) h
    by_sign false h = sized (λ n. pos n) (λ n. refl) (number_of w) (small w) h

-- flags that may be given together, with `c` or without it
record AreFlags (creates : Bool) (f : OpenFlags) : Type 0 where
  fit : are_flags f ≡ true
  as_asked : beq f.c creates ≡ true

flags_fine : (creates : Bool) (w : List ℕ) (f : OpenFlags) → some_flags creates w ≡ Ok f → AreFlags creates f
unfolding some_flags
flags_fine creates w f h =
    let is = cond_some _ (flags_in w) f (there _ _ f h) in
    let last = and_parts _ (beq (flags_in w).c creates) is.0 in
    let first = and_parts (is_in_order w) (are_flags (flags_in w)) last.0 in
    record { fit = ap are_flags (sym is.1) ∙ first.1; as_asked = ap (λ (g : OpenFlags). beq g.c creates) (sym is.1) ∙ last.1 }

without_mode : (f : OpenFlags) → AreFlags false f → not f.c ≡ true
without_mode f is = by_flag f.c is.as_asked
  where
    by_flag : (c : Bool) → beq c false ≡ true → not c ≡ true
    by_flag true e = absurd (cc)
    by_flag false e = refl

with_mode : (f : OpenFlags) → AreFlags true f → f.c ≡ true
with_mode f is = by_flag f.c is.as_asked
  where
    by_flag : (c : Bool) → beq c true ≡ true → c ≡ true
    by_flag true e = refl
    by_flag false e = absurd (cc)

module _ (policy : PolicyNames) where
  label_fine : (w : List ℕ) (l : Label) → a_label policy w ≡ Ok l → dominates (top_of policy) l ≡ true
  unfolding a_label
  label_fine w l h = parsed_valid policy w l (there (parse_label policy w) _ l h)

  process_fine : (parts : List ℕ × List ℕ) (who : Pid) → process policy parts ≡ Some who → is_number (top_of policy) who ≡ true
  process_fine parts who h = by_parts (numeral 10 10 1 MAX_PROCS parts.0) (parse_label policy parts.1) (numeral_within 10 10 1 MAX_PROCS parts.0) (parsed_valid policy parts.1) h
    where
      by_parts : (o : Option ℕ) (l : Option Label) → ((n : ℕ) → o ≡ Some n → (nat_le 1 n ≡ true) × (nat_le n MAX_PROCS ≡ true)) → ((x : Label) → l ≡ Some x → dominates (top_of policy) x ≡ true)
          → option_and_then (λ n. option_map (λ at. record { label = at; n = n }) l) o ≡ Some who → is_number (top_of policy) who ≡ true
      by_parts None l within below h = absurd (cc)
      by_parts (Some n) None within below h = absurd (cc)
      by_parts (Some n) (Some x) within below h =
          let is : record { label = x; n = n } ≡ who = cc in
          ap (is_number (top_of policy)) (sym is) ∙ and_from _ _ (and_from _ _ (within n refl).0 (within n refl).1) (below x refl)

  pub tag_fine : (w : List ℕ) (who : Pid) → a_tag policy w ≡ Ok who → is_number (top_of policy) who ≡ true
  unfolding a_tag
  tag_fine w who h = by_split (split_once 64 w) (there _ _ who h)
    where
      by_split : (o : Option (List ℕ × List ℕ)) → option_and_then (process policy) o ≡ Some who → is_number (top_of policy) who ≡ true
      by_split None h = absurd (cc)
      by_split (Some parts) h = process_fine parts who h

  pid_fine : (w : List ℕ) (who : Pid) → a_pid policy w ≡ Ok who → is_number (top_of policy) who ≡ true
  unfolding a_pid
  pid_fine w who h = by_split (number_and_rest w) h
    where
      by_split : (o : Option (List ℕ × List ℕ)) → pid_by policy o ≡ Ok who → is_number (top_of policy) who ≡ true
      by_split None h = absurd (cc)
      by_split (Some parts) h = process_fine parts who (there (process policy parts) _ who h)

  -- ---- calls

  -- a call whose arguments may be given
  abbrev MayBeMade : Call → Type 0
  MayBeMade c = (is_call (top_of policy) c ≡ true) × (has_names c ≡ true)

  from_two : {A B : Type 0} (make : A → B → Call) (a : Reading A) (b : Reading B) (c : Call) → map_reading (λ args. make args.0 args.1) (both a b) ≡ Ok c
      → ((x : A) (y : B) → a ≡ Ok x → b ≡ Ok y → MayBeMade (make x y)) → MayBeMade c
  from_two make a b c h p = from_made MayBeMade (λ args. make args.0 args.1) (both a b) c h (λ args e. let is = both_are a b args e in p args.0 args.1 is.0 is.1)

  from_three : {A B C : Type 0} (make : A → B → C → Call) (a : Reading A) (b : Reading B) (c : Reading C) (out : Call) → map_reading (λ args. make args.0 args.1.0 args.1.1) (both a (both b c)) ≡ Ok out
      → ((x : A) (y : B) (z : C) → a ≡ Ok x → b ≡ Ok y → c ≡ Ok z → MayBeMade (make x y z)) → MayBeMade out
  from_three make a b c out h p = from_made MayBeMade (λ args. make args.0 args.1.0 args.1.1) (both a (both b c)) out h (λ args e.
      let is = both_are a (both b c) args e in
      let others = both_are b c args.1 is.1 in
      p args.0 args.1.0 args.1.1 is.0 others.0 others.1)

  none_fine : (n : CallName) (c : Call) → none_parsed n ≡ Ok c → MayBeMade c
  unfolding none_parsed is_call has_names
  none_fine name.Pipe c h = let e : call.Pipe ≡ c = cc in subst MayBeMade e (refl, refl)
  none_fine name.Fork c h = let e : call.Fork ≡ c = cc in subst MayBeMade e (refl, refl)
  none_fine name.Wait c h = let e : call.Wait ≡ c = cc in subst MayBeMade e (refl, refl)
  none_fine name.Getpid c h = let e : call.Getpid ≡ c = cc in subst MayBeMade e (refl, refl)
  none_fine name.Getppid c h = let e : call.Getppid ≡ c = cc in subst MayBeMade e (refl, refl)
  none_fine name.Getids c h = let e : call.Getids ≡ c = cc in subst MayBeMade e (refl, refl)
  none_fine name.CapGetProc c h = let e : call.CapGetProc ≡ c = cc in subst MayBeMade e (refl, refl)
  none_fine name.MacGetProc c h = let e : call.MacGetProc ≡ c = cc in subst MayBeMade e (refl, refl)
  none_fine _ c h = absurd (cc)

  one_fine : (n : CallName) (w : List ℕ) (c : Call) → one_parsed policy n w ≡ Ok c → MayBeMade c
  unfolding one_parsed is_call has_names
  one_fine name.Close w c h = from_made MayBeMade call.Close _ c h (λ fd _. (refl, refl))
  one_fine name.Dup w c h = from_made MayBeMade call.Dup _ c h (λ fd _. (refl, refl))
  one_fine name.Fstat w c h = from_made MayBeMade call.Fstat _ c h (λ fd _. (refl, refl))
  one_fine name.Rmdir w c h = from_made MayBeMade call.Rmdir _ c h (λ path _. (refl, refl))
  one_fine name.Unlink w c h = from_made MayBeMade call.Unlink _ c h (λ path _. (refl, refl))
  one_fine name.Readdir w c h = from_made MayBeMade call.Readdir _ c h (λ path _. (refl, refl))
  one_fine name.Stat w c h = from_made MayBeMade call.Stat _ c h (λ path _. (refl, refl))
  one_fine name.Chdir w c h = from_made MayBeMade call.Chdir _ c h (λ path _. (refl, refl))
  one_fine name.Umask w c h = from_made MayBeMade call.Umask _ c h (λ mode m. (permission_fine w mode m, refl))
  one_fine name.CapGetFile w c h = from_made MayBeMade call.CapGetFile _ c h (λ path _. (refl, refl))
  one_fine name.CapGetFd w c h = from_made MayBeMade call.CapGetFd _ c h (λ fd _. (refl, refl))
  one_fine name.MacGetFile w c h = from_made MayBeMade call.MacGetFile _ c h (λ path _. (refl, refl))
  one_fine name.MacGetFd w c h = from_made MayBeMade call.MacGetFd _ c h (λ fd _. (refl, refl))
  one_fine name.Exec w c h = from_made MayBeMade call.Exec _ c h (λ path _. (refl, refl))
  one_fine name.Exit w c h = from_made MayBeMade call.Exit _ c h (λ code _. (refl, refl))
  one_fine name.Setuid w c h = from_made MayBeMade call.Setuid _ c h (λ user _. (refl, refl))
  one_fine name.Setgid w c h = from_made MayBeMade call.Setgid _ c h (λ group _. (refl, refl))
  one_fine name.CapSetProc w c h = from_made MayBeMade call.CapSetProc _ c h (λ caps _. (refl, refl))
  one_fine name.MacSetProc w c h = from_made MayBeMade call.MacSetProc _ c h (λ label l. (label_fine w label l, refl))
  one_fine name.AudWrite w c h = from_made MayBeMade call.AudWrite _ c h (λ bytes _. (refl, refl))
  one_fine name.AudSwitch w c h = from_made MayBeMade call.AudSwitch _ c h (λ on _. (refl, refl))
  one_fine _ w c h = absurd (cc)

  two_fine : (n : CallName) (v w : List ℕ) (c : Call) → two_parsed policy n v w ≡ Ok c → MayBeMade c
  unfolding two_parsed is_call has_names
  two_fine name.OpenPath v w c h = from_two (λ path flags. call.OpenPath path flags None) _ _ c h (λ path flags e f. let is = flags_fine false w flags f in (and_from _ _ is.fit (without_mode flags is), path_fine v path e))
  two_fine name.Read v w c h = from_two call.Read _ _ c h (λ fd n _ n_is. (number_fine MAX_FILE_BYTES w n n_is, refl))
  two_fine name.Write v w c h = from_two call.Write _ _ c h (λ fd bytes _ _. (refl, refl))
  two_fine name.Mkfifo v w c h = from_two call.Mkfifo _ _ c h (λ path mode e m. (mode_fine w mode m, path_fine v path e))
  two_fine name.Mkdir v w c h = from_two call.Mkdir _ _ c h (λ path mode e m. (mode_fine w mode m, path_fine v path e))
  two_fine name.Link v w c h = from_two call.Link _ _ c h (λ path to _ f. (refl, path_fine w to f))
  two_fine name.Rename v w c h = from_two call.Rename _ _ c h (λ path to _ f. (refl, path_fine w to f))
  two_fine name.Chmod v w c h = from_two call.Chmod _ _ c h (λ path mode _ m. (mode_fine w mode m, refl))
  two_fine name.CapSetFile v w c h = from_two call.CapSetFile _ _ c h (λ path caps _ _. (refl, refl))
  two_fine name.CapSetFd v w c h = from_two call.CapSetFd _ _ c h (λ fd caps _ _. (refl, refl))
  two_fine name.MacSetFile v w c h = from_two call.MacSetFile _ _ c h (λ path label _ l. (label_fine w label l, refl))
  two_fine name.MacSetFd v w c h = from_two call.MacSetFd _ _ c h (λ fd label _ l. (label_fine w label l, refl))
  two_fine name.Kill v w c h = from_two call.Kill _ _ c h (λ target signal t _. (pid_fine v target t, refl))
  two_fine _ v w c h = absurd (cc)

  three_fine : (n : CallName) (u v w : List ℕ) (c : Call) → three_parsed n u v w ≡ Ok c → MayBeMade c
  unfolding three_parsed is_call has_names
  three_fine name.OpenPath u v w c h = from_three (λ path flags mode. call.OpenPath path flags (Some mode)) _ _ _ c h (λ path flags mode e f m. let is = flags_fine true v flags f in (and_from _ _ is.fit (and_from _ _ (with_mode flags is) (mode_fine w mode m)), path_fine u path e))
  three_fine name.Lseek u v w c h = from_three call.Lseek _ _ _ c h (λ fd from offset _ _ o. (offset_fine w offset o, refl))
  three_fine name.Chown u v w c h = from_three call.Chown _ _ _ c h (λ path user group _ _ _. (refl, refl))
  three_fine _ u v w c h = absurd (cc)

  pub call_fine : (n : CallName) (ws : List (List ℕ)) (c : Call) → parse_call policy n ws ≡ Ok c → MayBeMade c
  call_fine n [] c h = none_fine n c h
  call_fine n (w ∷ []) c h = one_fine n w c h
  call_fine n (v ∷ w ∷ []) c h = two_fine n v w c h
  call_fine n (u ∷ v ∷ w ∷ []) c h = three_fine n u v w c h
  call_fine n (u ∷ v ∷ w ∷ x ∷ ws) c h = absurd (cc)

  -- ---- utilities

  -- a call that is there may be made
  abbrev is_made : Option Call → Bool
  is_made None = true
  is_made (Some c) = may_be_made (top_of policy) c

  -- the call of a utility may be made, where the label that it sets is below top
  call_made : (tool : Tool) (caps : CapState) (mark : Option Label) (path : PathValue) → ((l : Label) → mark ≡ Some l → dominates (top_of policy) l ≡ true) → is_made (call_by tool caps mark path) ≡ true
  unfolding is_call has_names
  call_made tool.GetFcap caps mark path below = refl
  call_made tool.SetFcap caps mark path below = refl
  call_made tool.GetFmac caps mark path below = refl
  call_made tool.SetFmac caps None path below = refl
  call_made tool.SetFmac caps (Some l) path below = and_from _ _ (below l refl) refl

  one_made : (o : Option Call) (cs : List Call) → is_made o ≡ true → list_all (may_be_made (top_of policy)) cs ≡ true → list_all (may_be_made (top_of policy)) (cons_option o cs) ≡ true
  one_made None cs first others = others
  one_made (Some c) cs first others = and_from _ _ first others

  all_made : (h : PathValue → Option Call) → ((path : PathValue) → is_made (h path) ≡ true) → (ps : List PathValue) → list_all (may_be_made (top_of policy)) (filter_map h ps) ≡ true
  all_made h each [] = refl
  all_made h each (p ∷ ps) = one_made (h p) (filter_map h ps) (each p) (all_made h each ps)

  -- where no label is given, none is above top
  none_below : (mark : Option Label) → mark ≡ None → (l : Label) → mark ≡ Some l → dominates (top_of policy) l ≡ true
  none_below mark none l some = absurd (cc)

  -- a utility that may be played
  abbrev IsPlayable : Util → Type 0
  IsPlayable util = MayBePlayed (top_of policy) (line.Tool util)

  util_played : (util : Util) → is_number (top_of policy) util.who ≡ true → is_marked util ≡ true → length util.texts ≡ length util.paths → ((l : Label) → util.mark ≡ Some l → dominates (top_of policy) l ≡ true) → IsPlayable util
  unfolding calls_of
  util_played util who marked texts below =
      (who, all_made (call_on util) (λ path. call_made util.tool util.caps util.mark path below) util.paths, record { marked = marked; texts = texts })

  paths_long : (ws : List (List ℕ)) (ps : List PathValue) → paths_of ws ≡ Some ps → length ws ≡ length ps
  paths_long [] ps h = let is : [] ≡ ps = cc in ap length is
  paths_long (w ∷ ws) ps h = by_first (path_of w) (paths_of ws) (paths_long ws) h
    where
      by_first : (o : Option PathValue) (more : Option (List PathValue)) → ((qs : List PathValue) → more ≡ Some qs → length ws ≡ length qs)
          → option_and_then (λ path. option_map (λ paths. path ∷ paths) more) o ≡ Some ps → length (w ∷ ws) ≡ length ps
      by_first None more long h = absurd (cc)
      by_first (Some p) None long h = absurd (cc)
      by_first (Some p) (Some qs) long h = let is : p ∷ qs ≡ ps = cc in ap (λ n. suc n) (long qs refl) ∙ ap length is

  -- what is known of a utility that sets nothing
  record IsPlain (tool : Tool) (util : Util) : Type 0 where
    who : is_number (top_of policy) util.who ≡ true
    tool_is : util.tool ≡ tool
    unmarked : util.mark ≡ None
    texts : length util.texts ≡ length util.paths

  plain_fine : (tag : List ℕ) (tool : Tool) (ws : List (List ℕ)) (util : Util) → on_paths policy tag tool ws ≡ Ok util → IsPlain tool util
  unfolding on_paths some_paths
  plain_fine tag tool [] util h = absurd (cc)
  plain_fine tag tool (w ∷ ws) util h = from_made (IsPlain tool) (plain tool (w ∷ ws)) _ util h (λ args e.
      let is = both_are _ _ args e in
      record { who = tag_fine tag args.0 is.0; tool_is = refl; unmarked = refl; texts = paths_long (w ∷ ws) args.1 (there (paths_of (w ∷ ws)) _ args.1 is.1) })

  -- a utility that reports
  report_fine : (tag : List ℕ) (tool : Tool) (ws : List (List ℕ)) (util : Util) → ((mark : Option Label) → is_marked_by tool mark ≡ true) → on_paths policy tag tool ws ≡ Ok util → IsPlayable util
  report_fine tag tool ws util marked h =
      let is = plain_fine tag tool ws util h in
      util_played util is.who (ap (λ t. is_marked_by t util.mark) is.tool_is ∙ marked util.mark) is.texts (none_below _ is.unmarked)

  util_fine : (tag : List ℕ) (tool : Tool) (ws : List (List ℕ)) (util : Util) → parse_tool policy tag tool ws ≡ Ok util → IsPlayable util
  unfolding parse_tool
  util_fine tag tool.GetFcap ws util h = report_fine tag tool.GetFcap ws util (λ mark. refl) h
  util_fine tag tool.GetFmac ws util h = report_fine tag tool.GetFmac ws util (λ mark. refl) h
  util_fine tag tool.SetFcap [] util h = absurd (cc)
  util_fine tag tool.SetFmac [] util h = absurd (cc)
  util_fine tag tool.SetFcap (w ∷ ws) util h = from_made IsPlayable with_caps _ util h (λ args e.
      let is = plain_fine tag tool.SetFcap ws args.0 (both_are _ _ args e).0 in
      util_played (with_caps args) is.who (ap (λ t. is_marked_by t args.0.mark) is.tool_is) is.texts (none_below _ is.unmarked))
  util_fine tag tool.SetFmac (w ∷ ws) util h = from_made IsPlayable with_mark _ util h (λ args e.
      let is = both_are _ _ args e in
      let plain_is = plain_fine tag tool.SetFmac ws args.0 is.0 in
      util_played (with_mark args) plain_is.who (ap (λ t. is_marked_by t (Some args.1)) plain_is.tool_is) plain_is.texts (λ l e. let same : args.1 ≡ l = cc in ap (dominates (top_of policy)) (sym same) ∙ label_fine w args.1 is.1))

  -- ---- lines

  item_fine : (ws : List LineWord) (l : Line) → parse_item policy ws ≡ Ok l → MayBePlayed (top_of policy) l
  unfolding parse_item
  item_fine [] l h = absurd (cc)
  item_fine (tag ∷ []) l h = absurd (cc)
  item_fine (tag ∷ name ∷ ws) l h = by_quotes (tag.quoted || name.quoted) h
    where
      by_name : (o : Option CallName) (t : Option Tool) → item_by policy tag.bytes (bytes_in ws) o t ≡ Ok l → MayBePlayed (top_of policy) l
      by_name None None h = absurd (cc)
      by_name None (Some t) h = from_made (MayBePlayed (top_of policy)) line.Tool _ l h (λ util e. util_fine tag.bytes t (bytes_in ws) util e)
      by_name (Some n) t h = from_made (MayBePlayed (top_of policy)) (λ item. line.One item.0 item.1) _ l h (λ item e.
          let is = both_are _ _ item e in
          let call_is = call_fine n (bytes_in ws) item.1 is.1 in
          (tag_fine tag.bytes item.0 is.0, call_is.0, call_is.1))

      by_quotes : (v : Bool) → cond v (Err error.Syntax) (item_by policy tag.bytes (bytes_in ws) (call_named name.bytes) (tool_named name.bytes)) ≡ Ok l → MayBePlayed (top_of policy) l
      by_quotes true h = absurd (cc)
      by_quotes false h = by_name (call_named name.bytes) (tool_named name.bytes) h

  -- a parsed line may be played
  pub parsed_played : (text : List ℕ) (l : Line) → parse_line policy text ≡ Ok l → MayBePlayed (top_of policy) l
  unfolding parse_line
  parsed_played text l h = by_length (nat_lt MAX_LINE (length text)) h
    where
      by_words : (o : Option (List LineWord)) → parse_words policy o ≡ Ok l → MayBePlayed (top_of policy) l
      by_words None h = absurd (cc)
      by_words (Some ws) h = item_fine ws l h

      by_blank : (v : Bool) → cond v (Ok line.Blank) (parse_words policy (words_of text)) ≡ Ok l → MayBePlayed (top_of policy) l
      by_blank true h = let e : line.Blank ≡ l = cc in subst (MayBePlayed (top_of policy)) e tt
      by_blank false h = by_words (words_of text) h

      by_length : (v : Bool) → cond v (Err error.TooLong) (cond (is_blank text) (Ok line.Blank) (parse_words policy (words_of text))) ≡ Ok l → MayBePlayed (top_of policy) l
      by_length true h = absurd (cc)
      by_length false h = by_blank (is_blank text) h
