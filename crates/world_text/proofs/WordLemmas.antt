-- How tree lines and process lines are parsed, by the number of their words.
use Rattle.std.proofs.Common.{◌≡◌, List, [], ◌∷◌, length, get_or, refl, ap, ◌∙◌, arith}
use Rattle.cap_bits.specs.declared.state.CapState.{CapState}
use Rattle.cap_bits.specs.State.{no_flags}
use Rattle.fs_path.specs.declared.words.LineWord.{LineWord}
use Rattle.kern_model.specs.declared.objects.Body.{Body}
use Rattle.kern_model.specs.declared.objects.Body.TheVariants as body
use Rattle.line_text.specs.declared.fault.LineFault.TheVariants.{Syntax}
use Rattle.world_text.specs.declared.expecting.Parsed.TheVariants.{Refuses}
use Rattle.world_text.specs.declared.expecting.PartialWorld.{PartialWorld}
use Rattle.world_text.specs.declared.values.WordValue.{WordValue}
use Rattle.world_text.specs.declared.values.WordValue.TheVariants as value
use Rattle.world_text.specs.Values.{caps_of, bytes_in}
use Rattle.world_text.specs.TreeLines.{parse_tree, parse_plain, parse_file, object_fields_in}
use Rattle.world_text.specs.Processes.{proc_caps_of, parse_proc, parse_proc_line, proc_fields_in}

plain_five : (so_far : PartialWorld) (b : Body) (ws : List LineWord) → length ws ≡ 5 → parse_tree so_far (object_fields_in so_far.policy (bytes_in ws)) (value.Known no_flags) b ≡ parse_plain so_far b (bytes_in ws)
plain_five so_far b [] h = absurd (omega arith)
plain_five so_far b (v1 ∷ []) h = absurd (omega arith)
plain_five so_far b (v1 ∷ v2 ∷ []) h = absurd (omega arith)
plain_five so_far b (v1 ∷ v2 ∷ v3 ∷ []) h = absurd (omega arith)
plain_five so_far b (v1 ∷ v2 ∷ v3 ∷ v4 ∷ []) h = absurd (omega arith)
plain_five so_far b (v1 ∷ v2 ∷ v3 ∷ v4 ∷ v5 ∷ []) h = refl
plain_five so_far b (v1 ∷ v2 ∷ v3 ∷ v4 ∷ v5 ∷ v6 ∷ ws) h = absurd (omega arith)

-- a line with another number of words is malformed
pub plain_others : (so_far : PartialWorld) (b : Body) (ws : List LineWord) → (length ws ≡ 5 → ⊥) → Refuses Syntax ≡ parse_plain so_far b (bytes_in ws)
plain_others so_far b [] h = refl
plain_others so_far b (v1 ∷ []) h = refl
plain_others so_far b (v1 ∷ v2 ∷ []) h = refl
plain_others so_far b (v1 ∷ v2 ∷ v3 ∷ []) h = refl
plain_others so_far b (v1 ∷ v2 ∷ v3 ∷ v4 ∷ []) h = refl
plain_others so_far b (v1 ∷ v2 ∷ v3 ∷ v4 ∷ v5 ∷ []) h = absurd (h refl)
plain_others so_far b (v1 ∷ v2 ∷ v3 ∷ v4 ∷ v5 ∷ v6 ∷ ws) h = refl

proc_five : (so_far : PartialWorld) (ws : List LineWord) (w : LineWord) → length ws ≡ 5
    → parse_proc so_far (proc_fields_in so_far.policy (bytes_in ws)) (proc_caps_of (get_or ws 4 w).bytes) ≡ parse_proc_line so_far (bytes_in ws)
proc_five so_far [] w e = absurd (omega arith)
proc_five so_far (a ∷ []) w e = absurd (omega arith)
proc_five so_far (a ∷ b ∷ []) w e = absurd (omega arith)
proc_five so_far (a ∷ b ∷ c ∷ []) w e = absurd (omega arith)
proc_five so_far (a ∷ b ∷ c ∷ d ∷ []) w e = absurd (omega arith)
proc_five so_far (a ∷ b ∷ c ∷ d ∷ f ∷ []) w e = refl
proc_five so_far (a ∷ b ∷ c ∷ d ∷ f ∷ g ∷ ws) w e = absurd (omega arith)

-- a line with another number of words is malformed
pub proc_others : (so_far : PartialWorld) (ws : List LineWord) → (length ws ≡ 5 → ⊥) → Refuses Syntax ≡ parse_proc_line so_far (bytes_in ws)
proc_others so_far [] h = refl
proc_others so_far (a ∷ []) h = refl
proc_others so_far (a ∷ b ∷ []) h = refl
proc_others so_far (a ∷ b ∷ c ∷ []) h = refl
proc_others so_far (a ∷ b ∷ c ∷ d ∷ []) h = refl
proc_others so_far (a ∷ b ∷ c ∷ d ∷ f ∷ []) h = absurd (h refl)
proc_others so_far (a ∷ b ∷ c ∷ d ∷ f ∷ g ∷ ws) h = refl

file_six : (so_far : PartialWorld) (ws : List LineWord) (w : LineWord) → length ws ≡ 6
    → parse_tree so_far (object_fields_in so_far.policy (bytes_in ws)) (value.Known no_flags) (body.File (get_or ws 5 w).bytes) ≡ parse_file so_far (bytes_in ws)
file_six so_far [] w e = absurd (omega arith)
file_six so_far (a ∷ []) w e = absurd (omega arith)
file_six so_far (a ∷ b ∷ []) w e = absurd (omega arith)
file_six so_far (a ∷ b ∷ c ∷ []) w e = absurd (omega arith)
file_six so_far (a ∷ b ∷ c ∷ d ∷ []) w e = absurd (omega arith)
file_six so_far (a ∷ b ∷ c ∷ d ∷ f ∷ []) w e = absurd (omega arith)
file_six so_far (a ∷ b ∷ c ∷ d ∷ f ∷ g ∷ []) w e = refl
file_six so_far (a ∷ b ∷ c ∷ d ∷ f ∷ g ∷ h ∷ ws) w e = absurd (omega arith)

file_seven : (so_far : PartialWorld) (ws : List LineWord) (w v : LineWord) → length ws ≡ 7
    → parse_tree so_far (object_fields_in so_far.policy (bytes_in ws)) (caps_of (get_or ws 6 v).bytes) (body.File (get_or ws 5 w).bytes) ≡ parse_file so_far (bytes_in ws)
file_seven so_far [] w v e = absurd (omega arith)
file_seven so_far (a ∷ []) w v e = absurd (omega arith)
file_seven so_far (a ∷ b ∷ []) w v e = absurd (omega arith)
file_seven so_far (a ∷ b ∷ c ∷ []) w v e = absurd (omega arith)
file_seven so_far (a ∷ b ∷ c ∷ d ∷ []) w v e = absurd (omega arith)
file_seven so_far (a ∷ b ∷ c ∷ d ∷ f ∷ []) w v e = absurd (omega arith)
file_seven so_far (a ∷ b ∷ c ∷ d ∷ f ∷ g ∷ []) w v e = absurd (omega arith)
file_seven so_far (a ∷ b ∷ c ∷ d ∷ f ∷ g ∷ h ∷ []) w v e = refl
file_seven so_far (a ∷ b ∷ c ∷ d ∷ f ∷ g ∷ h ∷ i ∷ ws) w v e = absurd (omega arith)

pub file_others : (so_far : PartialWorld) (ws : List LineWord) → (length ws ≡ 6 → ⊥) → (length ws ≡ 7 → ⊥) → Refuses Syntax ≡ parse_file so_far (bytes_in ws)
file_others so_far [] e h = refl
file_others so_far (a ∷ []) e h = refl
file_others so_far (a ∷ b ∷ []) e h = refl
file_others so_far (a ∷ b ∷ c ∷ []) e h = refl
file_others so_far (a ∷ b ∷ c ∷ d ∷ []) e h = refl
file_others so_far (a ∷ b ∷ c ∷ d ∷ f ∷ []) e h = refl
file_others so_far (a ∷ b ∷ c ∷ d ∷ f ∷ g ∷ []) e h = absurd (e refl)
file_others so_far (a ∷ b ∷ c ∷ d ∷ f ∷ g ∷ i ∷ []) e h = absurd (h refl)
file_others so_far (a ∷ b ∷ c ∷ d ∷ f ∷ g ∷ i ∷ j ∷ ws) e h = refl

-- ---- from the values of their words

pub plain_read : (so_far : PartialWorld) (b : Body) (ws : List LineWord) (caps : CapState) → length ws ≡ 5 → caps ≡ no_flags
    → parse_tree so_far (object_fields_in so_far.policy (bytes_in ws)) (value.Known caps) b ≡ parse_plain so_far b (bytes_in ws)
plain_read so_far b ws caps e h = ap (λ (k : CapState). parse_tree so_far (object_fields_in so_far.policy (bytes_in ws)) (value.Known k) b) h ∙ plain_five so_far b ws e

pub proc_read : (so_far : PartialWorld) (ws : List LineWord) (w : LineWord) (caps : WordValue CapState) → length ws ≡ 5 → caps ≡ proc_caps_of (get_or ws 4 w).bytes
    → parse_proc so_far (proc_fields_in so_far.policy (bytes_in ws)) caps ≡ parse_proc_line so_far (bytes_in ws)
proc_read so_far ws w caps e h = ap (parse_proc so_far (proc_fields_in so_far.policy (bytes_in ws))) h ∙ proc_five so_far ws w e

pub file_read : (so_far : PartialWorld) (ws : List LineWord) (w : LineWord) (caps : CapState) (file : Body) → length ws ≡ 6 → w ≡ get_or ws 5 w → caps ≡ no_flags → file ≡ body.File w.bytes
    → parse_tree so_far (object_fields_in so_far.policy (bytes_in ws)) (value.Known caps) file ≡ parse_file so_far (bytes_in ws)
file_read so_far ws w caps file e at h is =
    ap (λ (k : CapState). parse_tree so_far (object_fields_in so_far.policy (bytes_in ws)) (value.Known k) file) h
    ∙ ap (parse_tree so_far (object_fields_in so_far.policy (bytes_in ws)) (value.Known no_flags)) (is ∙ ap (λ (v : LineWord). body.File v.bytes) at) ∙ file_six so_far ws w e

pub caps_file_read : (so_far : PartialWorld) (ws : List LineWord) (w v : LineWord) (caps : WordValue CapState) (file : Body) → length ws ≡ 7 → w ≡ get_or ws 5 w → caps ≡ caps_of (get_or ws 6 v).bytes
    → file ≡ body.File w.bytes → parse_tree so_far (object_fields_in so_far.policy (bytes_in ws)) caps file ≡ parse_file so_far (bytes_in ws)
caps_file_read so_far ws w v caps file e at h is =
    ap (λ (k : WordValue CapState). parse_tree so_far (object_fields_in so_far.policy (bytes_in ws)) k file) h
    ∙ ap (parse_tree so_far (object_fields_in so_far.policy (bytes_in ws)) (caps_of (get_or ws 6 v).bytes)) (is ∙ ap (λ (x : LineWord). body.File x.bytes) at) ∙ file_seven so_far ws w v e
