-- What `least` promises: the world that it writes gets the same replies.
use Rattle.std.proofs.Common.{◌≡◌, ℕ, ◌+◌, ◌≤◌, ◌==◌, not, Bool, true, false, cond, List, [], ◌∷◌, ◌++◌, length, map, refl, sym, ◌∙◌, ap, subst, arith, append_assoc}
use Rattle.std.specs.Prelude.{Option, Result, Ok, IfOk, codes}
use Rattle.std.specs.List.{filter, join_with_byte, list_all, onto_first}
use Rattle.std.proofs.lemmas.Bool.{and_from, and_parts, eqb-true}
use Rattle.std.proofs.lemmas.List.{append-nil, length-append}
use Rattle.cap_bits.specs.declared.cap.Cap.{Cap}
use Rattle.cap_bits.specs.Cap.{all_caps, cap_name}
use Rattle.cap_bits.specs.CapSet.{CapSet, all_of_caps, has, minus_of, no_caps, same_sets}
use Rattle.cap_clause.specs.Written.{caps_of, list_text, set_text}
use Rattle.cap_clause.proofs.ListRoundTrip.{is_list_byte, list_bytes}
use Rattle.fs_path.specs.Split.{pieces}
use Rattle.fs_path.specs.Words.{is_blank, line_text}
use Rattle.fs_path.specs.declared.words.TheConstants.{MAX_LINE}
use Rattle.kern_model.specs.Lineage.{all_recs}
use Rattle.kern_model.specs.declared.limits.TheConstants.{MAX_INPUT}
use Rattle.kern_model.specs.Arguments.{is_script}
use Rattle.least_caps.specs.Laws.{NamesNone, NeverNeeds}
use Rattle.least_caps.specs.Stands.{stands}
use Rattle.least_caps.proofs.NarrowedRuns.{less_named, named_by_calls, narrowed_replies}
use Rattle.world_text.specs.Written.{text_of_world}
use Rattle.lab_engine.specs.declared.ending.Fault.{Fault}
use Rattle.lab_engine.specs.declared.ending.InputEnd.{InputEnd}
use Rattle.lab_engine.specs.declared.ending.InputEnd.TheVariants.{Whole}
use Rattle.lab_engine.specs.Input.{Input, Script, input_of, script}
use Rattle.lab_engine.specs.LeastInput.{least_of}
use Rattle.lab_engine.specs.Order.{out_of}
use Rattle.lab_engine.specs.Playing.{Ends}
use Rattle.lab_engine.specs.Upgrading.{ReadsBack}
use Rattle.lab_engine.proofs.LeastLaws.{IsComment, PlayedWhole, played_whole}
use Rattle.lab_engine.proofs.Sending.{out_of-to_out}
use Rattle.labsys.specs.declared.command.Command.TheVariants.{OnInput}
use Rattle.labsys.specs.declared.command.InputCommand.TheVariants.{Least}
use Rattle.labsys.specs.declared.status.Status.{Status}
use Rattle.labsys.specs.declared.status.Status.TheVariants.{Done}
use Rattle.labsys.specs.Clauses.{reports, status_of}
use Rattle.labsys.specs.Commands.{due}
use Rattle.labsys.specs.Least.{NarrowedReadsBack, NarrowedTo, least_text, least_world, needed_by, text_of_least, unneeded, unneeded_text}
use Rattle.labsys.specs.Playing.{CommandDid}
use Rattle.labsys.specs.Promises.{Narrows}
use Rattle.labsys.proofs.AcceptedLemmas.{accepted_input}
use Rattle.labsys.proofs.ClauseLemmas.{done_wrote, ends_whole, only_done, reported_gives}

-- ---- the first line

-- how long some names are, each with a byte after it
abbrev total : List (List ℕ) → ℕ
total [] = 0
total (name ∷ names) = (length name + 1) + total names

joined_short : (names : List (List ℕ)) → length (join_with_byte 44 names) ≤ total names
joined_short [] = omega arith
joined_short (name ∷ []) = omega arith
joined_short (name ∷ next ∷ names) = omega (arith, joined_short (next ∷ names), length-append name (44 ∷ join_with_byte 44 (next ∷ names)))

-- fewer names are not longer
fewer_short : (p : Cap → Bool) (caps : List Cap) → total (map cap_name (filter p caps)) ≤ total (map cap_name caps)
fewer_short p [] = omega arith
fewer_short p (cap ∷ caps) = by_test (p cap) (fewer_short p caps)
  where
    by_test : (b : Bool) → total (map cap_name (filter p caps)) ≤ total (map cap_name caps) → total (map cap_name (cond b (cap ∷ filter p caps) (filter p caps))) ≤ total (map cap_name (cap ∷ caps))
    by_test true less = omega (arith, less)
    by_test false less = omega (arith, less)

set_short : (caps : CapSet) → length (set_text caps) ≤ 400
unfolding set_text list_text caps_of
set_short caps = by_tests (same_sets caps no_caps) (same_sets caps all_of_caps)
  where
    by_tests : (none all : Bool) → length (cond none (codes "none") (cond all (codes "all") (join_with_byte 44 (map cap_name (filter (has caps) all_caps))))) ≤ 400
    by_tests true all = omega arith
    by_tests false true = omega arith
    by_tests false false =
        let few : total (map cap_name all_caps) ≤ 400 = omega arith in
        omega (arith, joined_short (map cap_name (filter (has caps) all_caps)), fewer_short (has caps) all_caps, few)

-- whether a byte is no line feed
abbrev no_feed : ℕ → Bool
no_feed b = not (b == 10)

list_no_feed : (b : ℕ) → is_list_byte b ≡ true → no_feed b ≡ true
list_no_feed b is = by_test (b == 10) refl
  where
    by_test : (v : Bool) → (b == 10) ≡ v → not v ≡ true
    by_test true e = let no : true ≡ false = sym is ∙ ap is_list_byte (eqb-true b 10 e) in absurd (cc)
    by_test false e = refl

all_no_feed : (bytes : List ℕ) → list_all is_list_byte bytes ≡ true → list_all no_feed bytes ≡ true
all_no_feed [] all = refl
all_no_feed (b ∷ bytes) all = let parts = and_parts (is_list_byte b) (list_all is_list_byte bytes) all in and_from _ _ (list_no_feed b parts.0) (all_no_feed bytes parts.1)

set_no_feed : (caps : CapSet) → list_all no_feed (set_text caps) ≡ true
unfolding set_text
set_no_feed caps = by_test (same_sets caps no_caps)
  where
    by_test : (none : Bool) → list_all no_feed (cond none (codes "none") (list_text caps)) ≡ true
    by_test true = refl
    by_test false = all_no_feed (list_text caps) (list_bytes caps)

-- the first line feed ends the first piece
first_piece : (line rest : List ℕ) → list_all no_feed line ≡ true → pieces 10 (line ++ 10 ∷ rest) ≡ line ∷ pieces 10 rest
first_piece [] rest all = refl
first_piece (b ∷ bs) rest all =
    let parts = and_parts (no_feed b) (list_all no_feed bs) all in
    ap (λ v. cond v ([] ∷ pieces 10 (bs ++ 10 ∷ rest)) (onto_first b (pieces 10 (bs ++ 10 ∷ rest)))) (is_false (b == 10) parts.0) ∙ ap (onto_first b) (first_piece bs rest parts.1)
  where
    is_false : (v : Bool) → not v ≡ true → v ≡ false
    is_false true e = cc
    is_false false e = refl

abbrev first_line : CapSet → List ℕ
first_line caps = line_text (codes "# never needed" ∷ set_text caps ∷ [])

line_all : (caps : CapSet) → list_all no_feed (first_line caps) ≡ true
line_all caps = ap (λ (t : List ℕ). list_all no_feed t) (append-nil (set_text caps)) ∙ set_no_feed caps

line_short : (caps : CapSet) → length (first_line caps) ≤ MAX_LINE
line_short caps =
    let same : length (first_line caps) ≡ length (codes "# never needed" ++ 32 ∷ set_text caps) = ap (λ (t : List ℕ). length (codes "# never needed" ++ 32 ∷ t)) (append-nil (set_text caps)) in
    omega (arith, same, set_short caps, length-append (codes "# never needed") (32 ∷ set_text caps))

-- it is a comment
comment : (caps : CapSet) → IsComment (first_line caps)
unfolding is_blank
comment caps = record { blank = refl; short = line_short caps; one_line = λ rest. first_piece (first_line caps) rest (line_all caps) }

-- ---- the narrowed world

module _ (text out : List ℕ) (p : PlayedWhole text) where
  abbrev needed : CapSet
  needed = needed_by p.world (script p.items Whole)

  abbrev dropped : CapSet
  dropped = unneeded p.world.world needed

  never_needed : NeverNeeds dropped p.world.world p.items
  never_needed =
      let fits = accepted_input text p.world (ap (λ (i : Input). i.accepted) p.input_is) in
      record {
        world = fits.world;
        script = ap (λ (i : Input). is_script p.world.world.top i.script.items) (sym p.input_is) ∙ fits.script;
        asks_none = p.asks_none;
        unnamed = subst (λ (caps : CapSet). NamesNone (minus_of (stands p.world.world) caps) (all_recs p.world.world p.items)) (named_by_calls p.world.world p.items)
            (less_named (stands p.world.world) (all_recs p.world.world p.items));
      }

  module _ (back : ReadsBack (least_world p.world needed)) (wrote : out ≡ least_text p.world needed) where
    out_is : out ≡ first_line dropped ++ 10 ∷ text_of_world (least_world p.world needed)
    unfolding unneeded_text
    out_is = wrote ∙ append_assoc (first_line dropped) (10 ∷ []) (text_of_world (least_world p.world needed))

    narrowed_to : NarrowedTo text out
    narrowed_to = record {
      world = p.world;
      items = p.items;
      number = p.number;
      head = p.head;
      behind = p.behind;
      text_is = p.text_is;
      reads = p.reads;
      input_is = p.input_is;
      out_is = wrote;
      same = λ short few. ap (λ (o : List ℕ). input_of (o ++ p.behind)) out_is
          ∙ p.again (first_line dropped) (comment dropped) (least_world p.world needed) refl back short (subst (λ (o : List ℕ). length (o ++ p.behind) ≤ MAX_INPUT) out_is few);
      same_replies = narrowed_replies dropped p.world.world p.items never_needed;
    }

-- ---- a run

-- all that `least` promises
pub run_least : (r : Result InputEnd Fault) (l l' : Option (List ℕ)) (entry exit : Ends) → CommandDid (OnInput Least) r l l' entry exit → (s : Status) → s ≡ status_of r
    → Narrows s (reports l entry.out.held entry.trail.held) (reports l' exit.out.held exit.trail.held)
run_least r l l' entry exit x s is = record { narrowed = λ done. reported_gives _ _ _ _ (narrowed_by (only_done r (sym is ∙ done))) (done_wrote (OnInput Least) r l l' entry exit x s is done) }
  where
    narrowed_by : r ≡ Ok Whole → (text out trail : List ℕ) → (out ≡ out_of (due (OnInput Least) text).order) × ((Done ≡ (due (OnInput Least) text).status) × IfOk r (NarrowedReadsBack (least_of text))) → NarrowedTo text out
    narrowed_by ok text out trail w =
        let i = least_of text in
        let p = played_whole text (ends_whole i.script.ending w.1.0) in
        let read = subst (λ (q : Result InputEnd Fault). IfOk q (NarrowedReadsBack i)) ok w.1.1 refl p.world (ap (λ (i : Input). i.accepted) p.least_is) in
        narrowed_to text out p
        (subst (λ (s : Script). ReadsBack (least_world p.world (needed_by p.world s))) (ap (λ (i : Input). i.script) p.least_is) read)
        (w.0 ∙ out_of-to_out (text_of_least i.accepted i.script) ∙ ap (λ (i : Input). text_of_least i.accepted i.script) p.least_is)
