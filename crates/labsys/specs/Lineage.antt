-- What the written trail gives, whoever reads it, and what `lineage` has to write of it.
use Rattle.std.specs.Prelude.{◌≡◌, ℕ, ◌<◌, List, [], ◌∷◌, ◌++◌, codes, length}
use Rattle.std.specs.Fmt.{decimal}
use Rattle.std.specs.List.{AllByRecursion}
use Rattle.fs_path.specs.Words.{line_text}
use Rattle.kern_model.specs.declared.records.Rec.{Rec}
use Rattle.kern_model.specs.Lineage.{OnlyDrops, GrowsByExec}
use Rattle.kern_model.specs.Prefixes.{IsPrefix}
use Rattle.lab_engine.specs.Order.{to_out}
use Rattle.lab_engine.specs.Readable.{HasLine}
use Rattle.lab_engine.specs.Session.{Session, bytes_of, numbered_recs, replies_of}
use Rattle.labsys.specs.declared.command.Command.TheVariants.{Lineage}
use Rattle.labsys.specs.declared.status.Status.TheVariants.{Done}
use Rattle.labsys.specs.Clauses.{recs_in, trail_with, out_with}
use Rattle.labsys.specs.Commands.{due}

-- the trail is the header and the lines of these records
pub record IsTrailOf (s : Session) (recs : List (ℕ × Rec)) (trail : List ℕ) : Type 0 where
  pub have_lines : AllByRecursion (HasLine s.policy) recs
  pub trail_is : trail ≡ trail_with s recs

-- each end line has the capability sets that the records give; in these records `cap_set_proc` makes nothing permitted
-- that was not, and permitted sets grow by exec alone
pub record GivenBy (s : Session) (recs : List Rec) (out : List ℕ) : Type 0 where
  pub printed : IsPrefix out (out_with s recs)
  pub drops : OnlyDrops s.bound recs
  pub grows : GrowsByExec s.bound recs

-- where the output goes on after the replies, the trail is that of the run's records, and of whatever records it is,
-- they give the capability sets of the end lines
pub record PrintedByAny (s : Session) (out trail : List ℕ) : Type 0 where
  pub own : length (replies_of (bytes_of s)) < length out → IsTrailOf s (numbered_recs s) trail
  pub by_any : length (replies_of (bytes_of s)) < length out → (recs : List (ℕ × Rec)) → IsTrailOf s recs trail
      → GivenBy s (recs_in recs) out

-- ---- what `lineage` has to write

-- the line of a trail with so many records, each of which may come after those before it
abbrev pub yes_text : ℕ → List ℕ
yes_text count = line_text (codes "yes" ∷ decimal count ∷ []) ++ 10 ∷ []

-- where its source has the bytes of the trail, `lineage` has to write `yes` and the number of the records of the run,
-- and its status is 0
pub record AnsweredYes (s : Session) (trail : List ℕ) : Type 0 where
  pub line : (due Lineage trail).order ≡ to_out (yes_text (length (numbered_recs s)))
  pub status : (due Lineage trail).status ≡ Done
