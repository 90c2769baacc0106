use Rattle.std.proofs.Common.{rules, subst, ℕ, List, ℤ, w64}
use Rattle.std.proofs.lemmas.Int.{to_z-of_z}
use Rattle.kern_model.specs.FileRows.{fstat_row, lseek_row, write_row}
use Rattle.kern_model.specs.State.{process_at}
use Rattle.sys_lookup.specs.Callers.{CallerView}
use Rattle.sys_lookup.specs.PlaysRow.{PlaysRow}
use Rattle.sys_lookup.proofs.PlayingLemmas.{plays_as}
use Rattle.sys_file.proofs.playing.play.Goals as goal

pub returns-in-OpenPath-clause-played : goal.returns-in-OpenPath-clause-played
returns-in-OpenPath-clause-played c = plays_as c.args.shared.now c.args.who.now _ c.in-OpenPath.is (c.open.ensures.played)

pub returns-in-Close-clause-played : goal.returns-in-Close-clause-played
returns-in-Close-clause-played c = plays_as c.args.shared.now c.args.who.now _ c.in-Close.is (c.close.ensures.played c.args.checks.now)

pub returns-in-Write-clause-played : goal.returns-in-Write-clause-played
returns-in-Write-clause-played c =
    plays_as c.args.shared.now c.args.who.now _ c.in-Write.is
    (subst (λ (bytes : List ℕ). PlaysRow c.args.shared.now c.args.checks.now (write_row c.args.shared.now c.args.who.now (process_at c.args.shared.now c.args.who.now) c.in-Write.fd bytes) c.write.result c.write.new.shared c.write.new.checks) c.items.ensures
    (c.write.ensures))

pub returns-in-Lseek-clause-played : goal.returns-in-Lseek-clause-played
returns-in-Lseek-clause-played c =
    plays_as c.args.shared.now c.args.who.now _ c.in-Lseek.is
    (subst (λ (z : ℤ). PlaysRow c.args.shared.now c.args.checks.now (lseek_row c.args.shared.now c.args.who.now (process_at c.args.shared.now c.args.who.now) c.in-Lseek.fd c.in-Lseek.from z) c.lseek.result c.lseek.new.shared c.lseek.new.checks) (to_z-of_z w64 c.in-Lseek.offset (search rules))
    (c.lseek.ensures))

pub returns-in-Dup-clause-played : goal.returns-in-Dup-clause-played
returns-in-Dup-clause-played c = plays_as c.args.shared.now c.args.who.now _ c.in-Dup.is (c.dup.ensures.played c.args.checks.now)

pub returns-in-Pipe-clause-played : goal.returns-in-Pipe-clause-played
returns-in-Pipe-clause-played c = plays_as c.args.shared.now c.args.who.now _ c.in-Pipe.is (c.pipe.ensures c.args.checks.now)

pub returns-in-Fstat-clause-played : goal.returns-in-Fstat-clause-played
returns-in-Fstat-clause-played c =
    plays_as c.args.shared.now c.args.who.now _ c.in-Fstat.is
    (subst (λ (k : CallerView). PlaysRow k.state c.args.checks.now (fstat_row k.state c.args.who.now k.process c.in-Fstat.fd) c.fstat.result k.state c.fstat.new.checks) c.new.ensures.caller (c.fstat.ensures c.args.who.now))
