use Rattle.std.proofs.Common.{◌≡◌, ◌∙◌, ap}
use Rattle.std.specs.Prelude.{if◌then◌else◌}
use Rattle.cap_bits.specs.CapSet.{CapSet, no_caps, union_of}
use Rattle.cap_bits.specs.FileCaps.{file_caps_of}
use Rattle.cap_bits.proofs.RoundTrips.{file_caps_of-shown}
use Rattle.cap_bits.proofs.file_caps.FileCaps.shown.Goals as goal
use Rattle.cap_bits.proofs.file_caps.FileCaps.shown.Goals.{then-self, else-self}

pub returns-clause-back : goal.returns-clause-back
returns-clause-back c =
    let f = c.args.self.now in
    let e : c.if-self.e ≡ (if f.eff then union_of f.p f.i else no_caps) = elim c.if-self.branch [
      | then-self w ↦ rw w.if-self.true cc
      | else-self w ↦ rw w.if-self.false cc
    ] in
    ap (λ (e : CapSet). file_caps_of (record { e = e; i = f.i; p = f.p })) e ∙ file_caps_of-shown f
