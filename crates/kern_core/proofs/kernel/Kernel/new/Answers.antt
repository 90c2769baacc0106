use Rattle.kern_core.proofs.kernel.Kernel.new.Goals as goal

pub invariant_of-result : goal.invariant_of-result
invariant_of-result c = record { valid = λ sound. ∣ c.requires ∣₁ }
