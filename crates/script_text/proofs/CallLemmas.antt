-- What is made of two values, each read of its word.
use Rattle.std.proofs.Common.{◌≡◌, Ok, Err, refl, sym, ◌∙◌, ap, subst}
use Rattle.std.specs.Prelude.{MatchResult, IsOkAnd}
use Rattle.std.specs.declared.alloc.AllocError.{AllocError}
use Rattle.script_text.specs.Reading.{Reading, Answers, IsCause, both, first_of, map_reading}
use Rattle.script_text.specs.declared.fault.LineError.{LineError}
use Rattle.script_text.specs.declared.fault.LineError.TheVariants as error

cause_is : {X : Type 0} (parsed : Reading X) (e : LineError) → parsed ≡ Err e → IsCause parsed e
cause_is parsed (error.NoMemory m) is = tt
cause_is parsed error.TooLong is = is
cause_is parsed error.Syntax is = is
cause_is parsed error.BadTag is = is
cause_is parsed error.BadPath is = is
cause_is parsed error.BadLabel is = is
cause_is parsed error.BadCaps is = is

-- an error is what was parsed, or memory ran out
by_cause : {X P : Type 0} (parsed : Reading X) (e : LineError) → IsCause parsed e → (parsed ≡ Err e → P) → ((m : AllocError) → e ≡ error.NoMemory m → P) → P
by_cause parsed (error.NoMemory m) h k none = none m refl
by_cause parsed error.TooLong h k none = k h
by_cause parsed error.Syntax h k none = k h
by_cause parsed error.BadTag h k none = k h
by_cause parsed error.BadPath h k none = k h
by_cause parsed error.BadLabel h k none = k h
by_cause parsed error.BadCaps h k none = k h

-- out of memory comes before each other fault
memory_first : {X : Type 0} (parsed : Reading X) (m : AllocError) (f : LineError) → IsCause parsed (first_of (error.NoMemory m) f)
memory_first parsed m (error.NoMemory n) = tt
memory_first parsed m error.TooLong = tt
memory_first parsed m error.Syntax = tt
memory_first parsed m error.BadTag = tt
memory_first parsed m error.BadPath = tt
memory_first parsed m error.BadLabel = tt
memory_first parsed m error.BadCaps = tt

memory_next : {X : Type 0} (parsed : Reading X) (e : LineError) (m : AllocError) → IsCause parsed (first_of e (error.NoMemory m))
memory_next parsed (error.NoMemory n) m = tt
memory_next parsed error.TooLong m = tt
memory_next parsed error.Syntax m = tt
memory_next parsed error.BadTag m = tt
memory_next parsed error.BadPath m = tt
memory_next parsed error.BadLabel m = tt
memory_next parsed error.BadCaps m = tt

-- an error stays the cause of what is made of more
cause_after : {X Y : Type 0} (parsed : Reading X) (more : Reading X → Reading Y) (e : LineError) → IsCause parsed e → more (Err e) ≡ Err e → IsCause (more parsed) e
cause_after parsed more e h is = by_cause parsed e h (λ fault. cause_is (more parsed) e (ap more fault ∙ is)) (λ m none. subst (IsCause (more parsed)) (sym none) tt)

pub both_answer : {A B : Type 0} (a : Reading A) (b : Reading B) (x : Reading A) (y : Reading B) → Answers a x → Answers b y → Answers (both a b) (both x y)
unfolding both
both_answer a b (Ok p) (Ok q) h k = λ i. both (h i) (k i)
both_answer a b (Err e) (Ok q) h k = cause_after a (λ a. both a b) e h (ap (both (Err e)) k)
both_answer a b (Ok p) (Err f) h k = cause_after b (both a) f k (ap (λ a. both a (Err f)) h)
both_answer a b (Err e) (Err f) h k =
    by_cause a e h
    (λ first. by_cause b f k (λ next. cause_is (both a b) (first_of e f) (λ i. both (first i) (next i))) (λ m none. subst (λ (f : LineError). IsCause (both a b) (first_of e f)) (sym none) (memory_next (both a b) e m)))
    (λ m none. subst (λ (e : LineError). IsCause (both a b) (first_of e f)) (sym none) (memory_first (both a b) m f))

-- what was read of two words makes this, or their first fault is the answer
pub made_answer : {X C : Type 0} (parsed x : Reading X) (make : X → C) (r : Reading C) → Answers parsed x → MatchResult x (λ v. IsOkAnd r (λ c. c ≡ make v)) (λ e. r ≡ Err e) → Answers (map_reading make parsed) r
unfolding map_reading
made_answer parsed (Ok v) make (Ok c) h is = ap (map_reading make) h ∙ sym (ap (λ c. Ok c) is)
made_answer parsed (Ok v) make (Err e) h is = absurd is
made_answer parsed (Err e) make r h is = subst (Answers (map_reading make parsed)) (sym is) (cause_after parsed (map_reading make) e h refl)

-- an exact answer
pub exact_answer : {X : Type 0} (parsed x : Reading X) → x ≡ parsed → Answers parsed x
exact_answer parsed (Ok v) is = sym is
exact_answer parsed (Err e) is = cause_is parsed e (sym is)
