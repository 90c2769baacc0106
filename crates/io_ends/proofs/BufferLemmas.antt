-- Bytes between two places of a list.
use Rattle.std.proofs.Common.{◌≡◌, ℕ, ◌+◌, ◌-◌, ◌≤◌, List, ◌++◌, length, take, drop, slice_range, sym, ◌∙◌, ap, arith, append_assoc, length-append}
use Rattle.std.proofs.lemmas.List.{take_at, take-append-drop, drop-take, drop-drop, length-take-le}

-- the bytes between two places, less the first of them
pub later_start : (xs : List ℕ) (start end count : ℕ) → count ≤ end - start → slice_range xs (start + count) end ≡ drop count (slice_range xs start end)
later_start xs start end count le =
    let same : count + (end - (start + count)) ≡ end - start = omega arith in
    ap (take (end - (start + count))) (sym (drop-drop count start xs)) ∙ sym (drop-take count (end - (start + count)) (drop start xs)) ∙ ap (λ n. drop count (take n (drop start xs))) same

-- some bytes after the first ones
pub more_bytes : (xs ys zs : List ℕ) (n : ℕ) → n ≤ length ys → take (length xs + n) (xs ++ (ys ++ zs)) ≡ xs ++ take n ys
more_bytes xs ys zs n le =
    let len : length (xs ++ take n ys) ≡ length xs + n = omega (arith, length-append xs (take n ys), length-take-le n ys le) in
    ap (λ (r : List ℕ). take (length xs + n) (xs ++ (r ++ zs))) (sym (take-append-drop n ys))
    ∙ ap (λ (r : List ℕ). take (length xs + n) (xs ++ r)) (append_assoc (take n ys) (drop n ys) zs)
    ∙ ap (take (length xs + n)) (sym (append_assoc xs (take n ys) (drop n ys ++ zs)))
    ∙ take_at (xs ++ take n ys) (drop n ys ++ zs) (length xs + n) len

-- the bytes up to a place, where others were put there
pub filled : (held before after put rest : List ℕ) (end n : ℕ) → take end before ≡ held → end ≤ length before → n ≤ length put → after ≡ take end before ++ (put ++ rest) → slice_range after 0 (end + n) ≡ held ++ take n put
filled held before after put rest end n is inside le e =
    let here : length (take end before) ≡ end = length-take-le end before inside in
    let size : end + n - 0 ≡ length (take end before) + n = omega arith in
    ap (λ k. take k after) size ∙ ap (take (length (take end before) + n)) e ∙ more_bytes (take end before) put rest n le ∙ ap (λ (r : List ℕ). r ++ take n put) is
