use Rattle.std.proofs.Common.{◌≡◌, ◌≤◌, ◌<◌, ◌+◌, ◌-◌, ◌∙◌, ◌++◌, List, ℕ, ap, arith, rules, length, take, subst, sym, length-append, length-take, length-drop, drop, slice_range}
use Rattle.std.specs.Vec.{with_items}
use Rattle.std.proofs.lemmas.List.{with_items_is, places, length-take-le}
use Rattle.io_ends.proofs.BufferLemmas.{filled}
use Rattle.io_ends.proofs.buffer.Buffer.fill.Goals as goal

pub returns-clause-fills : goal.returns-clause-fills
returns-clause-fills g c =
    let moved = c.move_to_start-self-inside in
    let n = c.in_ok-count.count in
    let before = c.deref_mut-2.result.now in
    let same : before ≡ moved.new.bytes = c.deref_mut-2.ensures.value ∙ with_items_is c.self.inside.bytes moved.new.bytes (search (rules, places)) in
    let memory : length before ≡ 6144 = ap length same ∙ moved.ensures.len ∙ ap length c.deref_mut.ensures.value ∙ c.self.invariant.2 in
    let held : take moved.result before ≡ c.args.self.now = ap (take moved.result) same ∙ moved.ensures.moved ∙ ap (λ (xs : List ℕ). slice_range xs c.self.inside.start c.self.inside.end) c.deref_mut.ensures.value ∙ c.self.view_is in
    let inside : moved.result ≤ length before = omega arith in
    let memory_left = length-drop moved.result before in
    let put = length-take (moved.result + c.min-room.result - moved.result) (drop moved.result before) in
    let room : length c.read.new.buf ≡ c.min-room.result = omega arith in
    let within : n ≤ length c.read.new.buf = c.in_ok-count.ensures.bound.0 in
    let got = take n c.read.new.buf in
    let size : length got ≡ n = length-take-le n c.read.new.buf within in
    let start : length c.args.self.now ≡ moved.result = ap length (sym held) ∙ length-take-le moved.result before inside in
    let more : length (c.args.self.now ++ got) ≤ c.args.most = omega (arith, length-append c.args.self.now got) in
    let some : 0 < length c.read.new.buf = omega arith in
    let after = filled c.args.self.now before _ c.read.new.buf _ moved.result n held inside within (with_items_is (with_items c.self.inside.bytes moved.new.bytes) _ (search (rules, places))) in
    record {
      got = got;
      took = c.in_ok-count.ensures.bytes.0;
      count_is = size;
      after_is = after;
      small = subst (λ (xs : List ℕ). length xs ≤ c.args.most) (sym after) more;
      at_end = λ none. c.in_ok-count.ensures.bytes.1 none some;
    }
