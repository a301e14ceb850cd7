use Rattle.std.proofs.Common.{◌≡◌, ◌≤◌, ◌+◌, ◌++◌, List, ℕ, length, take, drop, ap, ◌∙◌, arith}
use Rattle.std.specs.Vec.{with_items}
use Rattle.std.proofs.lemmas.List.{with_items_is}
use Rattle.dc_connections.proofs.StreamLemmas.{part_more}
use Rattle.dc_connections.proofs.stream.Stream.append.Goals as goal

pub returns : goal.returns
returns c =
    let made : List ℕ = c.make_room-self-inside.new.buffer in
    let begin : ℕ = c.make_room-self-inside.result in
    let n : ℕ = c.self.inside.len in
    let more : List ℕ = c.args.bytes.now in
    let first : (with_items c.self.inside.buffer c.make_room-self-inside.new.buffer).items ≡ c.make_room-self-inside.new.buffer =
    with_items_is c.self.inside.buffer c.make_room-self-inside.new.buffer (c.make_room-self-inside.ensures.len ∙ c.deref_mut.ensures.len) in
    let second : (with_items (with_items c.self.inside.buffer c.make_room-self-inside.new.buffer) c.put.new.buffer).items ≡ c.put.new.buffer =
    with_items_is (with_items c.self.inside.buffer c.make_room-self-inside.new.buffer) c.put.new.buffer (c.put.ensures.len ∙ c.deref_mut-2.ensures.len) in
    let same : take n (drop begin made) ≡ take n (drop c.self.inside.start c.self.inside.buffer.items) =
    c.make_room-self-inside.ensures.same ∙ ap (λ (b : List ℕ). take n (drop c.self.inside.start b)) c.deref_mut.ensures.value in
    let front : take (begin + n + length more) c.put.new.buffer ≡ take (begin + n) made ++ more =
    c.put.ensures.front ∙ ap (λ (b : List ℕ). take (begin + n) b ++ more) (c.deref_mut-2.ensures.value ∙ first) in
    let room : begin + n ≤ length made = omega (arith, c.make_room-self-inside.ensures.room) in
    ap (λ (b : List ℕ). take (n + length more) (drop begin b)) second
    ∙ part_more c.self.inside.buffer.items made c.put.new.buffer c.args.self.now more c.self.inside.start begin n c.self.view_is same room front
