use Rattle.std.proofs.Common.{◌∙◌, ◌≤◌, ℕ, [], List, Option, length, refl, ap, sym, arith}
use Rattle.ufs_links.specs.Nodes.{next_in, nodes_in}
use Rattle.ufs_links.specs.Numbered.{number_at, slot_in, bucket_of}
use Rattle.ufs_links.proofs.StandLemmas.{beyond}
use Rattle.ufs_links.proofs.TailLemmas.{tail_from, tail_front, tail_step, tail_shorter, front_has, next_has, look_here, look_past, look_nothing}
use Rattle.ufs_links.proofs.NumberedLemmas.{read_is}
use Rattle.ufs_links.proofs.numbered.slot_of.Goals as goal

pub returns-then-list_count-eq0 : goal.returns-then-list_count-eq0
returns-then-list_count-eq0 c =
    let ls = c.args.buckets.now.lists in
    let number = number_at c.args.numbers.now.items in
    let none : length ls ≤ bucket_of ls c.args.list = let n = c.list_count.ensures in let z = c.if-list_count-eq0.true in omega arith in
    sym (ap (λ (xs : List ℕ). slot_in number xs c.args.list) (beyond ls (bucket_of ls c.args.list) [] none) ∙ look_nothing number c.args.list)

pub loop-at-init : goal.loop-at-init
loop-at-init c =
    let xs = nodes_in c.args.buckets.now.lists c.bucket_of-bucket.result in
    let number = number_at c.args.numbers.now.items in
    let front = c.front-at.ensures.front in
    record {
      left = sym (ap (λ (o : Option ℕ). slot_in number (tail_from xs o) c.args.list) front ∙ ap (λ (m : List ℕ). slot_in number m c.args.list) (tail_front xs));
      there = λ s e. front_has xs s (sym front ∙ e);
      apart = c.front-at.ensures.apart;
    }

pub index-requires : goal.index-requires
index-requires c = c.requires c.bucket_of-bucket.result c.in-Some.slot (c.loop-at.invariant.there c.in-Some.slot c.in-Some.is)

pub returns-then-index-list : goal.returns-then-index-list
returns-then-index-list c =
    let xs = nodes_in c.args.buckets.now.lists c.bucket_of-bucket.result in
    let number = number_at c.args.numbers.now.items in
    let slot = c.in-Some.slot in
    let on = c.loop-at.invariant.there slot c.in-Some.is in
    let read = read_is c.args.numbers.now slot c.index.result.now (c.requires c.bucket_of-bucket.result slot on) c.index.ensures in
    sym (ap (λ (b : ℕ). slot_in number (nodes_in c.args.buckets.now.lists b) c.args.list) (sym c.bucket_of-bucket.ensures.bucket) ∙ c.loop-at.invariant.left
    ∙ ap (λ (m : List ℕ). slot_in number m c.args.list) (tail_step xs c.loop-at.at (next_in xs slot) slot c.loop-at.invariant.apart c.in-Some.is on refl)
    ∙ look_here number slot c.args.list (tail_from xs (next_in xs slot)) (sym read ∙ c.if-index-list.true))

pub loop-at-smaller : goal.loop-at-smaller
loop-at-smaller c =
    let xs = nodes_in c.args.buckets.now.lists c.bucket_of-bucket.result in
    let slot = c.in-Some.slot in
    let on = c.loop-at.invariant.there slot c.in-Some.is in
    tail_shorter xs c.loop-at.at c.next-at.result slot c.loop-at.invariant.apart c.in-Some.is on (c.next-at.ensures c.bucket_of-bucket.result on)

pub loop-at-preserved : goal.loop-at-preserved
loop-at-preserved c =
    let xs = nodes_in c.args.buckets.now.lists c.bucket_of-bucket.result in
    let number = number_at c.args.numbers.now.items in
    let slot = c.in-Some.slot in
    let on = c.loop-at.invariant.there slot c.in-Some.is in
    let next = c.next-at.ensures c.bucket_of-bucket.result on in
    let read = read_is c.args.numbers.now slot c.index.result.now (c.requires c.bucket_of-bucket.result slot on) c.index.ensures in
    record {
      left = c.loop-at.invariant.left ∙ ap (λ (m : List ℕ). slot_in number m c.args.list) (tail_step xs c.loop-at.at c.next-at.result slot c.loop-at.invariant.apart c.in-Some.is on next)
          ∙ look_past number slot c.args.list (tail_from xs c.next-at.result) (λ e. c.if-index-list.false (read ∙ e));
      there = λ s e. next_has xs slot s (sym next ∙ e);
      apart = c.loop-at.invariant.apart;
    }

pub returns : goal.returns
returns c =
    let xs = nodes_in c.args.buckets.now.lists c.bucket_of-bucket.result in
    let number = number_at c.args.numbers.now.items in
    sym (ap (λ (b : ℕ). slot_in number (nodes_in c.args.buckets.now.lists b) c.args.list) (sym c.bucket_of-bucket.ensures.bucket) ∙ c.loop-at.invariant.left
    ∙ ap (λ (o : Option ℕ). slot_in number (tail_from xs o) c.args.list) c.in_default.is ∙ look_nothing number c.args.list)
