use Rattle.std.proofs.Common.{◌≤◌, length, vec_len, refl, arith}
use Rattle.ufs_links.specs.Nodes.{nodes_in}
use Rattle.ufs_links.specs.Numbered.{number_at}
use Rattle.ufs_links.specs.declared.numbered.NumberedLists.TheInside.{Inside}
use Rattle.ufs_links.proofs.NumberedLemmas.{Grown, grown, grown_lists, finds_alike}
use Rattle.ufs_links.proofs.numbered.NumberedLists.reserve_nodes.Goals as goal

pub returns-in_err-add_buckets-clause-lists : goal.returns-in_err-add_buckets-clause-lists
returns-in_err-add_buckets-clause-lists c =
    let l = c.self.inside in
    let i = c.self.invariant in
    let m : Inside = record { slots = l.slots; buckets = c.add_buckets.new.buckets; numbers = c.add_numbers.new.numbers; own = l.own } in
    let inumbers = i.numbers in
    let kept = c.add_numbers.ensures.kept in
    let more = c.add_buckets.ensures.kept in
    let g : Grown l m = record {
      nodes = λ s. refl;
      number = c.add_numbers.ensures.same;
      own = λ n. refl;
      finds = c.add_buckets.ensures.finds;
      more = omega arith;
      more_slots = omega arith;
      slots = i.slots;
      numbers = omega arith;
      listed = c.add_buckets.ensures.listed i.listed;
      room = i.nodes;
      buckets = λ lt. let some = i.buckets lt in omega arith;
      few = c.add_numbers.ensures.few i.few;
    } in
    grown_lists l m i g c.args.self.now c.self.view_is

pub returns-in_err-add_slots-clause-lists : goal.returns-in_err-add_slots-clause-lists
returns-in_err-add_slots-clause-lists c =
    let l = c.self.inside in
    let i = c.self.invariant in
    let numbers = c.add_numbers.new.numbers in
    let buckets = c.add_buckets.new.buckets in
    let m : Inside = record { slots = c.add_slots.new.slots; buckets = buckets; numbers = numbers; own = l.own } in
    let inumbers = i.numbers in
    let islots = i.slots in
    let inodes = i.nodes in
    let kept = c.add_numbers.ensures.kept in
    let more = c.add_buckets.ensures.kept in
    let kept_slots = c.add_slots.ensures.kept in
    let kept_nodes = c.add_slots.ensures.kept_nodes in
    let below : length l.slots.lists ≤ vec_len numbers = omega arith in
    let g : Grown l m = record {
      nodes = c.add_slots.ensures.same;
      number = c.add_numbers.ensures.same;
      own = λ n. refl;
      finds = finds_alike (number_at numbers.items) (number_at numbers.items) (nodes_in l.slots.lists) (nodes_in c.add_slots.new.slots.lists) buckets.lists (λ s. refl) c.add_slots.ensures.same
          c.add_buckets.ensures.finds;
      more = omega arith;
      more_slots = kept_slots;
      slots = omega arith;
      numbers = c.add_slots.ensures.few (vec_len numbers) below c.in_ok-add_numbers.ensures.room;
      listed = c.add_slots.ensures.few buckets.nodes (c.add_buckets.ensures.listed i.listed) c.in_ok-add_buckets.ensures.room_slots;
      room = omega arith;
      buckets = λ lt. let some = i.buckets lt in omega arith;
      few = c.add_numbers.ensures.few i.few;
    } in
    grown_lists l m i g c.args.self.now c.self.view_is

pub invariant_of-self-2 : goal.invariant_of-self-2
invariant_of-self-2 c =
    let l = c.self.inside in
    let i = c.self.invariant in
    let numbers = c.add_numbers.new.numbers in
    let buckets = c.add_buckets.new.buckets in
    let slots = c.add_slots.new.slots in
    let m : Inside = record { slots = slots; buckets = buckets; numbers = numbers; own = c.add_own.new.own } in
    let inumbers = i.numbers in
    let islots = i.slots in
    let inodes = i.nodes in
    let kept = c.add_numbers.ensures.kept in
    let kept_slots = c.add_slots.ensures.kept in
    let kept_nodes = c.add_slots.ensures.kept_nodes in
    let below : length l.slots.lists ≤ vec_len numbers = omega arith in
    let under : vec_len l.own ≤ length slots.lists = omega arith in
    let placed : vec_len l.own ≤ slots.nodes = omega arith in
    let long = c.len.ensures in
    let longer = c.if-nodes-len.false in
    let room = c.in_ok-add_buckets.ensures.room in
    grown l m i (record {
      nodes = c.add_slots.ensures.same;
      number = c.add_numbers.ensures.same;
      own = c.add_own.ensures.same;
      finds = finds_alike (number_at numbers.items) (number_at numbers.items) (nodes_in l.slots.lists) (nodes_in slots.lists) buckets.lists (λ s. refl) c.add_slots.ensures.same c.add_buckets.ensures.finds;
      more = c.add_own.ensures.kept;
      more_slots = kept_slots;
      slots = c.add_own.ensures.few (length slots.lists) under c.in_ok-add_slots.ensures.room;
      numbers = c.add_slots.ensures.few (vec_len numbers) below c.in_ok-add_numbers.ensures.room;
      listed = c.add_slots.ensures.few buckets.nodes (c.add_buckets.ensures.listed i.listed) c.in_ok-add_buckets.ensures.room_slots;
      room = c.add_own.ensures.few slots.nodes placed c.in_ok-add_slots.ensures.room_nodes;
      buckets = λ lt. omega arith;
      few = c.add_numbers.ensures.few i.few;
    })

pub returns-clause-lists : goal.returns-clause-lists
returns-clause-lists c =
    let l = c.self.inside in
    let i = c.self.invariant in
    let numbers = c.add_numbers.new.numbers in
    let buckets = c.add_buckets.new.buckets in
    let slots = c.add_slots.new.slots in
    let m : Inside = record { slots = slots; buckets = buckets; numbers = numbers; own = c.add_own.new.own } in
    let inumbers = i.numbers in
    let islots = i.slots in
    let inodes = i.nodes in
    let kept = c.add_numbers.ensures.kept in
    let kept_slots = c.add_slots.ensures.kept in
    let kept_nodes = c.add_slots.ensures.kept_nodes in
    let below : length l.slots.lists ≤ vec_len numbers = omega arith in
    let under : vec_len l.own ≤ length slots.lists = omega arith in
    let placed : vec_len l.own ≤ slots.nodes = omega arith in
    let long = c.len.ensures in
    let longer = c.if-nodes-len.false in
    let room = c.in_ok-add_buckets.ensures.room in
    let g : Grown l m = record {
      nodes = c.add_slots.ensures.same;
      number = c.add_numbers.ensures.same;
      own = c.add_own.ensures.same;
      finds = finds_alike (number_at numbers.items) (number_at numbers.items) (nodes_in l.slots.lists) (nodes_in slots.lists) buckets.lists (λ s. refl) c.add_slots.ensures.same c.add_buckets.ensures.finds;
      more = c.add_own.ensures.kept;
      more_slots = kept_slots;
      slots = c.add_own.ensures.few (length slots.lists) under c.in_ok-add_slots.ensures.room;
      numbers = c.add_slots.ensures.few (vec_len numbers) below c.in_ok-add_numbers.ensures.room;
      listed = c.add_slots.ensures.few buckets.nodes (c.add_buckets.ensures.listed i.listed) c.in_ok-add_buckets.ensures.room_slots;
      room = c.add_own.ensures.few slots.nodes placed c.in_ok-add_slots.ensures.room_nodes;
      buckets = λ lt. omega arith;
      few = c.add_numbers.ensures.few i.few;
    } in
    grown_lists l m i g c.args.self.now c.self.view_is
