use Rattle.std.proofs.Common.{◌≡◌, ℕ, ◌+◌, ◌-◌, List, [], ◌∷◌, ◌++◌, false, get_or, length, replicate, ap, sym, ◌∙◌, subst, arith}
use Rattle.ufs_layout.specs.DentryForm.{DentryForm, free_slot}
use Rattle.ufs_dirs.specs.Directory.{Directory}
use Rattle.ufs_dirs.specs.Index.{IsKept}
use Rattle.std.proofs.Common.{take}
use Rattle.std.specs.Vec.{vec_len}
use Rattle.ufs_dirs.specs.Directory.{entry_of, has_block}
use Rattle.ufs_dirs.proofs.KeptLemmas.{AreAdded, entry_of-added, kept_added, few_names, few_slots, left_by_ok, resized, size_added}
use Rattle.ufs_dirs.proofs.dir_blocks.DirBlocks.add_block.Goals as goal

pub overflow_cast-len : goal.overflow_cast-len
overflow_cast-len c =
    let d : Directory = record { blocks = c.self.inside.blocks.items; slots = c.self.inside.slots.items } in
    omega (arith, few_slots d c.self.invariant.0.directory, c.len-3.ensures, c.reserve-2.ensures.len)

pub put_block-requires-clause-below : goal.put_block-requires-clause-below
put_block-requires-clause-below c =
    let d : Directory = record { blocks = c.self.inside.blocks.items; slots = c.self.inside.slots.items } in
    omega (arith, few_slots d c.self.invariant.0.directory, c.len-3.ensures, c.reserve-2.ensures.len)

pub invariant_of-self-2 : goal.invariant_of-self-2
invariant_of-self-2 c =
    let d : Directory = record { blocks = c.self.inside.blocks.items; slots = c.self.inside.slots.items } in
    let order = c.self.inside.order.items in
    let places = c.self.inside.free.items in
    let block = c.args.block in
    let blocks_is : c.push.new.self.items ≡ d.blocks ++ block ∷ [] =
    left_by_ok c.push.result c.unwrap.result c.push.new.self.items (c.reserve.new.self.items ++ block ∷ []) c.reserve.new.self.items c.push.ensures.items c.unwrap.ensures ∙ ap (λ (b : List ℕ). b ++ block ∷ []) c.reserve.ensures.items in
    let size = c.len-slots.result + 64 in
    let old = c.reserve-2.new.self.items in
    let count : ℕ = vec_len c.reserve-2.new.self in
    let grown = left_by_ok c.resize.result c.unwrap-2.result c.resize.new.self.items (take size old ++ replicate (size - count) c.free_dentry.result) old c.resize.ensures.items c.unwrap-2.ensures in
    let same_size : length old ≡ length d.slots = ap (λ (s : List DentryForm). length s) c.reserve-2.ensures.items in
    let slots_is : c.resize.new.self.items ≡ d.slots ++ replicate 64 free_slot =
    resized old c.resize.new.self.items size count c.free_dentry.result grown (omega arith) (omega (arith, c.len-slots.ensures, same_size)) c.free_dentry.ensures ∙ ap (λ (s : List DentryForm). s ++ replicate 64 free_slot) c.reserve-2.ensures.items in
    let absent : has_block d.blocks block ≡ false = ap (λ (x : Directory). has_block x.blocks block) c.self.view_is ∙ c.requires.absent in
    let first : c.len-3.result ≡ length d.slots = omega (arith, c.len-3.ensures, same_size) in
    let added : AreAdded d.slots places c.put_block.new.free.items = record {
      size = omega (arith, c.put_block.ensures.size, c.reserve-4.ensures.len);
      block = λ k h. omega (arith, c.put_block.ensures.block k h, first);
      others = λ k h. c.put_block.ensures.others k (omega (arith, c.reserve-4.ensures.len)) ∙ ap (λ (f : List ℕ). get_or f k 0) c.reserve-4.ensures.items;
    } in
    let kept = kept_added d order places c.put_block.new.free.items block c.self.invariant.0 c.requires.below absent added in (
      subst (λ (b : List ℕ). IsKept (record { blocks = b; slots = c.resize.new.self.items }) c.reserve-3.new.self.items c.put_block.new.free.items) (sym blocks_is)
          (subst (λ (s : List DentryForm). IsKept (record { blocks = d.blocks ++ block ∷ []; slots = s }) c.reserve-3.new.self.items c.put_block.new.free.items) (sym slots_is)
          (subst (λ (o : List ℕ). IsKept (record { blocks = d.blocks ++ block ∷ []; slots = d.slots ++ replicate 64 free_slot }) o c.put_block.new.free.items) (sym c.reserve-3.ensures.items) kept)),
      omega (arith, ap (λ (s : List DentryForm). length s) slots_is, size_added d.slots, c.in_ok-reserve-3.ensures.ok, c.len-slots.ensures, c.len.ensures, c.reserve-3.ensures.len, few_names d order places c.self.invariant.0),
      omega (arith, ap (λ (s : List DentryForm). length s) slots_is, size_added d.slots, c.in_ok-reserve-4.ensures.ok, c.len-slots.ensures, c.len-2.ensures, c.reserve-4.ensures.len, c.put_block.ensures.capacity, c.self.invariant.0.free.counted),
    )

pub returns-clause-ok : goal.returns-clause-ok
returns-clause-ok c =
    let d : Directory = record { blocks = c.self.inside.blocks.items; slots = c.self.inside.slots.items } in
    let block = c.args.block in
    let blocks_is : c.push.new.self.items ≡ d.blocks ++ block ∷ [] =
    left_by_ok c.push.result c.unwrap.result c.push.new.self.items (c.reserve.new.self.items ++ block ∷ []) c.reserve.new.self.items c.push.ensures.items c.unwrap.ensures ∙ ap (λ (b : List ℕ). b ++ block ∷ []) c.reserve.ensures.items in
    let size = c.len-slots.result + 64 in
    let old = c.reserve-2.new.self.items in
    let count : ℕ = vec_len c.reserve-2.new.self in
    let grown = left_by_ok c.resize.result c.unwrap-2.result c.resize.new.self.items (take size old ++ replicate (size - count) c.free_dentry.result) old c.resize.ensures.items c.unwrap-2.ensures in
    let same_size : length old ≡ length d.slots = ap (λ (s : List DentryForm). length s) c.reserve-2.ensures.items in
    let slots_is : c.resize.new.self.items ≡ d.slots ++ replicate 64 free_slot =
    resized old c.resize.new.self.items size count c.free_dentry.result grown (omega arith) (omega (arith, c.len-slots.ensures, same_size)) c.free_dentry.ensures ∙ ap (λ (s : List DentryForm). s ++ replicate 64 free_slot) c.reserve-2.ensures.items in
    let added : Directory → Directory = λ x. record { blocks = x.blocks ++ block ∷ []; slots = x.slots ++ replicate 64 free_slot } in
    (λ i. record { blocks = blocks_is i; slots = slots_is i }) ∙ ap added c.self.view_is

pub returns-clause-names : goal.returns-clause-names
returns-clause-names c name = ap (λ (d : Directory). entry_of d.slots name) (returns-clause-ok c) ∙ entry_of-added c.args.self.now.slots name

pub returns-clause-whole : goal.returns-clause-whole
returns-clause-whole c = (invariant_of-self-2 c).0.directory
