use Rattle.std.proofs.Common.{◌≡◌, ◌≢◌, ℕ, ◌+◌, ◌*◌, ◌/◌, ◌%◌, ◌^◌, ◌<◌, List, false, length, get_or, set as put, ap, sym, ◌∙◌, arith, length-set}
use Rattle.std.specs.Prelude.{bit_or}
use Rattle.std.specs.FinSet as set
use Rattle.std.proofs.lemmas.List.{get_or_read, get_or-set_other}
use Rattle.ufs_bitmap.specs.Blocks.{BlockSet}
use Rattle.ufs_bitmap.specs.Words.{Members, members_of}
use Rattle.ufs_bitmap.proofs.SetLemmas.{len-insert_new}
use Rattle.ufs_bitmap.proofs.WordLemmas.{len-members, members-with_bit, with_bit, same_members}
use Rattle.ufs_bitmap.proofs.word_set.WordSet.insert.Goals as goal

pub overflow_add-self : goal.overflow_add-self
overflow_add-self c = omega (arith, c.self.invariant.0, c.self.invariant.1, len-members c.self.inside.words.items)

pub invariant_of-self : goal.invariant_of-self
invariant_of-self c =
    let b = c.args.block in
    let xs = c.self.inside.words.items in
    let limit_is = ap (λ (m : Members). m.limit) c.self.view_is in
    let inside : b < 64 * length xs = omega (arith, c.requires.inside, limit_is) in
    let absent : set.contains (members_of xs) b ≡ false = ap (λ (m : Members). set.contains m.blocks b) c.self.view_is ∙ c.requires.absent in
    let v : ℕ = bit_or c.index_mut.result.now (1 * 2 ^ (b % 64) % 2 ^ 64) in
    let here : b / 64 < length xs = omega (arith, inside) in
    let read : c.index_mut.result.now ≡ get_or xs (b / 64) 0 = get_or_read xs (b / 64) c.index_mut.result.now here c.index_mut.ensures.value 0 in
    let changed : put xs (b / 64) v ≡ with_bit xs b inside = ap (λ (w : ℕ). put xs (b / 64) (bit_or w (1 * 2 ^ (b % 64) % 2 ^ 64))) read in
    let low = c.min-self-inside.ensures in (
      ap (λ (n : ℕ). n + 1) c.self.invariant.0
          ∙ sym (ap (λ (ws : List ℕ). set.len (members_of ws)) changed ∙ ap (λ (s : BlockSet). set.len s) (members-with_bit xs b inside) ∙ len-insert_new (members_of xs) b absent),
      omega (arith, length-set xs (b / 64) v, c.self.invariant.1),
      omega (arith, length-set xs (b / 64) v, low, c.self.invariant.2),
      λ i h.
          let other : i ≢ b / 64 = omega (arith, h, low) in
          let below : i < c.self.inside.low = omega (arith, h, low) in
          get_or-set_other xs (b / 64) i v 0 other ∙ c.self.invariant.3 i below,
    )

pub returns : goal.returns
returns c =
    let b = c.args.block in
    let xs = c.self.inside.words.items in
    let limit_is = ap (λ (m : Members). m.limit) c.self.view_is in
    let inside : b < 64 * length xs = omega (arith, c.requires.inside, limit_is) in
    let v : ℕ = bit_or c.index_mut.result.now (1 * 2 ^ (b % 64) % 2 ^ 64) in
    let here : b / 64 < length xs = omega (arith, inside) in
    let read : c.index_mut.result.now ≡ get_or xs (b / 64) 0 = get_or_read xs (b / 64) c.index_mut.result.now here c.index_mut.ensures.value 0 in
    let changed : put xs (b / 64) v ≡ with_bit xs b inside = ap (λ (w : ℕ). put xs (b / 64) (bit_or w (1 * 2 ^ (b % 64) % 2 ^ 64))) read in
    let room : 64 * length (put xs (b / 64) v) ≡ c.args.self.now.limit = omega (arith, length-set xs (b / 64) v, limit_is) in
    same_members (64 * length (put xs (b / 64) v)) c.args.self.now.limit (members_of (put xs (b / 64) v)) (set.insert c.args.self.now.blocks b) room
    (ap members_of changed ∙ members-with_bit xs b inside ∙ ap (λ (m : Members). set.insert m.blocks b) c.self.view_is)
