use Rattle.std.proofs.Common.{◌≡◌, ◌≢◌, ℕ, ◌-◌, ◌*◌, ◌/◌, ◌%◌, ◌^◌, ◌<◌, ◌≤◌, List, true, length, get_or, set as put, ap, sym, ◌∙◌, arith, length-set}
use Rattle.std.specs.Prelude.{bit_and}
use Rattle.std.specs.Int.{bit_not, w64}
use Rattle.std.specs.FinSet as set
use Rattle.std.proofs.lemmas.List.{get_or_read, get_or-set_other}
use Rattle.ufs_bitmap.specs.Blocks.{BlockSet}
use Rattle.ufs_bitmap.specs.Words.{Members, members_of}
use Rattle.ufs_bitmap.proofs.SetLemmas.{len-remove_there, len_some}
use Rattle.ufs_bitmap.proofs.WordLemmas.{members-limit, low_le, members-without_bit, without_bit, same_members}
use Rattle.ufs_bitmap.proofs.word_set.WordSet.remove.Goals as goal

pub overflow_sub-self : goal.overflow_sub-self
overflow_sub-self c =
    omega (arith, c.self.invariant.0, len_some (members_of c.self.inside.words.items) c.args.block (ap (λ (m : Members). set.contains m.blocks c.args.block) c.self.view_is ∙ c.requires))

pub index_mut-requires : goal.index_mut-requires
index_mut-requires c =
    omega (arith, members-limit c.self.inside.words.items c.args.block (ap (λ (m : Members). set.contains m.blocks c.args.block) c.self.view_is ∙ c.requires))

pub invariant_of-self : goal.invariant_of-self
invariant_of-self c =
    let b = c.args.block in
    let xs = c.self.inside.words.items in
    let limit_is = ap (λ (m : Members). m.limit) c.self.view_is in
    let there : set.contains (members_of xs) b ≡ true = ap (λ (m : Members). set.contains m.blocks b) c.self.view_is ∙ c.requires in
    let inside : b < 64 * length xs = members-limit xs b there in
    let v : ℕ = bit_and c.index_mut.result.now (bit_not w64 (1 * 2 ^ (b % 64) % 2 ^ 64)) in
    let here : b / 64 < length xs = omega (arith, inside) in
    let read : c.index_mut.result.now ≡ get_or xs (b / 64) 0 = get_or_read xs (b / 64) c.index_mut.result.now here c.index_mut.ensures.value 0 in
    let changed : put xs (b / 64) v ≡ without_bit xs b inside = ap (λ (w : ℕ). put xs (b / 64) (bit_and w (bit_not w64 (1 * 2 ^ (b % 64) % 2 ^ 64)))) read in (
      ap (λ (n : ℕ). n - 1) c.self.invariant.0
          ∙ sym (ap (λ (ws : List ℕ). set.len (members_of ws)) changed ∙ ap (λ (s : BlockSet). set.len s) (members-without_bit xs b inside) ∙ len-remove_there (members_of xs) b there),
      omega (arith, length-set xs (b / 64) v, c.self.invariant.1),
      omega (arith, length-set xs (b / 64) v, c.self.invariant.2),
      λ i h.
          let from : c.self.inside.low ≤ b / 64 = low_le xs c.self.inside.low b c.self.invariant.3 there in
          let other : i ≢ b / 64 = omega (arith, h, from) in
          get_or-set_other xs (b / 64) i v 0 other ∙ c.self.invariant.3 i h,
    )

pub returns : goal.returns
returns c =
    let b = c.args.block in
    let xs = c.self.inside.words.items in
    let limit_is = ap (λ (m : Members). m.limit) c.self.view_is in
    let inside : b < 64 * length xs = members-limit xs b (ap (λ (m : Members). set.contains m.blocks b) c.self.view_is ∙ c.requires) in
    let v : ℕ = bit_and c.index_mut.result.now (bit_not w64 (1 * 2 ^ (b % 64) % 2 ^ 64)) in
    let here : b / 64 < length xs = omega (arith, inside) in
    let read : c.index_mut.result.now ≡ get_or xs (b / 64) 0 = get_or_read xs (b / 64) c.index_mut.result.now here c.index_mut.ensures.value 0 in
    let changed : put xs (b / 64) v ≡ without_bit xs b inside = ap (λ (w : ℕ). put xs (b / 64) (bit_and w (bit_not w64 (1 * 2 ^ (b % 64) % 2 ^ 64)))) read in
    let room : 64 * length (put xs (b / 64) v) ≡ c.args.self.now.limit = omega (arith, length-set xs (b / 64) v, limit_is) in
    same_members (64 * length (put xs (b / 64) v)) c.args.self.now.limit (members_of (put xs (b / 64) v)) (set.remove c.args.self.now.blocks b) room
    (ap members_of changed ∙ members-without_bit xs b inside ∙ ap (λ (m : Members). set.remove m.blocks b) c.self.view_is)
