use Rattle.std.proofs.Common.{ℕ, ◌/◌, ◌%◌, ◌<◌, ◌≤◌, ◌*◌, List, eqb, length, get_or, ap, sym, ◌∙◌, arith}
use Rattle.std.specs.Int.{bit_at}
use Rattle.std.specs.FinSet as set
use Rattle.std.proofs.lemmas.List.{get_or_read}
use Rattle.std.proofs.lemmas.Nat.Bits.{shr_and_one}
use Rattle.ufs_bitmap.specs.Words.{Members}
use Rattle.ufs_bitmap.proofs.WordLemmas.{has-members, past_end}
use Rattle.ufs_bitmap.proofs.word_set.WordSet.contains.Goals as goal

pub returns-in-Some-clause-value : goal.returns-in-Some-clause-value
returns-in-Some-clause-value c =
    let b = c.args.block in
    let xs = c.self.inside.words.items in
    let inside : b / 64 < length c.deref.result.now = c.in-Some.ensures.lookup.3.0 in
    let read = get_or_read c.deref.result.now (b / 64) c.in-Some.word.now inside c.in-Some.ensures.lookup.1 0 in
    ap (λ (w : ℕ). eqb w 1) (shr_and_one c.in-Some.word.now (b % 64))
    ∙ ap (λ (w : ℕ). eqb (bit_at w (b % 64)) 1) (read ∙ ap (λ (ws : List ℕ). get_or ws (b / 64) 0) c.deref.ensures.value)
    ∙ sym (has-members xs b)
    ∙ ap (λ (m : Members). set.contains m.blocks b) c.self.view_is

pub returns-in-None-clause-value : goal.returns-in-None-clause-value
returns-in-None-clause-value c =
    let b = c.args.block in
    let xs = c.self.inside.words.items in
    let past : length c.deref.result.now ≤ b / 64 = c.in-None.ensures.lookup.3 in
    let out : 64 * length xs ≤ b = omega (arith, past, ap (λ (ws : List ℕ). length ws) c.deref.ensures.value) in
    sym (past_end xs b out)
    ∙ sym (has-members xs b)
    ∙ ap (λ (m : Members). set.contains m.blocks b) c.self.view_is
