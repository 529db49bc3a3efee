use Rattle.std.proofs.Common.{◌≡◌, ◌+◌, ◌-◌, ◌≤◌, max, ap, sym, ◌∙◌, arith, subst, true, replicate, length, List, ℕ}
use Rattle.std.specs.Prelude.{All}
use Rattle.ufs_file.specs.Lists.{over}
use Rattle.ufs_file.specs.Table.{bytes_in, marks_of, there_of, IsWhole, IsZeros}
use Rattle.ufs_file.specs.declared.blocks.Block.{Block}
use Rattle.ufs_file.proofs.CoverLemmas.{next_absent, next_marks, next_there, same_marks}
use Rattle.ufs_file.proofs.cover.cover_all.Goals as goal
use Rattle.ufs_file.proofs.cover.cover_all.Goals.{then-not-index, else-not-index}

pub cover_at-requires-clause-some : goal.cover_at-requires-clause-some
cover_at-requires-clause-some c =
    let inv = c.loop-k.invariant in
    let here = rw c.index.ensures at c.if-not-index.true in
    omega (
      arith,
      inv.count,
      next_absent c.args.table.now.items c.loop-k.table.items c.args.from c.loop-k.k c.args.to c.index.result.now c.loop-k.auto.k c.loop-k-test.true c.requires.inside inv.long inv.there here,
    )

pub loop-k-preserved : goal.loop-k-preserved
loop-k-preserved c =
    let bs : List Block = c.args.table.now.items in
    let now : List Block = c.loop-k.table.items in
    let k : ℕ = c.loop-k.k in
    let d : Block = c.index.result.now in
    let inv = c.loop-k.invariant in
    let less = c.loop-k-test.true in
    let inside = c.requires.inside in
    let end : k + 1 ≤ max c.args.from c.args.to = omega (arith, less) in
    elim c.if-not-index.branch [
      | then-not-index w ↦ (let e = w.cover_at.ensures in
          let here = rw c.index.ensures at w.if-not-index.true in
          let one = next_absent bs now c.args.from k c.args.to d c.loop-k.auto.k less inside inv.long inv.there here in
          record {
            whole = subst (λ t. All IsWhole t.items) (sym w.table-is) e.whole;
            long = ap (λ t. length t.items) w.table-is ∙ e.length ∙ inv.long;
            bytes = ap (λ t. bytes_in t.items) w.table-is ∙ e.bytes ∙ inv.bytes;
            marks = ap (λ t. marks_of t.items) w.table-is ∙ e.marks ∙ inv.marks;
            there = ap (λ t. there_of t.items) w.table-is ∙ next_marks bs now c.args.from k c.args.to d c.loop-k.auto.k less inside inv.long inv.there w.cover_at.new.table.items e.there;
            zeros = subst (λ t. All IsZeros t.items) (sym w.spare-is) e.zeros;
            count = ap (λ t. length t.items) w.spare-is ∙ omega (arith, e.count, inv.count, one);
            end = end;
          })
      | else-not-index w ↦ (let here = rw c.index.ensures at w.if-not-index.false in
          record {
            whole = subst (λ t. All IsWhole t.items) (sym w.table-is) inv.whole;
            long = ap (λ t. length t.items) w.table-is ∙ inv.long;
            bytes = ap (λ t. bytes_in t.items) w.table-is ∙ inv.bytes;
            marks = ap (λ t. marks_of t.items) w.table-is ∙ inv.marks;
            there = ap (λ t. there_of t.items) w.table-is ∙ same_marks bs now c.args.from k c.args.to d c.loop-k.auto.k less inside inv.long inv.there here;
            zeros = subst (λ t. All IsZeros t.items) (sym w.spare-is) inv.zeros;
            count = ap (λ t. length t.items) w.spare-is ∙ inv.count ∙ next_there bs now c.args.from k c.args.to d c.loop-k.auto.k less inside inv.long inv.there here;
            end = end;
          })
    ]

pub returns-clause-there : goal.returns-clause-there
returns-clause-there c =
    let e : c.loop-k.k - c.args.from ≡ c.args.to - c.args.from = omega (arith, c.loop-k-test.false, c.loop-k.auto.k, c.loop-k.invariant.end) in
    c.loop-k.invariant.there ∙ ap (λ (n : ℕ). over (there_of c.args.table.now.items) c.args.from (replicate n true)) e
