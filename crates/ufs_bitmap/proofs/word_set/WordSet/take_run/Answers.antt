use Rattle.std.proofs.Common.{◌≡◌, ℕ, ◌+◌, ◌<◌, ◌≤◌, leb, true, false, ap, sym, ◌∙◌, arith, ⊎_elim}
use Rattle.std.specs.FinSet as set
use Rattle.std.proofs.lemmas.Bool.{true≢false}
use Rattle.std.proofs.lemmas.Bool.Decides.{leb_tells}
use Rattle.ufs_bitmap.specs.Blocks.{BlockSet}
use Rattle.ufs_bitmap.specs.Words.{Members}
use Rattle.ufs_bitmap.proofs.SetLemmas.{difference_none, difference_more, not_yet_out, has-empty}
use Rattle.ufs_bitmap.proofs.word_set.WordSet.take_run.Goals as goal

pub loop-length-init : goal.loop-length-init
loop-length-init c = record {
  taken = λ i. record c.lowest.new.self { blocks = difference_none c.lowest.new.self.blocks c.in_ok-start.start i };
  held = λ b l h. absurd (omega (arith, l, h));
  at_most = omega arith;
  small = omega (arith, c.in_ok-start.ensures.small);
}

pub loop-length-preserved : goal.loop-length-preserved
loop-length-preserved c =
    let s = c.lowest.new.self.blocks in
    let a : ℕ = c.in_ok-start.start in
    let n : ℕ = c.loop-length.length in
    let there : set.contains s (a + n) ≡ true =
    sym (not_yet_out s a n) ∙ ap (λ (m : Members). set.contains m.blocks (a + n)) (sym c.loop-length.invariant.taken) ∙ sym c.if-contains.ensures.value in
    record {
      taken =
          c.remove.ensures
          ∙ ap (λ (m : Members). let r : Members = record m { blocks = set.remove m.blocks (a + n) } in r) c.loop-length.invariant.taken
          ∙ (λ i. record c.lowest.new.self { blocks = sym (difference_more s a n) i });
      held = λ b l h.
          ⊎_elim (λ (e : (leb (a + n) b ≡ true) × (a + n ≤ b)). let same : b ≡ a + n = omega (arith, e.1, h) in ap (λ (k : ℕ). set.contains s k) same ∙ there)
          (λ (e : (leb (a + n) b ≡ false) × (b < a + n)). c.loop-length.invariant.held b l e.1)
          (leb_tells (a + n) b);
      at_most = omega arith;
      small = omega (arith, c.contains.ensures.small, c.if-contains.ensures.limit);
    }

-- the block behind the run isn't in the set
stops : (c : goal.Else-contains) → set.contains c.lowest.new.self.blocks (c.in_ok-start.start + c.loop-length.length) ≡ false
stops c =
    sym (not_yet_out c.lowest.new.self.blocks c.in_ok-start.start c.loop-length.length)
    ∙ ap (λ (m : Members). set.contains m.blocks (c.in_ok-start.start + c.loop-length.length)) (sym c.loop-length.invariant.taken)
    ∙ sym c.if-contains.ensures.value

pub returns-else-contains-clause-run : goal.returns-else-contains-clause-run
returns-else-contains-clause-run c =
    let same : c.lowest.new.self ≡ c.args.self.now = c.in_ok-start.ensures.same in (
      ⊎_elim (λ (e : (leb 1 c.loop-length.length ≡ true) × (1 ≤ c.loop-length.length)). e.1)
          (λ (e : (leb 1 c.loop-length.length ≡ false) × (c.loop-length.length < 1)).
          let first : c.in_ok-start.start + c.loop-length.length ≡ c.in_ok-start.start = omega (arith, e.1) in
          absurd (true≢false (sym c.in_ok-start.ensures.held ∙ ap (λ (m : Members). set.contains m.blocks c.in_ok-start.start) (sym same) ∙ ap (λ (k : ℕ). set.contains c.lowest.new.self.blocks k) (sym first) ∙ stops c)))
          (leb_tells 1 c.loop-length.length),
      c.loop-length.invariant.small,
    )

pub returns-else-contains-clause-lowest : goal.returns-else-contains-clause-lowest
returns-else-contains-clause-lowest c =
    let same : c.lowest.new.self ≡ c.args.self.now = c.in_ok-start.ensures.same in
    record {
      held = λ b l h. ap (λ (m : Members). set.contains m.blocks b) (sym same) ∙ c.loop-length.invariant.held b l h;
      lowest = c.in_ok-start.ensures.lowest;
      at_most = c.loop-length.invariant.at_most;
      goes_on = λ h. ap (λ (m : Members). set.contains m.blocks (c.in_ok-start.start + c.loop-length.length)) (sym same) ∙ stops c;
    }

pub returns-else-contains-clause-none : goal.returns-else-contains-clause-none
returns-else-contains-clause-none c =
    (λ e. absurd (true≢false e), λ e. sym c.in_ok-start.ensures.held ∙ ap (λ (s : BlockSet). set.contains s c.in_ok-start.start) e ∙ has-empty c.in_ok-start.start)

pub returns-after-loop-length-clause-none : goal.returns-after-loop-length-clause-none
returns-after-loop-length-clause-none c =
    (λ e. absurd (true≢false e), λ e. sym c.in_ok-start.ensures.held ∙ ap (λ (s : BlockSet). set.contains s c.in_ok-start.start) e ∙ has-empty c.in_ok-start.start)
