use Rattle.std.proofs.Common.{ℕ, ap, arith, refl, sym, ◌∙◌}
use Rattle.std.specs.VecDeque.{deque_len}
use Rattle.std.proofs.lemmas.Option.{slice_get_read}
use Rattle.ufs_owner.specs.Owners.{is_primary, owner_at}
use Rattle.ufs_primary.proofs.Oldest.{all_wait, none_waits, one_more}
use Rattle.ufs_primary.proofs.waiting.oldest_place.Goals as goal

pub loop-one-init : goal.loop-one-init
loop-one-init g c = none_waits c.args.stock.now.home.owners c.args.waiting.now.items

pub returns-then-has_come : goal.returns-then-has_come
returns-then-has_come g c =
    let less = c.in-Some.ensures.variant.0 refl in (
      c.in-Some.one.now,
      record {
        at = slice_get_read c.args.waiting.now.items (deque_len c.args.waiting.now) c.loop-one.place c.in-Some.one.now c.args.waiting.now.ok.0 less c.in-Some.ensures.lookup;
        come = ap (λ (f : ℕ). is_primary (owner_at c.args.stock.now.home.owners f)) (sym c.file.ensures) ∙ sym c.has_come.ensures ∙ c.if-has_come.true;
        older = c.loop-one.invariant;
      },
    )

pub overflow_add-place : goal.overflow_add-place
overflow_add-place g c =
    let less = c.in-Some.ensures.variant.0 refl in
    let small = c.args.waiting.now.small in
    omega (arith, less, small.0, small.1)

pub loop-one-smaller : goal.loop-one-smaller
loop-one-smaller g c = let less = c.in-Some.ensures.variant.0 refl in omega (arith, less)

pub loop-one-preserved : goal.loop-one-preserved
loop-one-preserved g c =
    let less = c.in-Some.ensures.variant.0 refl in
    one_more c.args.stock.now.home.owners c.args.waiting.now.items c.loop-one.place _ c.in-Some.one.now refl c.loop-one.invariant
    (slice_get_read c.args.waiting.now.items (deque_len c.args.waiting.now) c.loop-one.place c.in-Some.one.now c.args.waiting.now.ok.0 less c.in-Some.ensures.lookup)
    (ap (λ (f : ℕ). is_primary (owner_at c.args.stock.now.home.owners f)) (sym c.file.ensures) ∙ sym c.has_come.ensures ∙ c.if-has_come.false)

pub returns : goal.returns
returns g c =
    all_wait c.args.stock.now.home.owners c.args.waiting.now.items c.loop-one.place (deque_len c.args.waiting.now) c.args.waiting.now.ok.0 (λ less. let no = c.in_default.ensures.variant.1 less in cc) c.loop-one.invariant
