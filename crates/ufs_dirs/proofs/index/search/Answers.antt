use Rattle.std.proofs.Common.{◌≡◌, ℕ, ◌+◌, ◌-◌, ◌/◌, ◌<◌, List, length, ap, sym, ◌∙◌, arith}
use Rattle.std.specs.declared.cmp.Ordering.TheVariants.{Less, Equal, Greater}
use Rattle.ufs_layout.specs.DentryForm.{DentryForm}
use Rattle.ufs_dirs.specs.Directory.{name_cmp}
use Rattle.ufs_dirs.specs.Index.{ranked}
use Rattle.ufs_dirs.proofs.SearchLemmas.{ranked_read, window_above, window_below, window_ends}
use Rattle.ufs_dirs.proofs.index.search.Goals as goal

pub loop-low-preserved-in-Less : goal.loop-low-preserved-in-Less
loop-low-preserved-in-Less c =
    let middle : ℕ = c.loop-low.low + (c.loop-low.high - c.loop-low.low) / 2 in
    let inside : middle < length c.args.order.now = omega (arith, c.loop-low.invariant.in_range) in
    let read = ranked_read c.args.slots.now c.args.order.now c.requires middle inside c.index-slots-order.result c.index-slots-order.is in
    let compared : name_cmp (ranked c.args.slots.now c.args.order.now middle).name c.args.name.now ≡ Less =
    ap (λ (e : DentryForm). name_cmp e.name c.args.name.now) (sym read) ∙ ap (λ (n : List ℕ). name_cmp n c.args.name.now) (sym c.name_bytes-other.ensures) ∙ sym c.cmp.ensures ∙ c.in-Less.is in
    window_above c.args.slots.now c.args.order.now c.requires c.args.name.now c.loop-low.low c.loop-low.high middle c.loop-low.invariant (omega arith) (omega arith) compared

pub returns-in-Equal-clause-found : goal.returns-in-Equal-clause-found
returns-in-Equal-clause-found c =
    let middle : ℕ = c.loop-low.low + (c.loop-low.high - c.loop-low.low) / 2 in
    let inside : middle < length c.args.order.now = omega (arith, c.loop-low.invariant.in_range) in
    let read = ranked_read c.args.slots.now c.args.order.now c.requires middle inside c.index-slots-order.result c.index-slots-order.is in
    let compared : name_cmp (ranked c.args.slots.now c.args.order.now middle).name c.args.name.now ≡ Equal =
    ap (λ (e : DentryForm). name_cmp e.name c.args.name.now) (sym read) ∙ ap (λ (n : List ℕ). name_cmp n c.args.name.now) (sym c.name_bytes-other.ensures) ∙ sym c.cmp.ensures ∙ c.in-Equal.is in
    window_ends c.args.slots.now c.args.order.now c.requires c.args.name.now c.loop-low.low c.loop-low.high middle c.loop-low.invariant (omega arith) (omega arith) compared

pub loop-low-preserved : goal.loop-low-preserved
loop-low-preserved c =
    let middle : ℕ = c.loop-low.low + (c.loop-low.high - c.loop-low.low) / 2 in
    let inside : middle < length c.args.order.now = omega (arith, c.loop-low.invariant.in_range) in
    let read = ranked_read c.args.slots.now c.args.order.now c.requires middle inside c.index-slots-order.result c.index-slots-order.is in
    let compared : name_cmp (ranked c.args.slots.now c.args.order.now middle).name c.args.name.now ≡ Greater =
    ap (λ (e : DentryForm). name_cmp e.name c.args.name.now) (sym read) ∙ ap (λ (n : List ℕ). name_cmp n c.args.name.now) (sym c.name_bytes-other.ensures) ∙ sym c.cmp.ensures ∙ c.in-Greater.is in
    window_below c.args.slots.now c.args.order.now c.requires c.args.name.now c.loop-low.low c.loop-low.high middle c.loop-low.invariant (omega arith) (omega arith) compared
