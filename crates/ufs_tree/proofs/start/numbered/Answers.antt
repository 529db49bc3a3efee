use Rattle.std.proofs.Common.{ap, sym, subst, ◌∙◌, ◌≤◌, arith}
use Rattle.std.specs.FinMap as map
use Rattle.ufs_model.specs.PathEntries.{pairs_of}
use Rattle.ufs_model.specs.Paths.{IsWhole}
use Rattle.ufs_model.specs.Start.{start_from, next_after}
use Rattle.ufs_model.specs.declared.data.PathEntry.{PathEntry}
use Rattle.ufs_tree.specs.Parts.{tree_of}
use Rattle.ufs_tree.specs.Placed.{with_path}
use Rattle.ufs_tree.proofs.PlacedLemmas.{next_fits, next_placed, whole_entry, absent_entry}
use Rattle.ufs_tree.proofs.start.numbered.Goals as goal

pub loop-entry-init : goal.loop-entry-init
loop-entry-init c = λ i. record { paths = c.new.ensures i; bytes = c.new-2.ensures i; fds = c.new-3.ensures i; next = 0 }

pub place-requires-clause-absent : goal.place-requires-clause-absent
place-requires-clause-absent c =
    ap (λ (e : PathEntry). map.get c.loop-entry.parts.paths e.path) c.entry-item.is
    ∙ absent_entry c.args.entries.now c.loop-entry.entry-index c.entry-item.result c.loop-entry-test.true (tree_of c.loop-entry.parts) c.requires.rising c.loop-entry.invariant

pub place-requires-clause-whole : goal.place-requires-clause-whole
place-requires-clause-whole c =
    subst (λ (e : PathEntry). IsWhole e.path) (sym c.entry-item.is)
    (whole_entry c.args.entries.now c.loop-entry.entry-index c.entry-item.result c.loop-entry-test.true c.requires.paths)

pub place-requires-clause-files : goal.place-requires-clause-files
place-requires-clause-files c =
    let es = c.args.entries.now in
    let i = c.loop-entry.entry-index in
    let fits = next_fits es i c.entry-item.result c.loop-entry-test.true (tree_of c.loop-entry.parts) c.loop-entry.invariant in
    let here : next_after c.loop-entry.parts.next c.entry-item.result.node ≤ (start_from (pairs_of es)).next =
    subst (λ (e : PathEntry). next_after c.loop-entry.parts.next e.node ≤ (start_from (pairs_of es)).next) (sym c.entry-item.is) fits in
    omega (arith, here, c.requires.files)

pub loop-entry-preserved : goal.loop-entry-preserved
loop-entry-preserved c =
    let es = c.args.entries.now in
    let i = c.loop-entry.entry-index in
    next_placed es i c.entry-item.result c.loop-entry-test.true (tree_of c.loop-entry.parts) (tree_of c.place.new.parts) c.requires.rising c.loop-entry.invariant
    (c.in_ok-place.ensures ∙ ap (λ (e : PathEntry). with_path (tree_of c.loop-entry.parts) e.path e.node) c.entry-item.is)
