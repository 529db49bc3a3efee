use Rattle.std.proofs.Common.{◌≡◌, [], ◌∷◌, ◌++◌, length, take, get_or, map, ap, sym, ◌∙◌, arith}
use Rattle.std.specs.Prelude.{List}
use Rattle.std.specs.List.{slice_get}
use Rattle.std.proofs.lemmas.List.{length-map, map_more, take_all}
use Rattle.std.proofs.lemmas.Option.{slice_get-get_or}
use Rattle.ufs_layout.specs.declared.inode.Extent.{Extent}
use Rattle.ufs_extent.specs.Runs as runs
use Rattle.ufs_extent.specs.declared.Run.{Run}
use Rattle.ufs_image.specs.Nodes as nodes
use Rattle.ufs_walk.proofs.Maps.{if_ok}
use Rattle.ufs_start.specs.Extents.{run_of}
use Rattle.ufs_start.proofs.DirLemmas.{runs_blocks}
use Rattle.ufs_start.proofs.extents.extents_in.Goals as goal

pub push_run-requires : goal.push_run-requires
push_run-requires c =
    let k = c.loop-extent.extent-index in
    let none : Extent = record { start = 0; length = 0 } in
    let read : List Extent = c.used_extents-extent-items.result.now in
    let items : read ≡ c.args.form.now.extents = c.used_extents-extent-items.ensures in
    c.requires.each k (get_or read k none) (ap (λ (l : List Extent). slice_get l k) (sym items) ∙ slice_get-get_or read k none c.loop-extent-test.true)

pub from_runs-requires-clause-few : goal.from_runs-requires-clause-few
from_runs-requires-clause-few c =
    let xs = c.args.form.now.extents in
    let long = ap (length {A = Extent}) c.used_extents-extent-items.ensures in
    let all : take c.loop-extent.extent-index xs ≡ xs = take_all c.loop-extent.extent-index xs (omega (arith, c.loop-extent-test.false, long)) in
    let count = ap (length {A = Run}) (c.as_slice.ensures.items ∙ c.loop-extent.invariant ∙ ap (map run_of) all) ∙ length-map xs run_of in
    omega (arith, count, c.requires.few)

pub loop-extent-preserved : goal.loop-extent-preserved
loop-extent-preserved c =
    let k = c.loop-extent.extent-index in
    let xs = c.args.form.now.extents in
    let none : Extent = record { start = 0; length = 0 } in
    let items : c.used_extents-extent-items.result.now ≡ xs = c.used_extents-extent-items.ensures in
    let long = ap (length {A = Extent}) items in
    c.in_ok-push_run.ensures
    ∙ (λ i. c.loop-extent.invariant i ++ run_of (get_or (items i) k none) ∷ [])
    ∙ sym (map_more run_of xs k none (omega (arith, c.loop-extent-test.true, long)))

pub returns-clause-runs : goal.returns-clause-runs
returns-clause-runs c =
    let xs = c.args.form.now.extents in
    let long = ap (length {A = Extent}) c.used_extents-extent-items.ensures in
    let all : take c.loop-extent.extent-index xs ≡ xs = take_all c.loop-extent.extent-index xs (omega (arith, c.loop-extent-test.false, long)) in
    if_ok c.from_runs.result (λ (e : List Run). e ≡ c.as_slice.result.now) (λ (e : List Run). e ≡ map run_of xs)
    (λ e is. is ∙ c.as_slice.ensures.items ∙ c.loop-extent.invariant ∙ ap (map run_of) all) c.from_runs.ensures

pub returns-clause-blocks : goal.returns-clause-blocks
returns-clause-blocks c =
    let xs = c.args.form.now.extents in
    if_ok c.from_runs.result (λ (e : List Run). e ≡ map run_of xs) (λ (e : List Run). runs.blocks_of e ≡ nodes.blocks_of c.args.form.now)
    (λ e is. ap runs.blocks_of is ∙ runs_blocks xs) (returns-clause-runs c)
