use Rattle.std.proofs.Common.{◌+◌, ◌≤◌, ap, sym, ◌∙◌, List, ◌∷◌, drop}
use Rattle.ufs_extent.specs.declared.Run.{Run}
use Rattle.ufs_extent.specs.Runs.{blocks_of}
use Rattle.ufs_extent.specs.Places.{block_count, IsPlace, without_first}
use Rattle.ufs_extent.proofs.PlaceLemmas.{first_runs-all, last_runs-all, first_runs-place, last_runs-place, blocks_of-first_runs, blocks_of-last_runs}
use Rattle.ufs_extent.proofs.file_runs.Extents.cut.Goals as goal

pub returns-in_default-clause-kept : goal.returns-in_default-clause-kept
returns-in_default-clause-kept c =
    let items = c.as_slice.ensures.value ∙ c.self.view_is in
    let past : block_count c.args.self.now ≤ c.args.blocks = rw items at c.in_default.ensures.past in
    sym (first_runs-all c.args.self.now c.args.blocks past)

pub returns-in_default-clause-rest : goal.returns-in_default-clause-rest
returns-in_default-clause-rest c =
    let items = c.as_slice.ensures.value ∙ c.self.view_is in
    let past : block_count c.args.self.now ≤ c.args.blocks = rw items at c.in_default.ensures.past in
    c.new.ensures ∙ sym (last_runs-all c.args.self.now c.args.blocks past)

pub returns-in_default-clause-kept_blocks : goal.returns-in_default-clause-kept_blocks
returns-in_default-clause-kept_blocks c = ap blocks_of (returns-in_default-clause-kept c) ∙ blocks_of-first_runs c.args.self.now c.args.blocks

pub returns-in_default-clause-rest_blocks : goal.returns-in_default-clause-rest_blocks
returns-in_default-clause-rest_blocks c = ap blocks_of (returns-in_default-clause-rest c) ∙ blocks_of-last_runs c.args.self.now c.args.blocks

pub returns-clause-kept : goal.returns-clause-kept
returns-clause-kept c =
    let items = c.as_slice.ensures.value ∙ c.self.view_is in
    let place = c.in-Some.place in
    let found : IsPlace c.args.self.now c.args.blocks place.at place.run place.before = rw items at c.in-Some.ensures.found in
    c.shorten.ensures ∙ sym (first_runs-place c.args.self.now c.args.blocks place.at place.run place.before found)

pub returns-clause-rest : goal.returns-clause-rest
returns-clause-rest c =
    let items = c.as_slice.ensures.value ∙ c.self.view_is in
    let items-2 = c.as_slice-2.ensures.value ∙ c.self.view_is in
    let place = c.in-Some.place in
    let found : IsPlace c.args.self.now c.args.blocks place.at place.run place.before = rw items at c.in-Some.ensures.found in
    c.from_vec.ensures ∙ c.in_ok-rest.ensures.items
    ∙ ap (λ (zs : List Run). without_first place.run place.before ∷ drop (place.at + 1) zs) items-2
    ∙ sym (last_runs-place c.args.self.now c.args.blocks place.at place.run place.before found)

pub returns-clause-kept_blocks : goal.returns-clause-kept_blocks
returns-clause-kept_blocks c = ap blocks_of (returns-clause-kept c) ∙ blocks_of-first_runs c.args.self.now c.args.blocks

pub returns-clause-rest_blocks : goal.returns-clause-rest_blocks
returns-clause-rest_blocks c = ap blocks_of (returns-clause-rest c) ∙ blocks_of-last_runs c.args.self.now c.args.blocks
