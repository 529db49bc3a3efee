use Rattle.std.proofs.Common.{◌≡◌, ℕ, ◌+◌, None, Option, List, length, replicate, ap, ◌∙◌}
use Rattle.std.proofs.lemmas.List.{length-replicate}
use Rattle.std.proofs.lemmas.List.FromFn.{length-map-range_with_len}
use Rattle.ufs_base.specs.Images.{Image}
use Rattle.ufs_layout.specs.InodeForm.{InodeForm}
use Rattle.ufs_image.specs.Images.{inode_at}
use Rattle.ufs_image.specs.Catalog.{catalog_at}
use Rattle.ufs_walk.specs.Walked.{Place, pairs_of}
use Rattle.ufs_walk.specs.declared.places.PathAt.{PathAt}
use Rattle.ufs_walk.proofs.Maps.{if_ok}
use Rattle.ufs_promise_laws.specs.Starts.{image_start}
use Rattle.ufs_start.specs.Numbers.{is_dir_in, next_number, numbers_from}
use Rattle.ufs_start.specs.Starts.{AreNumbersOf, IsUndamaged, tree_in}
use Rattle.ufs_start.specs.declared.numbers.Numbers.{Numbers}
use Rattle.ufs_start.proofs.NumberLemmas.{length-numbers}
use Rattle.ufs_start.proofs.Joined.{are_numbers, is_next}
use Rattle.ufs_start.proofs.numbers.numbers_of.Goals as goal

pub number_places-requires-clause-counted : goal.number_places-requires-clause-counted
number_places-requires-clause-counted c =
    let image = c.requires.sound.0 in
    ap length (c.forms.ensures ∙ c.requires.sound.1.found.forms)
    ∙ length-map-range_with_len (inode_at c.args.geometry.now image) 1 c.args.geometry.now.inodes

pub returns-clause-counted : goal.returns-clause-counted
returns-clause-counted c =
    let none : List (Option ℕ) = replicate (c.args.geometry.now.inodes + 1) None in
    let forms : List (Option InodeForm) = c.forms.result.now in
    let ps : List Place = pairs_of c.deref.result.now in
    if_ok c.number_places.result (λ (n : Numbers). n.files.items ≡ numbers_from (is_dir_in forms) 0 ps none) (λ (n : Numbers). length n.files.items ≡ c.args.geometry.now.inodes + 1)
    (λ n e. ap length e ∙ length-numbers (is_dir_in forms) 0 ps none ∙ length-replicate {A = Option ℕ} (c.args.geometry.now.inodes + 1) None)
    c.number_places.ensures.files

pub returns-clause-numbers : goal.returns-clause-numbers
returns-clause-numbers c =
    let g = c.args.geometry.now in
    let none : List (Option ℕ) = replicate (g.inodes + 1) None in
    let forms : List (Option InodeForm) = c.forms.result.now in
    let ps : List Place = pairs_of c.deref.result.now in
    let items : ps ≡ pairs_of c.in_ok-places.places.items = ap (λ (l : List PathAt). pairs_of l) c.deref.ensures.value in
    if_ok c.number_places.result (λ (n : Numbers). n.files.items ≡ numbers_from (is_dir_in forms) 0 ps none) (λ (n : Numbers). (image : Image) → IsUndamaged g image c.args.findings.now → AreNumbersOf g image n.files.items)
    (λ n e image u.
    let is = c.damage_law.ensures.catalog image u.whole in
    are_numbers g image c.args.findings.now c.requires.geometry u is (c.damage_law.ensures.sound image (catalog_at g image) is u.whole) (pairs_of c.in_ok-places.places.items)
    c.in_ok-places.ensures.rising (c.in_ok-places.ensures.inodes image u.found u.whole) (c.in_ok-places.ensures.places image u.found u.whole) n.files.items
    (e ∙ (λ i. numbers_from (is_dir_in (c.forms.ensures i)) 0 (items i) none)))
    c.number_places.ensures.files

pub returns-clause-next : goal.returns-clause-next
returns-clause-next c =
    let g = c.args.geometry.now in
    let forms : List (Option InodeForm) = c.forms.result.now in
    let ps : List Place = pairs_of c.deref.result.now in
    let items : ps ≡ pairs_of c.in_ok-places.places.items = ap (λ (l : List PathAt). pairs_of l) c.deref.ensures.value in
    if_ok c.number_places.result (λ (n : Numbers). n.next ≡ next_number (is_dir_in forms) 0 ps) (λ (n : Numbers). (image : Image) → IsUndamaged g image c.args.findings.now → n.next ≡ (image_start (tree_in g image)).next)
    (λ n e image u.
    let is = c.damage_law.ensures.catalog image u.whole in
    is_next g image c.args.findings.now c.requires.geometry u is (c.damage_law.ensures.sound image (catalog_at g image) is u.whole) (pairs_of c.in_ok-places.places.items)
    c.in_ok-places.ensures.rising (c.in_ok-places.ensures.inodes image u.found u.whole) (c.in_ok-places.ensures.places image u.found u.whole) n.next
    (e ∙ (λ i. next_number (is_dir_in (c.forms.ensures i)) 0 (items i))))
    c.number_places.ensures.next
