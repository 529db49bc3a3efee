use Rattle.std.proofs.Common.{◌≡◌, List, true, ◌&&◌, subst, rules, ap, sym, ◌∙◌}
use Rattle.std.specs.List.{All, filter}
use Rattle.std.proofs.lemmas.Bool.{le-leb}
use Rattle.ufs_layout.specs.Areas.{is_inode_number}
use Rattle.ufs_scan.proofs.Placed.{each_edit}
use Rattle.std.specs.Prelude.{map, ◌==◌}
use Rattle.std.proofs.lemmas.List.Sorted.{IsNonDecreasingBy-from_sort_by_key, All-permutation, answers_always}
use Rattle.ufs_found.proofs.Buckets.{same_part, all_of}
use Rattle.ufs_scan.specs.Edits.{Edit, key_of}
use Rattle.ufs_scan.proofs.Edits.{filter_map_after}
use Rattle.ufs_scan.proofs.steps.steps_in_order.Goals as goal

pub returns-clause-in_order : goal.returns-clause-in_order
returns-clause-in_order c = IsNonDecreasingBy-from_sort_by_key (λ s. key_of s.edit) _ c.in_ok-sort_by_key.ensures.sorted (λ a r q k. search rules)

pub returns-clause-same : goal.returns-clause-same
returns-clause-same c = λ key.
    filter_map_after (λ s. s.edit) (λ e. key_of e == key) c.sort_by_key.new.self.items
    ∙ ap (map (λ s. s.edit)) (same_part (λ s. key_of s.edit) c.in_ok-list.list.items c.sort_by_key.new.self.items (c.sort_by_key.ensures.stable (λ s. key_of s.edit) (answers_always _ _ _ (λ f a r q k. search rules))) key)
    ∙ sym (filter_map_after (λ s. s.edit) (λ e. key_of e == key) c.in_ok-list.list.items)
    ∙ ap (filter (λ e. key_of e == key)) c.in_ok-list.ensures

pub returns-clause-inodes : goal.returns-clause-inodes
returns-clause-inodes c =
    All-permutation (λ s. is_inode_number c.args.geometry.now s.edit.inode ≡ true) c.in_ok-list.list.items c.sort_by_key.new.self.items c.sort_by_key.ensures.permutation
    (all_of (λ s. s.edit) (λ e. is_inode_number c.args.geometry.now e.inode ≡ true) c.in_ok-list.list.items
    (subst (λ (l : List Edit). All (λ e. is_inode_number c.args.geometry.now e.inode ≡ true) l) (sym c.in_ok-list.ensures)
    (each_edit c.args.geometry.now (λ f. Unit {0}) (λ e. is_inode_number c.args.geometry.now e.inode ≡ true) (λ f e u from. (λ i. le-leb 1 e.inode from.low i && le-leb e.inode c.args.geometry.now.inodes from.high i)) (map (λ b. b.now) c.args.parts.now) (λ q d lt. tt))))
