use Rattle.std.proofs.Common.{rules, ◌≡◌, ◌++◌, ◌∷◌, [], List, ℕ, All, None, filter, ap, sym, subst, ◌∙◌}
use Rattle.std.specs.FinMap as map
use Rattle.std.specs.FinMap.{is_sorted}
use Rattle.ufs_model.specs.Directories.{starts_with}
use Rattle.ufs_model.specs.Order.{path_cmp}
use Rattle.ufs_model.specs.Paths.{IsWhole}
use Rattle.ufs_model.specs.PosixTree.{Paths}
use Rattle.ufs_model.specs.declared.data.Node.{Node}
use Rattle.ufs_tree.specs.Moved.{put_over, taken_away, with_other_front}
use Rattle.ufs_tree.proofs.NameLemmas.{Nodes}
use Rattle.ufs_tree.proofs.RenameLemmas.{long_enough, news_absent, news_whole, news_rising, all_undone, renamed_is}
use Rattle.ufs_tree.proofs.path_map.PathMap.rename.Goals as goal

-- what was found below the old name, of the whole map
olds_are : (inside m : Paths) (from : List ℕ) (found olds : Nodes) → olds ≡ found → found ≡ filter (λ (e : List ℕ × Node). starts_with (from ++ 47 ∷ []) e.0) (map.entries inside) → inside ≡ m
    → olds ≡ filter (λ (e : List ℕ × Node). starts_with (from ++ 47 ∷ []) e.0) (map.entries m)
olds_are inside m from found olds same is view = same ∙ is ∙ ap (λ (n : Paths). filter (λ (e : List ℕ × Node). starts_with (from ++ 47 ∷ []) e.0) (map.entries n)) view

pub moved-requires : goal.moved-requires
moved-requires c =
    long_enough c.args.self.now c.args.from.now c.args.to.now c.in-Some.node c.as_slice.result.now
    c.requires.namespace c.requires.whole (sym c.get.ensures ∙ c.in-Some.is) c.requires.not_root c.requires.to_not_root c.requires.apart c.requires.not_below c.requires.empty
    (olds_are c.self.inside.nodes c.args.self.now c.args.from.now c.in_ok-olds.olds.items c.as_slice.result.now c.as_slice.ensures.value c.in_ok-olds.ensures c.self.view_is)

pub add_all-requires-clause-absent : goal.add_all-requires-clause-absent
add_all-requires-clause-absent c =
    subst (λ (es : Nodes). All (λ (e : List ℕ × Node). map.get c.args.self.now e.0 ≡ None) es) (sym (c.as_slice-2.ensures.value ∙ c.in_ok-news.ensures))
    (news_absent c.args.self.now c.args.from.now c.args.to.now c.in-Some.node c.as_slice.result.now
    c.requires.namespace c.requires.whole (sym c.get.ensures ∙ c.in-Some.is) c.requires.not_root c.requires.to_not_root c.requires.apart c.requires.not_below c.requires.empty
    (olds_are c.self.inside.nodes c.args.self.now c.args.from.now c.in_ok-olds.olds.items c.as_slice.result.now c.as_slice.ensures.value c.in_ok-olds.ensures c.self.view_is))

pub add_all-requires-clause-whole : goal.add_all-requires-clause-whole
add_all-requires-clause-whole c =
    subst (λ (es : Nodes). All (λ (e : List ℕ × Node). IsWhole e.0) es) (sym (c.as_slice-2.ensures.value ∙ c.in_ok-news.ensures))
    (news_whole c.args.self.now c.args.from.now c.args.to.now c.in-Some.node c.as_slice.result.now
    c.requires.namespace c.requires.whole (sym c.get.ensures ∙ c.in-Some.is) c.requires.not_root c.requires.to_not_root c.requires.apart c.requires.not_below c.requires.empty
    (olds_are c.self.inside.nodes c.args.self.now c.args.from.now c.in_ok-olds.olds.items c.as_slice.result.now c.as_slice.ensures.value c.in_ok-olds.ensures c.self.view_is))

pub add_all-requires-clause-rising : goal.add_all-requires-clause-rising
add_all-requires-clause-rising c =
    ap (is_sorted path_cmp) (c.as_slice-2.ensures.value ∙ c.in_ok-news.ensures)
    ∙ news_rising c.args.self.now c.args.from.now c.args.to.now c.in-Some.node c.as_slice.result.now
    c.requires.namespace c.requires.whole (sym c.get.ensures ∙ c.in-Some.is) c.requires.not_root c.requires.to_not_root c.requires.apart c.requires.not_below c.requires.empty
    (olds_are c.self.inside.nodes c.args.self.now c.args.from.now c.in_ok-olds.olds.items c.as_slice.result.now c.as_slice.ensures.value c.in_ok-olds.ensures c.self.view_is)

pub returns-in-Err-clause-err : goal.returns-in-Err-clause-err
returns-in-Err-clause-err c =
    all_undone c.args.self.now c.args.from.now c.args.to.now c.in-Some.node c.as_slice.result.now
    c.requires.namespace c.requires.whole (sym c.get.ensures ∙ c.in-Some.is) c.requires.not_root c.requires.to_not_root c.requires.apart c.requires.not_below c.requires.empty
    (olds_are c.self.inside.nodes c.args.self.now c.args.from.now c.in_ok-olds.olds.items c.as_slice.result.now c.as_slice.ensures.value c.in_ok-olds.ensures c.self.view_is)
    c.add_all.new.self c.remove_all.new.self
    (λ q. c.in_ok-add_all.ensures.ok q ∙ ap (λ (es : Nodes). put_over es (map.get c.args.self.now q) q) (c.as_slice-2.ensures.value ∙ c.in_ok-news.ensures))
    (λ q. c.remove_all.ensures q
    ∙ ap (λ (es : Nodes). taken_away es (map.get c.put.new.self q) q) (c.as_slice-in-Err.ensures.value ∙ c.in_ok-news.ensures)
    ∙ ap (λ (m : Paths). taken_away (with_other_front c.args.from.now c.args.to.now c.as_slice.result.now) (map.get m q) q) c.in-Err.ensures.err)

pub returns-clause-ok : goal.returns-clause-ok
returns-clause-ok c =
    let copied : c.in_ok-top.top.items ≡ c.args.to.now = search rules in
    renamed_is c.args.self.now c.args.from.now c.args.to.now c.in-Some.node c.as_slice.result.now
    c.requires.namespace c.requires.whole (sym c.get.ensures ∙ c.in-Some.is) c.requires.not_root c.requires.to_not_root c.requires.apart c.requires.not_below c.requires.empty
    (olds_are c.self.inside.nodes c.args.self.now c.args.from.now c.in_ok-olds.olds.items c.as_slice.result.now c.as_slice.ensures.value c.in_ok-olds.ensures c.self.view_is)
    c.add_all.new.self c.put.new.self c.remove_all-2.new.self c.remove.new.self
    (λ q. c.in_ok-add_all.ensures.ok q ∙ ap (λ (es : Nodes). put_over es (map.get c.args.self.now q) q) (c.as_slice-2.ensures.value ∙ c.in_ok-news.ensures))
    (c.in_default-put.ensures.ok ∙ ap (λ (p : List ℕ). map.insert c.add_all.new.self p c.in-Some.node) copied)
    (λ q. c.remove_all-2.ensures q ∙ ap (λ (es : Nodes). taken_away es (map.get c.put.new.self q) q) (c.as_slice-3.ensures.value ∙ sym c.as_slice.ensures.value))
    c.remove.ensures
