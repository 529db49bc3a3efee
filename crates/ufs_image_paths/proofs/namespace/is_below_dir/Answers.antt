use Rattle.std.proofs.Common.{◌≡◌, ◌+◌, ◌∙◌, ℕ, List, ap, sym, true, false, drop}
use Rattle.std.specs.FinMap as map
use Rattle.ufs_model.specs.PathEntries.{nodes_of}
use Rattle.ufs_model.specs.Start.{is_path_dir}
use Rattle.ufs_image_paths.proofs.PlacedLemmas.{below_from, below_parts, text_all}
use Rattle.ufs_image_paths.proofs.namespace.is_below_dir.Goals as goal

pub returns-then-is_root : goal.returns-then-is_root
returns-then-is_root c = (
  λ yes. cc,
  λ below. absurd ((below_parts (nodes_of c.args.entries.now) c.args.path.now c.args.at c.requires.last below).other (c.is_root.ensures.0 c.if-is_root.true)),
)

pub returns-then-not-is_name : goal.returns-then-not-is_name
returns-then-not-is_name c =
    let path = c.args.path.now in
    let at = c.args.at in
    let nodes = nodes_of c.args.entries.now in (
      λ yes. cc,
      λ below.
          let named = c.is_name.ensures (drop (at + 1) path) (text_all nodes path at c.requires.last) c.requires.last.free in
          let no : true ≡ false = sym (named.1 (below_parts nodes path at c.requires.last below).named) ∙ c.if-not-is_name.true in
          cc,
    )

pub returns : goal.returns
returns c =
    let path = c.args.path.now in
    let at = c.args.at in
    let nodes = nodes_of c.args.entries.now in
    let named = c.is_name.ensures (drop (at + 1) path) (text_all nodes path at c.requires.last) c.requires.last.free in
    let here = ap (λ (p : List ℕ). is_path_dir (map.get nodes p)) c.above.ensures in (
      λ yes.
          below_from nodes path at c.requires.last
          (record {
            other = λ e. let no : true ≡ false = sym (c.is_root.ensures.1 e) ∙ c.if-is_root.false in cc;
            named = named.0 c.if-not-is_name.false;
            dir = sym here ∙ sym c.has_dir.ensures ∙ yes;
          }),
      λ below. c.has_dir.ensures ∙ here ∙ (below_parts nodes path at c.requires.last below).dir,
    )
