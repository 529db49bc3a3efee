use Rattle.std.proofs.Common.{◌+◌, ◌-◌, ap, cond, ◌∙◌, arith}
use Rattle.std.specs.FinMap as map
use Rattle.ufs_model.specs.PosixTree.{Paths}
use Rattle.ufs_tree.specs.Counted.{file_count}
use Rattle.ufs_tree.proofs.CountedLemmas.{replaced_counted, old_counted}
use Rattle.ufs_tree.proofs.path_map.PathMap.replace.Goals as goal

pub invariant_of-self-2 : goal.invariant_of-self-2
invariant_of-self-2 c =
    let there = ap (λ (m : Paths). map.get m c.args.path.items) c.self.view_is ∙ c.requires in
    replaced_counted c.self.inside.nodes c.self.inside.entries c.self.inside.links c.self.invariant c.insert.new.self c.lower_file.new.counts c.args.path.items c.args.old c.args.node there c.in-Ok.ensures.ok
    (λ f.
    let had = old_counted c.self.inside.nodes c.self.inside.entries c.self.inside.links c.self.invariant c.args.path.items c.args.old f there in
    let more = c.in_ok-raise_file.ensures.ok f ∙ ap (λ b. file_count c.self.inside.links f + cond b 1 0) (c.number_of.ensures f) in
    let less = c.lower_file.ensures f ∙ ap (λ b. file_count c.raise_file.new.counts f - cond b 1 0) (c.number_of-2.ensures f) in
    omega (arith, had, more, less))
