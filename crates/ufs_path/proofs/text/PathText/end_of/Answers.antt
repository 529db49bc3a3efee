use Rattle.std.proofs.Common.{◌≡◌, ◌<◌, ◌-◌, suc, ◌∙◌, arith, ap, length, take}
use Rattle.ufs_path.specs.Texts.{joined}
use Rattle.ufs_path.proofs.KeptLemmas.{kept_length, kept_end}
use Rattle.ufs_path.proofs.text.PathText.end_of.Goals as goal

pub index-requires : goal.index-requires
index-requires c = omega (arith, kept_length _ _ c.args.self.now c.self.invariant c.self.view_is)

pub returns-else-count-eq0 : goal.returns-else-count-eq0
returns-else-count-eq0 c =
    let below : c.args.count - 1 < length c.args.self.now = omega arith in
    let next : suc (c.args.count - 1) ≡ c.args.count = omega arith in
    c.index.ensures ∙ kept_end _ _ c.args.self.now c.self.invariant c.self.view_is (c.args.count - 1) c.index.result.now below ∙ ap (λ n. length (joined (take n c.args.self.now))) next
