use Rattle.std.proofs.Common.{◌≡◌, ◌+◌, ◌++◌, ◌∷◌, [], List, get_or, take, sym, ◌∙◌, ap, arith}
use Rattle.std.proofs.lemmas.List.{take_more}
use Rattle.ufs_disk.specs.Pending.{covered_by, covered_in}
use Rattle.ufs_disk.specs.declared.medium.Covered.{Covered}
use Rattle.ufs_disk.proofs.Held.{covered_push}
use Rattle.ufs_disk.proofs.medium.Medium.contents.Goals as goal

pub loop-covered-preserved : goal.loop-covered-preserved
loop-covered-preserved c =
    let all = c.args.self.now.covered.items in
    let i = c.loop-covered.covered-index in
    let x = c.covered-item.result in
    let at : x ≡ get_or all i x = c.covered-item.is ∙ ap (λ (l : List Covered). get_or l i x) c.deref-covered-items.ensures.value in
    let more : take (i + 1) all ≡ take i all ++ x ∷ [] = take_more all i x (omega arith) ∙ ap (λ (y : Covered). take i all ++ y ∷ []) (sym at) in
    c.in_ok-push_covered.ensures ∙ ap (λ l. l ++ covered_by c.args.sector x) c.loop-covered.invariant
    ∙ sym (ap (covered_in c.args.sector) more ∙ covered_push c.args.sector (take i all) x)
