use Rattle.std.proofs.Common.{◌≡◌, ◌∙◌, ◌-◌, ◌<◌, ◌≤◌, ◌++◌, Some, false, List, ℕ, length, take, replicate, ap, sym, subst, arith}
use Rattle.std.specs.Prelude.{slice_get}
use Rattle.std.proofs.lemmas.Option.{slice_get_within}
use Rattle.std.proofs.lemmas.List.{length-take-le}
use Rattle.ufs_file.specs.Content.{Content, loaded}
use Rattle.ufs_file.specs.Span.{AreWithin}
use Rattle.ufs_file.specs.Table.{there_of}
use Rattle.ufs_file.specs.declared.blocks.Block.{Block}
use Rattle.ufs_file.proofs.ContentLemmas.{loaded_is, loaded_table}
use Rattle.ufs_file.proofs.TableLemmas.{length-there}
use Rattle.ufs_file.proofs.content.Blocks.load.Goals as goal

under : (size place : ℕ) (bs : List Block) (v : Content) → there_of bs ≡ v.there → slice_get v.there place ≡ Some false → place < length bs
under size place bs v is absent = omega (arith, slice_get_within v.there place false absent, ap length is, length-there bs)

padded_is : (block got : List ℕ) (inside : ℕ) → inside ≤ length block → got ≡ take inside block ++ replicate (4096 - length (take inside block)) 0 → got ≡ take inside block ++ replicate (4096 - inside) 0
padded_is block got inside le is = is ∙ ap (λ n. take inside block ++ replicate (4096 - n) 0) (length-take-le inside block le)

pub invariant_of-self : goal.invariant_of-self
invariant_of-self c =
    let bs : List Block = c.self.inside.table.items in
    let new : List Block = c.fill_at.new.table.items in
    let place : ℕ = c.args.place in
    let block : List ℕ = c.args.block.now in
    let size : ℕ = c.self.inside.size in
    let inside : ℕ = c.min-inside.result in
    let at : place < length bs = under size place bs c.args.self.now (ap (λ (v : Content). v.there) c.self.view_is) c.requires.absent in
    let le : inside ≤ length block = omega (arith, c.min-inside.ensures, c.requires.size) in
    let got : c.in_ok-bytes.bytes.items ≡ take inside block ++ replicate (4096 - inside) 0 = padded_is block c.in_ok-bytes.bytes.items inside le c.in_ok-bytes.ensures in
    record {
      table = loaded_table size bs new place block c.in_ok-bytes.bytes.items c.self.invariant.table at c.requires.size inside c.min-inside.ensures got c.fill_at.ensures.bytes c.fill_at.ensures.whole c.fill_at.ensures.length;
      within = subst (AreWithin c.self.inside.span) (sym c.fill_at.ensures.marks) c.self.invariant.within;
    }

pub returns-clause-ok : goal.returns-clause-ok
returns-clause-ok c =
    let bs : List Block = c.self.inside.table.items in
    let new : List Block = c.fill_at.new.table.items in
    let place : ℕ = c.args.place in
    let block : List ℕ = c.args.block.now in
    let size : ℕ = c.self.inside.size in
    let inside : ℕ = c.min-inside.result in
    let at : place < length bs = under size place bs c.args.self.now (ap (λ (v : Content). v.there) c.self.view_is) c.requires.absent in
    let le : inside ≤ length block = omega (arith, c.min-inside.ensures, c.requires.size) in
    let got : c.in_ok-bytes.bytes.items ≡ take inside block ++ replicate (4096 - inside) 0 = padded_is block c.in_ok-bytes.bytes.items inside le c.in_ok-bytes.ensures in
    loaded_is size bs new place block c.in_ok-bytes.bytes.items c.self.invariant.table at c.requires.size inside c.min-inside.ensures got c.fill_at.ensures.bytes c.fill_at.ensures.marks c.fill_at.ensures.there
    ∙ ap (λ (v : Content). loaded v place block) c.self.view_is
