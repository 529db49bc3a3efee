use Rattle.ufs_name_tree.proofs.NoteChains.{notes_same}
use Rattle.std.proofs.Common.{true≢false, is_some, ap, sym, ◌∙◌}
use Rattle.std.specs.FinMap as map
use Rattle.ufs_names.specs.NamesPart.{NamesPart}
use Rattle.ufs_names.specs.declared.holding.Holding.{Holding}
use Rattle.ufs_name_tree.specs.NameTable.{file_at}
use Rattle.ufs_names.proofs.AddLemmas.{held_here, keeps_opened, keeps_cut}
use Rattle.ufs_names.proofs.SettleLemmas.{holding_is}
use Rattle.ufs_names.proofs.NotedLemmas.{one_told}
use Rattle.ufs_names.proofs.names.Names.open_file.Goals as goal
use Rattle.ufs_names.proofs.names.Names.open_file.Goals.{then-trunc+in_ok-empty, else-trunc}

pub unreachable-requires-in_default-get : goal.unreachable-requires-in_default-get
unreachable-requires-in_default-get c =
    let at = ap (λ (n : NamesPart). file_at n.tree c.args.inode) (sym c.self.view_is) ∙ sym c.file.ensures ∙ c.in-Some.is in
    let here = held_here c.args.self.now c.requires.inodes c.in-Some.file c.args.inode at in
    let none = sym (ap (λ (n : NamesPart). map.get n.held c.in-Some.file) c.self.view_is) ∙ sym c.get.ensures ∙ c.in_default-get.is in
    true≢false (sym here ∙ ap is_some none)

pub returns-clause-space : goal.returns-clause-space
returns-clause-space c =
    let n = c.args.self.now in
    let at = ap (λ (n : NamesPart). file_at n.tree c.args.inode) (sym c.self.view_is) ∙ sym c.file.ensures ∙ c.in-Some.is in
    let known = sym (ap (λ (n : NamesPart). map.get n.held c.in-Some.file) c.self.view_is) ∙ sym c.get.ensures ∙ c.in-Some-get.is in
    let same = ap (λ (h : Holding). h.inode) c.with.ensures ∙ sym (ap (λ (h : Holding). h.inode) (holding_is n.held c.in-Some.file c.in-Some-get.holding known)) in
    let held = c.in-Ok.ensures.ok ∙ ap (λ (n : NamesPart). map.insert n.held c.in-Some.file c.with.result) c.self.view_is in
    elim c.if-trunc.branch [
      | then-trunc+in_ok-empty w ↦ keeps_cut n c.requires.inodes c.in-Some.file c.args.inode at _ c.args.files.now c.if-trunc.files c.args.pool.now c.if-trunc.pool c.requires.apart (ap (λ (n : NamesPart). n.tree) c.self.view_is) c.with.result same held
          (c.requires.here w.if-trunc.true c.in-Some.file at)
          (λ s of. w.files-is ∙ w.in_ok-empty.ensures.ok s of)
          (w.pool-is ∙ w.in_ok-empty.ensures.pool)
      | else-trunc w ↦ keeps_opened n c.requires.inodes c.in-Some.file c.args.inode at _ c.args.files.now c.if-trunc.files c.args.pool.now c.if-trunc.pool c.requires.apart (ap (λ (n : NamesPart). n.tree) c.self.view_is) c.with.result same held w.files-is w.pool-is
    ]

pub returns-clause-noted : goal.returns-clause-noted
returns-clause-noted c = notes_same c.args.self.now.tree c.self.inside.tree c.args.pool.now (one_told c.args.self.now.tree c.args.self.now.held c.requires.inodes) (ap (λ (n : NamesPart). n.tree) c.self.view_is)
