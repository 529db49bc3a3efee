use Rattle.std.specs.FinSet as set
use Rattle.ufs_name_tree.proofs.NoteChains.{notes_stay}
use Rattle.std.proofs.Common.{◌≡◌, ℕ, true, false, Option, Some, is_some, ap, sym, subst, ◌∙◌}
use Rattle.std.specs.FinMap as map
use Rattle.ufs_dir_tree.specs.declared.found.Found.TheVariants as met
use Rattle.ufs_model.specs.Asks.{file_in}
use Rattle.ufs_name_tree.specs.NameTable.{IsNameTable}
use Rattle.ufs_names.specs.NamesPart.{NamesPart, holding_of, is_kept, without_holder}
use Rattle.ufs_names.specs.declared.holding.Holding.{Holding}
use Rattle.ufs_names.proofs.ClosePartLemmas.{goes_here, goes_unmet, held_told}
use Rattle.ufs_names.proofs.SettleLemmas.{holding_is}
use Rattle.ufs_names.proofs.NotedLemmas.{one_told}
use Rattle.ufs_names.proofs.names.Names.let_go.Goals as goal

pub unreachable-requires : goal.unreachable-requires
unreachable-requires c =
    let a = c.requires.asked in
    let here = held_told c.args.self.now a.0 c.args.ask.now c.args.files.now a.1 c.requires.close.0 c.requires.close.1 a.2 c.in-Some-file.file (ap file_in c.in-Some.is ∙ c.in-Some-file.is) in
    let none = ap (λ (n : NamesPart). map.get n.held c.in-Some-file.file) (sym c.self.view_is) ∙ sym c.get.ensures ∙ c.in_default-get.is in
    let no : true ≡ false = sym here ∙ ap is_some none in
    cc

-- what is known of the file without the client
left : (n m : NamesPart) (f client : ℕ) (o : Option Holding) (h r : Holding) → n ≡ m → o ≡ map.get n.held f → o ≡ Some h → r ≡ without_holder h client → without_holder (holding_of m.held f) client ≡ r
left n m f client o h r same got at is =
    ap (λ (h : Holding). without_holder h client) (holding_is m.held f h (ap (λ (n : NamesPart). map.get n.held f) (sym same) ∙ sym got ∙ at)) ∙ sym is

pub settle-requires-clause-here : goal.settle-requires-clause-here
settle-requires-clause-here c gone =
    let a = c.requires.asked in
    goes_here c.args.self.now a.0 c.args.ask.now c.args.files.now a.1 c.requires.close.0 c.requires.close.1 a.2 c.in-Some-file.file (ap file_in c.in-Some.is ∙ c.in-Some-file.is) c.if-not-ask.false
    (ap is_kept (left _ c.args.self.now c.in-Some-file.file c.args.ask.now.client c.get.result c.in-Some-get.holding c.without.result c.self.view_is c.get.ensures c.in-Some-get.is c.without.ensures) ∙ gone)

pub settle-requires-clause-unmet : goal.settle-requires-clause-unmet
settle-requires-clause-unmet c gone names at =
    let a = c.requires.asked in
    goes_unmet c.args.self.now a.0 c.args.ask.now c.args.files.now a.1 c.requires.close.0 c.requires.close.1 a.2 c.in-Some-file.file (ap file_in c.in-Some.is ∙ c.in-Some-file.is)
    (subst (λ (n : NamesPart). IsNameTable n.tree) c.self.view_is c.is_table.ensures) (ap is_kept (left _ c.args.self.now c.in-Some-file.file c.args.ask.now.client c.get.result c.in-Some-get.holding c.without.result c.self.view_is c.get.ensures c.in-Some-get.is c.without.ensures) ∙ gone) names
    (at ∙ ap (λ (h : Holding). Some (met.File h.inode)) (sym (left _ c.args.self.now c.in-Some-file.file c.args.ask.now.client c.get.result c.in-Some-get.holding c.without.result c.self.view_is c.get.ensures c.in-Some-get.is c.without.ensures)))

pub returns-in_default-file-clause-noted : goal.returns-in_default-file-clause-noted
returns-in_default-file-clause-noted c = notes_stay c.args.self.now.tree set.empty (one_told c.args.self.now.tree c.args.self.now.held c.requires.asked.1.part.inodes)

pub returns-then-not-ask-clause-noted : goal.returns-then-not-ask-clause-noted
returns-then-not-ask-clause-noted c = notes_stay c.args.self.now.tree set.empty (one_told c.args.self.now.tree c.args.self.now.held c.requires.asked.1.part.inodes)
