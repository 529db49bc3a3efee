use Rattle.std.proofs.Common.{◌≡◌, ◌≤◌, ℕ, List, length, ap, sym, subst, ◌∙◌}
use Rattle.std.proofs.lemmas.Result.{IfOk-weaker}
use Rattle.std.specs.FinMap as map
use Rattle.std.specs.List.Sorted.{IsStrictlyIncreasing}
use Rattle.ufs_files.specs.Files.{Files}
use Rattle.ufs_model.specs.Asks.{IsAsk}
use Rattle.ufs_model.specs.PosixTree.{PosixTree}
use Rattle.ufs_model.specs.Touched.{touched_parts}
use Rattle.ufs_names.specs.Calls.{AreGathered}
use Rattle.ufs_names.specs.NamesPart.{NamesPart, IsNamesPart}
use Rattle.ufs_names.specs.Needs.{AreFilesIn, AreHere, listed}
use Rattle.ufs_names.proofs.NeedsLemmas.{are_gathered, listed_few, listed_rises, sync_needs}
use Rattle.ufs_names.proofs.names.Names.needs.Goals as goal

pub returns-in-Sync-clause-needed : goal.returns-in-Sync-clause-needed
returns-in-Sync-clause-needed c =
    IfOk-weaker c.files.result (λ files. files ≡ map.keys c.self.inside.held) (λ files. (t : PosixTree) → IsNamesPart c.args.self.now t → IsAsk t c.args.ask.now → AreFilesIn t (touched_parts t c.args.ask.now.client c.args.ask.now.op) files)
    (λ files e t part asked. sync_needs c.args.self.now t part c.args.ask.now.client c.args.ask.now.op c.in-Sync.is files (e ∙ ap (λ (n : NamesPart). map.keys n.held) c.self.view_is))
    c.files.ensures.files

pub returns-in-Sync-clause-gathered : goal.returns-in-Sync-clause-gathered
returns-in-Sync-clause-gathered c =
    IfOk-weaker c.files.result (λ files. files ≡ map.keys c.self.inside.held) (λ files. (t : PosixTree) (fs : Files) → IsNamesPart c.args.self.now t → IsAsk t c.args.ask.now → AreHere files fs → AreGathered t c.args.ask.now fs)
    (λ files e t fs part asked here. are_gathered t c.args.ask.now files fs (sync_needs c.args.self.now t part c.args.ask.now.client c.args.ask.now.op c.in-Sync.is files (e ∙ ap (λ (n : NamesPart). map.keys n.held) c.self.view_is)) here)
    c.files.ensures.files

pub returns-in_ok-needs_one-in_default : goal.returns-in_ok-needs_one-in_default
returns-in_ok-needs_one-in_default c = record {
  needed = IfOk-weaker c.of.result (λ files. files ≡ listed c.in_ok-needs_one-in_default.field-0) (λ files. (t : PosixTree) → IsNamesPart c.args.self.now t → IsAsk t c.args.ask.now → AreFilesIn t (touched_parts t c.args.ask.now.client c.args.ask.now.op) files)
      (λ files e t part asked. subst (AreFilesIn t (touched_parts t c.args.ask.now.client c.args.ask.now.op)) (sym e) (c.in_ok-needs_one-in_default.ensures.needed t part asked))
      c.of.ensures;
  gathered = IfOk-weaker c.of.result (λ files. files ≡ listed c.in_ok-needs_one-in_default.field-0) (λ files. (t : PosixTree) (fs : Files) → IsNamesPart c.args.self.now t → IsAsk t c.args.ask.now → AreHere files fs → AreGathered t c.args.ask.now fs)
      (λ files e t fs part asked here. c.in_ok-needs_one-in_default.ensures.gathered t fs part asked (subst (λ (xs : List ℕ). AreHere xs fs) e here))
      c.of.ensures;
  rising = IfOk-weaker c.of.result (λ files. files ≡ listed c.in_ok-needs_one-in_default.field-0) (λ files. IsStrictlyIncreasing files) (λ files e. subst IsStrictlyIncreasing (sym e) (listed_rises c.in_ok-needs_one-in_default.field-0)) c.of.ensures;
  few = λ other. IfOk-weaker c.of.result (λ files. files ≡ listed c.in_ok-needs_one-in_default.field-0) (λ files. length files ≤ 1) (λ files e. listed_few c.in_ok-needs_one-in_default.field-0 files e) c.of.ensures;
}
