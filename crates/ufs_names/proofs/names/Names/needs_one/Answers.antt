use Rattle.std.proofs.Common.{◌≡◌, Option, None, ℕ, is_some, ap, sym, ◌∙◌}
use Rattle.std.proofs.lemmas.Result.{IfOk-weaker}
use Rattle.ufs_files.specs.Files.{Files}
use Rattle.ufs_model.specs.Asks.{IsAsk}
use Rattle.ufs_model.specs.PosixTree.{PosixTree}
use Rattle.ufs_model.specs.Refusals.{own_refusal}
use Rattle.ufs_model.specs.Touched.{reached, touched_parts}
use Rattle.ufs_names.specs.Calls.{AreGathered}
use Rattle.ufs_names.specs.NamesPart.{IsNamesPart}
use Rattle.ufs_names.specs.Needs.{AreFilesIn, AreHere, IsFileIn, listed}
use Rattle.ufs_names.proofs.NeedsLemmas.{are_gathered, one_needed}
use Rattle.ufs_names.proofs.names.Names.needs_one.Goals as goal
use Rattle.ufs_names.proofs.names.Names.needs_one.Goals.{After-need}

-- what the need of a request is that its client doesn't refuse
abbrev Reached : After-need → Option ℕ → Type 0
Reached c file = (t : PosixTree) → IsNamesPart c.args.self.now t → IsAsk t c.args.ask.now → own_refusal t c.args.ask.now.client c.args.ask.now.op ≡ None → IsFileIn t (reached t c.args.ask.now.client c.args.ask.now.op) file

abbrev Needed : After-need → Option ℕ → Type 0
Needed c file = (t : PosixTree) → IsNamesPart c.args.self.now t → IsAsk t c.args.ask.now → AreFilesIn t (touched_parts t c.args.ask.now.client c.args.ask.now.op) (listed file)

needed : (c : After-need) (file : Option ℕ) → Reached c file → Needed c file
needed c file reached t part asked =
    let own = c.own_refusal.ensures t c.args.ask.now.client asked.desc asked.fd in
    one_needed t c.args.ask.now.client c.args.ask.now.op (ap is_some (sym own) ∙ sym c.is_some.ensures ∙ c.if-is_some.false) file (reached t part asked)

pub returns-clause-needed : goal.returns-clause-needed
returns-clause-needed c = IfOk-weaker c.need.result (Reached c) (Needed c) (needed c) c.need.ensures

pub returns-clause-gathered : goal.returns-clause-gathered
returns-clause-gathered c =
    IfOk-weaker c.need.result (Reached c) (λ file. (t : PosixTree) (fs : Files) → IsNamesPart c.args.self.now t → IsAsk t c.args.ask.now → AreHere (listed file) fs → AreGathered t c.args.ask.now fs)
    (λ file reached t fs part asked here. are_gathered t c.args.ask.now (listed file) fs (needed c file reached t part asked) here)
    c.need.ensures
