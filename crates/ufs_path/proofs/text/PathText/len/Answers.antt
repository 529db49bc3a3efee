use Rattle.std.proofs.Common.{arith}
use Rattle.ufs_path.specs.Names.{IsName}
use Rattle.std.proofs.lemmas.List.Elements.{All-from_recursion}
use Rattle.ufs_path.proofs.KeptLemmas.{kept_length, kept_names}
use Rattle.ufs_path.proofs.text.PathText.len.Goals as goal

pub returns-clause-value : goal.returns-clause-value
returns-clause-value c = omega (arith, c.len.ensures, kept_length _ _ c.args.self.now c.self.invariant c.self.view_is)

pub returns-clause-names : goal.returns-clause-names
returns-clause-names c = All-from_recursion IsName c.args.self.now (kept_names _ _ c.args.self.now c.self.invariant c.self.view_is)
