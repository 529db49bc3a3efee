use Rattle.std.proofs.Common.{◌≡◌, [], ℕ, List, drop, length, ap, sym, ◌∙◌}
use Rattle.std.proofs.lemmas.Bool.{eqb-false}
use Rattle.ufs_lines.proofs.CutLemmas.{drop_none}
use Rattle.ufs_audit.proofs.reader.Ahead.is_empty.Goals as goal

pub returns-clause-no : goal.returns-clause-no
returns-clause-no c = λ differs none.
    let view = c.self.view_is in
    let dropped : drop c.self.inside.at c.self.inside.bytes.items ≡ [] = cc in
    eqb-false c.self.inside.at (length c.as_slice-bytes.result.now) differs (drop_none c.self.inside.at c.self.inside.bytes.items c.self.invariant dropped ∙ sym (ap length c.as_slice-bytes.ensures.value))
