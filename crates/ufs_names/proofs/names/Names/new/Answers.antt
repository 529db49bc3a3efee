use Rattle.std.proofs.Common.{sym, subst}
use Rattle.ufs_model.specs.PosixTree.{root_alone}
use Rattle.ufs_names.specs.NamesPart.{Holdings, IsNamesPart}
use Rattle.ufs_names.proofs.StartLemmas.{first_apart, first_part}
use Rattle.ufs_names.proofs.names.Names.new.Goals as goal

pub returns-clause-part : goal.returns-clause-part
returns-clause-part c =
    subst (λ (held : Holdings). IsNamesPart (record { tree = c.in_ok-new.field-0; held = held; next = 0 }) root_alone) (sym c.new-2.ensures)
    (first_part c.in_ok-new.field-0 c.in_ok-new.ensures.root c.in_ok-new.ensures.others c.in_ok-new.ensures.files)

pub returns-clause-apart : goal.returns-clause-apart
returns-clause-apart c pool = first_apart c.in_ok-new.field-0.dirs pool (c.in_ok-new.ensures.apart pool)
