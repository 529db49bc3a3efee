use Rattle.std.proofs.Common.{◌≡◌, ◌++◌, sym, ap, ◌∙◌, subst, ℕ, List, Option}
use Rattle.ufs_base.specs.Choices.{first_of}
use Rattle.ufs_image.specs.Journal.{FoundSector}
use Rattle.ufs_found.specs.Read.{listed, off_form}
use Rattle.ufs_found.proofs.Noted.{one_listed, one_off}
use Rattle.ufs_found.proofs.sectors.note_sector.Goals as goal
use Rattle.std.specs.Prelude.{OnOk}

pub returns-clause-found : goal.returns-clause-found
returns-clause-found c =
    subst (λ (l : List FoundSector). OnOk c.note.result (c.note.new.list.found.items ≡ c.args.list.now.found.items ++ l))
    (ap listed c.in_ok-found.ensures ∙ sym (one_listed c.args.epoch c.args.sector c.args.bytes.now (sym c.is_of_epoch.ensures ∙ c.if-not-is_of_epoch.false)))
    c.note.ensures.found

pub returns-clause-misspelled : goal.returns-clause-misspelled
returns-clause-misspelled c =
    subst (λ (o : Option ℕ). OnOk c.note.result (c.note.new.list.misspelled ≡ first_of c.args.list.now.misspelled o))
    (ap (off_form c.args.sector) c.in_ok-found.ensures ∙ sym (one_off c.args.epoch c.args.sector c.args.bytes.now (sym c.is_of_epoch.ensures ∙ c.if-not-is_of_epoch.false)))
    c.note.ensures.misspelled
