use Rattle.std.specs.FinMap as fin
use Rattle.std.proofs.Common.{[], ◌∷◌, None, ap, inl, sym, subst, ◌∙◌}
use Rattle.ufs_model.specs.declared.data.PartName.TheVariants as part
use Rattle.ufs_one_hand.specs.Apart.{HasEachFile}
use Rattle.ufs_one_hand.specs.OneHand.{HasSession, IsStart}
use Rattle.ufs_hand_laws.specs.Draws.{entry_of}
use Rattle.ufs_hand_laws.specs.Parts.{View, both_of, given_of}
use Rattle.ufs_one_hand_tests.proofs.Parted.{both_each, both_session, first_not_apart, has_other, kept_each, kept_session, only_other}
use Rattle.ufs_one_hand_tests.proofs.TwoFiles.{other_stands, starts}
use Rattle.ufs_one_hand_tests.specs.TwoFiles.{opens, reads}
use Rattle.ufs_one_hand_tests.proofs.reading.apart.Goals as goal

pub begin-hand-requires-clause-start : goal.begin-hand-requires-clause-start
begin-hand-requires-clause-start g c = subst IsStart (sym c.requires.start) starts

pub split-other-requires : goal.split-other-requires
split-other-requires g c =
    let k = g.N.Naming.start in
    let b = c.begin-hand.ensures in
    inl (has_other k [] None c.begin-hand.result b.session b.each (other_stands k c.requires.start))

pub open_file-first-requires-clause-session : goal.open_file-first-requires-clause-session
open_file-first-requires-clause-session g c =
    let k = g.N.Naming.start in
    let b = c.begin-hand.ensures in
    subst (HasSession k [] None) (sym c.split-other.ensures.kept) (kept_session k [] None c.begin-hand.result b.session b.each (other_stands k c.requires.start))

pub read_file-requires-clause-file : goal.read_file-requires-clause-file
read_file-requires-clause-file g c =
    let k = g.N.Naming.start in
    let b = c.begin-hand.ensures in
    let u = given_of (part.File 1) c.begin-hand.result in
    let each = subst (λ (v : View). HasEachFile k [] v (only_other u)) (sym c.split-other.ensures.kept) (kept_each k [] None c.begin-hand.result b.session b.each (other_stands k c.requires.start)) in
    (only_other u, first_not_apart u, c.open_file-first.ensures.apart (only_other u) each)

pub close-requires : goal.close-requires
close-requires g c =
    let k = g.N.Naming.start in
    let b = c.begin-hand.ensures in
    let u = given_of (part.File 1) c.begin-hand.result in
    let v = c.read_file.new.hand in
    let each = subst (λ (v : View). HasEachFile k [] v (only_other u)) (sym c.split-other.ensures.kept) (kept_each k [] None c.begin-hand.result b.session b.each (other_stands k c.requires.start)) in
    let last = c.read_file.ensures.apart (only_other u) (c.open_file-first.ensures.apart (only_other u) each) in
    let is = c.join.ensures ∙ ap (both_of v) c.split-other.ensures.given in
    let h = entry_of c.open_file-first.result opens ∷ entry_of c.read_file.result reads ∷ [] in
    record { session = (h, subst (HasSession k h None) (sym is) (both_session k h None v u c.read_file.ensures.session last), subst (λ (w : View). HasEachFile k h w fin.empty) (sym is) (both_each k h None v u c.read_file.ensures.session last)) }

pub returns : goal.returns
returns g c =
    let k = g.N.Naming.start in
    let b = c.begin-hand.ensures in
    let u = given_of (part.File 1) c.begin-hand.result in
    let v = c.read_file.new.hand in
    let each = subst (λ (v : View). HasEachFile k [] v (only_other u)) (sym c.split-other.ensures.kept) (kept_each k [] None c.begin-hand.result b.session b.each (other_stands k c.requires.start)) in
    let last = c.read_file.ensures.apart (only_other u) (c.open_file-first.ensures.apart (only_other u) each) in
    let is = c.join.ensures ∙ ap (both_of v) c.split-other.ensures.given in
    let h = entry_of c.open_file-first.result opens ∷ entry_of c.read_file.result reads ∷ [] in
    record { entries = c.close.ensures.tickets h (subst (HasSession k h None) (sym is) (both_session k h None v u c.read_file.ensures.session last)) }
